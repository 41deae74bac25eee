-- The lows of a rank at each item of its log.
use Rattle.std.proofs.Common.{◌≡◌, ℕ, ◌≤◌, true, false, List, [], ◌∷◌, ◌++◌, length, None, refl, ap, sym, ◌∙◌, subst}
use Rattle.std.proofs.Common.{append_assoc}
use Rattle.std.specs.Prelude.{map}
use Rattle.std.specs.List.{AllByRecursion}
use Rattle.std.specs.Option.{option_map_or}
use Rattle.std.proofs.lemmas.List.{map-append}
use Rattle.list_laws.proofs.Each.{each_weaker, each_append}
use Rattle.rma_types.specs.declared.accesses.Step.{Step}
use Rattle.rma_types.specs.declared.calls.Call.{Call}
use Rattle.rma_types.specs.declared.scripts.Layout.{Layout}
use Rattle.rma_record.specs.declared.items.Item.{Item}
use Rattle.rma_record.specs.declared.items.Item.TheVariants.{Issue, Null, Touch, Flush, Request, Entry, Tested, Refused}
use Rattle.rma_record.specs.declared.items.Item.TheVariants.{Ended}
use Rattle.board_rules.specs.Edges.{Event, is_edge}
use Rattle.lawful_runs.specs.Accesses.{change_made, issued_at, EachPair}
use Rattle.lawful_runs.specs.Items.{is_touch, is_entry}
use Rattle.lawful_runs.proofs.PairLaws.{pair_joined}
use Rattle.rank_laws.proofs.Histories.{most_same, most_join}
use Rattle.rank_laws.specs.Deliveries.{place_after}
use Rattle.rank_laws.specs.Fronts.{Lows, AreAtMost, Put, rows_put, event_after, MeetsEdges}

-- an item of a log: a touch with the lows before and after it; an entry with lows at or below its front, where an edge
-- leads from it, and lows that meet the edges to it
pub record Mark : Type 0 where
  pub item : Item
  pub low : Lows
  pub out : Lows

-- each mark's last lows are at or below the first of each later one
abbrev pub AreRising : Mark → Mark → Type 0
AreRising a b = AreAtMost a.out b.low

-- a touch is not below its lows, and passed by those after it, by what it changes in each longer log
pub record IsTouchMark (memory : Layout) (calls : List Call) (log : List Item) (issue element cell place : ℕ)
    (low out : Lows) : Type 0 where
  pub above : low cell ≤ place
  pub passed : (more : List Item) →
      place_after place (option_map_or (λ one. change_made memory calls one element)
      (issued_at calls (log ++ more) issue) None) ≤ out cell

-- an entry is the put at its place
pub record IsEntryMark (ranks : ℕ) (puts : List Put) (number place : ℕ) (step : Step) (low out : Lows) : Type 0 where
  pub before : List Put
  pub put : Put
  pub rest : List Put
  pub split : puts ≡ before ++ put ∷ rest
  pub long : length before ≡ place
  pub above : (later : Event) → is_edge (event_after ranks (rows_put before) put.row) later ≡ true →
      AreAtMost low put.front
  pub meets : MeetsEdges ranks before put.row out

-- where the marks are made: the memory, the ranks, the calls of the rank, its log and the entries that it knows
pub record Marking : Type 0 where
  pub memory : Layout
  pub ranks : ℕ
  pub calls : List Call
  pub log : List Item
  pub puts : List Put

abbrev pub IsRightItem : Marking → Item → Lows → Lows → Type 0
IsRightItem m (Touch issue element cell place bits) low out =
    IsTouchMark m.memory m.calls m.log issue element cell place low out
IsRightItem m (Entry number place step) low out = IsEntryMark m.ranks m.puts number place step low out
IsRightItem m item low out = Unit {0}

abbrev pub IsRight : Marking → Mark → Type 0
IsRight m mark = IsRightItem m mark.item mark.low mark.out

-- the items of the log, with marks, below the lows
pub record AreMarked (m : Marking) (lows : Lows) : Type 0 where
  pub marks : List Mark
  pub items : m.log ≡ map (λ (mark : Mark). mark.item) marks
  pub rising : EachPair AreRising marks
  pub below : AllByRecursion (λ (mark : Mark). AreAtMost mark.out lows) marks
  pub right : AllByRecursion (IsRight m) marks

-- ---- growth

more_log : (m : Marking) (more : List Item) (item : Item) (low out : Lows) → IsRightItem m item low out →
    IsRightItem (record m { log = m.log ++ more }) item low out
more_log m more (Touch issue element cell place bits) low out is = record {
  above = is.above;
  passed = λ others. subst (λ l. place_after place
      (option_map_or (λ one. change_made m.memory m.calls one element) (issued_at m.calls l issue) None) ≤ out cell)
      (sym (append_assoc m.log more others)) (is.passed (more ++ others));
}
more_log m more (Entry number place step) low out is = is
more_log m more (Issue number access) low out is = tt
more_log m more (Null number) low out is = tt
more_log m more (Flush number) low out is = tt
more_log m more (Request number) low out is = tt
more_log m more (Tested number seen) low out is = tt
more_log m more (Refused number class seen) low out is = tt
more_log m more Ended low out is = tt

more_puts : (m : Marking) (more : List Put) (item : Item) (low out : Lows) → IsRightItem m item low out →
    IsRightItem (record m { puts = m.puts ++ more }) item low out
more_puts m more (Touch issue element cell place bits) low out is = is
more_puts m more (Entry number place step) low out is = record {
  before = is.before;
  put = is.put;
  rest = is.rest ++ more;
  split = ap (λ l. l ++ more) is.split ∙ append_assoc is.before (is.put ∷ is.rest) more;
  long = is.long;
  above = is.above;
  meets = is.meets;
}
more_puts m more (Issue number access) low out is = tt
more_puts m more (Null number) low out is = tt
more_puts m more (Flush number) low out is = tt
more_puts m more (Request number) low out is = tt
more_puts m more (Tested number seen) low out is = tt
more_puts m more (Refused number class seen) low out is = tt
more_puts m more Ended low out is = tt

-- the lows rise
pub marked_rises : (m : Marking) (lows after : Lows) → AreAtMost lows after → AreMarked m lows → AreMarked m after
marked_rises m lows after rise marked = record {
  marks = marked.marks;
  items = marked.items;
  rising = marked.rising;
  below = each_weaker (λ (mark : Mark). AreAtMost mark.out lows) (λ (mark : Mark). AreAtMost mark.out after)
      (λ mark low. most_join mark.out lows after low rise) marked.marks marked.below;
  right = marked.right;
}

-- others put entries
pub marked_learns : (m : Marking) (more : List Put) (lows : Lows) → AreMarked m lows →
    AreMarked (record m { puts = m.puts ++ more }) lows
marked_learns m more lows marked = record {
  marks = marked.marks;
  items = marked.items;
  rising = marked.rising;
  below = marked.below;
  right = each_weaker (IsRight m) (IsRight (record m { puts = m.puts ++ more }))
      (λ mark is. more_puts m more mark.item mark.low mark.out is) marked.marks marked.right;
}

-- some items more, with marks that rise from the lows on
pub record AreMore (m : Marking) (items : List Item) (lows after : Lows) : Type 0 where
  pub marks : List Mark
  pub are : items ≡ map (λ (mark : Mark). mark.item) marks
  pub rising : EachPair AreRising marks
  pub above : AllByRecursion (λ (mark : Mark). AreAtMost lows mark.low) marks
  pub below : AllByRecursion (λ (mark : Mark). AreAtMost mark.out after) marks
  pub right : AllByRecursion (IsRight (record m { log = m.log ++ items })) marks
  pub rise : AreAtMost lows after

pub marked_more : (m : Marking) (items : List Item) (lows after : Lows) → AreMarked m lows →
    AreMore m items lows after →
    AreMarked (record m { log = m.log ++ items }) after
marked_more m items lows after marked more = record {
  marks = marked.marks ++ more.marks;
  items = (λ i. marked.items i ++ more.are i) ∙ sym (map-append (λ (mark : Mark). mark.item) marked.marks more.marks);
  rising = pair_joined AreRising marked.marks more.marks marked.rising more.rising
      (each_weaker (λ (mark : Mark). AreAtMost mark.out lows)
      (λ (mark : Mark). AllByRecursion (AreRising mark) more.marks)
      (λ mark low. each_weaker (λ (other : Mark). AreAtMost lows other.low) (AreRising mark)
      (λ other up. most_join mark.out lows other.low low up) more.marks more.above) marked.marks marked.below);
  below = each_append (λ (mark : Mark). AreAtMost mark.out after) marked.marks more.marks
      (each_weaker (λ (mark : Mark). AreAtMost mark.out lows) (λ (mark : Mark). AreAtMost mark.out after)
      (λ mark low. most_join mark.out lows after low more.rise) marked.marks marked.below) more.below;
  right = each_append (IsRight (record m { log = m.log ++ items })) marked.marks more.marks
      (each_weaker (IsRight m) (IsRight (record m { log = m.log ++ items }))
      (λ mark is. more_log m items mark.item mark.low mark.out is) marked.marks marked.right) more.right;
}

-- an item that is no touch and no entry
quiet_right : (m : Marking) (item : Item) (low out : Lows) → is_touch item ≡ false → is_entry item ≡ false →
    IsRightItem m item low out
quiet_right m (Touch issue element cell place bits) low out plain other = absurd (cc plain)
quiet_right m (Entry number place step) low out plain other = absurd (cc other)
quiet_right m (Issue number access) low out plain other = tt
quiet_right m (Null number) low out plain other = tt
quiet_right m (Flush number) low out plain other = tt
quiet_right m (Request number) low out plain other = tt
quiet_right m (Tested number seen) low out plain other = tt
quiet_right m (Refused number class seen) low out plain other = tt
quiet_right m Ended low out plain other = tt

pub quiet_more : (m : Marking) (item : Item) (lows : Lows) → is_touch item ≡ false → is_entry item ≡ false →
    AreMore m (item ∷ []) lows lows
quiet_more m item lows plain other = record {
  marks = record { item = item; low = lows; out = lows } ∷ [];
  are = refl;
  rising = (tt, tt);
  above = (most_same lows, tt);
  below = (most_same lows, tt);
  right = (quiet_right (record m { log = m.log ++ item ∷ [] }) item lows lows plain other, tt);
  rise = most_same lows;
}
