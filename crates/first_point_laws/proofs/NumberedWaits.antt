-- The order gives places, and the wait of a number among those of a rank on a window.
use Rattle.std.proofs.Common.{◌≡◌, ℕ, suc, ◌+◌, ◌<◌, ◌≤◌, inl, inr, true, List, [], ◌∷◌, ◌++◌}
use Rattle.std.proofs.Common.{length, Some, refl, ap, sym, ◌∙◌, arith, append_assoc}
use Rattle.std.proofs.Common.{length-append}
use Rattle.std.specs.List.{count_by}
use Rattle.std.proofs.lemmas.Bool.{cases_lt}
use Rattle.list_laws.proofs.Members.{In}
use Rattle.rma_types.specs.declared.accesses.Id.{Id}
use Rattle.rma_types.specs.declared.calls.Call.{Call}
use Rattle.rma_types.specs.declared.schedules.Delay.TheVariants.{Seeded}
use Rattle.rma_types.specs.declared.scripts.Script.{Script}
use Rattle.rma_record.specs.declared.items.Item.TheVariants.{Entry}
use Rattle.rma_record.specs.declared.runs.Run.{Run}
use Rattle.board_rules.specs.Entries.{Row}
use Rattle.board_rules.specs.Posts.{is_wait}
use Rattle.board_rules.specs.Questions.{question}
use Rattle.rma_types.specs.declared.actions.Synchronisation.{Synchronisation}
use Rattle.rma_types.specs.Actions.{synchronisation_of}
use Rattle.call_rules.specs.WellFormed.{IsWellFormed}
use Rattle.lawful_runs.specs.LawfulRun.{IsLawful}
use Rattle.lawful_runs.specs.Logs.{rows_of}
use Rattle.order_rules.specs.Before.{NamedEvent, events_in, Before, Same, InLog, Across}
use Rattle.order_laws.proofs.Order.{edge_between, edge_ascends, log_ascends, same_place}
use Rattle.first_point_laws.proofs.Completes.{event_at, same_event}
use Rattle.first_point_laws.proofs.Ended.{count_split}
use Rattle.first_point_laws.proofs.Placed.{placed_row}
use Rattle.first_point_laws.proofs.Positions.{wait_paired}
use Rattle.first_point_laws.proofs.Splits.{made, stands_after}
use Rattle.first_point_laws.proofs.Waiting.{IsSynchronised, one_row, synchronised_at}

-- ---- lists

-- two fronts of a list, of which the first is not longer
pub front_of : {X : Type 0} (xs ys us vs : List X) → xs ++ ys ≡ us ++ vs → length xs ≤ length us →
    (more : List X) × (us ≡ xs ++ more)
front_of [] ys us vs e low = (us, refl)
front_of (x ∷ xs) ys [] vs e low = absurd (omega (arith, low))
front_of (x ∷ xs) ys (u ∷ us) vs e low =
    let same : x ≡ u = cc e in
    let rest = front_of xs ys us vs (cc e) (omega (arith, low)) in
    (rest.0, λ i. sym same i ∷ rest.1 i)

pub same_front : {X : Type 0} (xs ys us vs : List X) → xs ++ ys ≡ us ++ vs → length xs ≡ length us → xs ≡ us
same_front [] ys [] vs e long = refl
same_front [] ys (u ∷ us) vs e long = absurd (omega (arith, long))
same_front (x ∷ xs) ys [] vs e long = absurd (omega (arith, long))
same_front (x ∷ xs) ys (u ∷ us) vs e long =
    let same : x ≡ u = cc e in
    let rest = same_front xs ys us vs (cc e) (omega (arith, long)) in λ i. same i ∷ rest i

module _ (script : Script) (run : Run) (formed : IsWellFormed script) (lawful : IsLawful script Seeded run) where
  -- ---- the order gives places

  -- an entry that is before an item has no greater place than an entry of that item or of a later one of its log
  pub before_place : (e : NamedEvent) → In e (events_in script run) → (c : Id) → Before script run e.id c →
      (z : NamedEvent) → In z (events_in script run) → z.id.rank ≡ c.rank → c.index ≤ z.id.index →
      e.event.place ≤ z.event.place
  before_place e of_e c Same z of_z rank low = elim (cases_lt e.id.index z.id.index) [
    | inl below ↦ let up = log_ascends script Seeded run lawful e z of_e of_z (sym rank) below in omega (arith, up)
    | inr above ↦
        let at : e.id.index ≡ z.id.index = omega (arith, above, low) in
        let same = same_place script Seeded run lawful e z of_e of_z (sym rank) at in omega (arith, same)
  ]
  before_place e of_e c (InLog {b} rest stands) z of_z rank low =
      before_place e of_e b rest z of_z (rank ∙ sym stands.0) (omega (arith, stands.1, low))
  before_place e of_e c (Across {b} rest edge) z of_z rank low =
      let ends = edge_between (events_in script run) b c edge in
      let up = edge_ascends script Seeded run lawful ends.0 ends.1 ends.2 ends.3 ends.6 in
      let index : ends.0.id.index ≡ b.index = ap (λ (i : Id). i.index) ends.4 in
      let near = before_place e of_e b rest ends.0 ends.2 (ap (λ (i : Id). i.rank) ends.4) (omega (arith, index)) in
      let last_rank : ends.1.id.rank ≡ c.rank = ap (λ (i : Id). i.rank) ends.5 in
      let last_index : ends.1.id.index ≡ c.index = ap (λ (i : Id). i.index) ends.5 in
      elim (cases_lt ends.1.id.index z.id.index) [
        | inl below ↦
            let more = log_ascends script Seeded run lawful ends.1 z ends.3 of_z (last_rank ∙ sym rank) below in
            omega (arith, near, up, more)
        | inr above ↦
            let at : ends.1.id.index ≡ z.id.index = omega (arith, above, low, last_index) in
            let same = same_place script Seeded run lawful ends.1 z ends.3 of_z (last_rank ∙ sym rank) at in
            omega (arith, near, up, same)
      ]

  -- ---- the wait of a number

  -- a wait of the rank on the window that comes after so many others
  pub record IsNumbered (rank window k : ℕ) (earlier : List Row) : Type 0 where
    pub id : Id
    pub call : Call
    pub s : Synchronisation
    pub rank_is : id.rank ≡ rank
    pub sync : synchronisation_of call ≡ Some s
    pub waits : is_wait s ≡ true
    pub one : IsSynchronised script run id.rank id.index call s
    pub number : one.live.number ≡ window
    pub front : List Synchronisation
    pub back : List Synchronisation
    pub made_all : made rank window earlier ≡ front ++ back
    pub made_here : made id.rank one.live.number one.earlier ≡ front
    pub count : count_by is_wait front ≡ k
    pub low : length one.earlier < length earlier

  pub numbered_wait : (rank window k : ℕ) (earlier later : List Row) → rows_of script run ≡ earlier ++ later →
      k < count_by is_wait (made rank window earlier) → IsNumbered rank window k earlier
  numbered_wait rank window k earlier later split below =
      let one = count_split is_wait k (made rank window earlier) below in
      let front = one.0 in
      let s = one.1 in
      let stands = stands_after rank window [] earlier front s one.2 one.3 in
      let row = stands.row in
      let whole : rows_of script run ≡ stands.earlier ++ row ∷ (stands.later ++ later) =
      split ∙ ap (λ l. l ++ later) stands.split ∙ append_assoc stands.earlier (row ∷ stands.later) later in
      let placed = placed_row script Seeded run lawful stands.earlier row (stands.later ++ later) whole in
      let here = synchronised_at script run formed lawful placed.0.rank placed.0.index row.number row.call s
      placed.1.within placed.1.of_rank stands.call_is (Entry row.number (length stands.earlier) row.step) row.step
      placed.1.logged refl (wait_paired s one.5) in
      let rank_is : placed.0.rank ≡ rank = sym placed.1.rank_is ∙ stands.rank_is in
      let same = same_event script run formed lawful
      (event_at script placed.0.rank placed.0.index here.earlier here.number row.call)
      (record {
        id = placed.0;
        event = record {
          place = length stands.earlier;
          step = row.step;
          asked = question script.ranks stands.earlier row;
        };
      }) here.placed.event placed.1.event refl in
      let long : length here.earlier ≡ length stands.earlier = ap (λ (e : NamedEvent). e.event.place) same in
      let window_is : here.live.number ≡ window = sym here.at ∙ ap (λ (e : NamedEvent). e.event.asked.window) same
      ∙ stands.window_is in
      let fronts : here.earlier ≡ stands.earlier = same_front here.earlier
      (one_row placed.0.rank here.number row.call ∷ here.later) stands.earlier (row ∷ (stands.later ++ later))
      (sym here.placed.split ∙ whole) long in
      let total = ap length stands.split ∙ length-append stands.earlier (row ∷ stands.later) in
      record {
        id = placed.0;
        call = row.call;
        s = s;
        rank_is = rank_is;
        sync = stands.call_is;
        waits = one.5;
        one = here;
        number = window_is;
        front = front;
        back = s ∷ one.2;
        made_all = one.3;
        made_here = (λ i. made (rank_is i) (window_is i) (fronts i)) ∙ stands.made_before;
        count = one.4;
        low = lower (length earlier) (length here.earlier) (length stands.earlier) (length stands.later) total long;
      }
    where
      lower : (n a b c : ℕ) → n ≡ b + suc c → a ≡ b → a < n
      lower n a b c e h = omega (arith, e, h)
