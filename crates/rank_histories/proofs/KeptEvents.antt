-- Events of entries that the board keeps alike have the same edges.
use Rattle.std.proofs.Common.{◌≡◌, ℕ, List, [], ◌∷◌, ◌++◌, length, refl, sym, ◌∙◌, ap, subst}
use Rattle.std.proofs.lemmas.List.{length-map}
use Rattle.rma_types.proofs.CallLaws.{call_kept_again}
use Rattle.board_rules.specs.Edges.{Event, is_edge}
use Rattle.board_rules.specs.Entries.{Row, acts, window_of}
use Rattle.kept_rows.proofs.KeptActs.{acts_kept, window_kept, window_of_kept}
use Rattle.kept_rows.proofs.KeptEdges.{edge_from, edge_to}
use Rattle.rma_types.specs.KeptCalls.{kept_call}
use Rattle.kept_rows.specs.KeptCalls.{kept_row}
use Rattle.kept_rows.specs.KeptRowLaws.{kept_acts, kept_event, kept_rows}
use Rattle.rank_laws.specs.Fronts.{Lows, AreAtMost, Put, rows_put, event_after, AreMetFrom, ArePut}
use Rattle.kept_rows.proofs.KeptGains.{acts_twice}

-- ---- events

event_whole : (ranks : ℕ) (rows : List Row) (row : Row) →
    kept_event (event_after ranks (kept_rows rows) (kept_row row)) ≡ kept_event (event_after ranks rows row)
event_whole ranks rows row =
    let place : length (kept_rows rows) ≡ length rows = length-map rows kept_row in
    let entries : kept_acts (acts (kept_rows rows)) ≡ kept_acts (acts rows) =
    ap kept_acts (acts_kept rows) ∙ acts_twice (acts rows) in
    let call : kept_call (kept_call row.call) ≡ kept_call row.call = call_kept_again row.call in
    let window : window_of (kept_rows rows) (kept_row row) ≡ window_of rows row =
    window_of_kept (kept_rows rows) row ∙ window_kept rows row in
    λ i. record {
      place = place i;
      step = row.step;
      asked = record { ranks = ranks; entries = entries i; rank = row.rank; call = call i; window = window i };
    }

event_alike : (ranks : ℕ) (xs ys : List Row) (x y : Row) → kept_rows xs ≡ kept_rows ys → kept_row x ≡ kept_row y →
    kept_event (event_after ranks xs x) ≡ kept_event (event_after ranks ys y)
event_alike ranks xs ys x y e f =
    sym (event_whole ranks xs x) ∙ (λ i. kept_event (event_after ranks (e i) (f i))) ∙ event_whole ranks ys y

pub from_alike : (ranks : ℕ) (xs ys : List Row) (x y : Row) → kept_rows xs ≡ kept_rows ys → kept_row x ≡ kept_row y →
    (later : Event) → is_edge (event_after ranks xs x) later ≡ is_edge (event_after ranks ys y) later
from_alike ranks xs ys x y e f later =
    sym (edge_from (event_after ranks xs x) later)
    ∙ ap (λ (a : Event). is_edge a later) (event_alike ranks xs ys x y e f)
    ∙ edge_from (event_after ranks ys y) later

pub to_alike : (ranks : ℕ) (xs ys : List Row) (x y : Row) → kept_rows xs ≡ kept_rows ys → kept_row x ≡ kept_row y →
    (from : Event) → is_edge from (event_after ranks xs x) ≡ is_edge from (event_after ranks ys y)
to_alike ranks xs ys x y e f from =
    sym (edge_to from (event_after ranks xs x)) ∙ ap (is_edge from) (event_alike ranks xs ys x y e f)
    ∙ edge_to from (event_after ranks ys y)

-- ---- entries with fronts

-- the entries are kept alike and have the same fronts
abbrev pub AreAlike : List Put → List Put → Type 0
AreAlike [] [] = Unit {0}
AreAlike [] (y ∷ ys) = ⊥
AreAlike (x ∷ xs) [] = ⊥
AreAlike (x ∷ xs) (y ∷ ys) = (kept_row x.row ≡ kept_row y.row) × (x.front ≡ y.front) × AreAlike xs ys

pub alike_rows : (xs ys : List Put) → AreAlike xs ys → kept_rows (rows_put xs) ≡ kept_rows (rows_put ys)
alike_rows [] [] h = refl
alike_rows [] (y ∷ ys) h = elim h [ ]
alike_rows (x ∷ xs) [] h = elim h [ ]
alike_rows (x ∷ xs) (y ∷ ys) h = λ i. h.0 i ∷ alike_rows xs ys h.2 i

alike_more : (xs ys : List Put) (x y : Put) → AreAlike xs ys → kept_row x.row ≡ kept_row y.row → x.front ≡ y.front →
    AreAlike (xs ++ x ∷ []) (ys ++ y ∷ [])
alike_more [] [] x y h row front = (row, front, tt)
alike_more [] (w ∷ ys) x y h row front = elim h [ ]
alike_more (v ∷ xs) [] x y h row front = elim h [ ]
alike_more (v ∷ xs) (w ∷ ys) x y h row front = (h.0, h.1, alike_more xs ys x y h.2 row front)

-- edges to an event are met also where they lead to another event from the same entries
pub met_event : (ranks : ℕ) (before puts : List Put) (a b : Event) (lows : Lows) →
    ((from : Event) → is_edge from b ≡ is_edge from a) → AreMetFrom ranks before puts a lows →
    AreMetFrom ranks before puts b lows
met_event ranks before [] a b lows same h = tt
met_event ranks before (put ∷ puts) a b lows same h = (
  λ edge. h.0 (sym (same (event_after ranks (rows_put before) put.row)) ∙ edge),
  met_event ranks (before ++ put ∷ []) puts a b lows same h.1,
)

met_alike : (ranks : ℕ) (before others xs ys : List Put) (event : Event) (lows : Lows) → AreAlike before others →
    AreAlike xs ys → AreMetFrom ranks before xs event lows → AreMetFrom ranks others ys event lows
met_alike ranks before others [] [] event lows alike same h = tt
met_alike ranks before others [] (y ∷ ys) event lows alike same h = elim same [ ]
met_alike ranks before others (x ∷ xs) [] event lows alike same h = elim same [ ]
met_alike ranks before others (x ∷ xs) (y ∷ ys) event lows alike same h = (
  λ edge. subst (λ (front : Lows). AreAtMost front lows) same.1
      (h.0 (from_alike ranks (rows_put before) (rows_put others) x.row y.row (alike_rows before others alike) same.0
      event ∙ edge)),
  met_alike ranks (before ++ x ∷ []) (others ++ y ∷ []) xs ys event lows
      (alike_more before others x y alike same.0 same.1) same.2 h.1,
)

-- entries are put with the same fronts after entries that are kept alike
pub put_alike : (ranks : ℕ) (before others xs ys : List Put) (lows after : Lows) → AreAlike before others →
    AreAlike xs ys → ArePut ranks before lows xs after → ArePut ranks others lows ys after
put_alike ranks before others [] [] lows after alike same h = h
put_alike ranks before others [] (y ∷ ys) lows after alike same h = elim same [ ]
put_alike ranks before others (x ∷ xs) [] lows after alike same h = elim same [ ]
put_alike ranks before others (x ∷ xs) (y ∷ ys) lows after alike same h =
    let rows = alike_rows before others alike in (
      h.0,
      h.1,
      λ later edge. subst (λ (front : Lows). AreAtMost lows front × AreAtMost front h.0) same.1
          (h.2 later (from_alike ranks (rows_put before) (rows_put others) x.row y.row rows same.0 later ∙ edge)),
      met_event ranks [] others (event_after ranks (rows_put before) x.row) (event_after ranks (rows_put others) y.row)
          h.0
          (λ from. sym (to_alike ranks (rows_put before) (rows_put others) x.row y.row rows same.0 from))
          (met_alike ranks [] [] before others (event_after ranks (rows_put before) x.row) h.0 tt alike h.3),
      put_alike ranks (before ++ x ∷ []) (others ++ y ∷ []) xs ys h.0 after
          (alike_more before others x y alike same.0 same.1) same.2 h.4,
    )
