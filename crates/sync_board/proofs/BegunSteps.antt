-- The count of creations of a rank and a name, with one row more.
use Rattle.std.proofs.Common.{◌≡◌, ◌≢◌, ℕ, ◌+◌, ◌*◌, ◌<◌, ◌^◌, Bool, true, false, ◌&&◌, cond, eqb, get_or, is_some}
use Rattle.std.proofs.Common.{List, [], ◌∷◌, ◌++◌, refl, ap, sym, ◌∙◌, arith, IfSome, ⊎_elim}
use Rattle.std.specs.Option.{option_map_or}
use Rattle.std.proofs.lemmas.Bool.{and_left, cases_eq, eq-eqb, ne_eqb, true≢false}
use Rattle.rma_types.specs.declared.actions.Action.{Action}
use Rattle.rma_types.specs.declared.actions.Action.TheVariants.{Creates}
use Rattle.rma_types.specs.Actions.{action_of, creation_in, window_in_action}
use Rattle.board_rules.specs.Entries.{Row, begins_window, creations, names_window}
use Rattle.board_rules.proofs.EntryLaws.{begins_creation}
use Rattle.kept_rows.specs.KeptCalls.{kept_row}
use Rattle.sync_board.specs.Asked.{names_its_window}
use Rattle.sync_board.specs.Counted.{KeepsCreations}
use Rattle.sync_board.proofs.ActSteps.{creations_more}

named_by : (action : Action) (name other : ℕ) → IfSome (window_in_action action) (λ n. n ≡ name) →
    is_some (creation_in action) ≡ true →
    option_map_or (λ n. eqb n other) (window_in_action action) false ≡ eqb name other
named_by (Creates creation) name other named creates = ap (λ n. eqb n other) named
named_by action name other named creates = cc

test_here : (row : Row) (rank name : ℕ) → names_its_window name row.call → row.rank ≡ rank →
    (eqb row.rank rank && begins_window row && names_window name row.call) ≡ begins_window row
test_here row rank name named by =
    split (eqb row.rank rank) (begins_window row) (names_window name row.call) (eq-eqb row.rank rank by)
    (λ begins. named_by (action_of row.call) name name named (begins_creation row begins) ∙ eq-eqb name name refl)
  where
    split : (a b c : Bool) → a ≡ true → (b ≡ true → c ≡ true) → (a && b && c) ≡ b
    split true true true e f = refl
    split true true false e f = absurd (true≢false (sym (f refl)))
    split true false c e f = refl
    split false b c e f = absurd (true≢false (sym e))

test_there : (row : Row) (rank name other : ℕ) → names_its_window name row.call → (row.rank ≡ rank → name ≡ other → ⊥) →
    (eqb row.rank rank && begins_window row && names_window other row.call) ≡ false
test_there row rank name other named apart = ⊎_elim
    (λ by. split (eqb row.rank rank) (begins_window row) (names_window other row.call)
    (λ begins. named_by (action_of row.call) name other named (begins_creation row begins)
    ∙ ne_eqb name other (apart by)))
    (λ off. and_left (eqb row.rank rank && begins_window row) (names_window other row.call)
    (and_left (eqb row.rank rank) (begins_window row) (ne_eqb row.rank rank off)))
    (cases_eq row.rank rank)
  where
    split : (a b c : Bool) → (b ≡ true → c ≡ false) → (a && b && c) ≡ false
    split true true c f = f refl
    split true false c f = refl
    split false b c f = refl

same_place : (rank name rank' name' : ℕ) → name < 32 → name' < 32 → 32 * rank' + name' ≡ 32 * rank + name →
    (rank ≡ rank') × (name ≡ name')
same_place rank name rank' name' a b e = (omega arith, omega arith)

pub begun_more : (rows : List Row) (row : Row) (old mid new : List ℕ) (name : ℕ) (more : Bool) → name < 32 →
    names_its_window name row.call → more ≡ begins_window row →
    KeepsCreations rows old → ((k : ℕ) → get_or mid k 0 ≡ get_or old k 0) →
    get_or mid (32 * row.rank + name) 0 + 1 < 2 ^ 27 →
    get_or new (32 * row.rank + name) 0 ≡ get_or mid (32 * row.rank + name) 0 + cond more 1 0 →
    ((k : ℕ) → k ≢ 32 * row.rank + name → get_or new k 0 ≡ get_or mid k 0) →
    KeepsCreations (rows ++ kept_row row ∷ []) new
begun_more rows row old mid new name more below named is kept same small here others = record {
  counted = λ rank other within. ⊎_elim
      (λ e.
      let p : (row.rank ≡ rank) × (name ≡ other) = same_place row.rank name rank other below within e in
      ap (λ k. get_or new k 0) e
      ∙ (here
      ∙ (ap (λ n. n + cond more 1 0) (same (32 * row.rank + name)
      ∙ (ap (λ k. get_or old k 0) (sym e) ∙ kept.counted rank other within))
      ∙ sym (creations_more rows row rank other
      ∙ ap (λ b. creations rows rank other + cond b 1 0)
      (ap (λ n. eqb row.rank rank && begins_window row && names_window n row.call) (sym p.1)
      ∙ (test_here row rank name named p.0 ∙ sym is))))))
      (λ apart.
      others (32 * rank + other) apart
      ∙ (same (32 * rank + other)
      ∙ (kept.counted rank other within
      ∙ sym (creations_more rows row rank other
      ∙ (ap (λ b. creations rows rank other + cond b 1 0)
      (test_there row rank name other named (λ by e. apart (place rank other by e)))
      ∙ zero_more (creations rows rank other))))))
      (cases_eq (32 * rank + other) (32 * row.rank + name));
  small = λ k. ⊎_elim
      (λ e. let a : get_or new k 0 ≡ get_or mid (32 * row.rank + name) 0 + cond more 1 0 = ap (λ k. get_or new k 0) e
      ∙ here in at_most (get_or new k 0) (get_or mid (32 * row.rank + name) 0) more a small)
      (λ apart. let a : get_or new k 0 ≡ get_or old k 0 = others k apart ∙ same k in rw a (kept.small k))
      (cases_eq k (32 * row.rank + name));
}
  where
    zero_more : (n : ℕ) → n + 0 ≡ n
    zero_more n = omega arith

    place : (rank other : ℕ) → row.rank ≡ rank → name ≡ other → 32 * rank + other ≡ 32 * row.rank + name
    place rank other by e = omega arith

    at_most : (a b : ℕ) (m : Bool) → a ≡ b + cond m 1 0 → b + 1 < 2 ^ 27 → a < 2 ^ 27
    at_most a b true e f = omega arith
    at_most a b false e f = omega arith
