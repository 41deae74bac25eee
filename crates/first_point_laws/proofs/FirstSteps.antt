-- The first step of a rank that passes a test has the least index.
use Rattle.std.proofs.Common.{◌≡◌, ℕ, ◌+◌, ◌<◌, ◌≤◌, ◌⊎◌, inl, inr, Bool, true, false, cond, List, [], ◌∷◌}
use Rattle.std.proofs.Common.{◌++◌, length, Option, Some, None, refl, ap, sym, ◌∙◌, subst, arith}
use Rattle.std.specs.Prelude.{slice_get}
use Rattle.std.specs.List.{find, flat_map}
use Rattle.std.specs.Option.{option_map_or}
use Rattle.std.proofs.lemmas.Grind.{flat_map-append}
use Rattle.list_laws.proofs.Members.{In, here, there, append_in}
use Rattle.rma_types.specs.declared.accesses.Step.{Step}
use Rattle.rma_types.specs.declared.calls.Call.{Call}
use Rattle.rma_types.specs.declared.scripts.Script.{Script}
use Rattle.rma_record.specs.declared.items.Item.{Item}
use Rattle.rma_record.specs.declared.runs.Run.{Run}
use Rattle.lawful_runs.specs.Logs.{Named, named_from, named_in, named_logs, log_of, calls_of}
use Rattle.order_rules.specs.CallSteps.{CallStep, known_before, step_by, call_step, steps_of_item, steps_in}
use Rattle.read_laws.proofs.Begun.{item_member}
use Rattle.read_laws.proofs.Folds.{find_in}
use Rattle.read_laws.proofs.Touches.{in_flat_map}

-- ---- lists

found_in_parts : {X : Type 0} (p : X → Bool) (xs ys : List X) (x : X) → find p (xs ++ ys) ≡ Some x →
    (find p xs ≡ Some x) ⊎ ((find p xs ≡ None) × (find p ys ≡ Some x))
found_in_parts p [] ys x e = inr (refl, e)
found_in_parts {X} p (y ∷ xs) ys x e = by_test (p y) e (λ h. found_in_parts p xs ys x h)
  where
    by_test : (b : Bool) → cond b (Some y) (find p (xs ++ ys)) ≡ Some x →
        (find p (xs ++ ys) ≡ Some x → (find p xs ≡ Some x) ⊎ ((find p xs ≡ None) × (find p ys ≡ Some x))) →
        (cond b (Some y) (find p xs) ≡ Some x) ⊎ ((cond b (Some y) (find p xs) ≡ None) × (find p ys ≡ Some x))
    by_test true e rest = inl e
    by_test false e rest = rest e

none_passes : {X : Type 0} (p : X → Bool) {x : X} {xs : List X} → In x xs → find p xs ≡ None → p x ≡ true → ⊥
none_passes {X} p {x} (here {xs}) none passes =
    cc (sym (ap (λ b. cond b (Some x) (find p xs)) passes) ∙ none)
none_passes {X} p {x} (there {y} {xs} m) none passes = by_test (p y) none (λ h. none_passes p m h passes)
  where
    by_test : (b : Bool) → cond b (Some y) (find p xs) ≡ None → (find p xs ≡ None → ⊥) → ⊥
    by_test true e rest = cc e
    by_test false e rest = rest e

module _ (script : Script) (run : Run) where
  -- a step has the name of its item
  step_named : (one : Named) {x : CallStep} → In x (steps_of_item script run one) → x.id ≡ one.id
  step_named one {x} m = by_step (step_by one.item) m
    where
      by_call : (number : ℕ) (step : Step) (o : Option Call) → In x (option_map_or (λ call. record {
        id = one.id;
        call = call;
        step = step;
        known = known_before script run one.id;
      } ∷ []) o []) → x.id ≡ one.id
      by_call number step None m = elim m [ ]
      by_call number step (Some call) m = ap (λ (y : CallStep). y.id) (only m)
        where
          only : {y : CallStep} → In x (y ∷ []) → x ≡ y
          only here = refl
          only (there k) = elim k [ ]

      by_step : (o : Option (ℕ × Step)) → In x (option_map_or (call_step script run one.id) o []) → x.id ≡ one.id
      by_step None m = elim m [ ]
      by_step (Some (number, step)) m = by_call number step (slice_get (calls_of script one.id.rank) number) m

  abbrev steps_from : ℕ → ℕ → List Item → List CallStep
  steps_from rank first items = flat_map (steps_of_item script run) (named_from rank first items)

  in_log : (rank first : ℕ) (items : List Item) {x : CallStep} → In x (steps_from rank first items) →
      (x.id.rank ≡ rank) × (first ≤ x.id.index)
  in_log rank first [] m = elim m [ ]
  in_log rank first (item ∷ items) {x} m =
      let one : Named = record { id = record { rank = rank; index = first }; item = item } in
      elim (append_in (steps_of_item script run one) m) [
        | inl early ↦
            let is = step_named one early in
            let index : x.id.index ≡ first = ap (λ id. id.index) is in (ap (λ id. id.rank) is, omega (arith, index))
        | inr late ↦ let rest = in_log rank (first + 1) items late in (rest.0, omega (arith, rest.1))
      ]

  first_in_log : (p : CallStep → Bool) (rank first : ℕ) (items : List Item) (y z : CallStep) →
      find p (steps_from rank first items) ≡ Some y → In z (steps_from rank first items) → p z ≡ true →
      y.id.index ≤ z.id.index
  first_in_log p rank first [] y z found m passes = elim m [ ]
  first_in_log p rank first (item ∷ items) y z found m passes =
      let one : Named = record { id = record { rank = rank; index = first }; item = item } in
      let low = (in_log rank first (item ∷ items) m).1 in
      elim (found_in_parts p (steps_of_item script run one) (steps_from rank (first + 1) items) y found) [
        | inl early ↦
            let of_one = (find_in p (steps_of_item script run one) y early).0 in
            let index : y.id.index ≡ first = ap (λ id. id.index) (step_named one of_one) in omega (arith, index, low)
        | inr late ↦ elim (append_in (steps_of_item script run one) m) [
          | inl early ↦ absurd (none_passes p early late.0 passes)
          | inr rest ↦ first_in_log p rank (first + 1) items y z late.1 rest passes
        ]
      ]

  abbrev steps_of_logs : ℕ → List (List Item) → List CallStep
  steps_of_logs rank logs = flat_map (steps_of_item script run) (named_logs rank logs)

  logs_split : (rank : ℕ) (log : List Item) (logs : List (List Item)) →
      steps_of_logs rank (log ∷ logs) ≡ steps_from rank 0 log ++ steps_of_logs (rank + 1) logs
  logs_split rank log logs = flat_map-append (steps_of_item script run) (named_in rank log) (named_logs (rank + 1) logs)

  in_logs : (rank : ℕ) (logs : List (List Item)) {x : CallStep} → In x (steps_of_logs rank logs) → rank ≤ x.id.rank
  in_logs rank [] m = elim m [ ]
  in_logs rank (log ∷ logs) {x} m =
      elim (append_in (steps_from rank 0 log) (subst (In x) (logs_split rank log logs) m)) [
        | inl early ↦ let is = (in_log rank 0 log early).0 in omega (arith, is)
        | inr late ↦ let rest = in_logs (rank + 1) logs late in omega (arith, rest)
      ]

  first_in_logs : (p : CallStep → Bool) (rank : ℕ) (logs : List (List Item)) (y z : CallStep) →
      find p (steps_of_logs rank logs) ≡ Some y → In z (steps_of_logs rank logs) → p z ≡ true →
      y.id.rank ≡ z.id.rank → y.id.index ≤ z.id.index
  first_in_logs p rank [] y z found m passes same = elim m [ ]
  first_in_logs p rank (log ∷ logs) y z found m passes same =
      let split = logs_split rank log logs in
      let at = sym (ap (find p) split) ∙ found in
      elim (found_in_parts p (steps_from rank 0 log) (steps_of_logs (rank + 1) logs) y at) [
        | inl early ↦ elim (append_in (steps_from rank 0 log) (subst (In z) split m)) [
          | inl near ↦ first_in_log p rank 0 log y z early near passes
          | inr far ↦
              let of_log = (in_log rank 0 log (find_in p (steps_from rank 0 log) y early).0).0 in
              let above = in_logs (rank + 1) logs far in absurd (omega (arith, of_log, above, same))
        ]
        | inr late ↦ elim (append_in (steps_from rank 0 log) (subst (In z) split m)) [
          | inl near ↦ absurd (none_passes p near late.0 passes)
          | inr far ↦ first_in_logs p (rank + 1) logs y z late.1 far passes same
        ]
      ]

  pub first_step : (p : CallStep → Bool) (y z : CallStep) → find p (steps_in script run) ≡ Some y →
      In z (steps_in script run) → p z ≡ true → y.id.rank ≡ z.id.rank → y.id.index ≤ z.id.index
  first_step p y z found m passes same = first_in_logs p 0 run.logs y z found m passes same

  -- the step of an entry
  pub listed_entry : (rank index number : ℕ) (step : Step) (item : Item) (call : Call) → rank < length run.logs →
      slice_get (log_of run rank) index ≡ Some item → step_by item ≡ Some (number, step) →
      slice_get (calls_of script rank) number ≡ Some call →
      In (record {
        id = record { rank = rank; index = index };
        call = call;
        step = step;
        known = known_before script run (record { rank = rank; index = index });
      }) (steps_in script run)
  listed_entry rank index number step item call below logged step_is of =
      in_flat_map (steps_of_item script run) (item_member run rank index item below logged)
      (subst (In _) (sym (ap (λ o. option_map_or
      (call_step script run (record { rank = rank; index = index })) o []) step_is
      ∙ ap (λ o. option_map_or (λ call. record {
        id = record { rank = rank; index = index };
        call = call;
        step = step;
        known = known_before script run (record { rank = rank; index = index });
      } ∷ []) o []) of)) here)
