-- The steps of the calls of a run, by rank.
use Rattle.std.proofs.Common.{◌≡◌, ℕ, zero, suc, ◌+◌, ◌≤◌, inl, inr, Bool, true, false, List, [], ◌∷◌, ◌++◌}
use Rattle.std.proofs.Common.{Option, Some, None, refl, ap, sym, subst, ◌∙◌, arith}
use Rattle.std.specs.Prelude.{slice_get, slice_index_or}
use Rattle.std.specs.List.{find, flat_map}
use Rattle.std.specs.Option.{option_map_or, option_or}
use Rattle.std.proofs.lemmas.Bool.{cases_Bool}
use Rattle.std.proofs.lemmas.Grind.{flat_map-append}
use Rattle.std.proofs.lemmas.List.Folds.{find-append}
use Rattle.list_laws.proofs.Members.{In, here, there, append_in, flat_map_in, in_append_left, in_append_right}
use Rattle.rma_types.specs.declared.accesses.Id.{Id}
use Rattle.rma_types.specs.declared.accesses.Step.{Step}
use Rattle.rma_types.specs.declared.calls.Call.{Call}
use Rattle.rma_types.specs.declared.scripts.Script.{Script}
use Rattle.rma_record.specs.declared.items.Item.{Item}
use Rattle.rma_record.specs.declared.items.Item.TheVariants.{Issue, Null, Touch, Flush, Request, Entry, Tested, Refused}
use Rattle.rma_record.specs.declared.items.Item.TheVariants.{Ended}
use Rattle.rma_record.specs.declared.runs.Run.{Run}
use Rattle.rank_rules.specs.declared.pending.PendingAccess.{PendingAccess}
use Rattle.lawful_runs.specs.Accesses.{issued_by}
use Rattle.lawful_runs.specs.Items.{is_touch}
use Rattle.lawful_runs.specs.Logs.{Named, calls_of, log_of, named_from, named_in, named_logs}
use Rattle.order_rules.specs.Before.{StandsBefore}
use Rattle.order_rules.specs.CallSteps.{CallStep, IssuedAccess, accesses_in, call_step, known_before, step_by, steps_in}
use Rattle.order_rules.specs.CallSteps.{steps_of_item}
use Rattle.read_laws.proofs.Steps.{access_is, step_is}
use Rattle.first_point_laws.specs.PointLaws.{NamesNoTouch}
use Rattle.rank_records.specs.Kept.{steps_of_rank}
use Rattle.first_points.proofs.Finds.{Ordered, ordered_joined, none_found}

-- the first step stands before the second in one log
abbrev pub InLogOrder : CallStep → CallStep → Type 0
InLogOrder x y = StandsBefore x.id y.id

module _ (script : Script) (run : Run) where
  -- the steps of some items of a log
  abbrev steps_from : ℕ → ℕ → List Item → List CallStep
  steps_from rank index items = flat_map (steps_of_item script run) (named_from rank index items)

  -- ---- the step of an item

  only : {x y : CallStep} → In x (y ∷ []) → x ≡ y
  only here = refl
  only (there m) = elim m [ ]

  -- the step has the name of its item
  pub named_step : (one : Named) {x : CallStep} → In x (steps_of_item script run one) → x.id ≡ one.id
  named_step one {x} m = by_step (step_by one.item) m
    where
      by_call : (step : Step) (o : Option Call) → In x (option_map_or (λ call. record {
        id = one.id;
        call = call;
        step = step;
        known = known_before script run one.id;
      } ∷ []) o []) → x.id ≡ one.id
      by_call step None k = elim k [ ]
      by_call step (Some call) k = ap (λ (y : CallStep). y.id) (only k)

      by_step : (o : Option (ℕ × Step)) → In x (option_map_or (call_step script run one.id) o []) → x.id ≡ one.id
      by_step None k = elim k [ ]
      by_step (Some (number, step)) k = by_call step (slice_get (calls_of script one.id.rank) number) k

  -- ---- the steps of a log

  ordered_one : (one : Named) → Ordered InLogOrder (steps_of_item script run one)
  ordered_one one = by_step (step_by one.item)
    where
      by_call : (step : Step) (o : Option Call) → Ordered InLogOrder (option_map_or (λ call. record {
        id = one.id;
        call = call;
        step = step;
        known = known_before script run one.id;
      } ∷ []) o [])
      by_call step None = tt
      by_call step (Some call) = (λ later m. elim m [ ], tt)

      by_step : (o : Option (ℕ × Step)) → Ordered InLogOrder (option_map_or (call_step script run one.id) o [])
      by_step None = tt
      by_step (Some (number, step)) = by_call step (slice_get (calls_of script one.id.rank) number)

  named_at : (rank index : ℕ) (items : List Item) {one : Named} → In one (named_from rank index items) →
      (one.id.rank ≡ rank) × (index ≤ one.id.index)
  named_at rank index [] m = elim m [ ]
  named_at rank index (item ∷ items) here = (refl, omega arith)
  named_at rank index (item ∷ items) (there m) =
      let rest = named_at rank (index + 1) items m in (rest.0, omega (arith, rest.1))

  step_at : (rank index : ℕ) (items : List Item) {x : CallStep} → In x (steps_from rank index items) →
      (x.id.rank ≡ rank) × (index ≤ x.id.index)
  step_at rank index items {x} m =
      let one = flat_map_in (steps_of_item script run) (named_from rank index items) m in
      let is = named_step one.0 one.2 in
      let at = named_at rank index items one.1 in
      let place : x.id.index ≡ one.0.id.index = ap (λ (i : Id). i.index) is in
      (ap (λ (i : Id). i.rank) is ∙ at.0, omega (arith, at.1, place))

  ordered_from : (rank index : ℕ) (items : List Item) → Ordered InLogOrder (steps_from rank index items)
  ordered_from rank index [] = tt
  ordered_from rank index (item ∷ items) =
      let one : Named = record { id = record { rank = rank; index = index }; item = item } in
      ordered_joined InLogOrder (steps_of_item script run one) (steps_from rank (index + 1) items) (ordered_one one)
      (ordered_from rank (index + 1) items) (λ x y a b. between one x y a refl refl b)
    where
      between : (one : Named) (x y : CallStep) → In x (steps_of_item script run one) → one.id.rank ≡ rank →
          one.id.index ≡ index → In y (steps_from rank (index + 1) items) → InLogOrder x y
      between one x y a of_rank of_index b =
          let is = named_step one a in
          let at = step_at rank (index + 1) items b in
          let place : x.id.index ≡ one.id.index = ap (λ (i : Id). i.index) is in
          (ap (λ (i : Id). i.rank) is ∙ of_rank ∙ sym at.0, omega (arith, place, of_index, at.1))

  -- the steps of a rank stand in the order of its log
  pub ordered_steps : (rank : ℕ) → Ordered InLogOrder (steps_of_rank script run rank)
  ordered_steps rank = ordered_from rank 0 (log_of run rank)

  pub of_rank : (rank : ℕ) {x : CallStep} → In x (steps_of_rank script run rank) → x.id.rank ≡ rank
  of_rank rank m = (step_at rank 0 (log_of run rank) m).0

  -- ---- the steps of all logs

  steps_of_logs : ℕ → List (List Item) → List CallStep
  steps_of_logs first logs = flat_map (steps_of_item script run) (named_logs first logs)

  parts : (first : ℕ) (log : List Item) (logs : List (List Item)) →
      flat_map (steps_of_item script run) (named_logs first (log ∷ logs))
      ≡ steps_from first 0 log ++ flat_map (steps_of_item script run) (named_logs (first + 1) logs)
  parts first log logs = flat_map-append (steps_of_item script run) (named_in first log) (named_logs (first + 1) logs)

  -- a step of some logs is one of its rank's log
  in_one : (first : ℕ) (logs : List (List Item)) {x : CallStep} →
      In x (flat_map (steps_of_item script run) (named_logs first logs)) →
      (k : ℕ) × (x.id.rank ≡ first + k) × In x (steps_from x.id.rank 0 (slice_index_or logs k []))
  in_one first [] m = elim m [ ]
  in_one first (log ∷ logs) {x} m =
      elim (append_in (steps_from first 0 log) (subst (λ l. In x l) (parts first log logs) m)) [
        | inl now ↦
            let at = step_at first 0 log now in
            (0, omega (arith, at.0), subst (λ r. In x (steps_from r 0 log)) (sym at.0) now)
        | inr later ↦
            let rest = in_one (first + 1) logs later in
            (suc rest.0, omega (arith, rest.1), rest.2)
      ]

  pub of_its_rank : {x : CallStep} → In x (steps_in script run) → In x (steps_of_rank script run x.id.rank)
  of_its_rank {x} m =
      let one = in_one 0 run.logs m in
      let same : one.0 ≡ x.id.rank = omega (arith, one.1) in
      subst (λ k. In x (steps_from x.id.rank 0 (slice_index_or run.logs k []))) same one.2

  in_all : (first k rank : ℕ) (logs : List (List Item)) {x : CallStep} → rank ≡ first + k →
      In x (steps_from rank 0 (slice_index_or logs k [])) →
      In x (flat_map (steps_of_item script run) (named_logs first logs))
  in_all first zero rank [] same m = elim m [ ]
  in_all first (suc k) rank [] same m = elim m [ ]
  in_all first zero rank (log ∷ logs) {x} same m =
      let is : rank ≡ first = omega (arith, same) in
      subst (λ l. In x l) (sym (parts first log logs))
      (in_append_left (flat_map (steps_of_item script run) (named_logs (first + 1) logs))
      (subst (λ r. In x (steps_from r 0 log)) is m))
  in_all first (suc k) rank (log ∷ logs) {x} same m =
      subst (λ l. In x l) (sym (parts first log logs))
      (in_append_right (steps_from first 0 log)
      (in_all (first + 1) k rank logs (omega (arith, same)) m))

  pub of_run : (rank : ℕ) {x : CallStep} → In x (steps_of_rank script run rank) → In x (steps_in script run)
  of_run rank m = in_all 0 rank rank run.logs (omega arith) m

  or_none : (o : Option CallStep) → option_or o None ≡ o
  or_none None = refl
  or_none (Some x) = refl

  found_in_one : (t : CallStep → Bool) (first k rank : ℕ) (logs : List (List Item)) → rank ≡ first + k →
      ((x : CallStep) → t x ≡ true → x.id.rank ≡ rank) →
      find t (flat_map (steps_of_item script run) (named_logs first logs))
      ≡ find t (steps_from rank 0 (slice_index_or logs k []))
  found_in_one t first zero rank [] same of = refl
  found_in_one t first (suc k) rank [] same of = refl
  found_in_one t first zero rank (log ∷ logs) same of =
      let is : first ≡ rank = omega (arith, same) in
      ap (find t) (parts first log logs)
      ∙ find-append t (steps_from first 0 log) others
      ∙ ap (option_or (find t (steps_from first 0 log))) (none_found t others none)
      ∙ or_none (find t (steps_from first 0 log))
      ∙ ap (λ r. find t (steps_from r 0 log)) is
    where
      others : List CallStep
      others = flat_map (steps_of_item script run) (named_logs (first + 1) logs)

      none : (x : CallStep) → In x (flat_map (steps_of_item script run) (named_logs (first + 1) logs)) → t x ≡ false
      none x m = elim (cases_Bool (t x)) [
        | inr fails ↦ fails
        | inl passes ↦ absurd (omega (arith, of x passes, same, (in_one (first + 1) logs m).1))
      ]
  found_in_one t first (suc k) rank (log ∷ logs) same of =
      ap (find t) (parts first log logs)
      ∙ find-append t (steps_from first 0 log) (flat_map (steps_of_item script run) (named_logs (first + 1) logs))
      ∙ ap (λ o. option_or o (find t (flat_map (steps_of_item script run) (named_logs (first + 1) logs))))
      (none_found t (steps_from first 0 log) none)
      ∙ found_in_one t (first + 1) k rank logs (omega (arith, same)) of
    where
      none : (x : CallStep) → In x (steps_from first 0 log) → t x ≡ false
      none x m = elim (cases_Bool (t x)) [
        | inr fails ↦ fails
        | inl passes ↦ absurd (omega (arith, of x passes, same, (step_at first 0 log m).0))
      ]

  -- a test of the steps of one rank finds the same in the steps of all
  pub found_at_rank : (t : CallStep → Bool) (rank : ℕ) → ((x : CallStep) → t x ≡ true → x.id.rank ≡ rank) →
      find t (steps_in script run) ≡ find t (steps_of_rank script run rank)
  found_at_rank t rank of = found_in_one t 0 rank rank run.logs (omega arith) of

-- ---- items

touch_no_step : (item : Item) (s : ℕ × Step) → step_by item ≡ Some s → is_touch item ≡ false
touch_no_step (Issue number access) s e = refl
touch_no_step (Null number) s e = refl
touch_no_step (Touch issue element cell place bits) s e = absurd (cc e)
touch_no_step (Flush number) s e = refl
touch_no_step (Request number) s e = refl
touch_no_step (Entry number place step) s e = refl
touch_no_step (Tested number seen) s e = refl
touch_no_step (Refused number class seen) s e = refl
touch_no_step Ended s e = refl

touch_no_access : (calls : List Call) (index : ℕ) (item : Item) (one : PendingAccess) →
    issued_by calls index item ≡ Some one → is_touch item ≡ false
touch_no_access calls index (Issue number access) one e = refl
touch_no_access calls index (Null number) one e = refl
touch_no_access calls index (Touch issue element cell place bits) one e = absurd (cc e)
touch_no_access calls index (Flush number) one e = refl
touch_no_access calls index (Request number) one e = refl
touch_no_access calls index (Entry number place step) one e = refl
touch_no_access calls index (Tested number seen) one e = refl
touch_no_access calls index (Refused number class seen) one e = refl
touch_no_access calls index Ended one e = refl

-- a step is no touch
pub step_named : (script : Script) (run : Run) {x : CallStep} → In x (steps_in script run) → NamesNoTouch run x.id
step_named script run m =
    let is = step_is script run m in
    record { item = is.item; there = is.logged; other = touch_no_step is.item (is.number, _) is.step_is }

-- an Issue is no touch
pub access_named : (script : Script) (run : Run) {a : IssuedAccess} → In a (accesses_in script run) →
    NamesNoTouch run a.id
access_named script run {a} m =
    let is = access_is script run m in
    record {
      item = is.item;
      there = subst (λ k. slice_get (log_of run a.id.rank) k ≡ Some is.item) is.index is.logged;
      other = touch_no_access (calls_of script a.id.rank) a.issued.index is.item a.issued is.issued;
    }

-- two steps of one name are one step of one call
pub one_step : (script : Script) (run : Run) {x y : CallStep} → In x (steps_in script run) →
    In y (steps_in script run) → x.id ≡ y.id → (x.step ≡ y.step) × (x.call ≡ y.call)
one_step script run {x} {y} a b same =
    let first = step_is script run a in
    let second = step_is script run b in
    let logged : Some first.item ≡ Some second.item = sym first.logged
    ∙ ap (λ (i : Id). slice_get (log_of run i.rank) i.index) same ∙ second.logged in
    let item : first.item ≡ second.item = cc logged in
    let made : Some (first.number, x.step) ≡ Some (second.number, y.step) = sym first.step_is
    ∙ ap step_by item ∙ second.step_is in
    let pair : (first.number, x.step) ≡ (second.number, y.step) = cc made in
    let number : first.number ≡ second.number = ap (λ (p : ℕ × Step). p.0) pair in
    let step : x.step ≡ y.step = ap (λ (p : ℕ × Step). p.1) pair in
    let called : Some x.call ≡ Some y.call = sym first.call_is
    ∙ ap (λ (i : Id). slice_get (calls_of script i.rank) first.number) same
    ∙ ap (slice_get (calls_of script y.id.rank)) number ∙ second.call_is in
    let call : x.call ≡ y.call = cc called in
    (step, call)

no_step : (calls : List Call) (index : ℕ) (item : Item) (one : PendingAccess) (s : ℕ × Step) →
    issued_by calls index item ≡ Some one → step_by item ≡ Some s → ⊥
no_step calls index (Issue number access) one s e other = cc other
no_step calls index (Null number) one s e other = cc other
no_step calls index (Touch issue element cell place bits) one s e other = cc other
no_step calls index (Flush number) one s e other = cc e
no_step calls index (Request number) one s e other = cc e
no_step calls index (Entry number place step) one s e other = cc e
no_step calls index (Tested number seen) one s e other = cc other
no_step calls index (Refused number class seen) one s e other = cc other
no_step calls index Ended one s e other = cc other

-- an Issue is no step
pub access_no_step : (script : Script) (run : Run) {a : IssuedAccess} {y : CallStep} → In a (accesses_in script run) →
    In y (steps_in script run) → a.id ≡ y.id → ⊥
access_no_step script run {a} {y} of_access of_step same =
    let issue = access_is script run of_access in
    let step = step_is script run of_step in
    let logged : Some issue.item ≡ Some step.item = sym issue.logged
    ∙ ap (slice_get (log_of run a.id.rank)) issue.index
    ∙ ap (λ (i : Id). slice_get (log_of run i.rank) i.index) same ∙ step.logged in
    let item : issue.item ≡ step.item = cc logged in
    no_step (calls_of script a.id.rank) a.issued.index issue.item a.issued (step.number, y.step) issue.issued
    (ap step_by item ∙ step.step_is)
