-- What the items of a call teach a rank, and which windows they begin.
use Rattle.std.proofs.Common.{◌≡◌, ℕ, ◌+◌, Bool, true, false, cond, List, [], ◌∷◌, ◌++◌, Option, Some, None, refl, ap}
use Rattle.std.proofs.Common.{sym, ◌∙◌}
use Rattle.std.specs.Prelude.{◌==◌, ◌&&◌, slice_get, is_some}
use Rattle.std.specs.List.{count_by, fold}
use Rattle.std.specs.Option.{option_map_or}
use Rattle.std.proofs.lemmas.Bool.{eq-eqb, and_left, and_right}
use Rattle.std.proofs.lemmas.List.Sums.{sum_by-cons, sum_by-append}
use Rattle.rma_types.specs.declared.accesses.Step.{Step}
use Rattle.rma_types.specs.declared.accesses.Step.TheVariants.{Arrive, Leave, One}
use Rattle.rma_types.specs.declared.calls.Call.{Call}
use Rattle.rma_types.specs.declared.scripts.Part.{Part}
use Rattle.rma_types.specs.declared.scripts.Script.{Script}
use Rattle.rma_types.proofs.ActionLaws.{name_made}
use Rattle.rma_record.specs.declared.items.Item.TheVariants.{Entry}
use Rattle.board_rules.specs.Entries.{Row, is_creation, names_window}
use Rattle.rma_types.specs.declared.actions.Creation.{Creation}
use Rattle.rma_types.specs.Actions.{creation_of}
use Rattle.board_rules.proofs.EntryLaws.{begins_by, names_it}
use Rattle.lawful_runs.specs.Logs.{calls_of, row_by}
use Rattle.rank_rules.specs.Knowledge.{Knowledge, known_after_call, known_after_number}

-- ---- what one more item teaches

pub fold_joined : {X Y : Type 0} (f : Y → X → Y) (y : Y) (xs zs : List X) →
    fold f y (xs ++ zs) ≡ fold f (fold f y xs) zs
fold_joined f y [] zs = refl
fold_joined f y (x ∷ xs) zs = fold_joined f (f y x) xs zs

-- an accepted call teaches what it does
pub accepts : (shapes : ℕ → List Part) (calls : List Call) (known : Knowledge) (number : ℕ) (call : Call) →
    slice_get calls number ≡ Some call →
    known_after_number shapes calls known number ≡ known_after_call shapes known number call
accepts shapes calls known number call of = ap (λ o. option_map_or (known_after_call shapes known number) o known) of

-- ---- the windows that begin

pub count_joined : (p : Row → Bool) (xs ys : List Row) → count_by p (xs ++ ys) ≡ count_by p xs + count_by p ys
count_joined p xs ys = sum_by-append (λ y. cond (p y) 1 0) xs ys

pub one_row : (script : Script) (rank number place : ℕ) (step : Step) (call : Call) →
    slice_get (calls_of script rank) number ≡ Some call →
    row_by script rank (Entry number place step) ≡ record {
      rank = rank;
      number = number;
      call = call;
      step = step;
    } ∷ []
one_row script rank number place step call of =
    ap (λ o. option_map_or (λ c. record { rank = rank; number = number; call = c; step = step } ∷ []) o []) of

-- an entry that begins no window
pub none_begins : (script : Script) (rank win number place : ℕ) (step : Step) (call : Call) →
    slice_get (calls_of script rank) number ≡ Some call →
    ((n : ℕ) → begins_by rank win (record { rank = rank; number = number; call = call; step = step }) ≡ false) →
    count_by (begins_by rank win) (row_by script rank (Entry number place step)) ≡ 0
none_begins script rank win number place step call of fails =
    ap (count_by (begins_by rank win)) (one_row script rank number place step call of)
    ∙ sum_by-cons (λ y. cond (begins_by rank win y) 1 0)
    (record { rank = rank; number = number; call = call; step = step }) []
    ∙ ap (λ b. cond b 1 0 + 0) (fails 0)

pub not_arrive : (rank win number : ℕ) (call : Call) → (n : ℕ) →
    begins_by rank win (record { rank = rank; number = number; call = call; step = One }) ≡ false
not_arrive rank win number call n = and_left (rank == rank && false) (names_window win call)
    (and_right (rank == rank) false refl)

pub not_leave : (rank win number : ℕ) (call : Call) → (n : ℕ) →
    begins_by rank win (record { rank = rank; number = number; call = call; step = Leave }) ≡ false
not_leave rank win number call n = and_left (rank == rank && false) (names_window win call)
    (and_right (rank == rank) false refl)

-- the Arrive of a call begins the window that the call names, if it makes one
pub arrive_begins : (script : Script) (rank win number place : ℕ) (call : Call) →
    slice_get (calls_of script rank) number ≡ Some call →
    count_by (begins_by rank win) (row_by script rank (Entry number place Arrive)) ≡ count_by (λ name. name == win)
    (name_made call)
arrive_begins script rank win number place call of =
    ap (count_by (begins_by rank win)) (one_row script rank number place Arrive call of)
    ∙ sum_by-cons (λ y. cond (begins_by rank win y) 1 0)
    (record { rank = rank; number = number; call = call; step = Arrive }) []
    ∙ ap (λ b. cond ((b && is_creation call) && names_window win call) 1 0 + 0) (eq-eqb rank rank refl)
    ∙ by_creation (creation_of call) refl
  where
    by_creation : (o : Option Creation) → creation_of call ≡ o →
        cond ((true && is_some o) && names_window win call) 1 0 + 0 ≡ count_by (λ name. name == win)
        (option_map_or (λ (creation : Creation). creation.win ∷ []) o [])
    by_creation None e = refl
    by_creation (Some creation) e =
        ap (λ b. cond b 1 0 + 0) (names_it call creation win e)
        ∙ sym (sum_by-cons (λ name. cond (name == win) 1 0) creation.win [])
