-- Logs with the names of their items.
use Rattle.std.proofs.Common.{ℕ, List, ◌++◌, ◌≡◌, ◌+◌, length, [], ap, arith, ◌∷◌, ◌∙◌, Some, ◌<◌}
use Rattle.std.specs.List.{AllByRecursion}
use Rattle.std.specs.Option.{option_map_or}
use Rattle.std.specs.Prelude.{slice_get}
use Rattle.list_laws.proofs.Each.{each_get_or}
use Rattle.rma_types.specs.declared.accesses.Step.{Step}
use Rattle.rma_types.specs.declared.calls.Call.{Call}
use Rattle.rma_types.specs.declared.scripts.Script.{Script}
use Rattle.rma_record.specs.declared.items.Item.{Item}
use Rattle.rma_record.specs.declared.items.Item.TheVariants.{Entry}
use Rattle.rma_record.specs.declared.runs.Run.{Run}
use Rattle.call_rules.specs.WellFormed.{IsWellFormed, IsWrittenCall}
use Rattle.lawful_runs.specs.Logs.{named_from, Named, calls_of, log_of, row_of, row_by}

pub named_joined : (rank index : ℕ) (xs ys : List Item) → named_from rank index (xs ++ ys) ≡ named_from rank index xs
    ++ named_from rank (index + length xs) ys
named_joined rank index [] ys = ap (λ n. named_from rank n ys) (omega arith)
named_joined rank index (x ∷ xs) ys =
    ap (λ rest. (let one : Named = record { id = record { rank = rank; index = index }; item = x } in one) ∷ rest)
    (named_joined rank (index + 1) xs ys ∙ ap (λ n. named_from rank (index + 1) xs ++ named_from rank n ys)
    (omega arith))

-- the item is the entry at the place, of a call of its rank
pub record IsEntryOf (script : Script) (run : Run) (place : ℕ) (x : Named) : Type 0 where
  pub number : ℕ
  pub step : Step
  pub call : Call
  pub is : x.item ≡ Entry number place step
  pub of_rank : slice_get (calls_of script x.id.rank) number ≡ Some call
  pub within : x.id.rank < script.ranks
  pub logged : slice_get (log_of run x.id.rank) x.id.index ≡ Some x.item

pub row_is : (script : Script) (run : Run) (place : ℕ) (x : Named) (e : IsEntryOf script run place x) →
    row_of script x ≡ record { rank = x.id.rank; number = e.number; call = e.call; step = e.step } ∷ []
row_is script run place x e =
    ap (row_by script x.id.rank) e.is
    ∙ ap (λ o. option_map_or (λ call. record { rank = x.id.rank; number = e.number; call = call; step = e.step } ∷ []) o
    []) e.of_rank

pub calls_written : (script : Script) (rank : ℕ) → IsWellFormed script →
    AllByRecursion IsWrittenCall (calls_of script rank)
calls_written script rank formed = each_get_or (AllByRecursion IsWrittenCall) script.calls rank [] tt formed.calls
