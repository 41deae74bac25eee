-- The change of each touch of a lawful run fits its cell.
use Rattle.std.proofs.Common.{◌≡◌, ℕ, zero, suc, ◌<◌, Bool, true, false, cond, List, [], ◌∷◌, Option, Some, None, refl}
use Rattle.std.proofs.Common.{sym, subst}
use Rattle.std.specs.Prelude.{IfSome, slice_get, slice_index}
use Rattle.std.specs.List.{AllByRecursion}
use Rattle.std.specs.Option.{option_map_or}
use Rattle.list_laws.proofs.Each.{each_at}
use Rattle.list_laws.proofs.Members.{all_members, In, filter_in}
use Rattle.rma_types.specs.declared.calls.Call.{Call}
use Rattle.rma_types.specs.declared.schedules.Delay.{Delay}
use Rattle.rma_types.specs.declared.scripts.Script.{Script}
use Rattle.rma_record.specs.declared.runs.Run.{Run}
use Rattle.call_rules.specs.declared.elements.Change.{Change}
use Rattle.rma_types.specs.declared.actions.Transfer.{Transfer}
use Rattle.rma_types.specs.Actions.{transfer_of, action_of}
use Rattle.call_rules.specs.Elements.{Fits}
use Rattle.call_rules.specs.Layout.{layout}
use Rattle.call_rules.specs.Numbers.{patterns_of}
use Rattle.call_rules.specs.Transfers.{change_of, is_no_op}
use Rattle.call_rules.specs.WellFormed.{IsWellFormed, IsWrittenCall, IsWrittenTransfer}
use Rattle.call_rules.proofs.PatternLaws.{some_pattern}
use Rattle.call_rules.proofs.WellFormedLaws.{written_in}
use Rattle.lawful_runs.specs.Accesses.{Touching, all_touches, is_on_cell, is_update, on_cell, transfer_at}
use Rattle.lawful_runs.specs.LawfulRun.{IsLawful}
use Rattle.lawful_runs.specs.Logs.{calls_of}
use Rattle.lawful_runs.proofs.LogLaws.{calls_written}
use Rattle.order_rules.specs.OrderedReads.{updates_of}
use Rattle.read_laws.proofs.InMemory.{of_transfers}
use Rattle.read_laws.proofs.Parts.{access_of_touch, part_of}
use Rattle.read_laws.proofs.Places.{IsAligned, element_of, piece_aligned}
use Rattle.read_laws.proofs.Steps.{access_is}
use Rattle.read_laws.proofs.Touches.{touch_is}
use Rattle.cell_replay.specs.Kept.{DoFit}

operand_below : (n : ℕ) (xs : List ℕ) (k : ℕ) → 0 < n → AllByRecursion (λ x. x < n) xs → slice_index xs k < n
operand_below n [] k some all = some
operand_below n (x ∷ xs) zero some all = all.0
operand_below n (x ∷ xs) (suc k) some all = operand_below n xs k some all.1

choice_fits : (reads : Bool) (change : Change) → Fits change → IfSome (cond reads None (Some change)) Fits
choice_fits true change fits = tt
choice_fits false change fits = fits

change_fits : (t : Transfer) (element first : ℕ) → IsWrittenTransfer t → IsAligned first t.dtype →
    IfSome (change_of t element first) Fits
change_fits t element first w aligned = choice_fits (is_no_op t.op) _ (record {
  aligned = aligned.multiple;
  inside = aligned.inside;
  operand = operand_below (patterns_of t.dtype) t.operands element (some_pattern t.dtype) w.patterns;
  compared = w.compared;
})

written_at : (calls : List Call) (number : ℕ) (t : Transfer) → AllByRecursion IsWrittenCall calls →
    transfer_at calls number ≡ Some t → IsWrittenTransfer t
written_at calls number t written moves = by_call (slice_get calls number) refl moves
  where
    by_call : (o : Option Call) → slice_get calls number ≡ o → option_map_or transfer_of o None ≡ Some t →
        IsWrittenTransfer t
    by_call None e h = absurd (cc h)
    by_call (Some call) e h = subst (λ o. IfSome o IsWrittenTransfer) h
        (written_in (action_of call) (each_at IsWrittenCall calls number call written e))

touch_fits : (script : Script) (delay : Delay) (run : Run) → IsWellFormed script → IsLawful script delay run →
    (v : Touching) → In v (all_touches script run) → IfSome v.change Fits
touch_fits script delay run formed lawful v m =
    let has = access_of_touch script delay run lawful v (touch_is script run m) in
    let access = access_is script run has.listed in
    let t = of_transfers script delay run formed lawful has.access has.listed in
    let part = part_of script delay run lawful has.access t.0 v access t.1.moves has.by in
    let element = element_of (layout script) has.access.issued.access t.0.dtype v.element part.piece part.element in
    let aligned = piece_aligned (layout script) has.access.issued.access t.0.dtype v.element part.piece t.1.lies
    element in
    let written = written_at (calls_of script has.access.id.rank) has.access.issued.number t.0
    (calls_written script has.access.id.rank formed) t.1.moves in
    subst (λ o. IfSome o Fits) (sym part.change)
    (change_fits t.0 v.element part.piece.first_byte written aligned)

-- the updates of a cell fit it
pub updates_fit : (script : Script) (delay : Delay) (run : Run) → IsWellFormed script → IsLawful script delay run →
    (cell : ℕ) → DoFit (updates_of script run cell)
updates_fit script delay run formed lawful cell =
    all_members (λ (touch : Touching). IfSome touch.change Fits) (updates_of script run cell) (λ v m.
    let one = filter_in is_update (on_cell cell (all_touches script run)) m in
    let two = filter_in (is_on_cell cell) (all_touches script run) one.0 in
    touch_fits script delay run formed lawful v two.0)

-- each touch of a run fits its cell
pub touches_fit : (script : Script) (delay : Delay) (run : Run) → IsWellFormed script → IsLawful script delay run →
    DoFit (all_touches script run)
touches_fit script delay run formed lawful =
    all_members (λ (touch : Touching). IfSome touch.change Fits) (all_touches script run)
    (touch_fits script delay run formed lawful)
