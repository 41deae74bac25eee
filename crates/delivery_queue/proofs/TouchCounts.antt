-- How many items are kept of touches.
use Rattle.std.proofs.Common.{◌≡◌, ℕ, ◌+◌, List, length, ◌∙◌, ap, arith}
use Rattle.std.proofs.Common.{length-append}
use Rattle.std.proofs.lemmas.List.{length-map}
use Rattle.std.specs.Prelude.{map}
use Rattle.rma_record.specs.declared.items.Item.{Item}
use Rattle.call_rules.specs.declared.cells.Cell.{Cell}
use Rattle.rma_types.specs.declared.accesses.Access.{Access}
use Rattle.rma_types.specs.declared.calls.Call.{Call}
use Rattle.rma_types.specs.declared.scripts.Layout.{Layout}
use Rattle.call_rules.proofs.NumbersFrom.{numbers_length}
use Rattle.access_steps.specs.Plans.{planned_touch, planned_touches}
use Rattle.access_steps.specs.TouchesMade.{TouchesKept, item_of, plan_of}
use Rattle.call_rules.specs.Pieces.{numbers_from}
use Rattle.cell_face.specs.Faces.{Face}

-- as many as there are plans
pub kept_count : (layout : Layout) (access : Access) (call : Call) (from count : ℕ) (before after : Face)
    (knows : ℕ → Cell → Type 0) (kept kept_after : List Item) (issue : ℕ) →
    TouchesKept before after knows kept kept_after issue (planned_touches layout access call from count) →
    length kept_after ≡ length kept + count
kept_count layout access call from count before after knows kept kept_after issue made =
    let items : length kept_after ≡ length kept + length (map (item_of issue) made.touches) =
    ap length made.items ∙ length-append kept (map (item_of issue) made.touches) in
    let touches : length (map (item_of issue) made.touches) ≡ length made.touches =
    length-map made.touches (item_of issue) in
    let plans : length (map plan_of made.touches) ≡ length made.touches = length-map made.touches plan_of in
    let planned : length (map plan_of made.touches) ≡ length (planned_touches layout access call from count) =
    ap length made.plans in
    let all : length (planned_touches layout access call from count) ≡ length (numbers_from from count) =
    length-map (numbers_from from count) (planned_touch layout access call) in
    let many : length (numbers_from from count) ≡ count = numbers_length from count in
    omega arith
