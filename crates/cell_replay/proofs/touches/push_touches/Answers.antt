-- The touch of the next item is added.
use Rattle.std.proofs.Common.{◌≡◌, ◌+◌, ap, arith, get_or, length, rules, subst, ◌<◌, ◌∙◌, ◌∷◌, ◌++◌, []}
use Rattle.std.specs.Prelude.{drop}
use Rattle.std.specs.Option.{option_map_or}
use Rattle.rma_record.proofs.ItemLaws.{no_item}
use Rattle.call_rules.specs.Layout.{layout}
use Rattle.lawful_runs.specs.Accesses.{touches_among, touching_by}
use Rattle.lawful_runs.specs.Logs.{calls_of, log_of, named_from}
use Rattle.cell_replay.specs.Kept.{touching_of, touchings_of}
use Rattle.cell_replay.proofs.Steps.{joined, touches_step}
use Rattle.cell_replay.proofs.touches.push_touches.Goals as goal

pub loop-at-preserved : goal.loop-at-preserved
loop-at-preserved c =
    let rank = c.args.rank in
    let at = c.loop-at.at in
    let memory = layout c.args.script.now in
    let calls = calls_of c.args.script.now rank in
    let log = log_of c.args.run.now rank in
    let index : c.in-Ok.index ≡ at = first_of (search rules, grind (arith, c.in-Ok.ensures)) in
    let below : at < length log = subst (λ l. at < length l) c.log_at-log.ensures c.loop-at-test.true in
    let one : option_map_or (λ touch. touching_of touch ∷ []) c.touch_of.result []
    ≡ touching_by memory calls log (record { rank = rank; index = at }) (get_or log at no_item) =
    c.touch_of.ensures memory
    ∙ (λ i. touching_by memory (c.calls_at-calls.ensures i) (c.log_at-log.ensures i)
    (record { rank = rank; index = index i }) (get_or (c.log_at-log.ensures i) at no_item)) in
    joined (touchings_of c.loop-at.touches.items) (touchings_of c.push_touch.new.touches.items)
    (option_map_or (λ touch. touching_of touch ∷ []) c.touch_of.result [])
    (touches_among memory calls log (named_from rank (at + 1) (drop (at + 1) log)))
    (touches_among memory calls log (named_from rank at (drop at log)))
    c.in_ok-push_touch.ensures
    (ap (λ l. l ++ touches_among memory calls log (named_from rank (at + 1) (drop (at + 1) log))) one
    ∙ touches_step memory calls log rank at no_item below)
    ∙ c.loop-at.invariant
