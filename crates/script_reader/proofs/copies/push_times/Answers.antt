use Rattle.std.proofs.Common.{◌++◌, List, ap, sym, ◌∙◌, append_assoc}
use Rattle.rma_types.specs.declared.calls.Call.{Call}
use Rattle.script_language.specs.Drafts.{repeat_calls}
use Rattle.script_reader.proofs.Growing.{repeated_more}
use Rattle.script_reader.proofs.copies.push_times.Goals as goal

pub loop-preserved : goal.loop-preserved
loop-preserved c =
    let list = c.args.list.now in
    let calls = c.args.calls.now in
    let more = repeated_more c.loop.counter calls in
    c.in_ok-push_all.ensures ∙ (ap (λ (xs : List Call). xs ++ calls) c.loop.invariant
    ∙ (append_assoc list (repeat_calls c.loop.counter calls) calls ∙ ap (λ (xs : List Call). list ++ xs) (sym more)))
