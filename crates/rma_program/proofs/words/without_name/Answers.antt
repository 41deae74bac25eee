-- The words are those that the system gave, but for the first.
use Rattle.std.proofs.Common.{◌≡◌, Result, Ok, Err, IfOk, drop, length, vec_len, ap, ◌∙◌}
use Rattle.std.specs.Vec.Iter.{into_iter_items, into_iter_len}
use Rattle.std.proofs.lemmas.Iterator.Adapters.{YieldsList-from_skip, YieldsList-from_vec, fact_from_collect}
use Rattle.rma_program.proofs.words.without_name.Goals as goal

-- of two facts of a value, the first
first_fact : {T E : Type 0} (r : Result T E) (P Q : T → Type 0) → IfOk r (λ v. P v × Q v) → IfOk r P
first_fact (Ok v) P Q h = h.0
first_fact (Err e) P Q h = tt

pub returns : goal.returns
returns c =
    let all = into_iter_items c.args.all in
    let collected = fact_from_collect (λ xs words. (words.items ≡ xs) × (vec_len words ≡ length xs)) c.collect.result
    c.collect.ensures.ran
    (YieldsList-from_skip 1 (YieldsList-from_vec all (ap into_iter_items c.skip.ensures.source)
    (ap into_iter_len c.skip.ensures.source ∙ c.args.all.rest.ok.0)) c.skip.ensures.count) in
    first_fact c.collect.result (λ words. words.items ≡ drop 1 all) (λ words. vec_len words ≡ length (drop 1 all))
    collected
