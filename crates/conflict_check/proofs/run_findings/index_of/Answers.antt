-- One access more.
use Rattle.std.proofs.Common.{◌≡◌, ◌+◌, ◌++◌, ◌∷◌, [], List, ℕ, ap, sym, subst, ◌∙◌}
use Rattle.std.specs.Prelude.{map, take}
use Rattle.std.proofs.lemmas.List.{map-append}
use Rattle.rma_types.specs.declared.accesses.Access.{Access}
use Rattle.order_rules.specs.Ordered.{JudgedAccess}
use Rattle.first_points.specs.Alike.{judged_by}
use Rattle.first_points.specs.declared.accesses.JudgedPoints.{JudgedPoints}
use Rattle.access_index.specs.Indexes.{HasAccesses}
use Rattle.conflict_check.specs.Listings.{rows_of}
use Rattle.conflict_check.proofs.Ordinals.{rows_more}
use Rattle.conflict_check.proofs.Parts.{take_more}
use Rattle.conflict_check.proofs.run_findings.index_of.Goals as goal

pub loop-a-preserved : goal.loop-a-preserved
loop-a-preserved c =
    let accesses = c.args.accesses.now in
    let at = c.loop-a.a-index in
    let a = c.a-item.result in
    let front = map judged_by (take at accesses) in
    let next : take (at + 1) accesses ≡ take at accesses ++ a ∷ [] =
    take_more accesses at a c.loop-a-test.true ∙ ap (λ (x : JudgedPoints). take at accesses ++ x ∷ []) (sym c.a-item.is) in
    let all : map judged_by (take (at + 1) accesses) ≡ front ++ judged_by a ∷ [] =
    ap (map judged_by) next ∙ map-append judged_by (take at accesses) (a ∷ []) in
    subst (λ (l : List JudgedAccess). HasAccesses c.see.new.self (rows_of l)) (sym all)
    (subst (λ (rows : ℕ → List Access). HasAccesses c.see.new.self rows) (sym (rows_more front (judged_by a)))
    (c.in_ok-see.ensures (rows_of front) c.loop-a.invariant))
