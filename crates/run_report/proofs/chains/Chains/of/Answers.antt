use Rattle.std.proofs.Common.{◌≡◌, ◌+◌, ◌∙◌, length, ap, replicate, List, ℕ, arith}
use Rattle.std.proofs.lemmas.List.{length-replicate}
use Rattle.run_report.proofs.Links.{no_chains}
use Rattle.run_report.proofs.chains.Chains.of.Goals as goal

pub loop-at-init : goal.loop-at-init
loop-at-init c =
    let first = c.in_ok-vec.ensures.items_if_clones_equal (λ y e. e) in
    let next = c.in_ok-vec-2.ensures.items_if_clones_equal (λ y e. e) in
    record { within = omega arith; chains = no_chains _ _ _ _ first next (omega arith) (omega arith) }
