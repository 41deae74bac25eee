-- The rank before its first call.
use Rattle.std.proofs.Common.{◌+◌, ◌*◌, length, sym, ◌∙◌, ap, subst}
use Rattle.rank_engine.proofs.NewRanks.{new_is, new_sound}
use Rattle.rank_engine.proofs.agent.Agent.new.Goals as goal
use Rattle.rank_engine.specs.Sound.{IsSound}
use Rattle.rank_rules.specs.Windows.{no_windows}

pub invariant_of-result : goal.invariant_of-result
invariant_of-result g c = (
  subst IsSound (sym (new_is c.args.script.now c.args.layout.now c.args.delay c.args.rank _ c.new.result
      c.new-2.result c.in_ok-new.field-0 (c.from.result * 64 + c.from-2.result) c.args.seed _ _ c.requires.layout
      c.requires.log
      (c.new.ensures ∙ ap (no_windows c.args.rank c.args.script.now.ranks) c.space_of-space.ensures)
      c.new-2.ensures c.in_ok-new.ensures
      (ap (λ n. n * 64 + c.from-2.result) c.from.ensures ∙ ap (λ n. c.args.seed * 64 + n) c.from-2.ensures)))
      (new_sound c.args.script.now c.args.delay c.args.seed c.args.rank _ _ c.requires.formed c.requires.rank),
  sym (ap length c.requires.log),
)

pub returns : goal.returns
returns g c = new_is c.args.script.now c.args.layout.now c.args.delay c.args.rank _ c.new.result
    c.new-2.result c.in_ok-new.field-0 (c.from.result * 64 + c.from-2.result) c.args.seed _ _ c.requires.layout
    c.requires.log
    (c.new.ensures ∙ ap (no_windows c.args.rank c.args.script.now.ranks) c.space_of-space.ensures)
    c.new-2.ensures c.in_ok-new.ensures
    (ap (λ n. n * 64 + c.from-2.result) c.from.ensures ∙ ap (λ n. c.args.seed * 64 + n) c.from-2.ensures)
