use Rattle.std.proofs.Common.{◌<◌, ◌∙◌, ap, sym, arith, cond, length, None, ⊎_elim}
use Rattle.std.proofs.lemmas.Bool.{cases_eq}
use Rattle.std.proofs.lemmas.Grind.{get_or-set_at}
use Rattle.std.proofs.lemmas.List.{get_or-set_other, length-set}
use Rattle.entry_gains.specs.Tables.{held_at, is_within, lock_key}
use Rattle.entry_gains.proofs.tables.kinds_held.Goals as goal

pub loop-target-preserved : goal.loop-target-preserved
loop-target-preserved c =
    let within : c.loop-target.target < length c.loop-target.kinds = omega arith in
    record {
      done = λ k below. ⊎_elim
          (λ e. get_or-set_at c.loop-target.kinds c.loop-target.target k c.kind_at.result None e within
          ∙ (c.kind_at.ensures ∙ ap (λ t. cond (is_within c.args.reach t)
          (held_at c.args.held.now (lock_key c.args.side t)) None) (sym e)))
          (λ ne. get_or-set_other c.loop-target.kinds c.loop-target.target k c.kind_at.result None ne
          ∙ c.loop-target.invariant.done k (omega arith))
          (cases_eq k c.loop-target.target);
      long = length-set c.loop-target.kinds c.loop-target.target c.kind_at.result ∙ c.loop-target.invariant.long;
    }

pub returns : goal.returns
returns c = λ at below. c.loop-target.invariant.done at (omega arith)
