use Rattle.std.proofs.Common.{◌<◌, ◌∙◌, ap, sym, arith, cond, length, false, ⊎_elim}
use Rattle.std.proofs.lemmas.Bool.{cases_eq}
use Rattle.std.proofs.lemmas.Grind.{get_or-set_at}
use Rattle.std.proofs.lemmas.List.{get_or-set_other, length-set}
use Rattle.std.specs.Prelude.{slice_index, slice_index_or}
use Rattle.entry_gains.specs.Tables.{counted}
use Rattle.entry_gains.proofs.tables.ordinals_after.Goals as goal

pub loop-rank-preserved : goal.loop-rank-preserved
loop-rank-preserved c =
    let within : c.loop-rank.rank < length c.loop-rank.ordinals = omega arith in
    record {
      done = λ k below. ⊎_elim
          (λ e. get_or-set_at c.loop-rank.ordinals c.loop-rank.rank k c.ordinal_if.result 0 e within
          ∙ (c.ordinal_if.ensures ∙ ap (λ t. cond (slice_index_or c.args.named.now t false)
          (counted (slice_index c.args.counts.now t)) 0) (sym e)))
          (λ ne. get_or-set_other c.loop-rank.ordinals c.loop-rank.rank k c.ordinal_if.result 0 ne
          ∙ c.loop-rank.invariant.done k (omega arith))
          (cases_eq k c.loop-rank.rank);
      long = length-set c.loop-rank.ordinals c.loop-rank.rank c.ordinal_if.result ∙ c.loop-rank.invariant.long;
    }

pub returns : goal.returns
returns c = λ rank below. c.loop-rank.invariant.done rank (omega arith)
