use Rattle.std.proofs.Common.{◌≡◌, ◌∙◌, sym, arith, ⊎_elim}
use Rattle.std.proofs.lemmas.Bool.{cases_lt}
use Rattle.sync_board.proofs.PartsKept.{parts_one_more}
use Rattle.sync_board.proofs.parts.Parts.collected.Goals as goal

pub loop-rank-preserved : goal.loop-rank-preserved
loop-rank-preserved c = record {
  parts =
      c.in-Ok.ensures.items ∙ (rw (c.loop-rank.invariant.parts, c.part-part.ensures)
      (sym (parts_one_more c.args.self.now.parts.items c.loop-rank.rank)));
  dynamic = λ is k below. ⊎_elim
      (λ before. c.loop-rank.invariant.dynamic is k before)
      (λ past.
      let here : k ≡ c.loop-rank.rank = omega arith in
      rw here (sym c.part-part.ensures ∙ c.is_part_of.ensures c.if-not-is_part_of.false is))
      (cases_lt k c.loop-rank.rank);
}
