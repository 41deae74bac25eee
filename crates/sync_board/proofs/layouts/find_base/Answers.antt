use Rattle.std.proofs.Common.{sym, arith}
use Rattle.std.proofs.lemmas.Bool.{eq-eqb}
use Rattle.sync_board.proofs.Bases.{base_found, base_missing}
use Rattle.sync_board.proofs.layouts.find_base.Goals as goal

pub returns-then-one-number : goal.returns-then-one-number
returns-then-one-number c = sym (base_found c.args.bases.now c.args.number c.loop-one.one-index
    (record { call = 0; base = 0 }) c.loop-one-test.true
    (λ k below. c.loop-one.invariant k (record { call = 0; base = 0 }) below) (eq-eqb _ _ c.if-one-number.true))

pub returns : goal.returns
returns c = sym (base_missing c.args.bases.now c.args.number (record { call = 0; base = 0 })
    (λ k high. c.loop-one.invariant k (record { call = 0; base = 0 }) (omega arith)))
