use Rattle.std.proofs.Common.{◌≡◌, ◌∙◌, sym, arith, ⊎_elim}
use Rattle.std.specs.List.{list_any}
use Rattle.std.proofs.lemmas.Bool.{cases_lt}
use Rattle.call_rules.proofs.NumbersFrom.{all_numbers, not_all_numbers}
use Rattle.rank_rules.specs.Ranges.{has_byte}
use Rattle.sync_board.proofs.regions.Regions.covers.Goals as goal

pub loop-address-preserved : goal.loop-address-preserved
loop-address-preserved c = λ ranges k keeps low below. ⊎_elim
    (λ before. c.loop-address.invariant ranges k keeps low before)
    (λ past.
    let here : k ≡ c.loop-address.address = omega arith in
    rw here (sym (c.has.ensures ranges keeps) ∙ c.if-not-has.false))
    (cases_lt k c.loop-address.address)

pub returns-then-not-has : goal.returns-then-not-has
returns-then-not-has c = λ ranges keeps.
    sym (not_all_numbers (λ address. list_any (has_byte address) ranges) c.args.lo c.args.len c.loop-address.address
    (omega arith) (omega arith)
    (sym (c.has.ensures ranges keeps) ∙ c.if-not-has.true))

pub returns : goal.returns
returns c = λ ranges keeps.
    sym (all_numbers (λ address. list_any (has_byte address) ranges) c.args.lo c.args.len
    (λ k low high. c.loop-address.invariant ranges k keeps low (omega arith)))
