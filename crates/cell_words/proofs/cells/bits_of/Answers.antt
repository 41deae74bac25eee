use Rattle.std.proofs.Common.{rules, ◌≡◌, ap, arith, [], ◌∷◌, ◌++◌, length-append}
use Rattle.call_rules.specs.declared.cells.Cell.{Cell}
use Rattle.std.specs.Mem.Slots.{slots_items}
use Rattle.cell_words.proofs.Elements.{read_at, more_bits}
use Rattle.cell_words.proofs.cells.bits_of.Goals as goal

pub loop-at-preserved : goal.loop-at-preserved
loop-at-preserved c =
    let words = slots_items c.args.closed.now.words in
    let old = c.loop-at.finals.items in
    let found = read_at words c.loop-at.at c.word.result 0 c.word.ensures in
    let items : c.push.new.self.items ≡ old ++ c.seen.result.bits ∷ [] = search rules in
    rw items (record {
      count = omega (arith, c.loop-at.invariant.count, length-append old (c.seen.result.bits ∷ []));
      bits = more_bits old words c.loop-at.at c.word.result _ c.loop-at.invariant.count found
          (ap (λ (seen : Cell). seen.bits) c.seen.ensures) c.loop-at.invariant.bits;
    })
