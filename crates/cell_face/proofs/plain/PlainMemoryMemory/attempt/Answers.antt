use Rattle.std.proofs.Common.{ap, sym, ◌∙◌}
use Rattle.call_rules.specs.declared.cells.Cell.{Cell}
use Rattle.cell_face.proofs.PlainUpdates.{plain_updates}
use Rattle.cell_face.proofs.plain.PlainMemoryMemory.attempt.Goals as goal

pub returns-clause-cases : goal.returns-clause-cases
returns-clause-cases c =
    plain_updates c.args.self.now c.write.new.self c.args.cell c.args.expected c.args.new c.requires.cell
    c.write.ensures.cells
    (sym c.if-seen-expected.false ∙ ap (λ (s : Cell). s.place) c.at-seen.ensures) c.write.ensures.share
    c.write.ensures.moves
