use Rattle.std.proofs.Common.{ap}
use Rattle.call_rules.specs.declared.cells.Cell.{Cell}
use Rattle.cell_face.proofs.PlainUpdates.{plain_updates}
use Rattle.cell_face.proofs.plain.PlainMemoryMemory.add.Goals as goal

pub returns-clause-updates : goal.returns-clause-updates
returns-clause-updates c =
    plain_updates c.args.self.now c.write.new.self c.args.cell c.at-seen.result _ c.requires.cell c.write.ensures.cells
    (ap (λ (s : Cell). s.place) c.at-seen.ensures) c.write.ensures.share c.write.ensures.moves
