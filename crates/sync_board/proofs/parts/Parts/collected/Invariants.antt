use Rattle.std.proofs.Common.{◌≡◌, ℕ, ◌<◌, true}
use Rattle.rma_types.specs.declared.calls.Flavor.TheVariants.{Dynamic}
use Rattle.rank_rules.specs.Windows.{is_same_flavor, no_part}
use Rattle.sync_board.specs.KeptParts.{part_or_none, parts_or_none}
use Rattle.sync_board.proofs.parts.Parts.collected.Given as goal

abbrev pub invariant-loop-rank : goal.invariant-loop-rank
invariant-loop-rank l = record {
  parts : l.parts.items ≡ parts_or_none l.self.parts.items l.rank;
  dynamic : is_same_flavor l.flavor Dynamic ≡ true → (k : ℕ) → k < l.rank → part_or_none l.self.parts.items k ≡ no_part;
}
