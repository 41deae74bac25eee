use Rattle.std.proofs.Common.{◌≡◌, [], take, drop, map}
use Rattle.cell_words.specs.Views.{fresh, zeros}
use Rattle.cell_words.specs.Holders.{new_pass}
use Rattle.cell_words.proofs.cells.Cells.deal_all.Given as goal

abbrev pub invariant-loop-share : goal.invariant-loop-share
invariant-loop-share l = record {
  table : l.root.table_id ≡ l.self.table;
  view : l.root.me ≡ (fresh (zeros l.self.init) 0 (drop l.share-index l.shares), []);
  passes : l.passes.items ≡ map (new_pass l.self.table l.self.init) (take l.share-index l.shares);
}
