use Rattle.std.proofs.Common.{◌≡◌, List, [], ◌++◌, All}
use Rattle.cell_words.specs.declared.views.View.{View}
use Rattle.cell_words.specs.Holders.{Passed, views_of}
use Rattle.cell_words.specs.Closings.{Gathers}
use Rattle.cell_words.proofs.cells.Cells.gathered.Given as goal

abbrev pub invariant-loop-pass : goal.invariant-loop-pass
invariant-loop-pass l = record {
  table : l.all.table_id ≡ l.self.table;
  free : l.all.me.1 ≡ [];
  own : All (λ (pass : Passed). pass.table ≡ l.self.table) l.passes.items;
  view : (done : List View) × Gathers done l.all.me.0 × (views_of l.passes.items ++ done ≡ views_of l.fn.passes.items);
}

abbrev pub decreases-loop-pass : goal.decreases-loop-pass
decreases-loop-pass l = goal.left-loop-pass l
