use Rattle.std.proofs.Common.{◌≡◌, ◌≤◌, ◌<◌, ℕ, length}
use Rattle.std.specs.Prelude.{slice_index}
use Rattle.rma_types.specs.declared.findings.Model.{Model}
use Rattle.vector_clocks.specs.Marks.{before_in}
use Rattle.access_sweeps.specs.Places.{ArePartners, IsLeastOf, NoneRises}
use Rattle.access_sweeps.specs.Sweeps.{IsFrontFrom, IsSwept, accesses_of}
use Rattle.access_sweeps.proofs.sweeps.sweep_lists.Given as goal

-- the accesses of the second list so far have their partners, and the front is one for those that are left
abbrev pub invariant-loop-at : goal.invariant-loop-at
invariant-loop-at l = record {
  long : length l.best ≡ length l.fn.best;
  first : l.front.first ≤ l.front.other;
  other : l.front.other ≤ length l.lists.first.now;
  falls : NoneRises l.fn.best l.best;
  front : (model : Model) → IsSwept model l.lists → IsFrontFrom l.lists l.front l.at;
  partners : (model : Model) → IsSwept model l.lists →
      ArePartners model (before_in l.lists.clocks.now) (accesses_of l.lists) l.fn.best →
      ArePartners model (before_in l.lists.clocks.now) (accesses_of l.lists) l.best;
  least : (model : Model) → IsSwept model l.lists → (j : ℕ) → j < l.at →
      IsLeastOf model (before_in l.lists.clocks.now) (accesses_of l.lists) l.lists.first.now
      (slice_index l.lists.second.now j) l.best;
}
