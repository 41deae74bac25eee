use Rattle.std.proofs.Common.{◌≡◌, ◌<◌, ℕ, length}
use Rattle.std.specs.Prelude.{slice_index_or}
use Rattle.vector_clocks.specs.Marks.{before_in}
use Rattle.access_index.specs.declared.regions.Region.{Region}
use Rattle.access_sweeps.specs.Places.{ArePartners}
use Rattle.conflict_check.specs.Listings.{IsDone, judged_of}
use Rattle.conflict_check.proofs.partners.sweep_regions.Given as goal

-- the regions so far are done
abbrev pub invariant-loop-region : goal.invariant-loop-region
invariant-loop-region l = record {
  long : length l.best ≡ length l.fn.best;
  partners : ArePartners l.s.model (before_in l.s.clocks.now) (judged_of l.s) l.fn.best →
      ArePartners l.s.model (before_in l.s.clocks.now) (judged_of l.s) l.best;
  done : (k : ℕ) (d : Region) → k < l.region-index → IsDone l.s l.best (slice_index_or l.index.regions k d);
}
