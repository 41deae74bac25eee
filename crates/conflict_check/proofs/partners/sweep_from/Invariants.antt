use Rattle.std.proofs.Common.{◌≡◌, ◌<◌, ℕ, length}
use Rattle.std.specs.Prelude.{slice_index_or}
use Rattle.vector_clocks.specs.Marks.{before_in}
use Rattle.access_sweeps.specs.Places.{ArePartners, NoneRises}
use Rattle.conflict_check.specs.Listings.{AreDone, judged_of}
use Rattle.conflict_check.specs.declared.listings.Listing.{Listing}
use Rattle.conflict_check.proofs.partners.sweep_from.Given as goal

-- the listings so far are done
abbrev pub invariant-loop-b : goal.invariant-loop-b
invariant-loop-b l = record {
  long : length l.best ≡ length l.fn.best;
  falls : NoneRises l.fn.best l.best;
  partners : ArePartners l.s.model (before_in l.s.clocks.now) (judged_of l.s) l.fn.best →
      ArePartners l.s.model (before_in l.s.clocks.now) (judged_of l.s) l.best;
  done : (k : ℕ) (d : Listing) → k < l.b-index →
      AreDone l.s l.region l.best l.a (slice_index_or l.listings k d);
}
