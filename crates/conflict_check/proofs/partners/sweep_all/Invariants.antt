use Rattle.std.proofs.Common.{◌≡◌, ◌<◌, ℕ, length}
use Rattle.std.specs.Prelude.{slice_index_or}
use Rattle.std.specs.List.{All}
use Rattle.vector_clocks.specs.Marks.{before_in}
use Rattle.access_sweeps.specs.Places.{ArePartners, NoneRises}
use Rattle.conflict_check.specs.Listings.{AreDone, judged_of}
use Rattle.conflict_check.specs.declared.listings.Listing.{Listing}
use Rattle.conflict_check.proofs.partners.sweep_all.Given as goal

-- the listings so far are done
abbrev pub invariant-loop-a : goal.invariant-loop-a
invariant-loop-a l = record {
  long : length l.best ≡ length l.fn.best;
  falls : NoneRises l.fn.best l.best;
  partners : ArePartners l.s.model (before_in l.s.clocks.now) (judged_of l.s) l.fn.best →
      ArePartners l.s.model (before_in l.s.clocks.now) (judged_of l.s) l.best;
  done : (k : ℕ) (d : Listing) → k < l.a-index →
      All (λ (b : Listing). AreDone l.s l.region l.best (slice_index_or l.listings k d) b) l.listings;
}
