use Rattle.std.proofs.Common.{◌≡◌, ◌<◌, ℕ, length}
use Rattle.std.specs.Prelude.{slice_index}
use Rattle.conflict_check.proofs.partners.no_partners.Given as goal

-- each place so far is its own
abbrev pub invariant-loop-at : goal.invariant-loop-at
invariant-loop-at l = (length l.best ≡ l.at) × ((k : ℕ) → k < l.at → slice_index l.best k ≡ k)
