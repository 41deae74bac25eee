use Rattle.std.proofs.Common.{◌≡◌, ℕ, ◌<◌, ◌≤◌, max, get_or}
use Rattle.cell_face.proofs.fronts.raise.Given as goal

abbrev pub invariant-loop-at : goal.invariant-loop-at
invariant-loop-at l = record {
  done : (k : ℕ) → k < l.at → get_or l.places k 0 ≡ max (get_or l.initial.places k 0) (get_or l.others k 0);
  left : (k : ℕ) → l.at ≤ k → get_or l.places k 0 ≡ get_or l.initial.places k 0;
}
