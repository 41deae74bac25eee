-- The last of some marks.
use Rattle.std.proofs.Common.{◌≡◌, ◌-◌, List, [], ◌∷◌, length, refl, ap, ◌∙◌, arith}
use Rattle.std.specs.Prelude.{slice_index_or}
use Rattle.vector_clocks.specs.Marks.{last_counts}
use Rattle.vector_clocks.specs.declared.marks.Mark.{Mark}
use Rattle.vector_clocks.proofs.replays.last_numbers.Goals as goal

last_of : (mark : Mark) (rest : List Mark) (d : Mark) → (slice_index_or (mark ∷ rest) (length rest) d).counts
    ≡ last_counts (mark ∷ rest)
last_of mark [] d = refl
last_of mark (other ∷ rest) d = last_of other rest d

last_of_some : (marks : List Mark) (d : Mark) → (length marks ≡ 0 → ⊥) →
    (slice_index_or marks (length marks - 1) d).counts ≡ last_counts marks
last_of_some [] d some = absurd (some refl)
last_of_some (mark ∷ rest) d some =
    let back : length (mark ∷ rest) - 1 ≡ length rest = omega arith in
    ap (λ k. (slice_index_or (mark ∷ rest) k d).counts) back ∙ last_of mark rest d

pub returns : goal.returns
returns c = last_of_some c.args.marks.now (record { index = 0; counts = [] }) c.if-count-eq0.false
