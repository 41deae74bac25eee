-- What is ordered before an access is ordered before the later ones of its class.
use Rattle.std.proofs.Common.{◌≡◌, ℕ, ◌≤◌, inl, inr, true, List, [], ◌∷◌, subst, ◌∙◌, arith}
use Rattle.std.specs.Prelude.{◌&&◌, ◌==◌, nat_le, nat_lt, slice_index}
use Rattle.std.specs.List.{list_any}
use Rattle.std.proofs.lemmas.Bool.{and_from, and_parts, eq-eqb, eqb-true, le-leb, leb-true, or_cases, or_left, or_right}
use Rattle.std.proofs.lemmas.Bool.{false≢true}
use Rattle.rma_types.specs.declared.accesses.Id.{Id}
use Rattle.order_rules.specs.Ordered.{JudgedAccess, is_ordered, points_for, role_in}
use Rattle.vector_clocks.specs.Marks.{before_in, is_marked, marks_of}
use Rattle.vector_clocks.specs.declared.marks.Mark.{Mark}

marked : (marks : List Mark) (a : Id) (m n : ℕ) → m ≤ n → list_any (is_marked a m) marks ≡ true →
    list_any (is_marked a n) marks ≡ true
marked [] a m n order any = absurd (false≢true any)
marked (mark ∷ marks) a m n order any = elim (or_cases (is_marked a m mark) (list_any (is_marked a m) marks) any) [
  | inl here ↦
      let parts = and_parts (nat_le mark.index m) (nat_lt a.index (slice_index mark.counts a.rank)) here in
      let low = leb-true mark.index m parts.0 in
      or_left (is_marked a n mark) (list_any (is_marked a n) marks)
      (and_from (nat_le mark.index n) (nat_lt a.index (slice_index mark.counts a.rank))
      (le-leb mark.index n (omega (arith, low, order))) parts.1)
  | inr there ↦ or_right (is_marked a n mark) (list_any (is_marked a n) marks) (marked marks a m n order there)
]

-- what is before an item is before the later ones of its log
before_later : (clocks : List (List Mark)) (a b c : Id) → b.rank ≡ c.rank → b.index ≤ c.index →
    before_in clocks a b ≡ true → before_in clocks a c ≡ true
before_later clocks a b c rank order before =
    elim (or_cases (a.rank == b.rank && nat_le a.index b.index) (list_any (is_marked a b.index) (marks_of clocks b.rank))
    before) [
      | inl own ↦
          let parts = and_parts (a.rank == b.rank) (nat_le a.index b.index) own in
          let low = leb-true a.index b.index parts.1 in
          or_left (a.rank == c.rank && nat_le a.index c.index) (list_any (is_marked a c.index) (marks_of clocks c.rank))
          (and_from (a.rank == c.rank) (nat_le a.index c.index)
          (eq-eqb a.rank c.rank (eqb-true a.rank b.rank parts.0 ∙ rank))
          (le-leb a.index c.index (omega (arith, low, order))))
      | inr other ↦
          or_right (a.rank == c.rank && nat_le a.index c.index) (list_any (is_marked a c.index) (marks_of clocks c.rank))
          (subst (λ r. list_any (is_marked a c.index) (marks_of clocks r) ≡ true) rank
          (marked (marks_of clocks b.rank) a b.index c.index order other))
    ]

any_later : (clocks : List (List Mark)) (points : List Id) (b c : Id) → b.rank ≡ c.rank → b.index ≤ c.index →
    list_any (λ point. before_in clocks point b) points ≡ true →
    list_any (λ point. before_in clocks point c) points ≡ true
any_later clocks [] b c rank order any = absurd (false≢true any)
any_later clocks (p ∷ points) b c rank order any =
    elim (or_cases (before_in clocks p b) (list_any (λ point. before_in clocks point b) points) any) [
      | inl here ↦ or_left (before_in clocks p c) (list_any (λ point. before_in clocks point c) points)
          (before_later clocks p b c rank order here)
      | inr there ↦ or_right (before_in clocks p c) (list_any (λ point. before_in clocks point c) points)
          (any_later clocks points b c rank order there)
    ]

pub ordered_later : (clocks : List (List Mark)) (a b c : JudgedAccess) → role_in b ≡ role_in c →
    b.id.rank ≡ c.id.rank → b.id.index ≤ c.id.index → is_ordered (before_in clocks) a b ≡ true →
    is_ordered (before_in clocks) a c ≡ true
ordered_later clocks a b c role rank order before =
    any_later clocks (points_for a (role_in a) (role_in c)) b.id c.id rank order
    (subst (λ r. list_any (λ point. before_in clocks point b.id) (points_for a (role_in a) r) ≡ true) role before)
