-- Where elements lie: elements that share a byte of a cell are of one rank's memory, and their accesses overlap.
use Rattle.std.proofs.Common.{◌≡◌, ℕ, zero, suc, ◌+◌, ◌*◌, ◌/◌, ◌%◌, ◌<◌, ◌≤◌, ◌⊎◌, inl, inr, true, List, [], ◌∷◌}
use Rattle.std.proofs.Common.{Some, refl, ap, sym, ◌∙◌, subst, arith}
use Rattle.std.specs.Prelude.{◌&&◌, map, slice_get, nat_lt}
use Rattle.std.proofs.lemmas.Bool.{and_from, lt-ltb}
use Rattle.rma_types.specs.declared.accesses.Access.{Access}
use Rattle.rma_types.specs.declared.calls.Call.{Call}
use Rattle.rma_types.specs.declared.dtypes.Dtype.{Dtype}
use Rattle.rma_types.specs.declared.dtypes.Dtype.TheVariants.{Int8, Int16, Int32, Uint8, Uint16, Uint32, Byte}
use Rattle.rma_types.specs.declared.scripts.Layout.{Layout}
use Rattle.rma_types.specs.declared.scripts.Script.{Script}
use Rattle.rma_types.specs.Datatypes.{size_of}
use Rattle.rma_types.proofs.MemoryLaws.{bytes_in, first_in}
use Rattle.call_rules.specs.declared.elements.Piece.{Piece}
use Rattle.call_rules.specs.Layout.{memory_bytes, ranks_of, parts_from, layout}
use Rattle.call_rules.specs.Pieces.{numbers_from, first_cell, piece_at, element_address, pieces}
use Rattle.call_rules.proofs.LayoutLaws.{memory_is_cells, byte_in_cells}
use Rattle.order_rules.specs.Rules.{bytes_reached}
use Rattle.rank_rules.specs.Ranges.{do_overlap}
use Rattle.step_laws.specs.Inside.{LiesInMemory}

-- ---- the cells of ranks are apart

not_before : (ranks : List (ℕ × List Call)) (cell rank address : ℕ) → address < bytes_in (parts_from cell ranks) rank →
    cell ≤ first_in (parts_from cell ranks) rank
not_before [] cell rank address h = absurd (omega arith)
not_before (one ∷ ranks) cell zero address h = omega arith
not_before (one ∷ ranks) cell (suc rank) address h =
    let rest = not_before ranks (cell + memory_bytes one.0 one.1 / 4) rank address h in
    low cell (memory_bytes one.0 one.1 / 4) _ rest
  where
    low : (a b c : ℕ) → a + b ≤ c → a ≤ c
    low a b c h = omega arith

apart : (a b c d e : ℕ) → a < b → c + b ≤ d → c + a ≡ d + e → ⊥
apart a b c d e h k same = omega arith

one_rank : (ranks : List (ℕ × List Call)) (cell r s a b : ℕ) → a < bytes_in (parts_from cell ranks) r →
    b < bytes_in (parts_from cell ranks) s →
    first_in (parts_from cell ranks) r + a / 4 ≡ first_in (parts_from cell ranks) s + b / 4 → r ≡ s
one_rank [] cell r s a b h k same = absurd (omega arith)
one_rank (one ∷ ranks) cell zero zero a b h k same = refl
one_rank (one ∷ ranks) cell zero (suc s) a b h k same =
    let bytes = memory_bytes one.0 one.1 in
    absurd (apart (a / 4) (bytes / 4) cell (first_in (parts_from (cell + bytes / 4) ranks) s) (b / 4)
    (byte_in_cells bytes a (memory_is_cells one.0 one.1) h) (not_before ranks (cell + bytes / 4) s b k) same)
one_rank (one ∷ ranks) cell (suc r) zero a b h k same =
    let bytes = memory_bytes one.0 one.1 in
    absurd (apart (b / 4) (bytes / 4) cell (first_in (parts_from (cell + bytes / 4) ranks) r) (a / 4)
    (byte_in_cells bytes b (memory_is_cells one.0 one.1) k) (not_before ranks (cell + bytes / 4) r a h) (sym same))
one_rank (one ∷ ranks) cell (suc r) (suc s) a b h k same =
    ap suc (one_rank ranks (cell + memory_bytes one.0 one.1 / 4) r s a b h k same)

-- ---- elements

-- an element ends where its access does, or before
element_ends : (dtype : Dtype) (len lo element : ℕ) → element < len / size_of dtype →
    lo + element * size_of dtype + size_of dtype ≤ lo + len
element_ends Int8 len lo element h = omega arith
element_ends Int16 len lo element h = omega arith
element_ends Int32 len lo element h = omega arith
element_ends Uint8 len lo element h = omega arith
element_ends Uint16 len lo element h = omega arith
element_ends Uint32 len lo element h = omega arith
element_ends Byte len lo element h = omega arith

pub some_bytes : (dtype : Dtype) → 0 < size_of dtype
some_bytes Int8 = omega arith
some_bytes Int16 = omega arith
some_bytes Int32 = omega arith
some_bytes Uint8 = omega arith
some_bytes Uint16 = omega arith
some_bytes Uint32 = omega arith
some_bytes Byte = omega arith

-- an element stands in its cell at a multiple of its size
pub record IsAligned (first : ℕ) (dtype : Dtype) : Type 0 where
  pub multiple : first % size_of dtype ≡ 0
  pub inside : first + size_of dtype ≤ 4

aligned_at : (dtype : Dtype) (lo element : ℕ) → lo % size_of dtype ≡ 0 →
    IsAligned ((lo + element * size_of dtype) % 4) dtype
aligned_at Int8 lo element h = record { multiple = omega arith; inside = omega arith }
aligned_at Int16 lo element h = record { multiple = omega arith; inside = omega arith }
aligned_at Int32 lo element h = record { multiple = omega arith; inside = omega arith }
aligned_at Uint8 lo element h = record { multiple = omega arith; inside = omega arith }
aligned_at Uint16 lo element h = record { multiple = omega arith; inside = omega arith }
aligned_at Uint32 lo element h = record { multiple = omega arith; inside = omega arith }
aligned_at Byte lo element h = record { multiple = omega arith; inside = omega arith }

mapped_number : {X : Type 0} (f : ℕ → X) (first count k : ℕ) (x : X) →
    slice_get (map f (numbers_from first count)) k ≡ Some x →
    (x ≡ f (first + k)) × (k < count)
mapped_number f first zero k x e = absurd (cc e)
mapped_number f first (suc count) zero x e =
    let same : first ≡ first + 0 = omega arith in
    let is : f first ≡ x = cc e in (sym is ∙ ap f same, omega arith)
mapped_number f first (suc count) (suc k) x e =
    let rest = mapped_number f (first + 1) count k x e in
    let same : first + 1 + k ≡ first + suc k = omega arith in
    (rest.0 ∙ ap f same, omega (arith, rest.1))

-- an element of an access that lies in memory, and its piece
pub record IsElement (memory : Layout) (access : Access) (dtype : Dtype) (element : ℕ) (piece : Piece) : Type 0 where
  pub is : piece ≡ piece_at memory access.target (element_address access dtype element)
  pub below : element < access.len / size_of dtype

pub element_of : (memory : Layout) (access : Access) (dtype : Dtype) (element : ℕ) (piece : Piece) →
    slice_get (pieces memory access dtype) element ≡ Some piece → IsElement memory access dtype element piece
element_of memory access dtype element piece e =
    let one = mapped_number (λ k. piece_at memory access.target (element_address access dtype k)) 0
    (access.len / size_of dtype) element piece e in
    let same : 0 + element ≡ element = omega arith in
    record { is = one.0 ∙ ap (λ k. piece_at memory access.target (element_address access dtype k)) same; below = one.1 }

pub piece_aligned : (memory : Layout) (access : Access) (dtype : Dtype) (element : ℕ) (piece : Piece) →
    LiesInMemory memory access dtype → IsElement memory access dtype element piece → IsAligned piece.first_byte dtype
piece_aligned memory access dtype element piece lies is =
    subst (λ (p : Piece). IsAligned p.first_byte dtype) (sym is.is) (aligned_at dtype access.lo element lies.aligned)

-- two aligned elements of a cell that share a byte: the first lies in the second, or the second in the first
sizes : (dtype : Dtype) → (size_of dtype ≡ 1) ⊎ ((size_of dtype ≡ 2) ⊎ (size_of dtype ≡ 4))
sizes Int8 = inl refl
sizes Int16 = inr (inl refl)
sizes Int32 = inr (inr refl)
sizes Uint8 = inl refl
sizes Uint16 = inr (inl refl)
sizes Uint32 = inr (inr refl)
sizes Byte = inl refl

abbrev pub LiesIn : ℕ → ℕ → ℕ → ℕ → Type 0
LiesIn first count base whole = (base ≤ first) × (first + count ≤ base + whole)

abbrev AreNested : ℕ → ℕ → ℕ → ℕ → Type 0
AreNested a m b n = LiesIn a m b n ⊎ LiesIn b n a m

two_two : (a b : ℕ) → a % 2 ≡ 0 → b % 2 ≡ 0 → a < b + 2 → b < a + 2 → a ≡ b
two_two a b h k l m = omega arith

nested_sizes : (a b m n : ℕ) → a % m ≡ 0 → b % n ≡ 0 → a + m ≤ 4 → b + n ≤ 4 → a < b + n → b < a + m →
    (m ≡ 1) ⊎ ((m ≡ 2) ⊎ (m ≡ 4)) → (n ≡ 1) ⊎ ((n ≡ 2) ⊎ (n ≡ 4)) → AreNested a m b n
nested_sizes a b m n ha hb ia ib l k (inl one) right = inl (omega arith, omega arith)
nested_sizes a b m n ha hb ia ib l k (inr left) (inl one) = inr (omega arith, omega arith)
nested_sizes a b m n ha hb ia ib l k (inr (inl two)) (inr (inl other)) =
    let first : a % 2 ≡ 0 = subst (λ x. a % x ≡ 0) two ha in
    let second : b % 2 ≡ 0 = subst (λ x. b % x ≡ 0) other hb in
    let same = two_two a b first second (omega arith) (omega arith) in inl (omega arith, omega arith)
nested_sizes a b m n ha hb ia ib l k (inr (inr four)) (inr right) = inr (omega arith, within right)
  where
    within : (n ≡ 2) ⊎ (n ≡ 4) → b + n ≤ a + m
    within (inl two) = omega arith
    within (inr four') = omega arith
nested_sizes a b m n ha hb ia ib l k (inr (inl two)) (inr (inr four)) = inl (omega arith, omega arith)

pub nested : (d e : Dtype) (a b : ℕ) → IsAligned a d → IsAligned b e → a < b + size_of e → b < a + size_of d →
    AreNested a (size_of d) b (size_of e)
nested d e a b first second low high =
    nested_sizes a b (size_of d) (size_of e) first.multiple second.multiple first.inside second.inside low high
    (sizes d) (sizes e)

-- of one datatype they are one
pub one_element : (d : Dtype) (a b : ℕ) → IsAligned a d → IsAligned b d → a < b + size_of d → b < a + size_of d → a ≡ b
one_element d a b first second low high = elim (nested d d a b first second low high) [
  | inl inner ↦ omega (arith, inner.0, inner.1)
  | inr outer ↦ omega (arith, outer.0, outer.1)
]

-- ---- elements that share a byte

-- two elements of accesses in memory share a byte of a cell: so their accesses reach one rank and overlap
pub record DoMeet (a b : Access) : Type 0 where
  pub target : a.target ≡ b.target
  pub some_a : nat_lt 0 a.len ≡ true
  pub some_b : nat_lt 0 b.len ≡ true
  pub overlap : do_overlap (bytes_reached a) (bytes_reached b) ≡ true

meet_numbers : (lo len at size lo' len' at' size' : ℕ) → lo ≤ at → at + size ≤ lo + len → lo' ≤ at' →
    at' + size' ≤ lo' + len' →
    at / 4 ≡ at' / 4 → at % 4 < at' % 4 + size' → at' % 4 < at % 4 + size → (lo < lo' + len') × (lo' < lo + len)
meet_numbers lo len at size lo' len' at' size' a b c d e f g = (omega arith, omega arith)

pub share_byte : (script : Script) (a b : Access) (d e : Dtype) (i j : ℕ) (p q : Piece) →
    LiesInMemory (layout script) a d → LiesInMemory (layout script) b e →
    IsElement (layout script) a d i p → IsElement (layout script) b e j q → p.cell ≡ q.cell →
    p.first_byte < q.first_byte + size_of e → q.first_byte < p.first_byte + size_of d → DoMeet a b
share_byte script a b d e i j p q lies lies' is is' cell low high =
    let at : ℕ = a.lo + i * size_of d in
    let at' : ℕ = b.lo + j * size_of e in
    let ends = element_ends d a.len a.lo i is.below in
    let ends' = element_ends e b.len b.lo j is'.below in
    let some = some_bytes d in
    let some' = some_bytes e in
    let inside = lies.inside at (omega arith) (omega (arith, ends, some)) in
    let inside' = lies'.inside at' (omega arith) (omega (arith, ends', some')) in
    let same : first_cell (layout script) a.target + at / 4 ≡ first_cell (layout script) b.target + at' / 4 =
    sym (ap (λ (x : Piece). x.cell) is.is) ∙ cell ∙ ap (λ (x : Piece). x.cell) is'.is in
    let target : a.target ≡ b.target = one_rank (ranks_of script) 0 a.target b.target at at' inside inside' same in
    let first : first_cell (layout script) a.target ≡ first_cell (layout script) b.target =
    ap (first_cell (layout script)) target in
    let rows : at / 4 ≡ at' / 4 = omega (arith, same, first) in
    let byte : p.first_byte ≡ at % 4 = ap (λ (x : Piece). x.first_byte) is.is in
    let byte' : q.first_byte ≡ at' % 4 = ap (λ (x : Piece). x.first_byte) is'.is in
    let meet = meet_numbers a.lo a.len at (size_of d) b.lo b.len at' (size_of e) (omega arith) ends
    (omega arith) ends' rows
    (omega (arith, low, byte, byte')) (omega (arith, high, byte, byte')) in
    let some_a : nat_lt 0 a.len ≡ true = lt-ltb 0 a.len (omega (arith, ends, some)) in
    let some_b : nat_lt 0 b.len ≡ true = lt-ltb 0 b.len (omega (arith, ends', some')) in
    record {
      target = target;
      some_a = some_a;
      some_b = some_b;
      overlap = and_from (nat_lt 0 a.len && nat_lt 0 b.len && nat_lt a.lo (b.lo + b.len)) (nat_lt b.lo (a.lo + a.len))
          (and_from (nat_lt 0 a.len && nat_lt 0 b.len) (nat_lt a.lo (b.lo + b.len))
          (and_from (nat_lt 0 a.len) (nat_lt 0 b.len) some_a some_b) (lt-ltb a.lo (b.lo + b.len) meet.0))
          (lt-ltb b.lo (a.lo + a.len) meet.1);
    }
