-- The memory of each rank's space and allocates lies in the rank's memory, and that in the cells of all ranks.
use Rattle.std.proofs.Common.{◌≡◌, ℕ, zero, suc, ◌+◌, ◌*◌, ◌/◌, ◌%◌, ◌<◌, ◌≤◌, Bool, cond, List, [], ◌∷◌, ◌++◌, length}
use Rattle.std.proofs.Common.{get_or, Option, Some, None, refl, sym, ◌∙◌, ap, subst, arith, add-zero, zero-add}
use Rattle.std.specs.Prelude.{map, slice_get, slice_index_or, sum_by, ◌==◌, pos, negsuc}
use Rattle.std.specs.List.{find, zip, AllByRecursion}
use Rattle.std.specs.Option.{option_map_or}
use Rattle.std.proofs.lemmas.Bool.{eq-eqb, ne_eqb}
use Rattle.std.proofs.lemmas.List.Sums.{sum_by-cons}
use Rattle.rma_types.specs.declared.accesses.Access.{Access}
use Rattle.rma_types.specs.declared.calls.Call.{Call}
use Rattle.rma_types.specs.declared.calls.Flavor.{Flavor}
use Rattle.rma_types.specs.declared.calls.Flavor.TheVariants.{Allocate, Create, Dynamic}
use Rattle.rma_types.specs.declared.dtypes.Dtype.{Dtype}
use Rattle.rma_types.specs.declared.dtypes.Dtype.TheVariants.{Int8, Int16, Int32, Uint8, Uint16, Uint32, Byte}
use Rattle.rma_types.specs.declared.scripts.Script.{Script}
use Rattle.rma_types.specs.declared.scripts.Layout.{Layout}
use Rattle.rma_types.specs.declared.scripts.MemoryPart.{MemoryPart}
use Rattle.rma_types.specs.declared.scripts.CallBase.{CallBase}
use Rattle.rma_types.specs.Datatypes.{size_of}
use Rattle.rma_types.proofs.MemoryLaws.{bytes_in, first_in}
use Rattle.call_rules.proofs.LayoutLaws.{memory_is_cells, byte_in_cells}
use Rattle.board_rules.specs.Shapes.{base_of}
use Rattle.call_rules.specs.declared.elements.Piece.{Piece}
use Rattle.rma_types.specs.declared.actions.Creation.{Creation}
use Rattle.rma_types.specs.Actions.{creation_of}
use Rattle.call_rules.specs.Layout.{round_up, own_bytes, call_bytes, memory_bytes, base_for, base_at, bases_from}
use Rattle.call_rules.specs.Layout.{ranks_of, parts_from, layout, cells_of}
use Rattle.call_rules.specs.Pieces.{numbers_from, first_cell, piece_at, pieces}
use Rattle.call_rules.specs.Ranks.{natural}
use Rattle.step_laws.proofs.Lists.{each_mapped, numbers_below}
use Rattle.step_laws.specs.Inside.{bytes_at, LiesInMemory}

-- ---- the cells of a rank's memory

rounded_up : (bytes : ℕ) → bytes ≤ round_up bytes
rounded_up bytes = omega arith

abbrev pub cells_in : List MemoryPart → ℕ
cells_in parts = sum_by (λ (part : MemoryPart). part.bytes / 4) parts

-- a byte of a rank's memory lies in a cell of the parts
part_is_inside : (ranks : List (ℕ × List Call)) (cell rank address : ℕ) →
    address < bytes_in (parts_from cell ranks) rank →
    first_in (parts_from cell ranks) rank + address / 4 < cell + cells_in (parts_from cell ranks)
part_is_inside [] cell rank address h = absurd (omega arith)
part_is_inside (one ∷ ranks) cell zero address h =
    let bytes = memory_bytes one.0 one.1 in
    let split = sum_by-cons (λ (part : MemoryPart). part.bytes / 4) (record { first_cell = cell; bytes = bytes })
    (parts_from (cell + bytes / 4) ranks) in
    first bytes (cells_in (parts_from (cell + bytes / 4) ranks)) (cells_in (parts_from cell (one ∷ ranks))) split
    (byte_in_cells bytes address (memory_is_cells one.0 one.1) h)
  where
    first : (bytes rest all : ℕ) → all ≡ bytes / 4 + rest → address / 4 < bytes / 4 → cell + address / 4 < cell + all
    first bytes rest all e k = omega arith
part_is_inside (one ∷ ranks) cell (suc rank) address h =
    let bytes = memory_bytes one.0 one.1 in
    let split = sum_by-cons (λ (part : MemoryPart). part.bytes / 4) (record { first_cell = cell; bytes = bytes })
    (parts_from (cell + bytes / 4) ranks) in
    let later = part_is_inside ranks (cell + bytes / 4) rank address h in
    next (bytes / 4) (cells_in (parts_from (cell + bytes / 4) ranks)) (cells_in (parts_from cell (one ∷ ranks)))
    (first_in (parts_from (cell + bytes / 4) ranks) rank + address / 4) split later
  where
    next : (here rest all place : ℕ) → all ≡ here + rest → place < cell + here + rest → place < cell + all
    next here rest all place e k = omega arith

-- a byte of a rank's memory lies in a cell
pub byte_is_inside : (script : Script) (rank address : ℕ) → address < bytes_at (layout script) rank →
    first_cell (layout script) rank + address / 4 < cells_of (layout script)
byte_is_inside script rank address h =
    subst (λ n. first_cell (layout script) rank + address / 4 < n) (zero-add (cells_of (layout script)))
    (part_is_inside (ranks_of script) 0 rank address h)

-- ---- the elements of an access

-- an element of so many bytes ends before the bytes do
element_ends : (dtype : Dtype) (len lo element : ℕ) → element < len / size_of dtype →
    lo + element * size_of dtype < lo + len
element_ends Int8 len lo element h = omega arith
element_ends Int16 len lo element h = omega arith
element_ends Int32 len lo element h = omega arith
element_ends Uint8 len lo element h = omega arith
element_ends Uint16 len lo element h = omega arith
element_ends Uint32 len lo element h = omega arith
element_ends Byte len lo element h = omega arith

-- each element of an access that lies in memory is in a cell of the layout
pub pieces_inside : (script : Script) (access : Access) (dtype : Dtype) → LiesInMemory (layout script) access dtype →
    AllByRecursion (λ (piece : Piece). piece.cell < cells_of (layout script)) (pieces (layout script) access dtype)
pieces_inside script access dtype lies =
    each_mapped (λ element. element < 0 + access.len / size_of dtype)
    (λ (piece : Piece). piece.cell < cells_of (layout script))
    (λ element. piece_at (layout script) access.target (access.lo + element * size_of dtype))
    (λ element below. byte_is_inside script access.target (access.lo + element * size_of dtype)
    (lies.inside (access.lo + element * size_of dtype) (omega arith)
    (element_ends dtype access.len access.lo element (omega arith))))
    (numbers_from 0 (access.len / size_of dtype)) (numbers_below 0 (access.len / size_of dtype))

-- ---- the memory of an allocate

-- the base of a call among bases
abbrev pub base_among : ℕ → List CallBase → ℕ
base_among number bases = option_map_or (λ (one : CallBase). one.base)
    (find (λ (one : CallBase). one.call == number) bases) 0

abbrev pub base_by : Bool → CallBase → List CallBase → ℕ → ℕ
base_by here one bases number = option_map_or (λ (b : CallBase). b.base)
    (cond here (Some one) (find (λ (b : CallBase). b.call == number) bases)) 0

-- the base of another call is none of this one's
other_for : (flavor : Flavor) (number address at : ℕ) (bases : List CallBase) → (number ≡ at → ⊥) →
    base_among at (base_for number address flavor ++ bases) ≡ base_among at bases
other_for Allocate number address at bases apart = ap
    (λ b. base_by b (record { call = number; base = address }) bases at) (ne_eqb number at apart)
other_for Create number address at bases apart = refl
other_for Dynamic number address at bases apart = refl

other_base : (number address at : ℕ) (call : Call) (bases : List CallBase) → (number ≡ at → ⊥) →
    base_among at (base_at number address call ++ bases) ≡ base_among at bases
other_base number address at call bases apart = by_creation (creation_of call)
  where
    by_creation : (o : Option Creation) → base_among at
        (option_map_or (λ (creation : Creation). base_for number address creation.flavor) o [] ++ bases) ≡ base_among
        at bases
    by_creation None = refl
    by_creation (Some creation) = other_for creation.flavor number address at bases apart

-- an allocate's memory lies behind the address, and ends before the memory of all calls does
allocate_is_inside : (calls : List Call) (number address k at : ℕ) (call : Call) (creation : Creation) →
    slice_get calls k ≡ Some call → creation_of call ≡ Some creation →
    creation.flavor ≡ Allocate → at ≡ number + k → base_among at (bases_from number address calls) + natural
    creation.bytes ≤ address + sum_by call_bytes calls
allocate_is_inside [] number address k at call creation here makes flavor e = absurd (cc here)
allocate_is_inside (first ∷ calls) number address zero at call creation here makes flavor e =
    enough (base_among at (bases_from number address (first ∷ calls))) (natural creation.bytes) (call_bytes first)
    (sum_by call_bytes calls)
    (sum_by call_bytes (first ∷ calls)) base bytes (sum_by-cons call_bytes first calls)
  where
    is : creation_of first ≡ Some creation
    is = let same : first ≡ call = cc here in ap creation_of same ∙ makes

    enough : (base amount up rest all : ℕ) → base ≡ address → amount ≤ up → all ≡ up + rest →
        base + amount ≤ address + all
    enough base amount up rest all b m a = omega arith

    bytes : natural creation.bytes ≤ call_bytes first
    bytes = subst (λ n. natural creation.bytes ≤ n)
        (sym (ap (λ o. option_map_or (λ (c : Creation). own_bytes c.flavor c.bytes) o 0) is ∙ ap
        (λ f. own_bytes f creation.bytes) flavor)) (rounded_up (natural creation.bytes))

    base : base_among at (bases_from number address (first ∷ calls)) ≡ address
    base = ap (λ o. base_among at
        (option_map_or (λ (c : Creation). base_for number address c.flavor) o [] ++ bases_from (number + 1)
        (address + call_bytes first) calls)) is
        ∙ ap (λ f. base_among at
        (base_for number address f ++ bases_from (number + 1) (address + call_bytes first) calls)) flavor
        ∙ ap (λ b. base_by b (record { call = number; base = address })
        (bases_from (number + 1) (address + call_bytes first) calls) at)
        (eq-eqb number at (sym (e ∙ add-zero number)))
allocate_is_inside (first ∷ calls) number address (suc k) at call creation here makes flavor e =
    let later = allocate_is_inside calls (number + 1) (address + call_bytes first) k at call creation here makes
    flavor (omega arith) in
    let same = other_base number address at first (bases_from (number + 1) (address + call_bytes first) calls)
    (apart at number e) in
    next (base_among at (bases_from number address (first ∷ calls)))
    (base_among at (bases_from (number + 1) (address + call_bytes first) calls)) (natural creation.bytes)
    (call_bytes first)
    (sum_by call_bytes calls) (sum_by call_bytes (first ∷ calls)) same (sum_by-cons call_bytes first calls) later
  where
    apart : (at number : ℕ) → at ≡ number + suc k → number ≡ at → ⊥
    apart at number a b = omega arith

    next : (base later amount bytes rest all : ℕ) → base ≡ later → all ≡ bytes + rest →
        later + amount ≤ address + bytes + rest → base + amount ≤ address + all
    next base later amount bytes rest all b a h = omega arith

-- ---- the ranks of a script

rank_is : (spaces : List ℕ) (lists : List (List Call)) (rank : ℕ) → rank < length spaces → rank < length lists →
    slice_get (zip spaces lists) rank ≡ Some (get_or spaces rank 0, get_or lists rank [])
rank_is [] lists rank h k = absurd (omega arith)
rank_is (space ∷ spaces) [] rank h k = absurd (omega arith)
rank_is (space ∷ spaces) (list ∷ lists) zero h k = refl
rank_is (space ∷ spaces) (list ∷ lists) (suc rank) h k = rank_is spaces lists rank (omega arith) (omega arith)

bytes_are : (ranks : List (ℕ × List Call)) (cell rank : ℕ) (one : ℕ × List Call) → slice_get ranks rank ≡ Some one →
    bytes_in (parts_from cell ranks) rank ≡ memory_bytes one.0 one.1
bytes_are [] cell rank one e = absurd (cc e)
bytes_are (first ∷ ranks) cell zero one e = let is : first ≡ one = cc e in ap
    (λ (r : ℕ × List Call). memory_bytes r.0 r.1) is
bytes_are (first ∷ ranks) cell (suc rank) one e = bytes_are ranks (cell + memory_bytes first.0 first.1 / 4) rank one e

bases_are : (ranks : List (ℕ × List Call)) (rank number : ℕ) (one : ℕ × List Call) → slice_get ranks rank ≡ Some one →
    base_among number (slice_index_or (map (λ (r : ℕ × List Call). bases_from 0 (round_up r.0) r.1) ranks) rank []) ≡
    base_among number (bases_from 0 (round_up one.0) one.1)
bases_are [] rank number one e = absurd (cc e)
bases_are (first ∷ ranks) zero number one e = let is : first ≡ one = cc e in ap
    (λ (r : ℕ × List Call). base_among number (bases_from 0 (round_up r.0) r.1)) is
bases_are (first ∷ ranks) (suc rank) number one e = bases_are ranks rank number one e

-- the bytes of a rank's memory are those of its space and its calls
pub memory_is : (script : Script) (rank : ℕ) → rank < length script.spaces → rank < length script.calls →
    bytes_at (layout script) rank ≡ memory_bytes (get_or script.spaces rank 0) (get_or script.calls rank [])
memory_is script rank spaces lists = bytes_are (ranks_of script) 0 rank
    (get_or script.spaces rank 0, get_or script.calls rank []) (rank_is script.spaces script.calls rank spaces lists)

-- a rank's space lies in its memory
pub space_has_memory : (script : Script) (rank : ℕ) → rank < length script.spaces → rank < length script.calls →
    slice_index_or script.spaces rank 0 ≤ bytes_at (layout script) rank
space_has_memory script rank spaces lists =
    enough (slice_index_or script.spaces rank 0) (bytes_at (layout script) rank)
    (sum_by call_bytes (get_or script.calls rank [])) (memory_is script rank spaces lists)
    (rounded_up (slice_index_or script.spaces rank 0))
  where
    enough : (space all calls : ℕ) → all ≡ round_up (get_or script.spaces rank 0) + calls →
        space ≤ round_up (get_or script.spaces rank 0) → space ≤ all
    enough space all calls e h = omega arith

-- the memory of an allocate of a rank lies in the rank's memory
pub allocate_has_memory : (script : Script) (rank number : ℕ) (call : Call) (creation : Creation) →
    rank < length script.spaces → rank < length script.calls →
    slice_get (slice_index_or script.calls rank []) number ≡ Some call → creation_of call ≡ Some creation →
    creation.flavor ≡ Allocate →
    base_of (layout script) rank number + natural creation.bytes ≤ bytes_at (layout script) rank
allocate_has_memory script rank number call creation spaces lists here makes flavor =
    let one : ℕ × List Call = (get_or script.spaces rank 0, get_or script.calls rank []) in
    all (base_of (layout script) rank number) (bytes_at (layout script) rank)
    (bases_are (ranks_of script) rank number one (rank_is script.spaces script.calls rank spaces lists))
    (memory_is script rank spaces lists)
    (allocate_is_inside one.1 0 (round_up one.0) number number call creation here makes flavor (sym (zero-add number)))
  where
    all : (base most : ℕ) → base ≡ base_among number
        (bases_from 0 (round_up (get_or script.spaces rank 0)) (get_or script.calls rank [])) →
        most ≡ memory_bytes (get_or script.spaces rank 0) (get_or script.calls rank []) →
        base_among number (bases_from 0 (round_up (get_or script.spaces rank 0)) (get_or script.calls rank [])) +
        natural creation.bytes
        ≤ round_up (get_or script.spaces rank 0) + sum_by call_bytes (get_or script.calls rank []) →
        base + natural creation.bytes ≤ most
    all base most b m h = rw (b, m) h
