-- An access that lies in memory lies in the cells of the layout.
use Rattle.std.proofs.Common.{◌≡◌, ℕ, zero, suc, ◌+◌, ◌*◌, ◌/◌, ◌<◌, ◌≤◌, List, [], ◌∷◌, Option, Some, sym, subst}
use Rattle.std.proofs.Common.{arith}
use Rattle.std.specs.Prelude.{◌^◌}
use Rattle.std.specs.List.{sum_by}
use Rattle.std.specs.Option.{option_map_or}
use Rattle.std.proofs.lemmas.List.Sums.{sum_by-cons}
use Rattle.rma_types.specs.declared.accesses.Access.{Access}
use Rattle.rma_types.specs.declared.calls.Call.{Call}
use Rattle.rma_types.specs.declared.dtypes.Dtype.{Dtype}
use Rattle.rma_types.specs.declared.dtypes.Dtype.TheVariants.{Int8, Int16, Int32, Uint8, Uint16, Uint32, Byte}
use Rattle.rma_types.specs.declared.scripts.MemoryPart.{MemoryPart}
use Rattle.rma_types.specs.declared.scripts.Script.{Script}
use Rattle.rma_types.specs.Datatypes.{size_of}
use Rattle.rma_types.proofs.MemoryLaws.{bytes_in}
use Rattle.access_steps.specs.Plans.{LiesWithin}
use Rattle.rma_types.specs.declared.actions.Transfer.{Transfer}
use Rattle.rma_types.specs.Actions.{transfer_of}
use Rattle.call_rules.specs.Layout.{layout, cells_of, memory_bytes, memory_of, parts_from, ranks_of}
use Rattle.call_rules.specs.Pieces.{piece_at}
use Rattle.call_rules.specs.Ranks.{natural}
use Rattle.call_rules.specs.Transfers.{bytes_of}
use Rattle.call_rules.specs.WellFormed.{IsWellFormed}
use Rattle.step_laws.proofs.Memory.{cells_in, byte_is_inside}
use Rattle.step_laws.specs.Inside.{bytes_at, LiesInMemory}

abbrev memory_in : List (ℕ × List Call) → ℕ
memory_in ranks = sum_by (λ (rank : ℕ × List Call). memory_bytes rank.0 rank.1) ranks

few_cells_in : (ranks : List (ℕ × List Call)) (cell : ℕ) → cells_in (parts_from cell ranks) ≤ memory_in ranks
few_cells_in [] cell = omega arith
few_cells_in (one ∷ ranks) cell =
    let bytes = memory_bytes one.0 one.1 in
    more bytes (cells_in (parts_from (cell + bytes / 4) ranks)) (memory_in ranks)
    (cells_in (parts_from cell (one ∷ ranks))) (memory_in (one ∷ ranks))
    (sum_by-cons (λ (part : MemoryPart). part.bytes / 4) (record { first_cell = cell; bytes = bytes })
    (parts_from (cell + bytes / 4) ranks))
    (sum_by-cons (λ (rank : ℕ × List Call). memory_bytes rank.0 rank.1) one ranks)
    (few_cells_in ranks (cell + bytes / 4))
  where
    more : (bytes cells rest all most : ℕ) → all ≡ bytes / 4 + cells → most ≡ bytes + rest → cells ≤ rest → all ≤ most
    more bytes cells rest all most e f h = omega arith

few_bytes_in : (ranks : List (ℕ × List Call)) (cell rank : ℕ) → bytes_in (parts_from cell ranks) rank ≤ memory_in ranks
few_bytes_in [] cell rank = omega arith
few_bytes_in (one ∷ ranks) cell zero =
    first (memory_bytes one.0 one.1) (memory_in ranks) (memory_in (one ∷ ranks))
    (sum_by-cons (λ (rank : ℕ × List Call). memory_bytes rank.0 rank.1) one ranks)
  where
    first : (bytes rest most : ℕ) → most ≡ bytes + rest → bytes ≤ most
    first bytes rest most e = omega arith
few_bytes_in (one ∷ ranks) cell (suc rank) =
    let bytes = memory_bytes one.0 one.1 in
    later bytes (memory_in ranks) (memory_in (one ∷ ranks)) (bytes_in (parts_from (cell + bytes / 4) ranks) rank)
    (sum_by-cons (λ (rank : ℕ × List Call). memory_bytes rank.0 rank.1) one ranks)
    (few_bytes_in ranks (cell + bytes / 4) rank)
  where
    later : (bytes rest most one : ℕ) → most ≡ bytes + rest → one ≤ rest → one ≤ most
    later bytes rest most one e h = omega arith

pub cells_are_few : (script : Script) → IsWellFormed script → cells_of (layout script) ≤ 65536
cells_are_few script formed =
    within (cells_of (layout script)) (memory_of script) (few_cells_in (ranks_of script) 0) formed.limits.memory
  where
    within : (a b : ℕ) → a ≤ b → b ≤ 65536 → a ≤ 65536
    within a b h k = omega arith

pub bytes_are_few : (script : Script) → IsWellFormed script → (rank : ℕ) → bytes_at (layout script) rank ≤ 65536
bytes_are_few script formed rank =
    within (bytes_at (layout script) rank) (memory_of script) (few_bytes_in (ranks_of script) 0 rank)
    formed.limits.memory
  where
    within : (a b : ℕ) → a ≤ b → b ≤ 65536 → a ≤ 65536
    within a b h k = omega arith

-- an element lies before the end
before_end : (dtype : Dtype) (lo element count : ℕ) → element < count →
    lo + element * size_of dtype < lo + count * size_of dtype
before_end Int8 lo element count h = omega arith
before_end Int16 lo element count h = omega arith
before_end Int32 lo element count h = omega arith
before_end Uint8 lo element count h = omega arith
before_end Uint16 lo element count h = omega arith
before_end Uint32 lo element count h = omega arith
before_end Byte lo element count h = omega arith

pub lies_within : (script : Script) (access : Access) (call : Call) (t : Transfer) → IsWellFormed script →
    transfer_of call ≡ Some t → access.len ≡ bytes_of t → LiesInMemory (layout script) access t.dtype →
    LiesWithin (layout script) access call (cells_of (layout script))
lies_within script access call t formed moves long lies element below =
    let count : element < natural t.count =
    subst (λ (o : Option Transfer). element < option_map_or (λ (x : Transfer). natural x.count) o 0) moves below in
    let address : ℕ = access.lo + element * size_of t.dtype in
    let ends : address < access.lo + access.len =
    subst (λ n. address < access.lo + n) (sym long) (before_end t.dtype access.lo element (natural t.count) count) in
    let inside = byte_is_inside script access.target address
    (lies.inside address (from access.lo (element * size_of t.dtype)) ends) in
    subst (λ (o : Option Transfer). let piece = piece_at (layout script) access.target
    (access.lo + element * option_map_or (λ (x : Transfer). size_of x.dtype) o 1) in
    (piece.cell < cells_of (layout script)) × (piece.cell < 2 ^ 32)) (sym moves)
    (inside, small _ (cells_of (layout script)) inside (cells_are_few script formed))
  where
    from : (a b : ℕ) → a ≤ a + b
    from a b = omega arith

    small : (a b : ℕ) → a < b → b ≤ 65536 → a < 2 ^ 32
    small a b h k = omega arith
