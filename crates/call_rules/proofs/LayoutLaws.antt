-- The memory that a script asks for is whole cells.
use Rattle.std.proofs.Common.{ℕ, ◌≡◌, ◌*◌, ◌+◌, ◌/◌, arith, refl, Option, None, Some, List, [], ◌∷◌, subst, sym, ◌<◌}
use Rattle.std.proofs.lemmas.List.Sums.{sum_by-cons}
use Rattle.std.specs.Option.{option_map_or}
use Rattle.std.specs.Prelude.{ℤ, sum_by}
use Rattle.rma_types.specs.Actions.{creation_of}
use Rattle.rma_types.specs.declared.actions.Creation.{Creation}
use Rattle.rma_types.specs.declared.calls.Call.{Call}
use Rattle.rma_types.specs.declared.calls.Flavor.{Flavor}
use Rattle.rma_types.specs.declared.calls.Flavor.TheVariants.{Allocate, Create, Dynamic}
use Rattle.call_rules.specs.Layout.{round_up, own_bytes, call_bytes, memory_bytes}
use Rattle.call_rules.specs.Ranks.{natural}

-- a number of bytes that is a number of cells
abbrev pub AreCells : ℕ → Type 0
AreCells bytes = (cells : ℕ) × (bytes ≡ 4 * cells)

pub rounded_is_cells : (bytes : ℕ) → AreCells (round_up bytes)
rounded_is_cells bytes = (2 * ((bytes + 7) / 8), omega arith)

pub own_is_cells : (flavor : Flavor) (bytes : ℤ) → AreCells (own_bytes flavor bytes)
own_is_cells Allocate bytes = rounded_is_cells (natural bytes)
own_is_cells Create bytes = (0, refl)
own_is_cells Dynamic bytes = (0, refl)

pub call_is_cells : (call : Call) → AreCells (call_bytes call)
call_is_cells call = by_creation (creation_of call)
  where
    by_creation : (o : Option Creation) →
        AreCells (option_map_or (λ (creation : Creation). own_bytes creation.flavor creation.bytes) o 0)
    by_creation None = (0, refl)
    by_creation (Some creation) = own_is_cells creation.flavor creation.bytes

pub more_cells : (a b : ℕ) → AreCells a → AreCells b → AreCells (a + b)
more_cells a b (m, h) (n, k) = (m + n, omega arith)

pub calls_are_cells : (calls : List Call) → AreCells (sum_by call_bytes calls)
calls_are_cells [] = (0, refl)
calls_are_cells (call ∷ calls) =
    subst AreCells (sym (sum_by-cons call_bytes call calls))
    (more_cells (call_bytes call) (sum_by call_bytes calls) (call_is_cells call) (calls_are_cells calls))

pub memory_is_cells : (space : ℕ) (calls : List Call) → AreCells (memory_bytes space calls)
memory_is_cells space calls = more_cells (round_up space) (sum_by call_bytes calls) (rounded_is_cells space)
    (calls_are_cells calls)

-- a byte of some cells lies in one of them
pub byte_in_cells : (bytes address : ℕ) → AreCells bytes → address < bytes → address / 4 < bytes / 4
byte_in_cells bytes address (cells, e) h = omega arith
