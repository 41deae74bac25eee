-- The memory that a script asks for, and where each rank's part of it lies: this project's profile.
use Rattle.std.specs.Prelude.{ℕ, ◌+◌, ◌*◌, ◌/◌, ◌≤◌, ℤ, List, [], ◌∷◌, ◌++◌, length, map, sum_by}
use Rattle.std.specs.List.{zip}
use Rattle.std.specs.Option.{option_map_or}
use Rattle.rma_types.specs.declared.calls.Call.{Call}
use Rattle.rma_types.specs.declared.calls.Flavor.{Flavor}
use Rattle.rma_types.specs.declared.calls.Flavor.TheVariants.{Allocate, Create, Dynamic}
use Rattle.rma_types.specs.declared.scripts.Script.{Script}
use Rattle.rma_types.specs.declared.scripts.Layout.{Layout}
use Rattle.rma_types.specs.declared.scripts.MemoryPart.{MemoryPart}
use Rattle.rma_types.specs.declared.scripts.CallBase.{CallBase}
use Rattle.rma_types.specs.declared.actions.Creation.{Creation}
use Rattle.rma_types.specs.Actions.{creation_of}
use Rattle.call_rules.specs.Ranks.{natural}

-- up to a multiple of 8
abbrev pub round_up : ℕ → ℕ
round_up bytes = 8 * ((bytes + 7) / 8)

-- the bytes of memory that a creation of a flavor brings: an allocate alone brings some (MPI 3.1, section 11.2.2)
abbrev pub own_bytes : Flavor → ℤ → ℕ
own_bytes Allocate bytes = round_up (natural bytes)
own_bytes Create bytes = 0
own_bytes Dynamic bytes = 0

-- the bytes of memory that stand for a call, whether it will be accepted or not
abbrev pub call_bytes : Call → ℕ
call_bytes call = option_map_or (λ (creation : Creation). own_bytes creation.flavor creation.bytes) (creation_of call) 0

-- the bytes of a rank's memory: its space, and then a part for each allocate
abbrev pub memory_bytes : ℕ → List Call → ℕ
memory_bytes space calls = round_up space + sum_by call_bytes calls

-- a base for a creation of this flavor: for an allocate alone
abbrev pub base_for : ℕ → ℕ → Flavor → List CallBase
base_for number address Allocate = record { call = number; base = address } ∷ []
base_for number address Create = []
base_for number address Dynamic = []

-- a base for an allocate, and none for any other call
abbrev pub base_at : ℕ → ℕ → Call → List CallBase
base_at number address call = option_map_or (λ (creation : Creation). base_for number address creation.flavor)
    (creation_of call) []

-- the bases of the calls from this number and this address on
abbrev pub bases_from : ℕ → ℕ → List Call → List CallBase
bases_from number address [] = []
bases_from number address (call ∷ calls) = base_at number address call ++ bases_from (number + 1)
    (address + call_bytes call) calls

-- each rank's space and calls
abbrev pub ranks_of : Script → List (ℕ × List Call)
ranks_of script = zip script.spaces script.calls

-- the ranks' parts, from this cell on; a cell is 4 bytes
abbrev pub parts_from : ℕ → List (ℕ × List Call) → List MemoryPart
parts_from cell [] = []
parts_from cell (rank ∷ ranks) =
    let bytes = memory_bytes rank.0 rank.1 in
    record { first_cell = cell; bytes = bytes } ∷ parts_from (cell + bytes / 4) ranks

-- the ranks' cells follow each other in the order of the ranks; in each rank's memory its allocates follow its space
abbrev pub layout : Script → Layout
layout script = record {
  parts = parts_from 0 (ranks_of script);
  bases = map (λ rank. bases_from 0 (round_up rank.0) rank.1) (ranks_of script);
}

-- the cells of all ranks
abbrev pub cells_of : Layout → ℕ
cells_of layout = sum_by (λ part. part.bytes / 4) layout.parts

-- the bytes of memory of all ranks
abbrev pub memory_of : Script → ℕ
memory_of script = sum_by (λ rank. memory_bytes rank.0 rank.1) (ranks_of script)

-- the calls of all ranks
abbrev pub call_count : Script → ℕ
call_count script = sum_by length script.calls

-- the totals of a script are within their limits
pub record IsWithinLimits (script : Script) : Type 0 where
  pub calls : call_count script ≤ 65536
  pub memory : memory_of script ≤ 65536
