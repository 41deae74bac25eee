-- A layout of whole parts.
use Rattle.std.proofs.Common.{◌≡◌, ℕ, zero, suc, ◌≤◌, List, [], length, replicate, ap, sym, subst}
use Rattle.std.proofs.Common.{◌∙◌, arith}
use Rattle.std.specs.Prelude.{slice_get}
use Rattle.std.specs.Option.{option_map_or}
use Rattle.std.proofs.lemmas.List.{length-replicate}
use Rattle.rma_types.specs.declared.scripts.CallBase.{CallBase}
use Rattle.rma_types.specs.declared.scripts.MemoryPart.{MemoryPart}
use Rattle.sync_board.specs.Boards.{IsLayoutOf}

-- the part of memory that each rank has
abbrev pub whole_part : MemoryPart
whole_part = record { first_cell = 0; bytes = 65536 }

few_bytes : (n rank : ℕ) → option_map_or (λ (part : MemoryPart). part.bytes)
    (slice_get (replicate n whole_part) rank) 0 ≤ 65536
few_bytes zero rank = omega arith
few_bytes (suc n) zero = omega arith
few_bytes (suc n) (suc rank) = few_bytes n rank

pub layout_by : (ranks n : ℕ) (parts : List MemoryPart) (bases : List (List CallBase)) → n ≡ ranks →
    parts ≡ replicate n whole_part → bases ≡ replicate n [] →
    IsLayoutOf ranks (record { parts = parts; bases = bases })
layout_by ranks n parts bases same of_parts of_bases = record {
  parts = ap length of_parts ∙ length-replicate n whole_part ∙ same;
  bases = ap length of_bases ∙ length-replicate n [] ∙ same;
  bytes = λ rank. subst (λ p. option_map_or (λ (part : MemoryPart). part.bytes) (slice_get p rank) 0 ≤ 65536)
      (sym of_parts) (few_bytes n rank);
}
