-- The pending accesses in parts, one after another.
use Rattle.std.specs.Prelude.{ℕ, ◌≡◌, ◌+◌, ◌<◌, ◌++◌, List, [], ◌∷◌, map, length, take, slice_index_or}
use Rattle.rank_rules.specs.declared.pending.PendingAccess.{PendingAccess}
use Rattle.delivery_queue.specs.declared.begun.Begun.{Begun}

abbrev pub joined : List (List Begun) → List Begun
joined [] = []
joined (block ∷ blocks) = block ++ joined blocks

-- the accesses of parts, where `ones` gives those of each
abbrev pub ones_in : {P : Type 0} → (P → List Begun) → List P → List Begun
ones_in ones parts = joined (map ones parts)

-- the accesses, and how many elements of each are touched
abbrev pub accesses_of : List Begun → List PendingAccess
accesses_of ones = map (λ (one : Begun). one.access) ones

abbrev pub touched_of : List Begun → List ℕ
touched_of ones = map (λ (one : Begun). one.touched) ones

-- one stands at a place of the whole where a block has it at an offset
pub record IsPlace (blocks : List (List Begun)) (at block offset : ℕ) : Type 0 where
  pub begins : length (joined (take block blocks)) + offset ≡ at
  pub within : offset < length (slice_index_or blocks block [])
  pub exists : block < length blocks
