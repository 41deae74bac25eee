-- Lists that have an item for an index once it was used: the sides and the rounds of the ranks on one window. An index
-- past the end stands for a rank that has done nothing.
use Rattle.std.specs.Prelude.{◌≡◌, ℕ, ◌≢◌, List, [], slice_get}
use Rattle.std.specs.Option.{MatchOption}
use Rattle.sync_board.specs.Rounds.{HasRounds}
use Rattle.sync_board.specs.Sides.{Done, Keeps}
use Rattle.sync_board.specs.declared.rounds.Rounds.{Rounds}
use Rattle.sync_board.specs.declared.sides.Side.{Side}

-- no post, start, complete or wait
pub record HasNoSide (d : Done) : Type 0 where
  pub posts : d.posts ≡ []
  pub starts : d.starts ≡ []
  pub completes : d.completes ≡ 0
  pub waits : d.waits ≡ 0

-- no arrival
pub record HasNoRounds (d : Done) : Type 0 where
  pub creations : d.creations ≡ []
  pub frees : d.frees ≡ []
  pub fences : d.fences ≡ []

-- the item at an index is one of the kind, or there is none
abbrev pub IsAt : {X : Type 0} → List X → ℕ → Type 0 → (X → Type 0) → Type 0
IsAt items at absent kind = MatchOption (slice_get items at) absent kind

-- the sides are those of what each rank has done
abbrev pub KeepsSides : (ℕ → Done) → List Side → Type 0
KeepsSides done_of sides = (rank : ℕ) → IsAt sides rank (HasNoSide (done_of rank)) (Keeps (done_of rank))

-- the rounds are those of what each rank has done
abbrev pub KeepsRounds : (ℕ → Done) → List Rounds → Type 0
KeepsRounds done_of rounds = (rank : ℕ) → IsAt rounds rank (HasNoRounds (done_of rank)) (HasRounds (done_of rank))

-- what another rank has done is the same after as before
abbrev pub IsSameFor : ℕ → (ℕ → Done) → (ℕ → Done) → Type 0
IsSameFor rank before after = (other : ℕ) → other ≢ rank → after other ≡ before other
