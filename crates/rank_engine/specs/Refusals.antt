-- What a step that refuses a call leaves: MPI 3.1, sections 8.4, 11.5 and 11.6, in this project's profile.
use Rattle.std.specs.Prelude.{ℕ, ◌≡◌, Contains, [], ◌∷◌, ◌++◌, length, drop}
use Rattle.rma_types.specs.declared.classes.Class.{Class}
use Rattle.rma_record.specs.declared.items.Item.TheVariants.{Refused}
use Rattle.rank_engine.specs.RankStates.{RankState}

-- The rank's next call is refused, and nothing else is done: the log has this one item more. The rank knows of windows,
-- epochs and requests what it knew, and the same accesses are pending, touched as far as they were.
pub record OnlyRefuses (before after : RankState) (number : ℕ) (class : Class) (seen : ℕ) : Type 0 where
  pub next : number ≡ before.agent.at
  pub log : after.agent.log ≡ before.agent.log ++ Refused number class seen ∷ []
  pub windows : after.agent.known.windows ≡ before.agent.known.windows
  pub epochs : after.agent.known.epochs ≡ before.agent.known.epochs
  pub requests : after.agent.known.requests ≡ before.agent.known.requests
  pub pending : after.agent.pending ≡ before.agent.pending
  pub touched : after.touched ≡ before.touched

-- this holds where a refused call is among the items of a step
abbrev pub WhereRefused : RankState → RankState → Type 0 → Type 0
WhereRefused before after P = (number : ℕ) (class : Class) (seen : ℕ) →
    Contains (drop (length before.agent.log) after.agent.log) (Refused number class seen) → P

-- a step among whose items is a refused call does nothing else
abbrev pub RefusesAlone : RankState → RankState → Type 0
RefusesAlone before after = (number : ℕ) (class : Class) (seen : ℕ) →
    Contains (drop (length before.agent.log) after.agent.log) (Refused number class seen) →
    OnlyRefuses before after number class seen
