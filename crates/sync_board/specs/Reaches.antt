-- The ranks that a lock or an unlock is for: MPI 3.1, section 11.5.3.
use Rattle.std.specs.Prelude.{◌≡◌, ℕ, ◌+◌, ◌≤◌, Option, Some, None, ℤ}
use Rattle.call_rules.specs.Ranks.{natural}
use Rattle.entry_gains.specs.declared.deeds.Reach.{Reach}

-- from the one rank that a call names, or from the first of all
abbrev pub first_of : Option ℤ → ℕ
first_of None = 0
first_of (Some target) = natural target

-- up to, but without, the rank behind it, or the number of all ranks
abbrev pub end_of : ℕ → Option ℤ → ℕ
end_of ranks None = ranks
end_of ranks (Some target) = natural target + 1

-- the reach is the one rank that a call names, of so many, or all of them
pub record Reaches (ranks : ℕ) (target : Option ℤ) (reach : Reach) : Type 0 where
  pub first : reach.first ≡ first_of target
  pub end : reach.end ≡ end_of ranks target
  pub run : reach.end ≤ ranks
