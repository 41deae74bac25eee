-- The ranks that calls name: MPI 3.1, sections 11.3 and 11.5.
use Rattle.std.specs.Prelude.{ℕ, Bool, false, ◌||◌, ◌==◌, nat_lt, List, [], ◌∷◌, map, ℤ, pos, negsuc}
use Rattle.std.specs.List.{list_any}

-- an integer as a size, an address, a count or a rank: a negative one counts as 0
abbrev pub natural : ℤ → ℕ
natural (pos n) = n
natural (negsuc n) = 0

-- a rank of a run of so many ranks
abbrev pub is_rank : ℕ → ℤ → Bool
is_rank ranks (pos rank) = nat_lt rank ranks
is_rank ranks (negsuc n) = false

abbrev pub is_same_rank : ℤ → ℤ → Bool
is_same_rank (pos a) (pos b) = a == b
is_same_rank (pos a) (negsuc b) = false
is_same_rank (negsuc a) (pos b) = false
is_same_rank (negsuc a) (negsuc b) = a == b

-- some rank stands twice in the list
abbrev pub names_twice : List ℤ → Bool
names_twice [] = false
names_twice (rank ∷ ranks) = list_any (is_same_rank rank) ranks || names_twice ranks

-- the members of a group whose ranks are known to be ranks
abbrev pub members_of : List ℤ → List ℕ
members_of group = map natural group

abbrev pub is_member : ℕ → List ℕ → Bool
is_member rank ranks = list_any (λ other. other == rank) ranks
