-- What holds of each pair of a list.
use Rattle.std.proofs.Common.{List, ◌++◌, [], ◌∷◌}
use Rattle.std.specs.List.{AllByRecursion}
use Rattle.list_laws.proofs.Each.{each_append, each_weaker}
use Rattle.lawful_runs.specs.Accesses.{EachPair}

-- a relation of each pair of two lists, and of each element of the first with each of the second
pub pair_joined : {X : Type 0} (R : X → X → Type 0) (xs ys : List X) → EachPair R xs → EachPair R ys →
    AllByRecursion (λ x. AllByRecursion (R x) ys) xs → EachPair R (xs ++ ys)
pair_joined R [] ys first second both = second
pair_joined R (x ∷ xs) ys first second both =
    (each_append (R x) xs ys first.0 both.0, pair_joined R xs ys first.1 second both.1)

-- one relation of each pair follows from another
pub pair_turned : {X : Type 0} (R S : X → X → Type 0) → ((x y : X) → R x y → S x y) → (xs : List X) → EachPair R xs →
    EachPair S xs
pair_turned R S h [] all = tt
pair_turned R S h (x ∷ xs) all = (each_weaker (R x) (S x) (h x) xs all.0, pair_turned R S h xs all.1)
