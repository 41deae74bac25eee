-- Accesses whose points put the same accesses in order: after MPI 3.1, section 11.7, in this project's profile.
use Rattle.std.specs.Prelude.{◌≡◌, Bool, IsTrue, Contains, List, [], ◌∷◌, map}
use Rattle.std.specs.List.{list_any}
use Rattle.rma_types.specs.declared.accesses.Id.{Id}
use Rattle.order_rules.specs.Ordered.{JudgedAccess, role_in}
use Rattle.first_point_laws.specs.PointLaws.{is_rma}
use Rattle.first_points.specs.declared.accesses.JudgedPoints.{JudgedPoints}

-- one of the points is before the item, or is it
abbrev pub reaches : (Id → Id → Bool) → List Id → Id → Bool
reaches before points id = list_any (λ point. before point id) points

-- the access with its points as the code has it
abbrev pub judged_by : JudgedPoints → JudgedAccess
judged_by a = record { id = a.id; access = a.access; done = a.done; visible = a.visible }

-- Two accesses are one, and some of its points stand for all: of the accesses of these names, both lists of points are
-- before the same. The done points of a store and of a load are never asked for.
pub record IsAlike (before : Id → Id → Bool) (ids : List Id) (a b : JudgedAccess) : Type 0 where
  pub named : a.id ≡ b.id
  pub reached : a.access ≡ b.access
  pub done : IsTrue (is_rma (role_in a)) → (id : Id) → Contains ids id →
      reaches before a.done id ≡ reaches before b.done id
  pub visible : (id : Id) → Contains ids id → reaches before a.visible id ≡ reaches before b.visible id

abbrev pub AreAlike : (Id → Id → Bool) → List Id → List JudgedAccess → List JudgedAccess → Type 0
AreAlike before ids [] [] = Unit {0}
AreAlike before ids [] (b ∷ others) = ⊥
AreAlike before ids (a ∷ accesses) [] = ⊥
AreAlike before ids (a ∷ accesses) (b ∷ others) = IsAlike before ids a b × AreAlike before ids accesses others

abbrev pub names_of : List JudgedAccess → List Id
names_of accesses = map (λ (a : JudgedAccess). a.id) accesses
