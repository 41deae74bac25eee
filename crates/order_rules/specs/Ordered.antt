-- Which of two accesses at one target is ordered before the other: after MPI 3.1, section 11.7, in this project's
-- profile.
use Rattle.std.specs.Prelude.{Bool, List, [], ◌∷◌}
use Rattle.std.specs.List.{list_any}
use Rattle.rma_types.specs.declared.accesses.Access.{Access}
use Rattle.rma_types.specs.declared.accesses.Id.{Id}
use Rattle.order_rules.specs.Roles.{Role, RmaUpdate, RmaRead, Store, Load, role_of}

-- an access with its name, its done points and its visible points
pub record JudgedAccess : Type 0 where
  pub id : Id
  pub access : Access
  pub done : List Id
  pub visible : List Id

abbrev pub role_in : JudgedAccess → Role
role_in a = role_of a.access.kind

-- the points of the first access one of which must be before the Issue of the second, by their roles
abbrev pub points_for : JudgedAccess → Role → Role → List Id
points_for a RmaUpdate RmaUpdate = a.done
points_for a RmaUpdate RmaRead = a.done
points_for a RmaUpdate Store = a.visible
points_for a RmaUpdate Load = a.visible
points_for a RmaRead second = a.done
points_for a Store RmaUpdate = a.visible
points_for a Store RmaRead = a.visible
points_for a Store Store = a.id ∷ []
points_for a Store Load = a.id ∷ []
points_for a Load second = a.id ∷ []

-- the first access is ordered before the second
abbrev pub is_ordered : (Id → Id → Bool) → JudgedAccess → JudgedAccess → Bool
is_ordered before a b = list_any (λ point. before point b.id) (points_for a (role_in a) (role_in b))
