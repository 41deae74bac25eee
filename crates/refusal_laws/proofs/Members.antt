-- Members of lists.
use Rattle.std.proofs.Common.{◌≡◌, [], ◌∷◌}
use Rattle.std.proofs.Common.{refl}
use Rattle.list_laws.proofs.Members.{In, here, there}

pub single : {X : Type 0} {x y : X} → In x (y ∷ []) → x ≡ y
single here = refl
single (there m) = elim m [ ]
