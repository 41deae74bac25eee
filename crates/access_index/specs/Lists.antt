-- Lists by their keys.
use Rattle.std.specs.Prelude.{ℕ, Bool, List, [], unwrap_or}
use Rattle.std.specs.HashMap.{HashMap, get}
use Rattle.std.specs.declared.hash.BuildHasherDefault.{BuildHasherDefault}
use Rattle.std.specs.declared.hash.FoldHasher.{FoldHasher}
use Rattle.access_index.specs.contracts.regions.GroupPartialEq.TheImpl as group_impl
use Rattle.access_index.specs.contracts.regions.RegionPartialEq.TheImpl as region_impl
use Rattle.access_index.specs.declared.regions.Class.{Class}
use Rattle.access_index.specs.declared.regions.Group.{Group}
use Rattle.access_index.specs.declared.regions.Region.{Region}

abbrev pub group_eq : Group → Group → Bool
group_eq = (group_impl.ghosts).eq

abbrev pub region_eq : Region → Region → Bool
region_eq = (region_impl.ghosts).eq

abbrev pub ClassTable : Type 0
ClassTable = HashMap Region (List Class) (BuildHasherDefault FoldHasher)

abbrev pub OrdinalTable : Type 0
OrdinalTable = HashMap Group (List ℕ) (BuildHasherDefault FoldHasher)

-- the classes that the table has for a region
abbrev pub classes_in : ClassTable → Region → List Class
classes_in table region = unwrap_or (get region_eq table region) []

-- the accesses that the table has for a group
abbrev pub ordinals_in : OrdinalTable → Group → List ℕ
ordinals_in table group = unwrap_or (get group_eq table group) []
