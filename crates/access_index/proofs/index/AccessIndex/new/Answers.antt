-- No accesses.
use Rattle.std.proofs.Common.{rules, ◌≡◌, [], refl}
use Rattle.access_index.specs.Lists.{classes_in, ordinals_in}
use Rattle.access_index.specs.declared.regions.Group.{Group}
use Rattle.access_index.specs.declared.regions.Region.{Region}
use Rattle.access_index.proofs.Blocks.{empty_index}
use Rattle.access_index.proofs.index.AccessIndex.new.Goals as goal

pub returns : goal.returns
returns c =
    let classes : (region : Region) → classes_in c.new-2.result region ≡ [] = search rules in
    let ordinals : (group : Group) → ordinals_in c.new-3.result group ≡ [] = search rules in
    empty_index _ refl classes ordinals
