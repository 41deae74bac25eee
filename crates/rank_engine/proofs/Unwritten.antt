-- A memory to which nothing is done, and one to which nothing is done twice.
use Rattle.std.proofs.Common.{refl, ◌∙◌, arith}
use Rattle.cell_face.specs.Faces.{Face, Unwritten}
use Rattle.rank_engine.specs.Entering.{IsHandedOver}

pub nothing_written : (face : Face) → Unwritten face face
nothing_written face = record {
  stays = record { cells = refl; lows = λ cell. omega arith; grant = refl; name = refl };
  share = omega arith;
  updates = refl;
  told = refl;
}

pub unwritten_twice : (a b c : Face) → Unwritten a b → Unwritten b c → Unwritten a c
unwritten_twice a b c h k = record {
  stays = record {
    cells = k.stays.cells ∙ h.stays.cells;
    lows = λ cell. let first = h.stays.lows cell in let second = k.stays.lows cell in omega arith;
    grant = k.stays.grant ∙ h.stays.grant;
    name = k.stays.name ∙ h.stays.name;
  };
  share = let first = h.share in let second = k.share in omega arith;
  updates = k.updates ∙ h.updates;
  told = k.told ∙ h.told;
}

pub nothing_handed : (face : Face) → IsHandedOver face face
nothing_handed face = record { unwritten = nothing_written face; moves = refl }

pub handed_twice : (a b c : Face) → IsHandedOver a b → IsHandedOver b c → IsHandedOver a c
handed_twice a b c h k =
    record { unwritten = unwritten_twice a b c h.unwritten k.unwritten; moves = k.moves ∙ h.moves }
