-- The roles of accesses as the code has them.
use Rattle.order_rules.specs.Roles.{Role, RmaUpdate, RmaRead, Store, Load}
use Rattle.order_rules.specs.Rules.{Pair}
use Rattle.rma_rules.specs.declared.pairs.Asked.{Asked}
use Rattle.rma_rules.specs.declared.pairs.Part.{Part}
use Rattle.rma_rules.specs.declared.pairs.Part.TheVariants.{Update as UpdatePart, Read as ReadPart, Store as StorePart}
use Rattle.rma_rules.specs.declared.pairs.Part.TheVariants.{Load as LoadPart}

-- the role that a part stands for
abbrev pub role_by : Part → Role
role_by UpdatePart = RmaUpdate
role_by ReadPart = RmaRead
role_by StorePart = Store
role_by LoadPart = Load

-- what the rules ask of a pair
abbrev pub pair_by : Asked → Pair
pair_by asked = record {
  model = asked.model;
  overlaps = asked.overlaps;
  on_one_window = asked.on_one_window;
  is_excepted = asked.is_excepted;
}
