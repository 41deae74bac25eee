-- What is printed of a line, token by token.
use Rattle.std.specs.Prelude.{ℕ, List, ◌∷◌}
use Rattle.std.specs.List.{flat_map}
use Rattle.std.specs.Option.{option_to_list}
use Rattle.script_language.specs.declared.fields.Fields.{Fields}
use Rattle.script_printer.specs.declared.said.Said.{Said}

-- the tokens, with one space before each of them
abbrev pub behind_spaces : List (List ℕ) → List ℕ
behind_spaces tokens = flat_map (λ token. 32 ∷ token) tokens

-- what a line says, as the definition has it
abbrev pub fields_said : Said → Fields
fields_said said = record {
  ranks = said.ranks;
  owner = said.owner;
  room = said.room;
  members = option_to_list said.member;
  times = 0;
  req = said.req;
  win = said.win;
  base = said.base;
  bytes = said.bytes;
  unit = said.unit;
  lock = said.lock;
  peer = said.peer;
  group = said.group.now;
  asserts = said.asserts;
  target = said.target;
  disp = said.disp;
  dtype = said.dtype;
  op = said.op;
  count = said.count;
  compare = said.compare;
  value = said.value;
  values = said.values.now;
}
