-- The name of a table is its own.
use Rattle.std.proofs.Common.{◌≡◌, get_or, drop}
use Rattle.atomic_table.specs.Seated.{TableId}
use Rattle.cell_words.specs.Holders.{name_of}

-- the name tells the table
pub name_tells : (one two : TableId) → name_of one ≡ name_of two → one ≡ two
name_tells one two same = λ i. record {
  words = get_or (same i) 0 0;
  slots = get_or (same i) 1 0;
  views_name = get_or (same i) 2 0;
  atom = get_or (same i) 3 0;
  block = get_or (same i) 4 0;
  offset = get_or (same i) 5 0;
  slot_names = drop 6 (same i);
}
