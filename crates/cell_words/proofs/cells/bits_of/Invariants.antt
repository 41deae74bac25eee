use Rattle.std.proofs.Common.{◌≡◌, ◌<◌, ℕ, ◌+◌, length, slice_index}
use Rattle.std.specs.Mem.Slots.{slots_items}
use Rattle.cell_words.specs.Words.{seen_in}
use Rattle.cell_words.proofs.cells.bits_of.Given as goal

abbrev pub invariant-loop-at : goal.invariant-loop-at
invariant-loop-at l = record {
  count : length l.finals.items + 1 ≡ l.at;
  bits : (cell : ℕ) → cell < length l.finals.items →
      slice_index l.finals.items cell ≡ (seen_in (slice_index (slots_items l.closed.words) (cell + 1))).bits;
}
