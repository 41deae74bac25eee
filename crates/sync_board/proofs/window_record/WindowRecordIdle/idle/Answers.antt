use Rattle.std.proofs.Common.{◌≡◌, ℕ, ap, sym, ◌∙◌, [], List, Option, None, rules}
use Rattle.std.specs.Option.{option_map}
use Rattle.rma_types.specs.declared.scripts.Layout.{Layout}
use Rattle.rma_types.specs.declared.scripts.Part.{Part}
use Rattle.board_rules.specs.Entries.{Act}
use Rattle.board_rules.specs.Shapes.{part_brought}
use Rattle.sync_board.specs.KeptParts.{KeepsParts, first_arrival, part_kept}
use Rattle.sync_board.specs.Windows.{done_on}
use Rattle.sync_board.proofs.window_record.WindowRecordIdle.idle.Goals as goal

none_kept : (layout : Layout) (window : ℕ) (entries : List Act) (parts : List (Option Part)) → parts ≡ [] →
    ((rank : ℕ) → first_arrival entries window rank ≡ None) → KeepsParts layout window entries parts
none_kept layout window entries parts empty none =
    let nothing : (rank : ℕ) → part_kept parts rank ≡ None = λ rank. ap (λ xs. part_kept xs rank) empty in
    record {
      brought = λ rank. nothing rank ∙ ap (option_map (part_brought layout)) (sym (none rank));
      inside = λ rank. rw (nothing rank) tt;
    }

pub returns : goal.returns
returns c = λ layout ranks window entries none. record {
  sides = c.new-side_table.ensures (done_on entries window) none.sides;
  members = λ rank. rw (none.sides rank).posts (search rules);
  rounds = c.new-round_table.ensures (done_on entries window) none.rounds;
  held = c.new-lock_state.ensures ranks window entries none.held;
  regions = c.new-region_table.ensures (done_on entries window) none.ranges;
  inside = λ rank. rw (none.ranges rank) tt;
  brought = none_kept layout window entries c.new-parts.result.parts.items c.new-parts.ensures none.arrivals;
}
