-- An entry leaves what is kept of every other window.
use Rattle.std.proofs.Common.{◌≡◌, ◌≢◌, ℕ, ◌+◌, ◌*◌, ◌<◌, eqb, List, [], ◌∷◌, ◌++◌, ap, ◌∙◌, arith, Option, Some, None}
use Rattle.std.specs.Prelude.{slice_get}
use Rattle.std.specs.Option.{MatchOption}
use Rattle.std.proofs.lemmas.Bool.{and_left, and_right, ne_eqb}
use Rattle.rma_types.specs.declared.scripts.Layout.{Layout}
use Rattle.rank_rules.specs.Windows.{window_number}
use Rattle.board_rules.specs.Entries.{Act, begins_window, is_by_on}
use Rattle.sync_board.specs.Named.{KeepsName}
use Rattle.sync_board.specs.Windows.{IsUntouched, KeepsWindow, done_on}
use Rattle.sync_board.specs.declared.window_record.WindowRecord.{WindowRecord}
use Rattle.sync_board.proofs.HeldSteps.{held_on_others, inside_each, regions_each}
use Rattle.sync_board.proofs.LockSteps.{held_elsewhere}
use Rattle.sync_board.proofs.PartsKept.{arrival_same, parts_keep}
use Rattle.sync_board.proofs.SameParts.{members_each, rounds_each, sides_each}
use Rattle.sync_board.specs.Sides.{Done}
use Rattle.sync_board.proofs.WindowSteps.{other_window}

pub window_elsewhere : (layout : Layout) (ranks window : ℕ) (entries : List Act) (act : Act) (kept : WindowRecord) →
    act.window ≢ window →
    KeepsWindow layout ranks window entries kept → KeepsWindow layout ranks window (entries ++ act ∷ []) kept
window_elsewhere layout ranks window entries act kept apart keeps =
    let before = done_on entries window in
    let after = done_on (entries ++ act ∷ []) window in
    let same : (rank : ℕ) → done_on (entries ++ act ∷ []) window rank ≡ done_on entries window rank = λ rank.
    other_window entries act window rank apart in
    record {
      sides = sides_each before after kept.side_table.sides.items
          (λ rank. record {
            posts = ap (λ (d : Done). d.posts) (same rank);
            starts = ap (λ (d : Done). d.starts)
                (same rank);
            completes = ap (λ (d : Done). d.completes) (same rank);
            waits = ap (λ (d : Done). d.waits)
                (same rank);
          }) keeps.sides;
      members = members_each before after (λ rank. ap (λ (d : Done). d.posts) (same rank)) keeps.members;
      rounds = rounds_each before after kept.round_table.rounds.items
          (λ rank. record {
            creations = ap (λ (d : Done). d.creations) (same rank);
            frees = ap (λ (d : Done). d.frees)
                (same rank);
            fences = ap (λ (d : Done). d.fences) (same rank);
          }) keeps.rounds;
      held = held_on_others ranks window entries act kept.lock_state.table apart keeps.held;
      regions = regions_each before after kept.region_table.regions.items
          (λ rank. ap (λ (d : Done). d.ranges) (same rank)) keeps.regions;
      inside = inside_each layout before after (λ rank. ap (λ (d : Done). d.ranges) (same rank)) keeps.inside;
      brought = parts_keep layout window entries act kept.parts.parts.items
          (and_left (eqb act.window window) (begins_window act.row) (ne_eqb act.window window apart)) keeps.brought;
    }

pub untouched_elsewhere : (ranks window : ℕ) (entries : List Act) (act : Act) → act.window ≢ window →
    IsUntouched ranks window entries → IsUntouched ranks window (entries ++ act ∷ [])
untouched_elsewhere ranks window entries act apart none =
    let same : (rank : ℕ) → done_on (entries ++ act ∷ []) window rank ≡ done_on entries window rank = λ rank.
    other_window entries act window rank apart in
    record {
      sides = λ rank. rw (same rank) (none.sides rank);
      rounds = λ rank. rw (same rank) (none.rounds rank);
      held = held_elsewhere ranks window entries act apart ∙ none.held;
      ranges = λ rank. rw (same rank) (none.ranges rank);
      arrivals = λ rank. arrival_same entries window rank act
          (and_left (is_by_on rank window act) (begins_window act.row)
          (and_right (eqb act.row.rank rank) (eqb act.window window) (ne_eqb act.window window apart)))
          ∙ none.arrivals rank;
    }

-- two windows with one number are of one name and one round
pub one_name : (round other name name' : ℕ) → name < 32 → name' < 32 → 32 * round + name ≡ 32 * other + name' →
    name ≡ name'
one_name round other name name' a b e = omega arith

pub one_round : (round other name : ℕ) → 32 * round + name ≡ 32 * other + name → round ≡ other
one_round round other name e = omega arith

weaker : {X : Type 0} (o : Option X) {P P' : Type 0} {Q Q' : X → Type 0} → (P → P') → ((x : X) → Q x → Q' x) →
    MatchOption o P Q → MatchOption o P' Q'
weaker None absent kind found = absent found
weaker (Some x) absent kind found = kind x found

pub name_elsewhere : (layout : Layout) (ranks name : ℕ) (entries : List Act) (act : Act) (rounds : List WindowRecord) →
    ((round : ℕ) → act.window ≢ window_number round name) →
    KeepsName layout ranks name entries rounds → KeepsName layout ranks name (entries ++ act ∷ []) rounds
name_elsewhere layout ranks name entries act rounds apart keeps round =
    weaker (slice_get rounds round)
    (untouched_elsewhere ranks (window_number round name) entries act (apart round))
    (λ kept. window_elsewhere layout ranks (window_number round name) entries act kept (apart round))
    (keeps round)
