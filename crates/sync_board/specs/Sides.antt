-- What one rank has done on one window, by its entries there: MPI 3.1, sections 11.2 and 11.5. The board keeps it in
-- counts and tables, a side for each rank and window.
use Rattle.std.specs.Prelude.{◌≡◌, ℕ, ◌+◌, ◌<◌, Bool, true, false, ◌&&◌, ◌==◌, nat_lt, if◌then◌else◌, List, [], ◌∷◌}
use Rattle.std.specs.Prelude.{◌++◌, length, map, take, reverse, slice_index, slice_index_or}
use Rattle.std.specs.List.{count_by, filter, flat_map, fold}
use Rattle.std.specs.Option.{option_map_or}
use Rattle.rma_types.specs.declared.calls.Call.{Call}
use Rattle.rma_types.specs.declared.actions.Synchronisation.{Synchronisation}
use Rattle.rma_types.specs.Actions.{synchronisation_of, action_of}
use Rattle.call_rules.specs.Ranks.{is_member}
use Rattle.rank_rules.specs.Ranges.{Range}
use Rattle.board_rules.specs.AttachedRanges.{ranges_after}
use Rattle.board_rules.specs.Entries.{Act, Collective, Creation, Freeing, Fence, is_arrive, is_collective, is_by_on}
use Rattle.board_rules.specs.Questions.{Question}
use Rattle.sync_board.specs.declared.sides.Side.{Side}
use Rattle.board_rules.specs.Posts.{group_of_post, group_of_start, is_complete, is_wait, naming}

-- the entries of a rank on a window
abbrev pub own : List Act → ℕ → ℕ → List Act
own entries rank window = filter (is_by_on rank window) entries

-- the synchronisations among a rank's entries on a window
abbrev pub synchronised : List Act → List Synchronisation
synchronised entries = flat_map (λ (act : Act). option_map_or (λ s. s ∷ []) (synchronisation_of act.row.call) [])
    entries

-- the calls with which it has arrived at a collective
abbrev pub arrived : Collective → List Act → List Call
arrived collective entries =
    map (λ (act : Act). act.row.call)
    (filter (λ (act : Act). is_arrive act.row.step && is_collective collective act.row.call) entries)

-- What a rank has done on a window: the groups of its posts and of its starts, how many completes and waits, its
-- arrivals at the window's creation, frees and fences, and the ranges that it has attached.
pub record Done : Type 0 where
  pub posts : List (List ℕ)
  pub starts : List (List ℕ)
  pub completes : ℕ
  pub waits : ℕ
  pub creations : List Call
  pub frees : List Call
  pub fences : List Call
  pub ranges : List Range

-- what the rank's entries on the window say
unfoldable pub done : List Act → Done
done entries = record {
  posts = flat_map group_of_post (synchronised entries);
  starts = flat_map group_of_start (synchronised entries);
  completes = count_by is_complete (synchronised entries);
  waits = count_by is_wait (synchronised entries);
  creations = arrived Creation entries;
  frees = arrived Freeing entries;
  fences = arrived Fence entries;
  ranges = fold (λ ranges (act : Act). ranges_after ranges act.row.step (action_of act.row.call)) [] entries;
}

-- ---- what a rank has done, with one call more

abbrev pub with_post : Done → List ℕ → Done
with_post d group = record d { posts = d.posts ++ group ∷ [] }

abbrev pub with_start : Done → List ℕ → Done
with_start d group = record d { starts = d.starts ++ group ∷ [] }

abbrev pub with_complete : Done → Done
with_complete d = record d { completes = d.completes + 1 }

abbrev pub with_wait : Done → Done
with_wait d = record d { waits = d.waits + 1 }

-- ---- counts and tables

-- one truth for each of 16 ranks: those of a group
abbrev pub IsGroup : List Bool → List ℕ → Type 0
IsGroup named group = (rank : ℕ) → rank < 16 → slice_index_or named rank false ≡ is_member rank group

-- the groups of a list, one by one
abbrev pub AreGroups : List (List Bool) → List (List ℕ) → Type 0
AreGroups [] [] = Unit {0}
AreGroups [] (group ∷ groups) = ⊥
AreGroups (named ∷ others) [] = ⊥
AreGroups (named ∷ others) (group ∷ groups) = IsGroup named group × AreGroups others groups

-- for each of 16 ranks, how many groups name it
abbrev pub CountsGroups : List ℕ → List (List ℕ) → Type 0
CountsGroups counts groups = (rank : ℕ) → rank < 16 → slice_index counts rank ≡ naming rank groups

-- for each of 16 ranks one more where the group has it
abbrev pub IsRaised : List ℕ → List Bool → List ℕ → Type 0
IsRaised counts named raised =
    (rank : ℕ) → rank < 16 → slice_index raised rank ≡ slice_index counts rank +
    (if slice_index_or named rank false then 1 else 0)

-- The counts and tables of a side are those of what its rank has done. A start is completed by the complete of its
-- number.
pub record Keeps (d : Done) (side : Side) : Type 0 where
  pub posts : side.posts ≡ length d.posts
  pub waits : side.waits ≡ d.waits
  pub completes : side.completes ≡ d.completes
  pub posted_to : CountsGroups side.posted_to d.posts
  pub started_to : CountsGroups side.started_to d.starts
  pub completed_to : CountsGroups side.completed_to (take d.completes d.starts)
  pub last_post : IsGroup side.last_post (slice_index_or (reverse d.posts) 0 [])
  pub starts : AreGroups side.starts.items d.starts

-- what a rank has done on the window of the question
abbrev pub done_at : Question → ℕ → Done
done_at q rank = done (own q.entries rank q.window)

-- no member of the group is past the last of 16 ranks
abbrev pub AreRanks : List ℕ → Type 0
AreRanks group = (rank : ℕ) → is_member rank group ≡ true → rank < 16

-- the member has posted to the rank once more than the rank has started to it
abbrev pub has_post_of : (ℕ → Done) → ℕ → ℕ → Bool
has_post_of done_of rank member = nat_lt (naming member (done_of rank).starts) (naming rank (done_of member).posts)

-- the member has completed towards the rank as often as the rank has posted to it
abbrev pub has_complete_of : (ℕ → Done) → ℕ → ℕ → Bool
has_complete_of done_of rank member =
    naming rank (take (done_of member).completes (done_of member).starts) == naming member (done_of rank).posts
