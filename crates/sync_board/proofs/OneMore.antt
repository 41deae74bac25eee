-- What one entry more of a rank on a window adds to what the rank has done there.
use Rattle.std.proofs.Common.{◌≡◌, ◌+◌, Bool, true, false, ◌&&◌, cond, List, [], ◌∷◌, ◌++◌, map, refl, ap, ◌∙◌}
use Rattle.std.proofs.Common.{append-nil}
use Rattle.std.specs.List.{count_by, filter, flat_map}
use Rattle.std.specs.Option.{option_map_or}
use Rattle.std.proofs.lemmas.Grind.{flat_map-append, fold-append}
use Rattle.std.proofs.lemmas.List.{map-append}
use Rattle.std.proofs.lemmas.List.Elements.{filter-append}
use Rattle.list_laws.proofs.Tests.{count_append}
use Rattle.rma_types.specs.declared.accesses.Step.{Step}
use Rattle.rma_types.specs.declared.calls.Call.{Call}
use Rattle.rma_types.specs.declared.actions.Action.{Action}
use Rattle.rma_types.specs.declared.actions.Synchronisation.{Synchronisation}
use Rattle.rma_types.specs.Actions.{synchronisation_in, synchronisation_of, action_of}
use Rattle.board_rules.specs.AttachedRanges.{ranges_after}
use Rattle.board_rules.specs.Entries.{Act, Collective, Creation, Freeing, Fence, is_arrive, is_collective}
use Rattle.board_rules.specs.Entries.{is_same_collective, collective_in}
use Rattle.board_rules.specs.Posts.{group_of_post, group_of_start, is_complete, is_wait}
use Rattle.sync_board.specs.Sides.{synchronised, arrived, Done, done}

-- the synchronisation that an action is, as a list
abbrev pub synchronisation_by : Action → List Synchronisation
synchronisation_by action = option_map_or (λ s. s ∷ []) (synchronisation_in action) []

-- an arrival at the collective, as a list
abbrev pub arrival_by : Collective → Step → Call → Action → List Call
arrival_by collective step call action =
    cond (is_arrive step && option_map_or (is_same_collective collective) (collective_in action) false) (call ∷ []) []

-- what a rank has done, with one entry more: the synchronisations that it brings, and the arrivals
abbrev pub with_entry : Done → Step → Call → Action → Done
with_entry d step call action = record {
  posts = d.posts ++ flat_map group_of_post (synchronisation_by action);
  starts = d.starts ++ flat_map group_of_start (synchronisation_by action);
  completes = d.completes + count_by is_complete (synchronisation_by action);
  waits = d.waits + count_by is_wait (synchronisation_by action);
  creations = d.creations ++ arrival_by Creation step call action;
  frees = d.frees ++ arrival_by Freeing step call action;
  fences = d.fences ++ arrival_by Fence step call action;
  ranges = ranges_after d.ranges step action;
}

pub synchronised_more : (entries : List Act) (act : Act) → synchronised (entries ++ act ∷ []) ≡ synchronised entries ++
    synchronisation_by (action_of act.row.call)
synchronised_more entries act =
    flat_map-append (λ (act : Act). option_map_or (λ s. s ∷ []) (synchronisation_of act.row.call) []) entries (act ∷ [])
    ∙ ap (λ xs. synchronised entries ++ xs) (append-nil (synchronisation_by (action_of act.row.call)))

pub arrived_more : (collective : Collective) (entries : List Act) (act : Act) →
    arrived collective (entries ++ act ∷ []) ≡ arrived collective entries ++ arrival_by collective act.row.step
    act.row.call (action_of act.row.call)
arrived_more collective entries act =
    let test : Act → Bool = λ act. is_arrive act.row.step && is_collective collective act.row.call in
    ap (map (λ (act : Act). act.row.call)) (filter-append test entries (act ∷ []))
    ∙ (map-append (λ (act : Act). act.row.call) (filter test entries) (filter test (act ∷ []))
    ∙ ap (λ xs. map (λ (act : Act). act.row.call) (filter test entries) ++ xs) (last (test act)))
  where
    last : (b : Bool) → map (λ (act : Act). act.row.call) (cond b (act ∷ []) []) ≡ cond b (act.row.call ∷ []) []
    last true = refl
    last false = refl

pub done_more : (entries : List Act) (act : Act) → done (entries ++ act ∷ []) ≡ with_entry (done entries) act.row.step
    act.row.call (action_of act.row.call)
unfolding done
done_more entries act =
    let syncs = synchronised_more entries act in
    let brought = synchronisation_by (action_of act.row.call) in
    let posts : flat_map group_of_post (synchronised (entries ++ act ∷ [])) ≡ flat_map group_of_post
    (synchronised entries) ++ flat_map group_of_post brought =
    ap (flat_map group_of_post) syncs ∙ flat_map-append group_of_post (synchronised entries) brought in
    let starts : flat_map group_of_start (synchronised (entries ++ act ∷ [])) ≡ flat_map group_of_start
    (synchronised entries) ++ flat_map group_of_start brought =
    ap (flat_map group_of_start) syncs ∙ flat_map-append group_of_start (synchronised entries) brought in
    let completes : count_by is_complete (synchronised (entries ++ act ∷ [])) ≡ count_by is_complete
    (synchronised entries) + count_by is_complete brought =
    ap (count_by is_complete) syncs ∙ count_append is_complete (synchronised entries) brought in
    let waits : count_by is_wait (synchronised (entries ++ act ∷ [])) ≡ count_by is_wait (synchronised entries) +
    count_by is_wait brought =
    ap (count_by is_wait) syncs ∙ count_append is_wait (synchronised entries) brought in
    let creations = arrived_more Creation entries act in
    let frees = arrived_more Freeing entries act in
    let fences = arrived_more Fence entries act in
    let ranges = fold-append (λ ranges (act : Act). ranges_after ranges act.row.step (action_of act.row.call)) []
    entries (act ∷ []) in
    rw (posts, starts, completes, waits, creations, frees, fences, ranges) refl
