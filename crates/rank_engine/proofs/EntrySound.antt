-- A rank that puts one entry more stays sound.
use Rattle.std.proofs.Common.{◌≡◌, ℕ, ◌+◌, ◌≤◌, inl, inr, Bool, true, false, List, [], ◌∷◌, ◌++◌, length, Option, Some}
use Rattle.std.proofs.Common.{None, refl, sym, ◌∙◌, ap, subst, arith}
use Rattle.std.proofs.lemmas.Bool.Decides.{leb_tells}
use Rattle.std.proofs.lemmas.List.{get_or_past}
use Rattle.rma_types.specs.declared.accesses.Step.{Step}
use Rattle.rma_types.specs.declared.accesses.Step.TheVariants.{Arrive, Leave, One}
use Rattle.rma_types.specs.declared.calls.Call.{Call}
use Rattle.rma_types.specs.declared.calls.Flavor.TheVariants.{Dynamic}
use Rattle.rma_types.specs.declared.scripts.Layout.{Layout}
use Rattle.rma_types.specs.declared.scripts.Part.{Part}
use Rattle.rma_types.proofs.ActionLaws.{creates_it, name_made}
use Rattle.rma_record.specs.declared.items.Item.{Item}
use Rattle.rma_record.specs.declared.items.Item.TheVariants.{Entry}
use Rattle.rank_rules.proofs.WindowLaws.{created_grows}
use Rattle.board_rules.specs.Entries.{Row, is_arrive}
use Rattle.rma_types.specs.declared.actions.Action.{Action}
use Rattle.rma_types.specs.declared.actions.Action.TheVariants.{Creates, Frees, Attaches, Detaches, Synchronises, Meets}
use Rattle.rma_types.specs.declared.actions.Action.TheVariants.{Moves, EndsRequest}
use Rattle.rma_types.specs.declared.actions.Creation.{Creation}
use Rattle.rma_types.specs.Actions.{action_of, creation_in}
use Rattle.step_laws.proofs.SoundEntries.{entered_names}
use Rattle.cell_face.specs.Faces.{Face}
use Rattle.rank_rules.specs.Courses.{Course, course_of}
use Rattle.rank_rules.specs.Epochs.{Epochs}
use Rattle.rank_rules.specs.Knowledge.{own_class}
use Rattle.rank_rules.specs.Windows.{RankWindows, is_same_flavor, no_part, part_at, windows_after}
use Rattle.step_laws.proofs.Creations.{own_has_room}
use Rattle.step_laws.proofs.Sound.{AreRoomyShapes, MakesByAddress, rank_stays, space_stays}
use Rattle.step_laws.proofs.Sound.{windows_stay_roomy}
use Rattle.step_laws.specs.Inside.{bytes_at, names_so_far}
use Rattle.step_laws.specs.Rooms.{FitsMemory, IsByAddress}
use Rattle.step_runs.specs.Agents.{Agent, next_call}
use Rattle.sync_board.specs.Boards.{ArePartsInside, BoardState, IsMadeBy}
use Rattle.window_regions.specs.declared.window.Shape.{Shape}
use Rattle.rank_engine.proofs.EntryNumbers.{closed_numbers, plain_names}
use Rattle.rank_engine.specs.Entering.{IsAnswered, IsClosing, IsPut, IsReady}
use Rattle.rank_engine.specs.declared.asking.Answer.{Answer}
use Rattle.rank_engine.specs.declared.asking.Answer.TheVariants.{Entered}
use Rattle.rank_engine.specs.Learning.{HasParts}
use Rattle.rank_engine.specs.RankStates.{RankState}
use Rattle.rank_engine.specs.Sound.{AreSoundWindows, IsSound}
use Rattle.rank_engine.proofs.EntryParts.{Makes, MakesNothing, MakesWindow, one_entry_makes_none, only_parts}

-- ---- the windows after the call

no_part_fits : (memory : Layout) (rank : ℕ) (part : Part) → part ≡ no_part → FitsMemory memory rank part
no_part_fits memory rank part e = subst (FitsMemory memory rank) (sym e) (omega arith)

some_fit : (memory : Layout) (ranks rank : ℕ) (parts : List Part) → length parts ≡ ranks →
    ArePartsInside memory ranks parts → FitsMemory memory rank (part_at parts rank)
some_fit memory ranks rank parts count inside =
    elim (leb_tells ranks rank) [
      | inl above ↦ no_part_fits memory rank (part_at parts rank)
          (get_or_past parts rank no_part (subst (λ n. n ≤ rank) (sym count) above.1))
      | inr below ↦ inside rank below.1
    ]

no_part_by_address : (part : Part) → part ≡ no_part → IsByAddress part
no_part_by_address part e = subst IsByAddress (sym e) (refl, refl)

-- what the rank knows after the call, by shapes that lie in memory
windows_sound : (s : RankState) (call : Call) (shapes : ℕ → List Part) (after : RankWindows) → IsSound s →
    own_class s.agent.known call ≡ None → AreRoomyShapes s.stage.layout shapes →
    MakesByAddress shapes s.agent.known.windows (action_of call) →
    after ≡ windows_after shapes s.agent.known.windows (action_of call) →
    AreSoundWindows s.stage s.agent.rank after
    × (after.created ≡ s.agent.known.windows.created ++ name_made call)
windows_sound s call shapes after sound own roomy by_address is = (
  subst (AreSoundWindows s.stage s.agent.rank) (sym is) (record {
    whose = rank_stays shapes known (action_of call) ∙ sound.windows.whose;
    ranks = ranks_stay (action_of call) ∙ sound.windows.ranks;
    space = subst (λ n. n ≤ bytes_at s.stage.layout s.agent.rank) (sym (space_stays shapes known (action_of call)))
        sound.windows.space;
    roomy = windows_stay_roomy s.stage.layout shapes known (action_of call) roomy by_address
        (own_has_room s.agent.known (bytes_at s.stage.layout known.rank) call
        (subst (λ r. known.space ≤ bytes_at s.stage.layout r) (sym sound.windows.whose) sound.windows.space) own)
        sound.windows.roomy;
  }),
  ap (λ (w : RankWindows). w.created) is ∙ created_grows shapes known call,
)
  where
    known : RankWindows
    known = s.agent.known.windows

    ranks_stay : (a : Action) → (windows_after shapes known a).ranks ≡ known.ranks
    ranks_stay (Creates creation) = refl
    ranks_stay (Frees win) = refl
    ranks_stay (Attaches win base bytes) = refl
    ranks_stay (Detaches win base) = refl
    ranks_stay (Synchronises win x) = refl
    ranks_stay Meets = refl
    ranks_stay (Moves t) = refl
    ranks_stay (EndsRequest req) = refl

pub closing_windows : (s : RankState) (call : Call) (step : Step) (board : BoardState) (face : Face)
    (made : Option Shape)
    (after : RankWindows) → IsSound s → IsReady s call board face → Makes s call step board made →
    ((shapes : ℕ → List Part) → HasParts shapes s.agent.known.windows (action_of call) made →
    after ≡ windows_after shapes s.agent.known.windows (action_of call)) →
    AreSoundWindows s.stage s.agent.rank after
    × (after.created ≡ s.agent.known.windows.created ++ name_made call)
closing_windows s call step board face made after sound ready (MakesNothing none) learnt =
    windows_sound s call (λ number. []) after sound ready.own
    (λ number rank. no_part_fits s.stage.layout rank (part_at [] rank) refl)
    (λ creation is _. absurd (cc (none, ap creation_in is)))
    (learnt (λ number. []) (only_parts (λ number. []) s.agent.known.windows (action_of call) made none))
closing_windows s call step board face made after sound ready (MakesWindow creation shape makes is begun at h) learnt =
    windows_sound s call (λ number. shape.parts) after sound ready.own
    (λ number rank. some_fit s.stage.layout board.ranks rank shape.parts h.count
    (subst (λ l. ArePartsInside l board.ranks shape.parts) ready.board_is.layout h.inside))
    (λ other created dynamic rank.
    let one : creation ≡ other = cc (makes, ap creation_in created) in
    no_part_by_address (part_at shape.parts rank) (h.is_shape.dynamic
    (subst (λ f. is_same_flavor f Dynamic ≡ true) (ap (λ (c : Creation). c.flavor)
    (sym one) ∙ sym h.flavor) dynamic) rank))
    (learnt (λ number. shape.parts)
    (subst (λ a. HasParts (λ number. shape.parts) s.agent.known.windows a made) (sym (creates_it call creation makes))
    (subst (HasParts (λ number. shape.parts) s.agent.known.windows (Creates creation)) (sym is) refl)))

-- the names so far are those after the call
closing_names : (s : RankState) (call : Call) (step : Step) → IsSound s → next_call s.stage s.agent ≡ Some call →
    IsClosing step s.agent.entered (course_of s.agent.known.windows call) →
    names_so_far s.stage s.agent ≡ s.agent.known.windows.created ++ name_made call
closing_names s call Arrive sound here closes = absurd closes
closing_names s call Leave sound here closes = entered_names s.stage s.agent call closes.0 here
closing_names s call One sound here closes =
    plain_names s.stage s.agent call closes.0 (one_entry_makes_none s.agent.known.windows call closes.1)

no_arrive : (step : Step) (begun : Bool) (course : Course) → IsClosing step begun course → is_arrive step ≡ false
no_arrive Arrive begun course h = absurd h
no_arrive Leave begun course h = refl
no_arrive One begun course h = refl

pub closed_sound : (s : RankState) (call : Call) (step : Step) (place : ℕ) (log : List Item) (windows : RankWindows)
    (epochs : List Epochs) (free : ℕ) (home : List ℕ) → IsSound s → next_call s.stage s.agent ≡ Some call →
    IsClosing step s.agent.entered (course_of s.agent.known.windows call) →
    AreSoundWindows s.stage s.agent.rank windows
    × (windows.created ≡ s.agent.known.windows.created ++ name_made call) →
    log ≡ s.agent.log ++ Entry s.agent.at place step ∷ [] →
    IsSound (record s {
      agent = record s.agent {
        log = log;
        known = record { windows = windows; epochs = epochs; requests = s.agent.known.requests };
        at = s.agent.at + 1;
        entered = false;
        drawn = false;
      };
      free = free;
      home = home;
    })
closed_sound s call step place log windows epochs free home sound here closes learnt is = record {
  formed = sound.formed;
  layout = sound.layout;
  rank = sound.rank;
  windows = learnt.0;
  begun = λ e. absurd (cc e);
  queue = sound.queue;
  numbers = closed_numbers s.stage s.agent next call step place sound.numbers here refl refl is
      (no_arrive step s.agent.entered (course_of s.agent.known.windows call) closes)
      (closing_names s call step sound here closes) learnt.1;
}
  where
    next : Agent
    next = record s.agent {
      log = log;
      known = record { windows = windows; epochs = epochs; requests = s.agent.known.requests };
      at = s.agent.at + 1;
      entered = false;
      drawn = false;
    }

-- the answer that an entry was put
pub answered_put : (row : Row) (answer : Answer) (place : ℕ) (made : Option Shape) (board board_after : BoardState)
    (face face_after : Face) → answer ≡ Entered place made → IsAnswered row answer board board_after face face_after →
    IsPut row place board board_after face face_after × IsMadeBy board row row.step made
answered_put row answer place made board board_after face face_after is h =
    subst (λ a. IsAnswered row a board board_after face face_after) is h
