-- Each move of a rank at the board leaves what holds of the entries and of all ranks.
use Rattle.std.proofs.Common.{◌≡◌, ℕ, ◌+◌, ◌-◌, ◌<◌, ◌≤◌, true, false, cond, List, [], ◌∷◌, ◌++◌, length, Option, Some}
use Rattle.std.proofs.Common.{None, refl, sym, ◌∙◌, ap, subst, arith}
use Rattle.std.specs.Prelude.{◌&&◌, ◌==◌, slice_get}
use Rattle.std.specs.List.{count_by, AllByRecursion}
use Rattle.std.specs.Option.{option_map_or}
use Rattle.std.proofs.lemmas.Bool.{eq-eqb}
use Rattle.std.proofs.lemmas.List.{append-nil}
use Rattle.list_laws.proofs.Each.{each_at}
use Rattle.list_laws.proofs.Truths.{false_inside}
use Rattle.rma_types.specs.declared.accesses.Step.{Step}
use Rattle.rma_types.specs.declared.accesses.Step.TheVariants.{Arrive, Leave, One}
use Rattle.rma_types.specs.declared.calls.Call.{Call}
use Rattle.rma_types.specs.declared.calls.Flavor.{Flavor}
use Rattle.rma_types.specs.declared.calls.Flavor.TheVariants.{Dynamic}
use Rattle.rma_types.specs.declared.schedules.Delay.{Delay}
use Rattle.rma_types.specs.declared.scripts.Part.{Part}
use Rattle.rma_types.specs.declared.scripts.Script.{Script}
use Rattle.rma_types.proofs.ActionLaws.{transfer_makes_none, creates_it, name_made}
use Rattle.rma_record.specs.declared.items.Item.{Item}
use Rattle.rank_rules.proofs.WindowLaws.{created_grows}
use Rattle.board_rules.specs.Entries.{Row, acts, is_arrive, is_creation, names_window, creations}
use Rattle.rma_types.specs.declared.actions.Creation.{Creation}
use Rattle.rma_types.specs.declared.actions.Transfer.{Transfer}
use Rattle.rma_types.specs.Actions.{action_of, creation_in, creation_of, transfer_of}
use Rattle.call_rules.specs.Layout.{layout}
use Rattle.call_rules.specs.WellFormed.{IsWellFormed}
use Rattle.board_rules.proofs.EntryLaws.{begins_by, new_number}
use Rattle.lawful_runs.specs.Stages.{Stage, stage_of, calls_at, shapes_in}
use Rattle.rank_rules.specs.Courses.{LookUpAndIssue, ArriveAndLeave, course_of}
use Rattle.rank_rules.specs.Knowledge.{Knowledge, ends_call, learn}
use Rattle.rank_rules.specs.Windows.{RankWindows, window_number, next_number, is_same_flavor, windows_after}
use Rattle.step_runs.specs.Agents.{Agent, next_call, keep_item, end_call, enter_call}
use Rattle.step_runs.specs.BoardSteps.{next_row}
use Rattle.step_laws.proofs.CallCourses.{collective_moves_none, one_entry_moves_none, one_entry_makes_none}
use Rattle.step_laws.proofs.CallCourses.{learns_call}
use Rattle.step_laws.proofs.Creations.{HasRoom, HasLists, MakesWith, parts_fit, parts_by_address}
use Rattle.step_laws.proofs.EntryMoves.{IsOneEntry, IsAllowedEntry, with_entry, IsTurnedAway, ByRefusal, ByTest}
use Rattle.step_laws.proofs.EntryMoves.{with_row, EntryMove, TurnsAway, Arrives, LooksUp, Leaves, EntersOnce}
use Rattle.step_laws.proofs.EntryMoves.{known_stays, look_up_opens, begun_kept}
use Rattle.step_laws.proofs.Flavors.{AreRegular, same_flavor}
use Rattle.step_laws.proofs.EntryNumbers.{act_after, acts_push, creations_push, is_creation_if}
use Rattle.step_laws.proofs.LookUps.{look_up_lies}
use Rattle.step_laws.proofs.OwnTests.{HasIssue, transfer_with_issue}
use Rattle.step_laws.proofs.Sound.{IsSoundRank, HasArrived, regular_push, no_more_creations, still_arrived}
use Rattle.step_laws.proofs.Sound.{MakesByAddress, windows_stay_roomy, rank_stays, space_stays}
use Rattle.step_laws.specs.Inside.{bytes_at, begun_names, names_so_far}
use Rattle.step_laws.proofs.OwnEntries.{IsSoundAt, own_row_sound, pushed_at, count_names, count_made}

-- ---- moves

arrives_sound : (script : Script) (delay : Delay) (rank : ℕ) (agent : Agent) (rows : List Row) (call : Call) →
    IsSoundRank script delay rank agent rows →
    IsAllowedEntry (stage_of script delay) agent rows call Arrive → agent.entered ≡ false →
    course_of agent.known.windows call ≡ ArriveAndLeave →
    IsSoundRank script delay rank (enter_call (with_entry (stage_of script delay) agent rows call Arrive))
    (with_row agent rows call Arrive)
arrives_sound script delay rank agent rows call sound entry new course =
    subst (λ (k : Knowledge). IsSoundRank script delay rank (record next { known = k }) now)
    (sym (known_stays stage agent rows call Arrive entry.here refl)) (record {
      mine = sound.mine;
      whose = sound.whose;
      space = sound.space;
      roomy = sound.roomy;
      numbers = λ win. creations_push rows row rank win
          ∙ sums (creations rows rank win) (count_by (λ name. name == win) agent.known.windows.created)
          (cond (begins_by rank win row) 1 0) (count_by (λ name. name == win) (name_made call))
          (old win) (count_made call (agent.rank == rank) win (eq-eqb agent.rank rank sound.mine))
          ∙ sym (count_names win agent.known.windows.created (name_made call))
          ∙ ap (λ o. count_by (λ name. name == win) (agent.known.windows.created ++ begun_names true o))
          (sym entry.here);
      arrived = λ e other here creation makes.
          let same : call ≡ other = cc (entry.here, here) in
          subst (λ c. HasArrived agent.known.windows now c creation) same
          (has_arrived creation (ap creation_of same ∙ makes));
      looked = λ e other here t moves window live.
          let same : call ≡ other = cc (entry.here, here) in
          absurd (collective_moves_none agent.known.windows call t course (ap transfer_of same ∙ moves));
      pending = sound.pending;
    })
  where
    stage : Stage
    stage = stage_of script delay

    row : Row
    row = next_row agent call Arrive

    now : List Row
    now = with_row agent rows call Arrive

    next : Agent
    next = enter_call (with_entry (stage_of script delay) agent rows call Arrive)

    old : (win : ℕ) → creations rows rank win ≡ count_by (λ name. name == win) agent.known.windows.created
    old win = sound.numbers win ∙ ap
        (λ b. count_by (λ name. name == win) (agent.known.windows.created ++ begun_names b (next_call stage agent))) new
        ∙ ap (count_by (λ name. name == win)) (append-nil agent.known.windows.created)

    sums : (a b c d : ℕ) → a ≡ b → c ≡ d → a + c ≡ b + d
    sums a b c d e f = omega arith

    seam : {X : Type 0} (xs : List X) (y : X) → slice_get (xs ++ y ∷ []) (length xs) ≡ Some y
    seam [] y = refl
    seam (x ∷ xs) y = seam xs y

    has_arrived : (creation : Creation) → creation_of call ≡ Some creation →
        HasArrived agent.known.windows now call creation
    has_arrived creation makes = record {
      act = act_after rows row;
      place = length (acts rows);
      there = ap (λ entries. slice_get entries (length (acts rows))) (acts_push rows row) ∙ seam (acts rows)
          (act_after rows row);
      same = refl;
      begins = is_creation_if call creation makes;
      number = new_number rows row creation (is_creation_if call creation makes) makes
          ∙ ap (λ r. window_number (creations rows r creation.win) creation.win) sound.mine
          ∙ ap (λ n. window_number n creation.win) (old creation.win);
    }

looks_sound : (script : Script) (delay : Delay) (rank : ℕ) (agent : Agent) (rows : List Row) (call : Call) →
    AreRegular script rows → IsSoundRank script delay rank agent rows →
    IsAllowedEntry (stage_of script delay) agent rows call One → agent.entered ≡ false →
    course_of agent.known.windows call ≡ LookUpAndIssue →
    IsSoundRank script delay rank (enter_call (with_entry (stage_of script delay) agent rows call One))
    (with_row agent rows call One)
looks_sound script delay rank agent rows call regular sound entry new course =
    subst (λ (k : Knowledge). IsSoundRank script delay rank (record next { known = k }) now)
    (sym (known_stays stage agent rows call One entry.here (look_up_opens agent.known.windows call course)))
    (record {
      mine = sound.mine;
      whose = sound.whose;
      space = sound.space;
      roomy = sound.roomy;
      numbers = λ win. no_more_creations rows row rank win
          (false_inside (agent.rank == rank) (is_creation call) (names_window win call)) ∙ sound.numbers win
          ∙ ap (λ b. count_by (λ name. name == win)
          (agent.known.windows.created ++ begun_names b (next_call stage agent))) new
          ∙ ap (λ l. count_by (λ name. name == win) (agent.known.windows.created ++ l))
          (sym (ap (begun_names true) entry.here ∙ no_name));
      arrived = λ e other here creation makes.
          let same : call ≡ other = cc (entry.here, here) in absurd (cc (sym none ∙ ap creation_of same ∙ makes));
      looked = λ e other here other_t moves window live.
          let same : call ≡ other = cc (entry.here, here) in
          look_up_lies script delay rank agent rows call other_t regular sound entry course
          (ap transfer_of same ∙ moves) window live;
      pending = sound.pending;
    })
  where
    stage : Stage
    stage = stage_of script delay

    row : Row
    row = next_row agent call One

    now : List Row
    now = with_row agent rows call One

    next : Agent
    next = enter_call (with_entry (stage_of script delay) agent rows call One)

    moving : (t : Transfer) × (transfer_of call ≡ Some t)
    moving = transfer_with_issue agent.known.windows call (subst HasIssue (sym course) tt)

    none : creation_of call ≡ None
    none = transfer_makes_none call moving.0 moving.1

    no_name : name_made call ≡ []
    no_name = ap (λ o. option_map_or (λ (creation : Creation). creation.win ∷ []) o []) none

-- an entry that ends its call
closes_sound : (script : Script) (delay : Delay) (rank : ℕ) (agent : Agent) (rows : List Row) (call : Call)
    (step : Step) → IsWellFormed script → rank < script.ranks →
    AreRegular script (with_row agent rows call step) → IsSoundRank script delay rank agent rows →
    IsAllowedEntry (stage_of script delay) agent rows call step → ends_call step call ≡ true →
    is_arrive step ≡ false → MakesByAddress (shapes_in (stage_of script delay) (with_row agent rows call step))
    agent.known.windows (action_of call) →
    names_so_far (stage_of script delay) agent ≡ agent.known.windows.created ++ name_made call →
    IsSoundRank script delay rank (end_call (with_entry (stage_of script delay) agent rows call step))
    (with_row agent rows call step)
closes_sound script delay rank agent rows call step formed inside regular sound entry ends no_arrive by_address names =
    subst (λ (k : Knowledge). IsSoundRank script delay rank (record next { known = k }) now)
    (sym (learns_call shapes (calls_at stage agent.rank) agent.known agent.at (length rows) step call entry.here
    ends)) (record {
      mine = sound.mine;
      whose = rank_stays shapes known (action_of call) ∙ sound.whose;
      space = subst (λ n. n ≤ bytes_at (layout script) rank) (sym (space_stays shapes known (action_of call)))
          sound.space;
      roomy = windows_stay_roomy (layout script) shapes known (action_of call)
          (parts_fit script lists now regular.sound) by_address
          (subst (λ r. HasRoom (bytes_at (layout script) r) (action_of call)) (sound.mine ∙ sym sound.whose)
          (own_row_sound script delay rank agent rows call step inside sound entry).room) sound.roomy;
      numbers = λ win. no_more_creations rows row rank win
          (ap (λ b. agent.rank == rank && (b && is_creation call) && names_window win call) no_arrive ∙ false_inside
          (agent.rank == rank) (is_creation call) (names_window win call))
          ∙ sound.numbers win
          ∙ ap (count_by (λ name. name == win))
          (names ∙ sym (created_grows shapes known call) ∙ sym
          (append-nil (windows_after shapes known (action_of call)).created));
      arrived = λ e. absurd (cc e);
      looked = λ e. absurd (cc e);
      pending = sound.pending;
    })
  where
    stage : Stage
    stage = stage_of script delay

    known : RankWindows
    known = agent.known.windows

    row : Row
    row = next_row agent call step

    now : List Row
    now = with_row agent rows call step

    next : Agent
    next = end_call (with_entry (stage_of script delay) agent rows call step)

    shapes : ℕ → List Part
    shapes = shapes_in (stage_of script delay) (with_row agent rows call step)

    lists : HasLists script
    lists = record { spaces = formed.spaces; lists = formed.lists }

-- the parts of a dynamic window that the rank leaves the creation of
leaves_by_address : (script : Script) (delay : Delay) (rank : ℕ) (agent : Agent) (rows : List Row) (call : Call) →
    AreRegular script (with_row agent rows call Leave) →
    IsSoundRank script delay rank agent rows → IsAllowedEntry (stage_of script delay) agent rows call Leave →
    agent.entered ≡ true →
    MakesByAddress (shapes_in (stage_of script delay) (with_row agent rows call Leave)) agent.known.windows
    (action_of call)
leaves_by_address script delay rank agent rows call regular sound entry begun creation is dynamic rank' =
    let now = with_row agent rows call Leave in
    let makes : creation_of call ≡ Some creation = ap creation_in is in
    let here = still_arrived agent.known.windows rows (next_row agent call Leave) call creation
    (sound.arrived begun call entry.here creation makes) in
    let number = next_number agent.known.windows.created creation.win in
    let flavor = regular.flavors number in
    let made : creation.flavor ≡ flavor.0 =
    each_at (MakesWith flavor.0 number) (acts now) here.place here.act flavor.1 here.there here.begins here.number
    creation (ap creation_of here.same ∙ makes) in
    parts_by_address script now number
    (subst (λ f. AllByRecursion (MakesWith f number) (acts now))
    (sym made ∙ is_dynamic_flavor creation.flavor dynamic) flavor.1) rank'
  where
    is_dynamic_flavor : (f : Flavor) → is_same_flavor f Dynamic ≡ true → f ≡ Dynamic
    is_dynamic_flavor f e = same_flavor f Dynamic e

pub entered_names : (stage : Stage) (agent : Agent) (call : Call) → agent.entered ≡ true →
    next_call stage agent ≡ Some call →
    names_so_far stage agent ≡ agent.known.windows.created ++ name_made call
entered_names stage agent call begun here =
    ap (λ b. agent.known.windows.created ++ begun_names b (next_call stage agent)) begun ∙ ap
    (λ o. agent.known.windows.created ++ begun_names true o) here

new_names : (stage : Stage) (agent : Agent) (call : Call) → agent.entered ≡ false →
    IsOneEntry (course_of agent.known.windows call) →
    names_so_far stage agent ≡ agent.known.windows.created ++ name_made call
new_names stage agent call new one =
    ap (λ b. agent.known.windows.created ++ begun_names b (next_call stage agent)) new ∙ ap
    (λ l. agent.known.windows.created ++ l) (sym (by_creation (creation_of call) refl))
  where
    by_creation : (o : Option Creation) → creation_of call ≡ o →
        option_map_or (λ (creation : Creation). creation.win ∷ []) o [] ≡ []
    by_creation None e = refl
    by_creation (Some creation) e = absurd
        (one_entry_makes_none agent.known.windows call creation one (creates_it call creation e))

turned_away_sound : (script : Script) (delay : Delay) (rank : ℕ) (agent : Agent) (rows : List Row) (item : Item)
    (shapes : ℕ → List Part) → IsSoundRank script delay rank agent rows →
    agent.entered ≡ false → IsTurnedAway agent rows item → IsSoundRank script delay rank
    (end_call (keep_item shapes (stage_of script delay) agent item)) rows
turned_away_sound script delay rank agent rows item shapes sound new away =
    subst (λ (k : Knowledge). IsSoundRank script delay rank
    (record (end_call (keep_item shapes (stage_of script delay) agent item)) { known = k }) rows) (sym (same away))
    (record {
      mine = sound.mine;
      whose = sound.whose;
      space = sound.space;
      roomy = sound.roomy;
      numbers = λ win. sound.numbers win ∙ ap
          (λ b. count_by (λ name. name == win)
          (agent.known.windows.created ++ begun_names b (next_call (stage_of script delay) agent))) new;
      arrived = λ e. absurd (cc e);
      looked = λ e. absurd (cc e);
      pending = sound.pending;
    })
  where
    same : IsTurnedAway agent rows item → learn shapes (calls_at (stage_of script delay) agent.rank) agent.known
        item ≡ agent.known
    same (ByRefusal class is) = ap (learn shapes (calls_at (stage_of script delay) agent.rank) agent.known) is
    same (ByTest is) = ap (learn shapes (calls_at (stage_of script delay) agent.rank) agent.known) is

pub entry_keeps : (script : Script) (delay : Delay) (rank : ℕ) (first : List Row) → IsWellFormed script →
    rank < script.ranks → (agent next : Agent) (rows now : List Row) →
    IsSoundAt script delay rank first agent rows → EntryMove (stage_of script delay) agent rows next now →
    IsSoundAt script delay rank first next now
entry_keeps script delay rank first formed inside agent next rows now at (TurnsAway call item here new away is still) =
    let stage = stage_of script delay in
    subst (λ r. IsSoundAt script delay rank first next r) (sym still) (record {
      sound = subst (λ a. IsSoundRank script delay rank a rows) (sym is)
          (turned_away_sound script delay rank agent rows item (shapes_in stage rows) at.sound new away);
      regular = at.regular;
      begun = begun_kept stage agent next rows now (TurnsAway call item here new away is still);
      others = at.others;
    })
entry_keeps script delay rank first formed inside agent next rows now at (Arrives call entry new course is more) =
    subst (λ r. IsSoundAt script delay rank first next r) (sym more)
    (pushed_at script delay rank first agent next rows call Arrive formed inside at entry
    (subst (λ a. IsSoundRank script delay rank a (with_row agent rows call Arrive)) (sym is)
    (arrives_sound script delay rank agent rows call at.sound entry new course))
    (begun_kept (stage_of script delay) agent next rows now (Arrives call entry new course is more)))
entry_keeps script delay rank first formed inside agent next rows now at (LooksUp call entry new course is more) =
    subst (λ r. IsSoundAt script delay rank first next r) (sym more)
    (pushed_at script delay rank first agent next rows call One formed inside at entry
    (subst (λ a. IsSoundRank script delay rank a (with_row agent rows call One)) (sym is)
    (looks_sound script delay rank agent rows call at.regular at.sound entry new course))
    (begun_kept (stage_of script delay) agent next rows now (LooksUp call entry new course is more)))
entry_keeps script delay rank first formed inside agent next rows now at (Leaves call entry begun course is more) =
    let regular = regular_push script rows (next_row agent call Leave) formed at.regular
    (own_row_sound script delay rank agent rows call Leave inside at.sound entry) entry.allowed in
    subst (λ r. IsSoundAt script delay rank first next r) (sym more)
    (pushed_at script delay rank first agent next rows call Leave formed inside at entry
    (subst (λ a. IsSoundRank script delay rank a (with_row agent rows call Leave)) (sym is)
    (closes_sound script delay rank agent rows call Leave formed inside regular at.sound entry refl refl
    (leaves_by_address script delay rank agent rows call regular at.sound entry begun)
    (entered_names (stage_of script delay) agent call begun entry.here)))
    (begun_kept (stage_of script delay) agent next rows now (Leaves call entry begun course is more)))
entry_keeps script delay rank first formed inside agent next rows now at (EntersOnce call entry new one is more) =
    let regular = regular_push script rows (next_row agent call One) formed at.regular
    (own_row_sound script delay rank agent rows call One inside at.sound entry) entry.allowed in
    subst (λ r. IsSoundAt script delay rank first next r) (sym more)
    (pushed_at script delay rank first agent next rows call One formed inside at entry
    (subst (λ a. IsSoundRank script delay rank a (with_row agent rows call One)) (sym is)
    (closes_sound script delay rank agent rows call One formed inside regular at.sound entry
    (one_entry_moves_none agent.known.windows call one) refl
    (λ creation made. absurd (one_entry_makes_none agent.known.windows call creation one made))
    (new_names (stage_of script delay) agent call new one)))
    (begun_kept (stage_of script delay) agent next rows now (EntersOnce call entry new one is more)))
