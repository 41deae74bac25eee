-- What an item of a log teaches its rank: it depends on the parts of a window only where a creation ends.
use Rattle.std.proofs.Common.{◌≡◌, ℕ, ◌⊎◌, inl, inr, true, false, cond, List, [], ◌∷◌, ◌++◌, Option, Some, None, refl}
use Rattle.std.proofs.Common.{sym, ◌∙◌, ap}
use Rattle.std.specs.Prelude.{slice_get, is_none, is_some, not, ◌==◌}
use Rattle.std.specs.List.{filter}
use Rattle.std.specs.Option.{option_map_or}
use Rattle.std.proofs.lemmas.List.{append-nil}
use Rattle.rma_types.specs.declared.accesses.Access.{Access}
use Rattle.rma_types.specs.declared.accesses.Step.TheVariants.{Arrive, Leave, One}
use Rattle.rma_types.specs.declared.calls.Call.{Call}
use Rattle.rma_types.specs.declared.scripts.Part.{Part}
use Rattle.rma_types.proofs.ActionLaws.{transfer_makes_none, none_made}
use Rattle.rma_record.specs.declared.items.Item.{Item}
use Rattle.rma_record.specs.declared.items.Item.TheVariants.{Issue, Entry}
use Rattle.rma_types.specs.declared.actions.Action.{Action}
use Rattle.rma_types.specs.declared.actions.Action.TheVariants.{Creates, Frees, Attaches, Detaches, Synchronises, Meets}
use Rattle.rma_types.specs.declared.actions.Action.TheVariants.{Moves, EndsRequest}
use Rattle.rma_types.specs.declared.actions.Creation.{Creation}
use Rattle.rma_types.specs.declared.actions.Transfer.{Transfer}
use Rattle.rma_types.specs.Actions.{action_of, creation_in, creation_of, transfer_in, transfer_of}
use Rattle.rank_rules.proofs.WindowLaws.{created_grows}
use Rattle.lawful_runs.specs.Stages.{Stage, calls_at}
use Rattle.rank_laws.proofs.CallKinds.{is_transfers, course_tells_transfer, moves_nothing}
use Rattle.rank_laws.proofs.Moves.{course_at, Begins, IsPlainItem, Issuing}
use Rattle.rank_rules.specs.Courses.{Course, OneNull, OneIssue, LookUpAndIssue, OneFlush, OneRequest, ArriveAndLeave}
use Rattle.rank_rules.specs.Courses.{EntryOrTested, OneEntry, course_of, course_of_action}
use Rattle.rank_rules.specs.Knowledge.{Knowledge, ends_call, accepted_by, known_after_call, known_after_number, learn}
use Rattle.rank_rules.specs.Windows.{Window, RankWindows, next_number, windows_after}
use Rattle.step_runs.specs.Agents.{Agent, next_call}

-- ---- calls that make no window

action_makes_none : (known : RankWindows) (action : Action) → (course_of_action known action ≡ ArriveAndLeave → ⊥) →
    creation_in action ≡ None
action_makes_none known (Creates creation) other = absurd (other refl)
action_makes_none known (Frees win) other = refl
action_makes_none known (Attaches win base bytes) other = refl
action_makes_none known (Detaches win base) other = refl
action_makes_none known (Synchronises win s) other = refl
action_makes_none known Meets other = refl
action_makes_none known (Moves t) other = refl
action_makes_none known (EndsRequest req) other = refl

-- a call that is not collective makes no window
pub makes_none : (known : RankWindows) (call : Call) → (course_of known call ≡ ArriveAndLeave → ⊥) →
    creation_of call ≡ None
makes_none known call other = action_makes_none known (action_of call) other

moving_makes_none : (action : Action) (t : Transfer) → transfer_in action ≡ Some t → creation_in action ≡ None
moving_makes_none (Creates creation) t e = absurd (cc e)
moving_makes_none (Frees win) t e = refl
moving_makes_none (Attaches win base bytes) t e = refl
moving_makes_none (Detaches win base) t e = refl
moving_makes_none (Synchronises win s) t e = refl
moving_makes_none Meets t e = refl
moving_makes_none (Moves transfer) t e = refl
moving_makes_none (EndsRequest req) t e = refl

-- a look-up is of a call that moves data
pub look_up_moves : (known : RankWindows) (call : Call) → course_of known call ≡ LookUpAndIssue →
    (t : Transfer) × (transfer_of call ≡ Some t)
look_up_moves known call course = found (transfer_of call)
    (sym (course_tells_transfer known call) ∙ ap is_transfers course)
  where
    found : (o : Option Transfer) → is_some o ≡ true → (t : Transfer) × (o ≡ Some t)
    found None e = absurd (cc e)
    found (Some t) e = (t, refl)

-- ---- what an accepted call teaches

windows_alike : (s other : ℕ → List Part) (known : RankWindows) (action : Action) →
    ((creation : Creation) → creation_in action ≡ Some creation →
    s (next_number known.created creation.win) ≡ other (next_number known.created creation.win)) →
    windows_after s known action ≡ windows_after other known action
windows_alike s other known (Creates creation) same = rw (same creation refl) refl
windows_alike s other known (Frees win) same = refl
windows_alike s other known (Attaches win base bytes) same = refl
windows_alike s other known (Detaches win base) same = refl
windows_alike s other known (Synchronises win synchronisation) same = refl
windows_alike s other known Meets same = refl
windows_alike s other known (Moves t) same = refl
windows_alike s other known (EndsRequest req) same = refl

-- the parts of the window that it makes are all that it asks of the entries
pub call_alike : (s other : ℕ → List Part) (known : Knowledge) (number : ℕ) (call : Call) →
    ((creation : Creation) → creation_of call ≡ Some creation →
    s (next_number known.windows.created creation.win) ≡ other (next_number known.windows.created creation.win)) →
    known_after_call s known number call ≡ known_after_call other known number call
call_alike s other known number call same =
    ap (λ (w : RankWindows). record (known_after_call other known number call) { windows = w })
    (windows_alike s other known.windows (action_of call) same)

created_by : (s : ℕ → List Part) (known : RankWindows) (action : Action) →
    (windows_after s known action).created ≡
    known.created ++ option_map_or (λ (creation : Creation). creation.win ∷ []) (creation_in action) []
created_by s known (Creates creation) = refl
created_by s known (Frees win) = sym (append-nil known.created)
created_by s known (Attaches win base bytes) = sym (append-nil known.created)
created_by s known (Detaches win base) = sym (append-nil known.created)
created_by s known (Synchronises win synchronisation) = sym (append-nil known.created)
created_by s known Meets = sym (append-nil known.created)
created_by s known (Moves t) = sym (append-nil known.created)
created_by s known (EndsRequest req) = sym (append-nil known.created)

still_none : (s : ℕ → List Part) (known : RankWindows) (action : Action) → creation_in action ≡ None →
    known.windows ≡ [] → (windows_after s known action).windows ≡ []
still_none s known (Creates creation) none e = absurd (cc none)
still_none s known (Frees win) none e = ap (filter (λ (window : Window). not (window.win == win))) e
still_none s known (Attaches win base bytes) none e = e
still_none s known (Detaches win base) none e = e
still_none s known (Synchronises win synchronisation) none e = e
still_none s known Meets none e = e
still_none s known (Moves t) none e = e
still_none s known (EndsRequest req) none e = e

-- ---- items

-- the item ends the call
pub learns_call : (s : ℕ → List Part) (calls : List Call) (known : Knowledge) (item : Item) (number : ℕ)
    (call : Call) → accepted_by calls item ≡ Some number → slice_get calls number ≡ Some call →
    learn s calls known item ≡ known_after_call s known number call
learns_call s calls known item number call accepted here =
    ap (λ (o : Option ℕ). option_map_or (known_after_number s calls known) o known) accepted
    ∙ ap (λ (o : Option Call). option_map_or (known_after_call s known number) o known) here

-- the item teaches nothing, or ends a call that makes no window
pub data IsPlain (calls : List Call) (item : Item) : Type 0 where
  TeachesNothing : accepted_by calls item ≡ None → IsPlain calls item
  TeachesCall : (number : ℕ) (call : Call) → accepted_by calls item ≡ Some number →
      slice_get calls number ≡ Some call → creation_of call ≡ None → IsPlain calls item

pub nothing_learnt : (s : ℕ → List Part) (calls : List Call) (known : Knowledge) (item : Item) →
    accepted_by calls item ≡ None → learn s calls known item ≡ known
nothing_learnt s calls known item none = ap (λ (o : Option ℕ). option_map_or (known_after_number s calls known) o known)
    none

pub plain_alike : (s other : ℕ → List Part) (calls : List Call) (known : Knowledge) (item : Item) →
    IsPlain calls item → learn s calls known item ≡ learn other calls known item
plain_alike s other calls known item (TeachesNothing none) =
    nothing_learnt s calls known item none ∙ sym (nothing_learnt other calls known item none)
plain_alike s other calls known item (TeachesCall number call accepted here none) =
    learns_call s calls known item number call accepted here
    ∙ call_alike s other known number call (λ creation e. absurd (cc (sym none ∙ e)))
    ∙ sym (learns_call other calls known item number call accepted here)

pub plain_created : (s : ℕ → List Part) (calls : List Call) (known : Knowledge) (item : Item) →
    IsPlain calls item → (learn s calls known item).windows.created ≡ known.windows.created
plain_created s calls known item (TeachesNothing none) =
    ap (λ (k : Knowledge). k.windows.created) (nothing_learnt s calls known item none)
plain_created s calls known item (TeachesCall number call accepted here none) =
    ap (λ (k : Knowledge). k.windows.created) (learns_call s calls known item number call accepted here)
    ∙ created_grows s known.windows call
    ∙ ap (λ (names : List ℕ). known.windows.created ++ names) (none_made call none)
    ∙ append-nil known.windows.created

pub plain_unmade : (s : ℕ → List Part) (calls : List Call) (known : Knowledge) (item : Item) →
    IsPlain calls item → known.windows.windows ≡ [] → (learn s calls known item).windows.windows ≡ []
plain_unmade s calls known item (TeachesNothing none) e =
    ap (λ (k : Knowledge). k.windows.windows) (nothing_learnt s calls known item none) ∙ e
plain_unmade s calls known item (TeachesCall number call accepted here none) e =
    ap (λ (k : Knowledge). k.windows.windows) (learns_call s calls known item number call accepted here)
    ∙ still_none s known.windows (action_of call) none e

-- ---- the items of moves

by_call : (stage : Stage) (agent : Agent) (call : Call) (item : Item) → next_call stage agent ≡ Some call →
    creation_of call ≡ None → accepted_by (calls_at stage agent.rank) item ≡ Some agent.at →
    IsPlain (calls_at stage agent.rank) item
by_call stage agent call item here none accepted = TeachesCall agent.at call accepted here none

-- the one item of a call without the board and without an access
pub passing_is_plain : (stage : Stage) (agent : Agent) (call : Call) (item : Item) → Begins stage agent call →
    IsPlainItem (course_at agent call) agent.at item → IsPlain (calls_at stage agent.rank) item
passing_is_plain stage agent call item begins plain = by (course_at agent call) refl plain
  where
    other : (course : Course) → course_at agent call ≡ course → (course ≡ ArriveAndLeave → ⊥) →
        creation_of call ≡ None
    other course is apart = makes_none agent.known.windows call (λ e. apart (sym is ∙ e))

    by : (course : Course) → course_at agent call ≡ course → IsPlainItem course agent.at item →
        IsPlain (calls_at stage agent.rank) item
    by OneNull is e = by_call stage agent call item begins.here (other OneNull is (λ k. cc k))
        (ap (accepted_by (calls_at stage agent.rank)) e)
    by OneIssue is e = absurd e
    by LookUpAndIssue is e = absurd e
    by OneFlush is e = by_call stage agent call item begins.here (other OneFlush is (λ k. cc k))
        (ap (accepted_by (calls_at stage agent.rank)) e)
    by OneRequest is e = by_call stage agent call item begins.here (other OneRequest is (λ k. cc k))
        (ap (accepted_by (calls_at stage agent.rank)) e)
    by ArriveAndLeave is e = absurd e
    by EntryOrTested is e = absurd e
    by OneEntry is e = absurd e

pub issue_is_plain : (stage : Stage) (agent : Agent) (call : Call) (t : Transfer) (access : Access) →
    Issuing stage agent call t access → IsPlain (calls_at stage agent.rank) (Issue agent.at access)
issue_is_plain stage agent call t access issuing =
    by_call stage agent call (Issue agent.at access) issuing.here (transfer_makes_none call t issuing.moves) refl

-- an Arrive, and a look-up, teach nothing
pub arrive_accepts : (stage : Stage) (agent : Agent) (call : Call) (place : ℕ) → next_call stage agent ≡ Some call →
    accepted_by (calls_at stage agent.rank) (Entry agent.at place Arrive) ≡ None
arrive_accepts stage agent call place here =
    (ap (λ (o : Option Call). option_map_or (λ (c : Call). cond (ends_call Arrive c) (Some agent.at) None) o None) here)

pub arrive_is_plain : (stage : Stage) (agent : Agent) (call : Call) (place : ℕ) → next_call stage agent ≡ Some call →
    IsPlain (calls_at stage agent.rank) (Entry agent.at place Arrive)
arrive_is_plain stage agent call place here = TeachesNothing (arrive_accepts stage agent call place here)

pub look_up_accepts : (stage : Stage) (agent : Agent) (call : Call) (place : ℕ) → next_call stage agent ≡ Some call →
    course_at agent call ≡ LookUpAndIssue → accepted_by (calls_at stage agent.rank) (Entry agent.at place One) ≡ None
look_up_accepts stage agent call place here course =
    let moves = look_up_moves agent.known.windows call course in
    ap (λ (o : Option Call). option_map_or (λ (c : Call). cond (ends_call One c) (Some agent.at) None) o None) here
    ∙ ap (λ (o : Option Transfer). cond (is_none o) (Some agent.at) None) moves.1

pub look_up_is_plain : (stage : Stage) (agent : Agent) (call : Call) (place : ℕ) → next_call stage agent ≡ Some call →
    course_at agent call ≡ LookUpAndIssue → IsPlain (calls_at stage agent.rank) (Entry agent.at place One)
look_up_is_plain stage agent call place here course =
    TeachesNothing (look_up_accepts stage agent call place here course)

-- an entry of step One that ends its call
pub only_is_plain : (stage : Stage) (agent : Agent) (call : Call) (place : ℕ) → next_call stage agent ≡ Some call →
    (course_at agent call ≡ OneEntry) ⊎ (course_at agent call ≡ EntryOrTested) →
    IsPlain (calls_at stage agent.rank) (Entry agent.at place One)
only_is_plain stage agent call place here course = by course
  where
    with : (c : Course) → course_at agent call ≡ c → (c ≡ ArriveAndLeave → ⊥) → is_transfers c ≡ false →
        IsPlain (calls_at stage agent.rank) (Entry agent.at place One)
    with c is apart none = by_call stage agent call (Entry agent.at place One) here
        (makes_none agent.known.windows call (λ e. apart (sym is ∙ e)))
        (ap (λ (o : Option Call). option_map_or (λ (x : Call). cond (ends_call One x) (Some agent.at) None) o None) here
        ∙ ap (λ (o : Option Transfer). cond (is_none o) (Some agent.at) None)
        (moves_nothing agent.known.windows call c is none))

    by : (course_at agent call ≡ OneEntry) ⊎ (course_at agent call ≡ EntryOrTested) →
        IsPlain (calls_at stage agent.rank) (Entry agent.at place One)
    by (inl is) = with OneEntry is (λ k. cc k) refl
    by (inr is) = with EntryOrTested is (λ k. cc k) refl

-- the Leave ends its call
pub leave_ends : (stage : Stage) (agent : Agent) (call : Call) (place : ℕ) → next_call stage agent ≡ Some call →
    accepted_by (calls_at stage agent.rank) (Entry agent.at place Leave) ≡ Some agent.at
leave_ends stage agent call place here =
    ap (λ (o : Option Call). option_map_or (λ (c : Call). cond (ends_call Leave c) (Some agent.at) None) o None) here
