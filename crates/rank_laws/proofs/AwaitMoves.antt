-- Before an item that must wait for accesses, each of them is touched whole.
use Rattle.std.proofs.Common.{◌≡◌, ℕ, ◌⊎◌, inl, inr, Bool, true, false, not, ◌&&◌, ◌||◌, List, [], ◌∷◌, ◌++◌, length}
use Rattle.std.proofs.Common.{Option, Some, None, refl, sym, ◌∙◌, ap, subst}
use Rattle.std.specs.Prelude.{slice_get}
use Rattle.std.specs.List.{AllByRecursion, list_any, position}
use Rattle.std.specs.Option.{option_map_or}
use Rattle.std.proofs.lemmas.Bool.Decides.{eqb_tells}
use Rattle.std.proofs.lemmas.List.Folds.{list_any-append}
use Rattle.list_laws.proofs.Members.{Among}
use Rattle.list_laws.proofs.Truths.{both_right, both_left}
use Rattle.rma_types.specs.declared.accesses.Step.{Step}
use Rattle.rma_types.specs.declared.accesses.Step.TheVariants.{Arrive, Leave, One}
use Rattle.rma_types.specs.declared.calls.Call.{Call}
use Rattle.rma_types.specs.declared.scripts.Part.{Part}
use Rattle.rma_record.specs.declared.items.Item.{Item}
use Rattle.rma_record.specs.declared.items.Item.TheVariants.{Issue, Entry, Tested, Refused, Ended}
use Rattle.board_rules.specs.Entries.{Row}
use Rattle.lawful_runs.specs.Accesses.{issued_at}
use Rattle.lawful_runs.specs.Items.{is_ended, is_own_refusal, number_in, belongs_to}
use Rattle.lawful_runs.specs.Stages.{Stage, RankOfRun, calls_at, calls_here, known_at, shapes_in}
use Rattle.lawful_runs.specs.TouchLaw.{IsTouchedWhole, is_awaiting, begins_awaiting}
use Rattle.rank_laws.proofs.Awaiting.{rank_of, KnowsRequests, requests_push, touches_teach_nothing, AreAwaited}
use Rattle.rank_laws.proofs.Awaiting.{awaited_push, awaited_touches}
use Rattle.rank_laws.proofs.Inductions.{Keeps}
use Rattle.rank_laws.proofs.Lists.{none_passes, among_each}
use Rattle.rank_laws.proofs.Moves.{course_at, Begins, Entering, OnlyEntry, LookUp, Arriving, Leaving, IsPlainItem}
use Rattle.rank_laws.proofs.Moves.{Issuing, Learns, Rises, Ends, RefusesAlone, IsRefused, Tests, Passes, Enters, Issues}
use Rattle.rank_laws.proofs.Moves.{IssuesWhole, Draws, Delivers}
use Rattle.rank_laws.proofs.Pendings.{IsSettled}
use Rattle.rank_laws.proofs.Touching.{touches_own, touches_of_own}
use Rattle.rank_laws.proofs.TouchMoves.{KeepsTouches, touches_kept}
use Rattle.rank_rules.specs.Courses.{Course, OneNull, OneIssue, LookUpAndIssue, OneFlush, OneRequest, ArriveAndLeave}
use Rattle.rank_rules.specs.Courses.{EntryOrTested, OneEntry}
use Rattle.rank_rules.specs.Knowledge.{Knowledge}
use Rattle.rank_rules.specs.Pending.{must_wait, way}
use Rattle.rank_rules.specs.declared.pending.PendingAccess.{PendingAccess}
use Rattle.rank_rules.specs.Requests.{Requests}
use Rattle.step_runs.specs.Agents.{Agent, keep_item}
use Rattle.step_runs.specs.BoardSteps.{next_row}
use Rattle.step_runs.specs.DataSteps.{no_shapes}

-- ---- ranks

-- an item of the rank's call stands in the log, where its first entry is put
abbrev pub HasBegun : Agent → Type 0
HasBegun agent = agent.entered ≡ true → list_any (belongs_to agent.at) agent.log ≡ true

pub record KeepsAwaited (stage : Stage) (agent : Agent) : Type 0 where
  pub touches : KeepsTouches stage agent
  pub requests : KnowsRequests stage agent.rank agent.known agent.log
  pub begun : HasBegun agent
  pub awaited : AreAwaited stage agent.rank agent.log

-- an access that is not pending is touched whole
whole_or_pending : (stage : Stage) (agent : Agent) (one : PendingAccess) (rows : List Row) →
    KeepsTouches stage agent → issued_at (calls_at stage agent.rank) agent.log one.index ≡ Some one →
    (Among one agent.pending → ⊥) → IsTouchedWhole (rank_of stage agent.rank rows) agent.log one
whole_or_pending stage agent one rows keeps e none = by (keeps.has.each one.index one e)
  where
    by : IsSettled stage.layout (calls_at stage agent.rank) agent.log agent.pending one →
        IsTouchedWhole (rank_of stage agent.rank rows) agent.log one
    by (inl whole) = whole
    by (inr waits) = absurd (none waits.1)

-- what an item of a call that begins now waits for is touched
begins_awaited : (stage : Stage) (agent : Agent) (call : Call) (item : Item) → Begins stage agent call →
    KeepsAwaited stage agent → is_ended item ≡ false → number_in item ≡ Some agent.at →
    (rows : List Row) (one : PendingAccess) → issued_at (calls_at stage agent.rank) agent.log one.index ≡ Some one →
    is_awaiting (rank_of stage agent.rank rows) agent.log one item ≡ true →
    IsTouchedWhole (rank_of stage agent.rank rows) agent.log one
begins_awaited stage agent call item begins h ended number rows one e waits =
    whole_or_pending stage agent one rows h.touches e (λ among. cc
    (sym (among_each (λ p. must_wait agent.known.requests call p ≡ false) one agent.pending none among) ∙ must))
  where
    here : RankOfRun
    here = rank_of stage agent.rank rows

    awaits : begins_awaiting here agent.log item one agent.at ≡ true
    awaits = ap (λ (o : Option ℕ). option_map_or (begins_awaiting here agent.log item one) o false) (sym number)
        ∙ ap (λ b. b || option_map_or (begins_awaiting here agent.log item one) (number_in item) false) (sym ended)
        ∙ waits

    at_call : must_wait (known_at here agent.log).requests call one ≡ true
    at_call = ap (λ (o : Option Call). option_map_or (λ c. must_wait
        (known_at here agent.log).requests c one) o false) (sym begins.here)
        ∙ both_right (not (is_own_refusal item) && not (list_any (belongs_to agent.at) agent.log))
        (option_map_or (λ c. must_wait (known_at here agent.log).requests c one)
        (slice_get (calls_here here) agent.at) false) awaits

    must : must_wait agent.known.requests call one ≡ true
    must = ap (λ (r : Requests). must_wait r call one) (sym (h.requests rows)) ∙ at_call

    none_found : (o : Option ℕ) → option_map_or (λ at. Some (way agent.pending at)) o None ≡ None → o ≡ None
    none_found None k = refl
    none_found (Some at) k = absurd (cc k)

    none : AllByRecursion (λ p. must_wait agent.known.requests call p ≡ false) agent.pending
    none = none_passes (must_wait agent.known.requests call) agent.pending
        (none_found (position (must_wait agent.known.requests call) agent.pending) begins.awaits)

-- a second item of a call waits for nothing
second_awaits_nothing : (here : RankOfRun) (log : List Item) (one : PendingAccess) (at : ℕ) (item : Item) →
    list_any (belongs_to at) log ≡ true → is_ended item ≡ false → number_in item ≡ Some at →
    is_awaiting here log one item ≡ true → ⊥
second_awaits_nothing here log one at item there ended number waits =
    let awaits : begins_awaiting here log item one at ≡ true =
    ap (λ (o : Option ℕ). option_map_or (begins_awaiting here log item one) o false) (sym number)
    ∙ ap (λ b. b || option_map_or (begins_awaiting here log item one) (number_in item) false) (sym ended) ∙ waits in
    let none = both_right (not (is_own_refusal item)) (not (list_any (belongs_to at) log))
    (both_left (not (is_own_refusal item) && not (list_any (belongs_to at) log))
    (option_map_or (λ c. must_wait (known_at here log).requests c one)
    (slice_get (calls_here here) at) false) awaits) in
    cc (sym none ∙ ap not there)

any_left : {X : Type 0} (test : X → Bool) (xs ys : List X) → list_any test xs ≡ true → list_any test (xs ++ ys) ≡ true
any_left test xs ys e = list_any-append test xs ys ∙ ap (λ b. b || list_any test ys) e

any_last : {X : Type 0} (test : X → Bool) (xs : List X) (x : X) → test x ≡ true → list_any test (xs ++ x ∷ []) ≡ true
any_last test [] x e = ap (λ b. b || false) e
any_last test (y ∷ xs) x e = ap (λ b. test y || b) (any_last test xs x e) ∙ or_true (test y)
  where
    or_true : (b : Bool) → (b || true) ≡ true
    or_true true = refl
    or_true false = refl

its_entry : (at place : ℕ) (step : Step) → belongs_to at (Entry at place step) ≡ true
its_entry at place step = elim (eqb_tells at at) [ inl same ↦ same.0 | inr not ↦ absurd (not.1 refl) ]

plain_item_named : (course : Course) (number : ℕ) (item : Item) → IsPlainItem course number item →
    (is_ended item ≡ false) × (number_in item ≡ Some number)
plain_item_named OneNull number item e = (ap is_ended e, ap number_in e)
plain_item_named OneIssue number item e = absurd e
plain_item_named LookUpAndIssue number item e = absurd e
plain_item_named OneFlush number item e = (ap is_ended e, ap number_in e)
plain_item_named OneRequest number item e = (ap is_ended e, ap number_in e)
plain_item_named ArriveAndLeave number item e = absurd e
plain_item_named EntryOrTested number item e = absurd e
plain_item_named OneEntry number item e = absurd e

-- what an item of this log waits for is touched
abbrev NewAwaited : Stage → Agent → Item → Type 0
NewAwaited stage agent item = (rows : List Row) (one : PendingAccess) →
    issued_at (calls_at stage agent.rank) agent.log one.index ≡ Some one →
    is_awaiting (rank_of stage agent.rank rows) agent.log one item ≡ true →
    IsTouchedWhole (rank_of stage agent.rank rows) agent.log one

second_new : (stage : Stage) (agent : Agent) (item : Item) → KeepsAwaited stage agent → agent.entered ≡ true →
    is_ended item ≡ false → number_in item ≡ Some agent.at → NewAwaited stage agent item
second_new stage agent item h inside ended number rows one e waits =
    absurd (second_awaits_nothing (rank_of stage agent.rank rows) agent.log one agent.at item
    (h.begun inside) ended number waits)

issue_new : (stage : Stage) (agent : Agent) (call : Call) (t : _) (access : _) → Issuing stage agent call t access →
    KeepsAwaited stage agent → NewAwaited stage agent (Issue agent.at access)
issue_new stage agent call t access issuing h = by issuing.begun
  where
    by : (Begins stage agent call × (course_at agent call ≡ OneIssue)) ⊎ (agent.entered ≡ true) →
        NewAwaited stage agent (Issue agent.at access)
    by (inl begins) = begins_awaited stage agent call (Issue agent.at access) begins.0 h refl refl
    by (inr inside) = second_new stage agent (Issue agent.at access) h inside refl refl

awaited_entered : (stage : Stage) (agent : Agent) (call : Call) (step : Step) (after : Agent → Agent) (shapes : ℕ →
    List Part) (place : ℕ) → Entering stage agent call step after → KeepsAwaited stage agent →
    KeepsTouches stage (after (keep_item shapes stage agent (Entry agent.at place step))) →
    KeepsAwaited stage (after (keep_item shapes stage agent (Entry agent.at place step)))
awaited_entered stage agent call _ _ shapes place (OnlyEntry begins course) h touches = record {
  touches = touches;
  requests = requests_push shapes stage agent.rank agent.known agent.log (Entry agent.at place One) h.requests;
  begun = λ e. absurd (cc e);
  awaited = awaited_push stage agent.rank agent.log (Entry agent.at place One) h.awaited
      (begins_awaited stage agent call (Entry agent.at place One) begins h refl refl);
}
awaited_entered stage agent call _ _ shapes place (LookUp begins course) h touches = record {
  touches = touches;
  requests = requests_push shapes stage agent.rank agent.known agent.log (Entry agent.at place One) h.requests;
  begun = λ e. any_last (belongs_to agent.at) agent.log (Entry agent.at place One) (its_entry agent.at place One);
  awaited = awaited_push stage agent.rank agent.log (Entry agent.at place One) h.awaited
      (begins_awaited stage agent call (Entry agent.at place One) begins h refl refl);
}
awaited_entered stage agent call _ _ shapes place (Arriving begins course) h touches = record {
  touches = touches;
  requests = requests_push shapes stage agent.rank agent.known agent.log (Entry agent.at place Arrive) h.requests;
  begun = λ e. any_last (belongs_to agent.at) agent.log (Entry agent.at place Arrive)
      (its_entry agent.at place Arrive);
  awaited = awaited_push stage agent.rank agent.log (Entry agent.at place Arrive) h.awaited
      (begins_awaited stage agent call (Entry agent.at place Arrive) begins h refl refl);
}
awaited_entered stage agent call _ _ shapes place (Leaving here inside moves) h touches = record {
  touches = touches;
  requests = requests_push shapes stage agent.rank agent.known agent.log (Entry agent.at place Leave) h.requests;
  begun = λ e. absurd (cc e);
  awaited = awaited_push stage agent.rank agent.log (Entry agent.at place Leave) h.awaited
      (second_new stage agent (Entry agent.at place Leave) h inside refl refl);
}

pub awaited_kept : (stage : Stage) → Keeps stage (λ p. KeepsAwaited stage p.agent)
awaited_kept stage p _ h (Learns more others) = h
awaited_kept stage p _ h (Rises after rise) = h
awaited_kept stage p _ h (Ends past empty going) = record {
  touches = touches_kept stage p _ h.touches (Ends past empty going);
  requests = requests_push no_shapes stage p.agent.rank p.agent.known p.agent.log Ended h.requests;
  begun = λ e. any_left (belongs_to p.agent.at) p.agent.log (Ended ∷ []) (h.begun e);
  awaited = awaited_push stage p.agent.rank p.agent.log Ended h.awaited
      (λ rows one e waits. whole_or_pending stage p.agent one rows h.touches e
      (λ among. subst (Among one) empty among));
}
awaited_kept stage p _ h (RefusesAlone call class here new refuses) = record {
  touches = touches_kept stage p _ h.touches (RefusesAlone call class here new refuses);
  requests = requests_push no_shapes stage p.agent.rank p.agent.known p.agent.log
      (Refused p.agent.at class 0) h.requests;
  begun = λ e. absurd (cc e);
  awaited = awaited_push stage p.agent.rank p.agent.log (Refused p.agent.at class 0) h.awaited
      (λ rows one e waits. absurd (cc waits));
}
awaited_kept stage p _ h (IsRefused call class begins has answer) = record {
  touches = touches_kept stage p _ h.touches (IsRefused call class begins has answer);
  requests = requests_push (shapes_in stage p.rows) stage p.agent.rank p.agent.known p.agent.log
      (Refused p.agent.at class (length p.rows)) h.requests;
  begun = λ e. absurd (cc e);
  awaited = awaited_push stage p.agent.rank p.agent.log (Refused p.agent.at class (length p.rows)) h.awaited
      (begins_awaited stage p.agent call (Refused p.agent.at class (length p.rows)) begins h refl refl);
}
awaited_kept stage p _ h (Tests call begins course answer) = record {
  touches = touches_kept stage p _ h.touches (Tests call begins course answer);
  requests = requests_push (shapes_in stage p.rows) stage p.agent.rank p.agent.known p.agent.log
      (Tested p.agent.at (length p.rows)) h.requests;
  begun = λ e. absurd (cc e);
  awaited = awaited_push stage p.agent.rank p.agent.log (Tested p.agent.at (length p.rows)) h.awaited
      (begins_awaited stage p.agent call (Tested p.agent.at (length p.rows)) begins h refl refl);
}
awaited_kept stage p _ h (Passes call item begins plain) =
    let named = plain_item_named (course_at p.agent call) p.agent.at item plain in
    record {
      touches = touches_kept stage p _ h.touches (Passes call item begins plain);
      requests = requests_push no_shapes stage p.agent.rank p.agent.known p.agent.log item h.requests;
      begun = λ e. absurd (cc e);
      awaited = awaited_push stage p.agent.rank p.agent.log item h.awaited
          (begins_awaited stage p.agent call item begins h named.0 named.1);
    }
awaited_kept stage p _ h (Enters call step after entering answer) =
    awaited_entered stage p.agent call step after (shapes_in stage (p.rows ++ next_row p.agent call step ∷ []))
    (length p.rows) entering h (touches_kept stage p _ h.touches (Enters call step after entering answer))
awaited_kept stage p _ h (Issues call t access issuing later) = record {
  touches = touches_kept stage p _ h.touches (Issues call t access issuing later);
  requests = requests_push no_shapes stage p.agent.rank p.agent.known p.agent.log
      (Issue p.agent.at access) h.requests;
  begun = λ e. absurd (cc e);
  awaited = awaited_push stage p.agent.rank p.agent.log (Issue p.agent.at access) h.awaited
      (issue_new stage p.agent call t access issuing h);
}
awaited_kept stage p _ h (IssuesWhole call t access items after issuing once touches) =
    let own = touches_own t (length p.agent.log) 0 _ p.lows items after touches in
    let item = Issue p.agent.at access in
    let log = p.agent.log ++ item ∷ [] in
    record {
      touches = touches_kept stage p _ h.touches (IssuesWhole call t access items after issuing once touches);
      requests = λ rows. ap (λ (k : Knowledge). k.requests) (touches_teach_nothing (rank_of stage p.agent.rank rows)
          (length p.agent.log) items log own)
          ∙ requests_push no_shapes stage p.agent.rank p.agent.known p.agent.log item h.requests rows;
      begun = λ e. absurd (cc e);
      awaited = awaited_touches stage p.agent.rank (length p.agent.log) items log own
          (awaited_push stage p.agent.rank p.agent.log item h.awaited
          (issue_new stage p.agent call t access issuing h));
    }
awaited_kept stage p _ h (Draws state new) =
    let old = touches_kept stage p _ h.touches (Draws state new) in record {
      touches = old;
      requests = h.requests;
      begun = h.begun;
      awaited = h.awaited;
    }
awaited_kept stage p _ h (Delivers at one items after there due touches) =
    let own = touches_of_own stage one _ p.lows items after touches in
    record {
      touches = touches_kept stage p _ h.touches (Delivers at one items after there due touches);
      requests = λ rows. ap (λ (k : Knowledge). k.requests) (touches_teach_nothing
          (rank_of stage p.agent.rank rows) one.index items p.agent.log own) ∙ h.requests rows;
      begun = λ e. any_left (belongs_to p.agent.at) p.agent.log items (h.begun e);
      awaited = awaited_touches stage p.agent.rank one.index items p.agent.log own h.awaited;
    }
