-- An access that is issued: it lies in memory, is pending from then on, and the rank stays sound.
use Rattle.std.proofs.Common.{◌≡◌, ℕ, zero, suc, ◌+◌, ◌*◌, ◌<◌, ◌≤◌, ◌⊎◌, inl, inr, Bool, true, false, cond, List, [], ◌∷◌, ◌++◌}
use Rattle.std.proofs.Common.{length, Option, Some, None, refl, sym, ◌∙◌, ap, subst, arith, length-append}
use Rattle.std.specs.Prelude.{◌%◌, ◌&&◌, IfSome, IsSomeAnd, map, remove, slice_get, nat_lt}
use Rattle.std.proofs.lemmas.Bool.{le-ltb}
use Rattle.std.proofs.lemmas.List.{append-nil}
use Rattle.list_laws.proofs.Each.{each_append}
use Rattle.list_laws.proofs.Lists.{get_last, last_removed}
use Rattle.rma_types.specs.declared.accesses.Access.{Access}
use Rattle.rma_types.specs.declared.calls.Call.{Call}
use Rattle.rma_types.specs.declared.schedules.Delay.{Delay}
use Rattle.rma_types.specs.declared.scripts.Layout.{Layout}
use Rattle.rma_types.specs.declared.scripts.Script.{Script}
use Rattle.rma_types.specs.declared.actions.Transfer.{Transfer}
use Rattle.rma_types.specs.Actions.{transfer_of, action_of, creation_of}
use Rattle.rma_types.proofs.ActionLaws.{transfer_makes_none, moves_it}
use Rattle.call_rules.specs.Layout.{layout as memory_layout}
use Rattle.call_rules.specs.Transfers.{bytes_of}
use Rattle.rma_types.specs.Datatypes.{size_of}
use Rattle.call_rules.specs.WellFormed.{IsWellFormed, IsWrittenCall}
use Rattle.rank_rules.specs.Courses.{OneIssue, LookUpAndIssue, access_on, access_of, course_of}
use Rattle.rank_rules.specs.Knowledge.{Knowledge, own_class}
use Rattle.rank_rules.specs.Pending.{made_pending}
use Rattle.rank_rules.specs.declared.pending.PendingAccess.{PendingAccess}
use Rattle.rank_rules.specs.Windows.{Window, RankWindows, window_of_name}
use Rattle.step_laws.proofs.OwnTests.{HasIssue, access_is}
use Rattle.step_laws.specs.Inside.{bytes_at, LiesInMemory}
use Rattle.window_regions.specs.Places.{HasSmallPlace}
use Rattle.rank_engine.proofs.Accesses.{bytes_are_few, lies_within}
use Rattle.rank_engine.proofs.Passed.{small_place}
use Rattle.std.specs.Option.{option_and_then, option_map_or}
use Rattle.rma_types.specs.declared.actions.Creation.{Creation}
use Rattle.delivery_queue.specs.Queues.{issued}
use Rattle.lawful_runs.specs.Stages.{Stage, calls_at}
use Rattle.rma_record.specs.declared.items.Item.{Item}
use Rattle.rank_engine.proofs.Ended.{ended_sound}
use Rattle.rank_rules.specs.Epochs.{Epochs}
use Rattle.rank_rules.specs.Requests.{Requests}
use Rattle.step_laws.specs.Inside.{begun_names, names_so_far}
use Rattle.rank_rules.specs.Epochs.{epochs_after}
use Rattle.rank_rules.specs.Requests.{with_request}
use Rattle.rma_record.specs.declared.items.Item.TheVariants.{Issue}
use Rattle.step_runs.specs.Agents.{Agent, next_call}
use Rattle.step_runs.specs.DataSteps.{with_issue}
use Rattle.rank_engine.specs.Moves.{place_now}
use Rattle.rank_engine.specs.RankStates.{RankState}
use Rattle.rank_engine.specs.Sound.{ArePending, AreQueued, IsLookedUp, IsPending, IsSound}
use Rattle.access_steps.specs.Plans.{element_count}
use Rattle.call_rules.specs.Ranks.{natural}
use Rattle.rank_engine.proofs.MovesMade.{at_once_first}
use Rattle.std.specs.List.{AllByRecursion}
use Rattle.step_runs.specs.DataSteps.{is_at_once}

abbrev pub Issues : Knowledge → Call → Type 0
Issues known call = (course_of known.windows call ≡ OneIssue) ⊎ (course_of known.windows call ≡ LookUpAndIssue)

has_issue : (known : Knowledge) (call : Call) → Issues known call → HasIssue (course_of known.windows call)
has_issue known call (inl e) = subst HasIssue (sym e) tt
has_issue known call (inr e) = subst HasIssue (sym e) tt

-- its address is small
pub small_if : (s : RankState) (call : Call) → IsSound s → IsWrittenCall call → own_class s.agent.known call ≡ None →
    Issues s.agent.known call → IfSome (transfer_of call) (HasSmallPlace s.agent.known.windows)
small_if s call sound written own issues = by_transfer (transfer_of call) refl
  where
    few : s.agent.known.windows.ranks ≤ 16
    few = subst (λ n. n ≤ 16) (sym sound.windows.ranks) sound.formed.few_ranks

    mine : s.agent.known.windows.rank < 16
    mine = subst (λ n. n < 16) (sym sound.windows.whose)
        (below s.agent.rank s.stage.script.ranks sound.rank sound.formed.few_ranks)
      where
        below : (a b : ℕ) → a < b → b ≤ 16 → a < 16
        below a b h k = omega arith

    most : (rank : ℕ) → bytes_at s.stage.layout rank ≤ 65536
    most rank = subst (λ (l : Layout). bytes_at l rank ≤ 65536) (sym sound.layout)
        (bytes_are_few s.stage.script sound.formed rank)

    by_transfer : (o : Option Transfer) → transfer_of call ≡ o → IfSome o (HasSmallPlace s.agent.known.windows)
    by_transfer None moves = tt
    by_transfer (Some t) moves = small_place s.stage.layout s.agent.known call t most few mine sound.windows.roomy
        written own (has_issue s.agent.known call issues) moves

-- ---- what is pending

pending_append : (layout : Layout) (calls : List Call) (pending : List PendingAccess) (touched : List ℕ)
    (one : PendingAccess) → ArePending layout calls pending touched → IsPending layout calls one 0 →
    ArePending layout calls (pending ++ one ∷ []) (touched ++ 0 ∷ [])
pending_append layout calls [] [] one h new = (new, tt)
pending_append layout calls [] (count ∷ touched) one h new = absurd h
pending_append layout calls (other ∷ pending) [] one h new = absurd h
pending_append layout calls (other ∷ pending) (count ∷ touched) one h new =
    (h.0, pending_append layout calls pending touched one h.1 new)

-- ---- the queue after an Issue

nothing_more : (stage : Stage) (rank : ℕ) (pending : List PendingAccess) (touched : List ℕ) →
    AreQueued stage rank pending touched None → AreQueued stage rank (pending ++ []) (touched ++ []) None
nothing_more stage rank pending touched h =
    subst (λ p. AreQueued stage rank p (touched ++ []) None) (sym (append-nil pending))
    (subst (λ t. AreQueued stage rank pending t None) (sym (append-nil touched)) h)

as_many : (layout : Layout) (calls : List Call) (pending : List PendingAccess) (touched : List ℕ) →
    ArePending layout calls pending touched → length touched ≡ length pending
as_many layout calls [] [] h = refl
as_many layout calls [] (count ∷ touched) h = absurd h
as_many layout calls (one ∷ pending) [] h = absurd h
as_many layout calls (one ∷ pending) (count ∷ touched) h = ap suc (as_many layout calls pending touched h.1)

-- one access more, whose delivery is begun
one_begun : (stage : Stage) (rank : ℕ) (pending : List PendingAccess) (touched : List ℕ) (one : PendingAccess) →
    AreQueued stage rank pending touched None → IsPending stage.layout (calls_at stage rank) one 0 →
    is_at_once stage.delay one.access ≡ true →
    AreQueued stage rank (pending ++ one ∷ []) (touched ++ 0 ∷ []) (Some (length pending))
one_begun stage rank pending touched one h new once = record {
  each = pending_append stage.layout (calls_at stage rank) pending touched one h.each new;
  first = (
    let long = length-append pending (one ∷ []) in omega arith,
    at_once_first stage.delay (pending ++ one ∷ []) (length pending) one (get_last pending one) once
        (λ delay. subst (λ (p : List PendingAccess). length (p ++ one ∷ []) ≤ 1) (sym (h.alone delay)) (omega arith)),
  );
  untouched = subst (AllByRecursion (λ count. count ≡ 0))
      (sym (ap (remove (touched ++ 0 ∷ [])) (sym (as_many stage.layout (calls_at stage rank) pending touched h.each))
      ∙ last_removed touched 0)) h.untouched;
  alone = λ delay. last_removed pending one ∙ h.alone delay;
}

-- one access more, which is delivered later
one_later : (stage : Stage) (rank : ℕ) (pending : List PendingAccess) (touched : List ℕ) (one : PendingAccess) →
    AreQueued stage rank pending touched None → IsPending stage.layout (calls_at stage rank) one 0 →
    is_at_once stage.delay one.access ≡ false → AreQueued stage rank (pending ++ one ∷ []) (touched ++ 0 ∷ []) None
one_later stage rank pending touched one h new later = record {
  each = pending_append stage.layout (calls_at stage rank) pending touched one h.each new;
  first = tt;
  untouched = each_append (λ (count : ℕ). count ≡ 0) touched (0 ∷ []) h.untouched (refl, tt);
  alone = λ delay.
      let once = subst (λ (d : Delay). is_at_once d one.access ≡ false) delay later in absurd (cc once);
}

-- one access more, where it has bytes
queue_more : (stage : Stage) (rank : ℕ) (pending : List PendingAccess) (touched : List ℕ) (one : PendingAccess) →
    AreQueued stage rank pending touched None →
    (nat_lt 0 one.access.len ≡ true → IsPending stage.layout (calls_at stage rank) one 0) →
    AreQueued stage rank (pending ++ made_pending one) (touched ++ map (λ (_ : PendingAccess). 0) (made_pending one))
    (cond (nat_lt 0 one.access.len && is_at_once stage.delay one.access) (Some (length pending)) None)
queue_more stage rank pending touched one h new =
    by_bytes (nat_lt 0 one.access.len) (is_at_once stage.delay one.access) new refl
  where
    by_bytes : (long once : Bool) → (long ≡ true → IsPending stage.layout (calls_at stage rank) one 0) →
        is_at_once stage.delay one.access ≡ once →
        AreQueued stage rank (pending ++ cond long (one ∷ []) [])
        (touched ++ map (λ (_ : PendingAccess). 0) (cond long (one ∷ []) []))
        (cond (long && once) (Some (length pending)) None)
    by_bytes true true made e = one_begun stage rank pending touched one h (made refl) e
    by_bytes true false made e = one_later stage rank pending touched one h (made refl) e
    by_bytes false once made e = nothing_more stage rank pending touched h

-- where there are bytes, there are elements
some_bytes : (count size : ℕ) → nat_lt 0 (count * size) ≡ true → 0 < count
some_bytes zero size h =
    let none : nat_lt 0 (zero * size) ≡ false = le-ltb 0 (zero * size) (omega arith) in absurd (cc (h, none))
some_bytes (suc count) size h = omega arith

-- an access that lies in memory is one that can be pending
pub issued_pending : (script : Script) (known : RankWindows) (calls : List Call) (call : Call) (one : PendingAccess) →
    IsWellFormed script → IsWrittenCall call → slice_get calls one.number ≡ Some call →
    access_of known call ≡ Some one.access → IfSome (transfer_of call) (IsLookedUp (memory_layout script) known) →
    nat_lt 0 one.access.len ≡ true → IsPending (memory_layout script) calls one 0
issued_pending script known calls call one formed written here access lies long = by_transfer (transfer_of call) refl
    lies
  where
    some_elements : (t : Transfer) → transfer_of call ≡ Some t → nat_lt 0 (bytes_of t) ≡ true →
        0 < element_count call
    some_elements t moves some =
        subst (λ n. 0 < n) (sym (ap (λ o. option_map_or (λ (x : Transfer). natural x.count) o 0) moves))
        (some_bytes (natural t.count) (size_of t.dtype) some)

    by_window : (t : Transfer) → transfer_of call ≡ Some t → IsLookedUp (memory_layout script) known t →
        (o : Option Window) → window_of_name known t.win ≡ o → IsPending (memory_layout script) calls one 0
    by_window t moves looked None live =
        let none : access_of known call ≡ None = rw moves (rw live refl) in absurd (cc (none, access))
    by_window t moves looked (Some window) live =
        let is : one.access ≡ access_on known t window = cc (access_is known call t window moves live, access) in
        let lies : LiesInMemory (memory_layout script) one.access t.dtype =
        subst (λ (a : Access). LiesInMemory (memory_layout script) a t.dtype) (sym is) (looked window live) in
        record {
          call = call;
          named = here;
          its = (
            written,
            subst (λ (o : Option Transfer). IsSomeAnd o (λ (x : Transfer). (one.access.kind ≡ x.kind)
                × (one.access.len ≡ bytes_of x)
                × (one.access.lo % size_of x.dtype ≡ 0))) (sym moves)
                (ap (λ (a : Access). a.kind) is, ap (λ (a : Access). a.len) is, lies.aligned),
            lies_within script one.access call t formed moves (ap (λ (a : Access). a.len) is) lies,
          );
          begun = some_elements t moves (subst (λ n. nat_lt 0 n ≡ true)
              (ap (λ (a : Access). a.len) is) long);
        }

    by_transfer : (o : Option Transfer) → transfer_of call ≡ o → IfSome o (IsLookedUp (memory_layout script) known) →
        IsPending (memory_layout script) calls one 0
    by_transfer None moves lies =
        let none : access_of known call ≡ None = rw moves refl in absurd (cc (none, access))
    by_transfer (Some t) moves lies = by_window t moves lies (window_of_name known t.win) refl

-- what the rank has after the Issue
pub issue_is : (stage : Stage) (agent : Agent) (call : Call) (t : Transfer) (access : Access) →
    next_call stage agent ≡ Some call → transfer_of call ≡ Some t →
    with_issue stage agent access t ≡ record {
      rank = agent.rank;
      log = agent.log ++ Issue agent.at access ∷ [];
      known = record {
        windows = agent.known.windows;
        epochs = epochs_after agent.known.epochs (action_of call);
        requests = option_map_or (with_request agent.known.requests agent.at)
            (option_and_then (λ (x : Transfer). x.request) (transfer_of call)) agent.known.requests;
      };
      at = agent.at + 1;
      entered = false;
      drawn = false;
      draws = agent.draws;
      pending = agent.pending ++ made_pending (issued agent.at (length agent.log) access
          (option_map_or (λ (x : Transfer). x.fetches) (transfer_of call) false));
      ended = agent.ended;
    }
issue_is stage agent call t access here moves = rw here (rw moves (rw (moves_it call t moves) refl))

-- no window is begun by a call that moves data
begun_none : (stage : Stage) (agent : Agent) (call : Call) → next_call stage agent ≡ Some call →
    creation_of call ≡ None → names_so_far stage agent ≡ agent.known.windows.created
begun_none stage agent call here none =
    ap (λ l. agent.known.windows.created ++ l) (ap (begun_names agent.entered) here ∙ by_entered agent.entered)
    ∙ append-nil agent.known.windows.created
  where
    by_entered : (b : Bool) → begun_names b (Some call) ≡ []
    by_entered true = ap (λ o. option_map_or (λ (creation : Creation). creation.win ∷ []) o []) none
    by_entered false = refl

moves_some : (known : RankWindows) (call : Call) (access : Access) → access_of known call ≡ Some access →
    creation_of call ≡ None
moves_some known call access is = by_transfer (transfer_of call) refl
  where
    by_transfer : (o : Option Transfer) → transfer_of call ≡ o → creation_of call ≡ None
    by_transfer None moves = let none : access_of known call ≡ None = rw moves refl in absurd (cc (none, is))
    by_transfer (Some t) moves = transfer_makes_none call t moves

pub issue_sound : (s : RankState) (call : Call) (access : Access) (one : PendingAccess) (log : List Item)
    (epochs : List Epochs) (requests : Requests) (at : ℕ) (drawn : Bool) (draws : ℕ) (pending : List PendingAccess)
    (ended : Bool) (touched : List ℕ) (opened : Option ℕ) (free : ℕ) (home : List ℕ) →
    IsSound s → IsWrittenCall call → next_call s.stage s.agent ≡ Some call →
    access_of s.agent.known.windows call ≡ Some access →
    IfSome (transfer_of call) (IsLookedUp s.stage.layout s.agent.known.windows) → s.opened ≡ None →
    one.number ≡ s.agent.at → one.access ≡ access → log ≡ s.agent.log ++ Issue s.agent.at access ∷ [] →
    pending ≡ s.agent.pending ++ made_pending one →
    touched ≡ s.touched ++ map (λ (_ : PendingAccess). 0) (made_pending one) → opened ≡ place_now s access →
    IsSound (record {
      stage = s.stage;
      agent = record {
        rank = s.agent.rank;
        log = log;
        known = record { windows = s.agent.known.windows; epochs = epochs; requests = requests };
        at = at;
        entered = false;
        drawn = drawn;
        draws = draws;
        pending = pending;
        ended = ended;
      };
      touched = touched;
      opened = opened;
      free = free;
      home = home;
    })
issue_sound s call access one log epochs requests at drawn draws pending ended touched opened free home sound written
    here is lies closed number same kept waits touches opens =
    ended_sound s (Issue s.agent.at access) log epochs requests at false drawn draws pending ended touched opened free
    home sound
    (begun_none s.stage s.agent call here (moves_some s.agent.known.windows call access is)) refl refl kept
    (subst (λ p. AreQueued s.stage s.agent.rank p touched opened) (sym waits)
    (subst (λ t. AreQueued s.stage s.agent.rank (s.agent.pending ++ made_pending one) t opened) (sym touches)
    (subst (AreQueued s.stage s.agent.rank (s.agent.pending ++ made_pending one)
    (s.touched ++ map (λ (_ : PendingAccess). 0) (made_pending one)))
    (sym (opens ∙ ap (place_now s) (sym same)))
    (queue_more s.stage s.agent.rank s.agent.pending s.touched one
    (subst (AreQueued s.stage s.agent.rank s.agent.pending s.touched) closed sound.queue) new))))
  where
    new : nat_lt 0 one.access.len ≡ true → IsPending s.stage.layout (calls_at s.stage s.agent.rank) one 0
    new long = subst (λ (l : Layout). IsPending l (calls_at s.stage s.agent.rank) one 0) (sym sound.layout)
        (issued_pending s.stage.script s.agent.known.windows (calls_at s.stage s.agent.rank) call one sound.formed
        written
        (subst (λ n. slice_get (calls_at s.stage s.agent.rank) n ≡ Some call) (sym number) here)
        (is ∙ ap Some (sym same))
        (subst (λ (l : Layout). IfSome (transfer_of call) (IsLookedUp l s.agent.known.windows)) sound.layout lies) long)
