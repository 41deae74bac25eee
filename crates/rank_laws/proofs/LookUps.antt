-- Each look-up is directly followed by its Issue, or is the last item of a rank that will issue next.
use Rattle.std.proofs.Common.{◌≡◌, ℕ, zero, suc, ◌+◌, ◌⊎◌, inl, inr, true, false, eqb, List, [], ◌∷◌, ◌++◌, length}
use Rattle.std.proofs.Common.{Option, Some, None, refl, sym, ◌∙◌, ap, subst, arith, append_assoc, length-append}
use Rattle.std.specs.Prelude.{slice_get, IsSome, IfSome}
use Rattle.std.specs.List.{AllByRecursion}
use Rattle.std.proofs.lemmas.Bool.Decides.{eqb_tells}
use Rattle.std.proofs.lemmas.Option.{slice_get_within}
use Rattle.list_laws.proofs.Each.{each_at}
use Rattle.rma_types.specs.declared.accesses.Step.{Step}
use Rattle.rma_types.specs.declared.accesses.Step.TheVariants.{Arrive, Leave, One}
use Rattle.rma_types.specs.declared.calls.Call.{Call}
use Rattle.rma_record.specs.declared.items.Item.{Item}
use Rattle.rma_record.specs.declared.items.Item.TheVariants.{Issue, Null, Touch, Flush, Request, Entry, Tested, Refused}
use Rattle.rma_record.specs.declared.items.Item.TheVariants.{Ended}
use Rattle.board_rules.specs.Entries.{Row}
use Rattle.rma_types.specs.Actions.{transfer_of}
use Rattle.call_rules.specs.Pieces.{numbers_from}
use Rattle.lawful_runs.specs.Items.{belongs_to, is_entry}
use Rattle.lawful_runs.specs.Stages.{Stage, RankOfRun, calls_at, calls_here}
use Rattle.lawful_runs.specs.TouchLaw.{IsLookUpFollowed, IsFollowedByCall}
use Rattle.rank_laws.proofs.Awaiting.{rank_of}
use Rattle.rank_laws.proofs.CallKinds.{moves_nothing}
use Rattle.rank_laws.proofs.Inductions.{Keeps, lived_holds}
use Rattle.rank_laws.proofs.Lists.{place_in, get_front, get_rest, numbers_each}
use Rattle.rank_laws.proofs.Moves.{course_at, Entering, OnlyEntry, LookUp, Arriving, Leaving, IsClosed, IsPlainItem}
use Rattle.rank_laws.proofs.Moves.{Learns, Rises, Ends, RefusesAlone, IsRefused, Tests, Passes, Enters, Issues}
use Rattle.rank_laws.proofs.Moves.{IssuesWhole, Draws, Delivers}
use Rattle.rank_laws.proofs.Touching.{IsTouchOf, touches_own, touches_of_own}
use Rattle.rank_laws.specs.Fronts.{Put}
use Rattle.rank_laws.specs.Lives.{HasLived}
use Rattle.rank_rules.specs.Courses.{Course, OneNull, OneIssue, LookUpAndIssue, OneFlush, OneRequest, ArriveAndLeave}
use Rattle.rank_rules.specs.Courses.{EntryOrTested, OneEntry}
use Rattle.step_runs.specs.Agents.{Agent, end_call, enter_call}

-- ---- a log

-- the item after this index belongs to the call
abbrev pub IsFollowedBy : List Item → ℕ → ℕ → Type 0
IsFollowedBy log index number = (next : Item) × (slice_get log (index + 1) ≡ Some next) ×
    (belongs_to number next ≡ true)

-- after each entry of a call that moves data an item of that call stands; or the entry is the last item, of an open
-- call
pub record IsFollowed (calls : List Call) (Open : ℕ → Type 0) (log : List Item) : Type 0 where
  pub each : (index number place : ℕ) (step : Step) (call : Call) →
      slice_get log index ≡ Some (Entry number place step) →
      slice_get calls number ≡ Some call → IsSome (transfer_of call) →
      IsFollowedBy log index number ⊎ ((index + 1 ≡ length log) × Open number)

-- an item of the open call is followed by touches alone, and leaves no call open but its own
followed_more : (calls : List Call) (Open Next : ℕ → Type 0) (log : List Item) (item : Item) (issue : ℕ)
    (rest : List Item) → IsFollowed calls Open log →
    ((number : ℕ) (call : Call) → slice_get calls number ≡ Some call → Open number → belongs_to number item ≡ true) →
    AllByRecursion (IsTouchOf issue) rest →
    ((number place : ℕ) (step : Step) (call : Call) → item ≡ Entry number place step →
    slice_get calls number ≡ Some call → IsSome (transfer_of call) → (rest ≡ []) × Next number) →
    IsFollowed calls Next (log ++ item ∷ rest)
followed_more calls Open Next log item issue rest old belongs touches new = record {
  each = λ index number place step call e here moves. elim (place_in index (length log)) [
    | inl within ↦
        elim (old.each index number place step call (sym (get_front log (item ∷ rest) index within) ∙ e) here moves) [
          | inl followed ↦ inl (
            followed.0,
            get_front log (item ∷ rest) (index + 1)
                (slice_get_within log (index + 1) followed.0 followed.1) ∙ followed.1,
            followed.2,
          )
          | inr last ↦ let at = last.0 in inl (
            item,
            get_rest log (item ∷ rest) (index + 1) 0 (omega arith),
            belongs number call here last.1,
          )
        ]
    | inr past ↦ inr (in_block index number place step call past.0 past.1
        (sym (get_rest log (item ∷ rest) index past.0 past.1) ∙ e) here moves)
  ];
}
  where
    in_block : (index number place : ℕ) (step : Step) (call : Call) (past : ℕ) → index ≡ length log + past →
        slice_get (item ∷ rest) past ≡ Some (Entry number place step) →
        slice_get calls number ≡ Some call → IsSome (transfer_of call) →
        (index + 1 ≡ length (log ++ item ∷ rest)) × Next number
    in_block index number place step call zero at e here moves =
        let same : item ≡ Entry number place step = cc e in
        let is = new number place step call same here moves in
        let none : length rest ≡ 0 = ap length is.0 in
        (omega (arith, length-append log (item ∷ rest)), is.1)
    in_block index number place step call (suc past) at e here moves = absurd
        (each_at (IsTouchOf issue) rest past (Entry number place step) touches e)

-- touches alone, where no call is open
followed_touches : (calls : List Call) (Open Next : ℕ → Type 0) (log : List Item) (issue : ℕ) (items : List Item) →
    IsFollowed calls Open log →
    ((number : ℕ) (call : Call) → slice_get calls number ≡ Some call → IsSome (transfer_of call) → Open number → ⊥) →
    AllByRecursion (IsTouchOf issue) items → IsFollowed calls Next (log ++ items)
followed_touches calls Open Next log issue items old closed touches = record {
  each = λ index number place step call e here moves. elim (place_in index (length log)) [
    | inl within ↦
        elim (old.each index number place step call (sym (get_front log items index within) ∙ e) here moves) [
          | inl followed ↦ inl (
            followed.0,
            get_front log items (index + 1)
                (slice_get_within log (index + 1) followed.0 followed.1) ∙ followed.1,
            followed.2,
          )
          | inr last ↦ absurd (closed number call here moves last.1)
        ]
    | inr past ↦ absurd (each_at (IsTouchOf issue) items past.0 (Entry number place step) touches
        (sym (get_rest log items index past.0 past.1) ∙ e))
  ];
}

-- ---- moves

-- the first entry of the call of this number is put
abbrev pub IsOpen : Agent → ℕ → Type 0
IsOpen agent number = (number ≡ agent.at) × (agent.entered ≡ true)

abbrev pub LooksUp : Stage → Agent → Type 0
LooksUp stage agent = IsFollowed (calls_at stage agent.rank) (IsOpen agent) agent.log

-- an item that is no entry, from a rank whose first entry is not put
plain_more : (calls : List Call) (agent : Agent) (Next : ℕ → Type 0) (item : Item) →
    IsFollowed calls (IsOpen agent) agent.log → agent.entered ≡ false → is_entry item ≡ false →
    IsFollowed calls Next (agent.log ++ item ∷ [])
plain_more calls agent Next item h new plain =
    followed_more calls (IsOpen agent) Next agent.log item 0 [] h
    (λ number call here is. absurd (cc (sym new ∙ is.1))) tt
    (λ number place step call e here moves. absurd (cc (sym plain ∙ ap is_entry e)))

same_number : (at number : ℕ) → number ≡ at → eqb at number ≡ true
same_number at number e = elim (eqb_tells at number) [ inl same ↦ same.0 | inr not ↦ absurd (not.1 (sym e)) ]

plain_by_course : (course : Course) (number : ℕ) (item : Item) → IsPlainItem course number item →
    is_entry item ≡ false
plain_by_course OneNull number item e = ap is_entry e
plain_by_course OneIssue number item e = absurd e
plain_by_course LookUpAndIssue number item e = absurd e
plain_by_course OneFlush number item e = ap is_entry e
plain_by_course OneRequest number item e = ap is_entry e
plain_by_course ArriveAndLeave number item e = absurd e
plain_by_course EntryOrTested number item e = absurd e
plain_by_course OneEntry number item e = absurd e

-- an entry of a call that moves nothing
entry_more : (calls : List Call) (agent : Agent) (Next : ℕ → Type 0) (call : Call) (place : ℕ) (step : Step) →
    IsFollowed calls (IsOpen agent) agent.log → slice_get calls agent.at ≡ Some call →
    (IsSome (transfer_of call) → Next agent.at) → IsFollowed calls Next (agent.log ++ Entry agent.at place step ∷ [])
entry_more calls agent Next call place step h here opens =
    followed_more calls (IsOpen agent) Next agent.log (Entry agent.at place step) 0 [] h
    (λ number other there is. same_number agent.at number is.0) tt
    (λ number at s other e there moves.
    let named : agent.at ≡ number = cc e in
    let same : other ≡ call = let both : Some other ≡ Some call = sym
    (subst (λ n. slice_get calls n ≡ Some other) (sym named) there) ∙ here in cc both in
    (refl, subst Next named (opens (subst (λ c. IsSome (transfer_of c)) same moves))))

none_is_no_some : {X : Type 0} (o : Option X) → o ≡ None → IsSome o → ⊥
none_is_no_some o e h = cc (subst IsSome e h)

entered_more : (stage : Stage) (agent : Agent) (call : Call) (step : Step) (after : Agent → Agent) (next : Agent)
    (place : ℕ) → Entering stage agent call step after → LooksUp stage agent →
    next.rank ≡ agent.rank → next.at ≡ agent.at → next.log ≡ agent.log ++ Entry agent.at place step ∷ [] →
    LooksUp stage (after next)
entered_more stage agent call _ _ next place (OnlyEntry begins course) h rank at log =
    subst (λ r. IsFollowed (calls_at stage r) (IsOpen (end_call next)) next.log) (sym rank)
    (subst (λ (l : List Item). IsFollowed (calls_at stage agent.rank) (IsOpen (end_call next)) l) (sym log)
    (entry_more (calls_at stage agent.rank) agent (IsOpen (end_call next)) call place One h begins.here
    (λ moves. absurd (none_is_no_some (transfer_of call) (nothing course) moves))))
  where
    nothing : (course_at agent call ≡ OneEntry) ⊎ (course_at agent call ≡ EntryOrTested) → transfer_of call ≡ None
    nothing (inl e) = moves_nothing agent.known.windows call OneEntry e refl
    nothing (inr e) = moves_nothing agent.known.windows call EntryOrTested e refl
entered_more stage agent call _ _ next place (LookUp begins course) h rank at log =
    subst (λ r. IsFollowed (calls_at stage r) (IsOpen (enter_call next)) next.log) (sym rank)
    (subst (λ (l : List Item). IsFollowed (calls_at stage agent.rank) (IsOpen (enter_call next)) l) (sym log)
    (entry_more (calls_at stage agent.rank) agent (IsOpen (enter_call next)) call place One h begins.here
    (λ moves. (sym at, refl))))
entered_more stage agent call _ _ next place (Arriving begins course) h rank at log =
    subst (λ r. IsFollowed (calls_at stage r) (IsOpen (enter_call next)) next.log) (sym rank)
    (subst (λ (l : List Item). IsFollowed (calls_at stage agent.rank) (IsOpen (enter_call next)) l) (sym log)
    (entry_more (calls_at stage agent.rank) agent (IsOpen (enter_call next)) call place Arrive h begins.here
    (λ moves. absurd (none_is_no_some (transfer_of call) (moves_nothing agent.known.windows call ArriveAndLeave course
    refl) moves))))
entered_more stage agent call _ _ next place (Leaving here inside none) h rank at log =
    subst (λ r. IsFollowed (calls_at stage r) (IsOpen (end_call next)) next.log) (sym rank)
    (subst (λ (l : List Item). IsFollowed (calls_at stage agent.rank) (IsOpen (end_call next)) l) (sym log)
    (entry_more (calls_at stage agent.rank) agent (IsOpen (end_call next)) call place Leave h here
    (λ moves. absurd (none_is_no_some (transfer_of call) none moves))))

-- an Issue, and perhaps its touches
issue_more : (calls : List Call) (agent : Agent) (Next : ℕ → Type 0) (access : _) (issue : ℕ) (items : List Item) →
    IsFollowed calls (IsOpen agent) agent.log → AllByRecursion (IsTouchOf issue) items →
    IsFollowed calls Next (agent.log ++ Issue agent.at access ∷ items)
issue_more calls agent Next access issue items h own =
    followed_more calls (IsOpen agent) Next agent.log (Issue agent.at access) issue items h
    (λ number call here is. same_number agent.at number is.0) own
    (λ number place step call e here moves. absurd (cc e))

-- a closed rank has no open look-up
closed_open : (stage : Stage) (agent : Agent) → IsClosed stage agent → (number : ℕ) (call : Call) →
    slice_get (calls_at stage agent.rank) number ≡ Some call → IsSome (transfer_of call) → IsOpen agent number → ⊥
closed_open stage agent closed number call here moves is =
    none_is_no_some (transfer_of call) (closed call (subst (λ n. slice_get (calls_at stage agent.rank) n
    ≡ Some call) is.0 here) is.1) moves

pub looks_kept : (stage : Stage) → Keeps stage (λ p. LooksUp stage p.agent)
looks_kept stage p _ h (Learns more others) = h
looks_kept stage p _ h (Rises after rise) = h
looks_kept stage p _ h (Ends past empty going) =
    followed_more (calls_at stage p.agent.rank) (IsOpen p.agent) _ p.agent.log Ended 0 [] h
    (λ number call here is. absurd (cc (sym past ∙ subst (λ n. slice_get (calls_at stage p.agent.rank) n
    ≡ Some call) is.0 here))) tt
    (λ number place step call e here moves. absurd (cc e))
looks_kept stage p _ h (RefusesAlone call class here new refuses) = plain_more (calls_at stage p.agent.rank) p.agent _
    (Refused p.agent.at class 0) h new refl
looks_kept stage p _ h (IsRefused call class begins has answer) = plain_more (calls_at stage p.agent.rank) p.agent _
    (Refused p.agent.at class (length p.rows)) h begins.new refl
looks_kept stage p _ h (Tests call begins course answer) = plain_more (calls_at stage p.agent.rank) p.agent _
    (Tested p.agent.at (length p.rows)) h begins.new refl
looks_kept stage p _ h (Passes call item begins plain) =
    plain_more (calls_at stage p.agent.rank) p.agent _ item h begins.new
    (plain_by_course (course_at p.agent call) p.agent.at item plain)
looks_kept stage p _ h (Enters call step after entering answer) = entered_more stage p.agent call step after _
    (length p.rows) entering h refl refl refl
looks_kept stage p _ h (Issues call t access issuing later) = issue_more
    (calls_at stage p.agent.rank) p.agent _ access 0 [] h tt
looks_kept stage p _ h (IssuesWhole call t access items after issuing once touches) =
    subst (IsFollowed (calls_at stage p.agent.rank) _) (sym (append_assoc p.agent.log
    (Issue p.agent.at access ∷ []) items))
    (issue_more (calls_at stage p.agent.rank) p.agent _ access (length p.agent.log) items h
    (touches_own t (length p.agent.log) 0 _ p.lows items after touches))
looks_kept stage p _ h (Draws state new) = record { each = h.each }
looks_kept stage p _ h (Delivers at one items after there due touches) =
    followed_touches (calls_at stage p.agent.rank) (IsOpen p.agent) _ p.agent.log one.index items h
    (closed_open stage p.agent due.closed) (touches_of_own stage one _ p.lows items after touches)

-- ---- the law

followed_at : (here : RankOfRun) (log : List Item) (Open : ℕ → Type 0) → IsFollowed (calls_here here) Open log →
    ((number : ℕ) (call : Call) → slice_get (calls_here here) number ≡ Some call → IsSome (transfer_of call) →
    Open number → ⊥) →
    (index : ℕ) (o : Option Item) → slice_get log index ≡ o → IsLookUpFollowed here log index
followed_at here log Open h closed index None e = rw e tt
followed_at here log Open h closed index (Some (Entry number place step)) e = rw e
    (by_call (slice_get (calls_here here) number) refl)
  where
    by_call : (c : Option Call) → slice_get (calls_here here) number ≡ c →
        IfSome c (IsFollowedByCall log index number)
    by_call None k = tt
    by_call (Some call) k = λ moves. elim (h.each index number place step call e k moves) [
      | inl followed ↦ rw followed.1 followed.2
      | inr last ↦ absurd (closed number call k moves last.1)
    ]
followed_at here log Open h closed index (Some (Touch issue element cell place bits)) e = rw e tt
followed_at here log Open h closed index (Some (Issue number access)) e = rw e tt
followed_at here log Open h closed index (Some (Null number)) e = rw e tt
followed_at here log Open h closed index (Some (Flush number)) e = rw e tt
followed_at here log Open h closed index (Some (Request number)) e = rw e tt
followed_at here log Open h closed index (Some (Tested number seen)) e = rw e tt
followed_at here log Open h closed index (Some (Refused number class seen)) e = rw e tt
followed_at here log Open h closed index (Some Ended) e = rw e tt

pub look_ups_followed : (stage : Stage) (seed rank : ℕ) (puts : List Put) (agent : Agent) (rows : List Row) →
    HasLived stage seed rank puts agent → agent.rank ≡ rank →
    AllByRecursion (IsLookUpFollowed (rank_of stage rank rows) agent.log) (numbers_from 0 (length agent.log))
look_ups_followed stage seed rank puts agent rows lived mine = subst
    (λ r. AllByRecursion (IsLookUpFollowed (rank_of stage r rows) agent.log) (numbers_from 0 (length agent.log))) mine
    (let last = lived_holds stage seed rank (λ p. LooksUp stage p.agent) (looks_kept stage)
    (record { each = λ index number place step call e here moves. absurd (cc e) }) puts agent lived in
    numbers_each (IsLookUpFollowed (rank_of stage agent.rank rows) agent.log)
    (λ index. followed_at (rank_of stage agent.rank rows) agent.log (IsOpen agent) last.0
    (closed_open stage agent last.1) index (slice_get agent.log index) refl) 0 (length agent.log))
