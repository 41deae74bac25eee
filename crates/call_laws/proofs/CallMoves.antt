-- Every move keeps that the items of a rank are those of its calls, in their order.
use Rattle.std.proofs.Common.{◌≡◌, ℕ, suc, ◌⊎◌, inl, inr, true, false, List, [], ◌∷◌, ◌++◌, length, Option, Some, None}
use Rattle.std.proofs.Common.{refl, sym, ◌∙◌, ap, subst}
use Rattle.std.specs.Prelude.{IsSomeAnd}
use Rattle.rma_types.specs.declared.accesses.Access.{Access}
use Rattle.rma_types.specs.declared.accesses.Step.{Step}
use Rattle.rma_types.specs.declared.accesses.Step.TheVariants.{Arrive, Leave, One}
use Rattle.rma_types.specs.declared.calls.Call.{Call}
use Rattle.rma_types.specs.declared.classes.Class.{Class}
use Rattle.rma_record.specs.declared.items.Item.{Item}
use Rattle.rma_record.specs.declared.items.Item.TheVariants.{Issue, Entry, Tested, Refused, Ended}
use Rattle.board_rules.specs.Board.{Refuse, decide}
use Rattle.board_rules.specs.Entries.{Row, window_of}
use Rattle.call_laws.proofs.FirstEntries.{nothing_refused}
use Rattle.call_laws.proofs.KnownMoves.{KnowsLog, KnowsAlways, knows_longer, known_kept}
use Rattle.call_laws.proofs.Standing.{untouched_push, untouched_touches, knows_untouched, view_of, OpensCall, Outside}
use Rattle.call_laws.proofs.Standing.{Standing, standing_longer, outside_of, inside_of, accepted, view_after, one_item}
use Rattle.call_laws.proofs.Standing.{second_item, first_item, past_all}
use Rattle.call_laws.proofs.Teaching.{nothing_learnt, arrive_accepts, look_up_accepts, look_up_moves}
use Rattle.rma_types.specs.declared.actions.Transfer.{Transfer}
use Rattle.rma_types.specs.Actions.{transfer_of}
use Rattle.lawful_runs.specs.CallItems.{other_items, AreItemsBy, AreItemsOfCourse, IsBoardRefusal}
use Rattle.lawful_runs.specs.Items.{is_touch}
use Rattle.lawful_runs.specs.Stages.{Stage, calls_at, shapes_in}
use Rattle.rank_laws.proofs.BoardMoves.{refused_by}
use Rattle.rank_laws.proofs.CallKinds.{moves_nothing}
use Rattle.rank_laws.proofs.Inductions.{Keeps}
use Rattle.rank_laws.proofs.Moves.{Point, point, course_at, Begins, step_by, Entering, OnlyEntry, LookUp, Arriving}
use Rattle.rank_laws.proofs.Moves.{Leaving, IsPlainItem, Issuing, Learns, Rises, Ends, RefusesAlone, IsRefused, Tests}
use Rattle.rank_laws.proofs.Moves.{Passes, Enters, Issues, IssuesWhole, Draws, Delivers}
use Rattle.rank_laws.proofs.Touching.{touches_own, touches_of_own}
use Rattle.rank_rules.specs.Courses.{Course, OneNull, OneIssue, LookUpAndIssue, OneFlush, OneRequest, ArriveAndLeave}
use Rattle.rank_rules.specs.Courses.{EntryOrTested, OneEntry, has_entry, access_of}
use Rattle.rank_rules.specs.Knowledge.{Knowledge, own_class, learn}
use Rattle.step_runs.specs.Agents.{Agent, next_call, keep_item, end_call, enter_call}
use Rattle.step_runs.specs.BoardSteps.{next_row}
use Rattle.step_runs.specs.DataSteps.{no_shapes}

pub record HasCalls (stage : Stage) (p : Point) : Type 0 where
  pub known : KnowsLog stage p
  pub standing : Standing stage p.agent.rank p.rows (view_of p.agent)

-- ---- one item

-- the one item of a call that has not begun
only_item : (stage : Stage) (p : Point) (call : Call) (item : Item) (rows : List Row) (known : Knowledge) →
    Outside stage p.agent.rank rows (view_of p.agent) →
    KnowsAlways stage p.agent.rank rows (other_items p.agent.log) p.agent.known →
    next_call stage p.agent ≡ Some call → is_touch item ≡ false →
    AreItemsBy (own_class p.agent.known call) p.agent.known p.agent.at call (item ∷ []) →
    Standing stage p.agent.rank rows
    (view_after (view_of p.agent) (other_items (p.agent.log ++ item ∷ [])) known)
only_item stage p call item rows known o knows here plain is =
    one_item stage p.agent.rank rows (view_of p.agent) call item (other_items (p.agent.log ++ item ∷ [])) known o knows
    here (untouched_push p.agent.log item plain) is

-- where no entry is put
item_here : (stage : Stage) (p : Point) (call : Call) (item : Item) (known : Knowledge) → HasCalls stage p →
    next_call stage p.agent ≡ Some call → p.agent.entered ≡ false → is_touch item ≡ false →
    AreItemsBy (own_class p.agent.known call) p.agent.known p.agent.at call (item ∷ []) →
    Standing stage p.agent.rank p.rows
    (view_after (view_of p.agent) (other_items (p.agent.log ++ item ∷ [])) known)
item_here stage p call item known h here new plain is =
    only_item stage p call item p.rows known
    (outside_of stage p.agent.rank p.rows (view_of p.agent) call h.standing here new)
    (knows_untouched stage p.agent.rank p.rows p.agent.log p.agent.known h.known.knows) here plain is

-- the rank does not refuse the call
passed_here : (stage : Stage) (p : Point) (call : Call) (item : Item) (known : Knowledge) (course : Course) →
    HasCalls stage p → Begins stage p.agent call → course_at p.agent call ≡ course → is_touch item ≡ false →
    IsBoardRefusal course p.agent.at (item ∷ []) ⊎ AreItemsOfCourse course p.agent.known p.agent.at call (item ∷ []) →
    Standing stage p.agent.rank p.rows
    (view_after (view_of p.agent) (other_items (p.agent.log ++ item ∷ [])) known)
passed_here stage p call item known course h begins is plain items =
    item_here stage p call item known h begins.here begins.new plain
    (accepted p.agent.known p.agent.at call (item ∷ []) course begins.passes is items)

refused_alone : (known : Knowledge) (number : ℕ) (call : Call) (class : Class) → own_class known call ≡ Some class →
    AreItemsBy (own_class known call) known number call (Refused number class 0 ∷ [])
refused_alone known number call class e = subst (λ (o : Option Class). AreItemsBy o known number call
    (Refused number class 0 ∷ [])) (sym e) refl

plain_items : (course : Course) (known : Knowledge) (number : ℕ) (call : Call) (item : Item) →
    IsPlainItem course number item →
    (is_touch item ≡ false) × AreItemsOfCourse course known number call (item ∷ [])
plain_items OneNull known number call item e = (ap is_touch e, ap (λ i. i ∷ []) e)
plain_items OneIssue known number call item e = absurd e
plain_items LookUpAndIssue known number call item e = absurd e
plain_items OneFlush known number call item e = (ap is_touch e, ap (λ i. i ∷ []) e)
plain_items OneRequest known number call item e = (ap is_touch e, ap (λ i. i ∷ []) e)
plain_items ArriveAndLeave known number call item e = absurd e
plain_items EntryOrTested known number call item e = absurd e
plain_items OneEntry known number call item e = absurd e

-- the board refuses a call after an entry
pub after_some : (stage : Stage) (p : Point) (call : Call) (class : Class) → KnowsLog stage p →
    has_entry (course_at p.agent call) ≡ true →
    decide stage.script.ranks p.rows (next_row p.agent call (step_by (course_at p.agent call))) ≡ Refuse class →
    (before : ℕ) × (length p.rows ≡ suc before)
after_some stage p call class h has answer = by p.rows refl
  where
    row : Row
    row = next_row p.agent call (step_by (course_at p.agent call))

    by : (rows : List Row) → p.rows ≡ rows → (before : ℕ) × (length p.rows ≡ suc before)
    by [] none =
        let refused = refused_by stage.script.ranks [] row class
        (ap (λ (rows : List Row). decide stage.script.ranks rows row) (sym none) ∙ answer) in
        let passes = nothing_refused stage.script.ranks p.agent.rank call (window_of [] row) p.agent.known.windows
        (h.unmade none) has in
        absurd (cc (sym passes ∙ refused))
    by (r ∷ rows) some = (length rows, ap length some)

board_refusal : (course : Course) (number : ℕ) (class : Class) (entries before : ℕ) → has_entry course ≡ true →
    entries ≡ suc before → IsBoardRefusal course number (Refused number class entries ∷ [])
board_refusal course number class entries before has e =
    (has, class, before, ap (λ n. Refused number class n ∷ []) e)

-- ---- Issues

issue_items : (known : Knowledge) (number : ℕ) (call : Call) (access : Access) →
    access_of known.windows call ≡ Some access →
    IsSomeAnd (access_of known.windows call) (λ a. Issue number access ≡ Issue number a)
issue_items known number call access e = subst (λ (o : Option Access). IsSomeAnd o (λ a. Issue number access
    ≡ Issue number a)) (sym e) refl

-- the second item of a look-up's call
looked_up : (course : Course) (known : Knowledge) (number : ℕ) (call : Call) (access : Access) (item : Item) →
    (course ≡ ArriveAndLeave → ⊥) → OpensCall course number item → access_of known.windows call ≡ Some access →
    AreItemsOfCourse course known number call (item ∷ Issue number access ∷ [])
looked_up OneNull known number call access item other opens e = absurd opens
looked_up OneIssue known number call access item other opens e = absurd opens
looked_up LookUpAndIssue known number call access item other opens e = (
  opens.0,
  Issue number access,
  issue_items known number call access e,
  ap (λ (i : Item). i ∷ Issue number access ∷ []) opens.1,
)
looked_up OneFlush known number call access item other opens e = absurd opens
looked_up OneRequest known number call access item other opens e = absurd opens
looked_up ArriveAndLeave known number call access item other opens e = absurd (other refl)
looked_up EntryOrTested known number call access item other opens e = absurd opens
looked_up OneEntry known number call access item other opens e = absurd opens

issued_items : (stage : Stage) (p : Point) (call : Call) (t : Transfer) (access : Access) (known : Knowledge) →
    HasCalls stage p → Issuing stage p.agent call t access →
    Standing stage p.agent.rank p.rows
    (view_after (view_of p.agent) (other_items (p.agent.log ++ Issue p.agent.at access ∷ [])) known)
issued_items stage p call t access known h issuing = by issuing.begun
  where
    by : (Begins stage p.agent call × (course_at p.agent call ≡ OneIssue)) ⊎ (p.agent.entered ≡ true) →
        Standing stage p.agent.rank p.rows
        (view_after (view_of p.agent) (other_items (p.agent.log ++ Issue p.agent.at access ∷ [])) known)
    by (inl begins) = passed_here stage p call (Issue p.agent.at access) known OneIssue h begins.0 begins.1 refl
        (inr (Issue p.agent.at access, issue_items p.agent.known p.agent.at call access issuing.reaches, refl))
    by (inr entered) =
        let i = inside_of stage p.agent.rank p.rows (view_of p.agent) call h.standing issuing.here entered in
        let same : call ≡ i.call = let there = i.here in let here = issuing.here in cc (here, there) in
        second_item stage p.agent.rank p.rows (view_of p.agent) (Issue p.agent.at access)
        (other_items (p.agent.log ++ Issue p.agent.at access ∷ [])) known i
        (untouched_push p.agent.log (Issue p.agent.at access) refl)
        (accepted p.agent.known p.agent.at i.call (i.item ∷ Issue p.agent.at access ∷ []) (course_at p.agent i.call)
        i.passes refl
        (inr (looked_up (course_at p.agent i.call) p.agent.known p.agent.at i.call access i.item
        (λ is. let none = moves_nothing p.agent.known.windows i.call ArriveAndLeave is refl in
        let moves = issuing.moves in cc (sym none ∙ ap transfer_of (sym same) ∙ moves))
        i.opens (ap (access_of p.agent.known.windows) (sym same) ∙ issuing.reaches))))

-- ---- entries

-- the second item of a collective
left : (course : Course) (known : Knowledge) (number : ℕ) (call : Call) (item : Item) (place : ℕ) →
    (course ≡ LookUpAndIssue → ⊥) → OpensCall course number item →
    AreItemsOfCourse course known number call (item ∷ Entry number place Leave ∷ [])
left OneNull known number call item place other opens = absurd opens
left OneIssue known number call item place other opens = absurd opens
left LookUpAndIssue known number call item place other opens = absurd (other refl)
left OneFlush known number call item place other opens = absurd opens
left OneRequest known number call item place other opens = absurd opens
left ArriveAndLeave known number call item place other opens =
    (opens.0, place, ap (λ (i : Item). i ∷ Entry number place Leave ∷ []) opens.1)
left EntryOrTested known number call item place other opens = absurd opens
left OneEntry known number call item place other opens = absurd opens

-- what holds of a rank after an entry is put
abbrev StandsAfter : Stage → Point → Call → Step → (Agent → Agent) → Type 0
StandsAfter stage p call step after =
    let now = p.rows ++ next_row p.agent call step ∷ [] in
    let next = after (keep_item (shapes_in stage now) stage p.agent (Entry p.agent.at (length p.rows) step)) in
    Standing stage p.agent.rank now (view_of next)

knows_there : (stage : Stage) (p : Point) (call : Call) (step : Step) → HasCalls stage p →
    KnowsAlways stage p.agent.rank (p.rows ++ next_row p.agent call step ∷ []) (other_items p.agent.log) p.agent.known
knows_there stage p call step h = knows_untouched stage p.agent.rank (p.rows ++ next_row p.agent call step ∷ [])
    p.agent.log p.agent.known
    (knows_longer stage p.agent.rank p.rows (next_row p.agent call step ∷ []) p.agent.log p.agent.known h.known.knows)

only_entry : (stage : Stage) (p : Point) (call : Call) → HasCalls stage p → Begins stage p.agent call →
    (course_at p.agent call ≡ OneEntry) ⊎ (course_at p.agent call ≡ EntryOrTested) →
    StandsAfter stage p call One end_call
only_entry stage p call h begins course =
    only_item stage p call (Entry p.agent.at (length p.rows) One) now
    (learn (shapes_in stage now) (calls_at stage p.agent.rank) p.agent.known (Entry p.agent.at (length p.rows) One))
    (outside_of stage p.agent.rank now (view_of p.agent) call
    (standing_longer stage p.agent.rank p.rows (next_row p.agent call One ∷ []) (view_of p.agent) h.standing)
    begins.here begins.new)
    (knows_there stage p call One h) begins.here refl (by course)
  where
    now : List Row
    now = p.rows ++ next_row p.agent call One ∷ []

    by : (course_at p.agent call ≡ OneEntry) ⊎ (course_at p.agent call ≡ EntryOrTested) →
        AreItemsBy (own_class p.agent.known call) p.agent.known p.agent.at call
        (Entry p.agent.at (length p.rows) One ∷ [])
    by (inl is) = accepted p.agent.known p.agent.at call _ OneEntry begins.passes is (inr (length p.rows, refl))
    by (inr is) = accepted p.agent.known p.agent.at call _ EntryOrTested begins.passes is
        (inr (inl (length p.rows, refl)))

first_entry : (stage : Stage) (p : Point) (call : Call) (step : Step) → HasCalls stage p → Begins stage p.agent call →
    OpensCall (course_at p.agent call) p.agent.at (Entry p.agent.at (length p.rows) step) →
    (let now = p.rows ++ next_row p.agent call step ∷ [] in
    learn (shapes_in stage now) (calls_at stage p.agent.rank) p.agent.known (Entry p.agent.at (length p.rows) step)
    ≡ p.agent.known) → StandsAfter stage p call step enter_call
first_entry stage p call step h begins opens same =
    let now = p.rows ++ next_row p.agent call step ∷ [] in
    first_item stage p.agent.rank now (view_of p.agent) call (Entry p.agent.at (length p.rows) step)
    (other_items (p.agent.log ++ Entry p.agent.at (length p.rows) step ∷ []))
    (learn (shapes_in stage now) (calls_at stage p.agent.rank) p.agent.known (Entry p.agent.at (length p.rows) step))
    (outside_of stage p.agent.rank now (view_of p.agent) call
    (standing_longer stage p.agent.rank p.rows (next_row p.agent call step ∷ []) (view_of p.agent) h.standing)
    begins.here begins.new)
    (knows_there stage p call step h) begins.here
    (untouched_push p.agent.log (Entry p.agent.at (length p.rows) step) refl) begins.passes opens same

leaving : (stage : Stage) (p : Point) (call : Call) → HasCalls stage p → next_call stage p.agent ≡ Some call →
    p.agent.entered ≡ true → transfer_of call ≡ None → StandsAfter stage p call Leave end_call
leaving stage p call h here entered none =
    let now = p.rows ++ next_row p.agent call Leave ∷ [] in
    let item = Entry p.agent.at (length p.rows) Leave in
    let i = inside_of stage p.agent.rank now (view_of p.agent) call
    (standing_longer stage p.agent.rank p.rows (next_row p.agent call Leave ∷ []) (view_of p.agent) h.standing)
    here entered in
    let same : call ≡ i.call = let there = i.here in cc (here, there) in
    second_item stage p.agent.rank now (view_of p.agent) item (other_items (p.agent.log ++ item ∷ []))
    (learn (shapes_in stage now) (calls_at stage p.agent.rank) p.agent.known item) i
    (untouched_push p.agent.log item refl)
    (accepted p.agent.known p.agent.at i.call (i.item ∷ item ∷ []) (course_at p.agent i.call) i.passes refl
    (inr (left (course_at p.agent i.call) p.agent.known p.agent.at i.call i.item (length p.rows)
    (λ is. let moves = look_up_moves p.agent.known.windows i.call is in
    let some = moves.1 in cc (sym none ∙ ap transfer_of same ∙ some)) i.opens)))

entering_stands : (stage : Stage) (p : Point) (call : Call) (step : Step) (after : Agent → Agent) → HasCalls stage p →
    Entering stage p.agent call step after → StandsAfter stage p call step after
entering_stands stage p call _ _ h (OnlyEntry begins course) = only_entry stage p call h begins course
entering_stands stage p call _ _ h (LookUp begins course) = first_entry stage p call One h begins
    (subst (λ (c : Course). OpensCall c p.agent.at (Entry p.agent.at (length p.rows) One)) (sym course)
    (length p.rows, refl))
    (nothing_learnt (shapes_in stage (p.rows ++ next_row p.agent call One ∷ [])) (calls_at stage p.agent.rank)
    p.agent.known (Entry p.agent.at (length p.rows) One)
    (look_up_accepts stage p.agent call (length p.rows) begins.here course))
entering_stands stage p call _ _ h (Arriving begins course) = first_entry stage p call Arrive h begins
    (subst (λ (c : Course). OpensCall c p.agent.at (Entry p.agent.at (length p.rows) Arrive)) (sym course)
    (length p.rows, refl))
    (nothing_learnt (shapes_in stage (p.rows ++ next_row p.agent call Arrive ∷ [])) (calls_at stage p.agent.rank)
    p.agent.known (Entry p.agent.at (length p.rows) Arrive)
    (arrive_accepts stage p.agent call (length p.rows) begins.here))
entering_stands stage p call _ _ h (Leaving here inside moves) = leaving stage p call h here inside moves

entered_calls : (stage : Stage) (p : Point) (call : Call) (step : Step) (after : Agent → Agent) →
    Entering stage p.agent call step after →
    (let now = p.rows ++ next_row p.agent call step ∷ [] in
    let next = after (keep_item (shapes_in stage now) stage p.agent (Entry p.agent.at (length p.rows) step)) in
    KnowsLog stage (point next now p.lows) → StandsAfter stage p call step after →
    HasCalls stage (point next now p.lows))
entered_calls stage p call _ _ (OnlyEntry begins course) known standing = record { known = known; standing = standing }
entered_calls stage p call _ _ (LookUp begins course) known standing = record { known = known; standing = standing }
entered_calls stage p call _ _ (Arriving begins course) known standing = record { known = known; standing = standing }
entered_calls stage p call _ _ (Leaving here inside moves) known standing = record {
  known = known;
  standing = standing;
}

-- ---- moves

pub calls_kept : (stage : Stage) → Keeps stage (HasCalls stage)
calls_kept stage p _ h (Learns more others) = record {
  known = known_kept stage p _ h.known (Learns more others);
  standing = standing_longer stage p.agent.rank p.rows more (view_of p.agent) h.standing;
}
calls_kept stage p _ h (Rises after rise) = record {
  known = known_kept stage p _ h.known (Rises after rise);
  standing = h.standing;
}
calls_kept stage p _ h (Ends past empty going) = record {
  known = known_kept stage p _ h.known (Ends past empty going);
  standing = past_all stage p.agent.rank p.rows (view_of p.agent) (other_items (p.agent.log ++ Ended ∷ [])) h.standing
      past going (untouched_push p.agent.log Ended refl);
}
calls_kept stage p _ h (RefusesAlone call class here new refuses) = record {
  known = known_kept stage p _ h.known (RefusesAlone call class here new refuses);
  standing = item_here stage p call (Refused p.agent.at class 0) _ h here new refl
      (refused_alone p.agent.known p.agent.at call class refuses);
}
calls_kept stage p _ h (IsRefused call class begins has answer) = record {
  known = known_kept stage p _ h.known (IsRefused call class begins has answer);
  standing = let some = after_some stage p call class h.known has answer in
      passed_here stage p call (Refused p.agent.at class (length p.rows)) _ (course_at p.agent call) h begins refl refl
      (inl (board_refusal (course_at p.agent call) p.agent.at class (length p.rows) some.0 has some.1));
}
calls_kept stage p _ h (Tests call begins course answer) = record {
  known = known_kept stage p _ h.known (Tests call begins course answer);
  standing = passed_here stage p call (Tested p.agent.at (length p.rows)) _ EntryOrTested h begins course refl
      (inr (inr (length p.rows, refl)));
}
calls_kept stage p _ h (Passes call item begins plain) = record {
  known = known_kept stage p _ h.known (Passes call item begins plain);
  standing = let is = plain_items (course_at p.agent call) p.agent.known p.agent.at call item plain in
      passed_here stage p call item _ (course_at p.agent call) h begins refl is.0 (inr is.1);
}
calls_kept stage p _ h (Enters call step after entering answer) = entered_calls stage p call step after entering
    (known_kept stage p _ h.known (Enters call step after entering answer))
    (entering_stands stage p call step after h entering)
calls_kept stage p _ h (Issues call t access issuing later) = record {
  known = known_kept stage p _ h.known (Issues call t access issuing later);
  standing = issued_items stage p call t access _ h issuing;
}
calls_kept stage p _ h (IssuesWhole call t access items after issuing once touches) = record {
  known = known_kept stage p _ h.known (IssuesWhole call t access items after issuing once touches);
  standing = subst (λ (all : List Item). Standing stage p.agent.rank p.rows (view_after (view_of p.agent) all
      (learn no_shapes (calls_at stage p.agent.rank) p.agent.known (Issue p.agent.at access))))
      (sym (untouched_touches (length p.agent.log) (p.agent.log ++ Issue p.agent.at access ∷ []) items
      (touches_own t (length p.agent.log) 0 _ p.lows items after touches)))
      (issued_items stage p call t access _ h issuing);
}
calls_kept stage p _ h (Draws state new) = record {
  known = known_kept stage p _ h.known (Draws state new);
  standing = h.standing;
}
calls_kept stage p _ h (Delivers at one items after there due touches) = record {
  known = known_kept stage p _ h.known (Delivers at one items after there due touches);
  standing = subst (λ (all : List Item). Standing stage p.agent.rank p.rows (record (view_of p.agent) { items = all }))
      (sym (untouched_touches one.index p.agent.log items (touches_of_own stage one _ p.lows items after touches)))
      h.standing;
}
