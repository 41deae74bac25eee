-- Every move but an entry keeps the marks of a log.
use Rattle.std.proofs.Common.{◌≡◌, ℕ, suc, ◌+◌, ◌<◌, ◌≤◌, ◌⊎◌, inl, inr, false, List, [], ◌∷◌, ◌++◌, length, Option}
use Rattle.std.proofs.Common.{Some, None, refl, ap, sym, ◌∙◌, subst, arith, length-append}
use Rattle.std.specs.Prelude.{map, slice_get}
use Rattle.std.specs.List.{AllByRecursion}
use Rattle.std.specs.Option.{option_map_or}
use Rattle.std.proofs.lemmas.Bool.{cases_lt}
use Rattle.list_laws.proofs.Each.{each_weaker, each_at}
use Rattle.rma_record.specs.declared.items.Item.{Item}
use Rattle.rma_record.specs.declared.items.Item.TheVariants.{Issue, Touch, Refused, Tested, Ended}
use Rattle.call_rules.specs.declared.elements.Piece.{Piece}
use Rattle.board_rules.specs.Entries.{Row}
use Rattle.rma_types.specs.declared.actions.Transfer.{Transfer}
use Rattle.call_rules.specs.Pieces.{pieces}
use Rattle.call_rules.specs.Transfers.{change_of}
use Rattle.lawful_runs.specs.Accesses.{change_made, issued_at, issued_by, transfer_at, EachPair}
use Rattle.lawful_runs.specs.Items.{is_entry, is_touch}
use Rattle.lawful_runs.specs.Stages.{Stage, calls_at}
use Rattle.rank_laws.proofs.CellOrder.{touches_rise}
use Rattle.rank_laws.proofs.DataPaths.{its_transfer}
use Rattle.rank_laws.proofs.Histories.{most_same, most_join}
use Rattle.rank_laws.proofs.Inductions.{Keeps}
use Rattle.rank_laws.proofs.Lists.{get_rest}
use Rattle.rank_laws.proofs.Moves.{Point, IsPlainItem, course_at, Learns, Rises, Ends, RefusesAlone, IsRefused, Tests}
use Rattle.rank_laws.proofs.Moves.{Passes, Enters, Issues, IssuesWhole, Draws, Delivers}
use Rattle.rank_laws.proofs.Pendings.{IsUntouched}
use Rattle.rank_laws.proofs.Touching.{issued_still}
use Rattle.rank_laws.proofs.TouchMoves.{KeepsTouches, touches_kept, made_by, made_is}
use Rattle.rank_laws.specs.Deliveries.{place_after, AreTouches, AreTouchesOf}
use Rattle.rank_laws.specs.Fronts.{Lows, AreAtMost, Put}
use Rattle.rank_rules.specs.Courses.{Course, OneNull, OneIssue, LookUpAndIssue, OneFlush, OneRequest, ArriveAndLeave}
use Rattle.rank_rules.specs.Courses.{EntryOrTested, OneEntry}
use Rattle.rank_rules.specs.declared.pending.PendingAccess.{PendingAccess}
use Rattle.step_runs.specs.Agents.{Agent}
use Rattle.step_runs.specs.BoardSteps.{next_row}
use Rattle.agreement_laws.proofs.Marks.{Mark, AreRising, Marking, IsRight, AreMarked, AreMore, marked_rises}
use Rattle.agreement_laws.proofs.Marks.{marked_more, quiet_more}

-- the marking of a rank's log
abbrev pub marking_of : Stage → Agent → List Put → Marking
marking_of stage agent puts =
    record {
      memory = stage.layout;
      ranks = stage.script.ranks;
      calls = calls_at stage agent.rank;
      log = agent.log;
      puts = puts;
    }

-- ---- touches

-- marks of some items of a log, which rise from some lows to others
record AreMarksOf (m : Marking) (items : List Item) (lows after : Lows) : Type 0 where
  marks : List Mark
  are : items ≡ map (λ (mark : Mark). mark.item) marks
  rising : EachPair AreRising marks
  above : AllByRecursion (λ (mark : Mark). AreAtMost lows mark.low) marks
  below : AllByRecursion (λ (mark : Mark). AreAtMost mark.out after) marks
  right : AllByRecursion (IsRight m) marks

touch_marks : (m : Marking) (one : PendingAccess) (t : Transfer) → issued_at m.calls m.log one.index ≡ Some one →
    transfer_at m.calls one.number ≡ Some t →
    (element : ℕ) (places : List Piece) (lows : Lows) (items : List Item) (after : Lows) →
    AreTouches t one.index element places lows items after →
    ((k : ℕ) → slice_get (pieces m.memory one.access t.dtype) (element + k) ≡ slice_get places k) →
    AreMarksOf m items lows after
touch_marks m one t issued moves element [] lows items after h at =
    subst (λ l. AreMarksOf m l lows after) (sym h.0)
    (record { marks = []; are = refl; rising = tt; above = tt; below = tt; right = tt })
touch_marks m one t issued moves element (piece ∷ rest) lows items after h at =
    let later = touch_marks m one t issued moves (element + 1) rest h.3 h.2 after h.8
    (λ k. ap (slice_get (pieces m.memory one.access t.dtype)) (omega arith) ∙ at (suc k)) in
    subst (λ l. AreMarksOf m l lows after) (sym h.4) (record {
      marks = record { item = Touch one.index element piece.cell h.0 h.1; low = lows; out = h.3 } ∷ later.marks;
      are = ap (λ l. Touch one.index element piece.cell h.0 h.1 ∷ l) later.are;
      rising = (later.above, later.rising);
      above = (
        most_same lows,
        each_weaker (λ (mark : Mark). AreAtMost h.3 mark.low) (λ (mark : Mark). AreAtMost lows mark.low)
            (λ mark up. most_join lows h.3 mark.low h.6 up) later.marks later.above,
      );
      below = (touches_rise t one.index (element + 1) rest h.3 h.2 after h.8, later.below);
      right = (record { above = h.5; passed = passed }, later.right);
    })
  where
    its : (more : List Item) →
        option_map_or (λ other. change_made m.memory m.calls other element)
        (issued_at m.calls (m.log ++ more) one.index) None
        ≡ change_of t element piece.first_byte
    its more = ap (λ (o : Option PendingAccess). option_map_or
        (λ other. change_made m.memory m.calls other element) o None)
        (issued_still m.calls m.log more one.index one issued)
        ∙ ap (λ (o : Option Transfer). option_map_or (λ (u : Transfer). option_map_or
        (λ (p : Piece). change_of u element p.first_byte)
        (slice_get (pieces m.memory one.access u.dtype) element) None) o None) moves
        ∙ ap (λ (o : Option Piece). option_map_or (λ (p : Piece). change_of t element p.first_byte) o None)
        (ap (slice_get (pieces m.memory one.access t.dtype)) (omega arith) ∙ at 0)

    passed : (more : List Item) →
        place_after h.0 (option_map_or (λ other. change_made m.memory m.calls other element)
        (issued_at m.calls (m.log ++ more) one.index) None)
        ≤ h.3 piece.cell
    passed more = subst (λ c. place_after h.0 c ≤ h.3 piece.cell) (sym (its more)) h.7

-- the touches of an access whose Issue stands in the log
pub access_more : (m : Marking) (stage : Stage) (one : PendingAccess) (lows after : Lows) (items : List Item) →
    m.memory ≡ stage.layout →
    issued_at m.calls m.log one.index ≡ Some one → (o : Option Transfer) → transfer_at m.calls one.number ≡ o →
    AreTouchesOf stage one o lows items after → AreMore m items lows after
access_more m stage one lows after items memory issued None e touches =
    subst (λ l. AreMore m l lows after) (sym touches.0)
    (record { marks = []; are = refl; rising = tt; above = tt; below = tt; right = tt; rise = touches.1 })
access_more m stage one lows after items memory issued (Some t) e touches =
    let own : AreTouches t one.index 0 (pieces m.memory one.access t.dtype) lows items after =
    subst (λ layout. AreTouches t one.index 0 (pieces layout one.access t.dtype) lows items after)
    (sym memory) touches in
    let made = touch_marks (record m { log = m.log ++ items }) one t
    (issued_still m.calls m.log items one.index one issued) e 0
    (pieces m.memory one.access t.dtype) lows items after own
    (λ k. ap (slice_get (pieces m.memory one.access t.dtype)) (omega arith)) in
    record {
      marks = made.marks;
      are = made.are;
      rising = made.rising;
      above = made.above;
      below = made.below;
      right = made.right;
      rise = touches_rise t one.index 0 (pieces m.memory one.access t.dtype) lows items after own;
    }

-- ---- moves

plain_item : (course : Course) (number : ℕ) (item : Item) → IsPlainItem course number item →
    (is_touch item ≡ false) × (is_entry item ≡ false)
plain_item OneNull number item e = (ap is_touch e, ap is_entry e)
plain_item OneIssue number item e = absurd e
plain_item LookUpAndIssue number item e = absurd e
plain_item OneFlush number item e = (ap is_touch e, ap is_entry e)
plain_item OneRequest number item e = (ap is_touch e, ap is_entry e)
plain_item ArriveAndLeave number item e = absurd e
plain_item EntryOrTested number item e = absurd e
plain_item OneEntry number item e = absurd e

-- the log is marked, among these entries
pub record HasMarks (stage : Stage) (puts : List Put) (p : Point) : Type 0 where
  pub touches : KeepsTouches stage p.agent
  pub marked : AreMarked (marking_of stage p.agent puts) p.lows

-- so it is where the rank knows so many entries, and not where it knows more
abbrev pub HasMarksAt : Stage → List Put → ℕ → Point → Type 0
HasMarksAt stage puts many p = (many < length p.rows) ⊎ ((length p.rows ≡ many) × HasMarks stage puts p)

quiet_marked : (stage : Stage) (puts : List Put) (agent : Agent) (item : Item) (lows : Lows) → is_touch item ≡ false →
    is_entry item ≡ false →
    AreMarked (marking_of stage agent puts) lows →
    AreMarked (record (marking_of stage agent puts) { log = agent.log ++ item ∷ [] }) lows
quiet_marked stage puts agent item lows plain other marked =
    marked_more (marking_of stage agent puts) (item ∷ []) lows lows marked
    (quiet_more (marking_of stage agent puts) item lows plain other)

more_rows : (many n k : ℕ) → n ≡ many → (many < n + k) ⊎ (n + k ≡ many)
more_rows many n k e = elim (cases_lt many (n + k)) [ inl more ↦ inl more | inr same ↦ inr (omega (arith, same, e)) ]

learnt : (stage : Stage) (puts : List Put) (many : ℕ) (p : Point) (more : List Row) → HasMarksAt stage puts many p →
    HasMarksAt stage puts many (record p { rows = p.rows ++ more })
learnt stage puts many p more (inl past) =
    let long = length-append p.rows more in inl (omega (arith, past, long))
learnt stage puts many p more (inr here) =
    let long = length-append p.rows more in
    elim (more_rows many (length p.rows) (length more) here.0) [
      | inl grown ↦ inl (omega (arith, grown, long))
      | inr same ↦ inr (omega (arith, same, long), record { touches = here.1.touches; marked = here.1.marked })
    ]

pub marks_kept : (stage : Stage) (puts : List Put) (many : ℕ) → Keeps stage (HasMarksAt stage puts many)
marks_kept stage puts many p _ h (Learns more others) = learnt stage puts many p more h
marks_kept stage puts many p _ (inl past) (Rises after rise) = inl past
marks_kept stage puts many p _ (inr here) (Rises after rise) = inr (
  here.0,
  record {
    touches = here.1.touches;
    marked = marked_rises (marking_of stage p.agent puts) p.lows after rise here.1.marked;
  },
)
marks_kept stage puts many p _ (inl past) (Ends over empty going) = inl past
marks_kept stage puts many p _ (inr here) (Ends over empty going) = inr (
  here.0,
  record {
    touches = touches_kept stage p _ here.1.touches (Ends over empty going);
    marked = quiet_marked stage puts p.agent Ended p.lows refl refl here.1.marked;
  },
)
marks_kept stage puts many p _ (inl past) (RefusesAlone call class at new refuses) = inl past
marks_kept stage puts many p _ (inr here) (RefusesAlone call class at new refuses) = inr (
  here.0,
  record {
    touches = touches_kept stage p _ here.1.touches (RefusesAlone call class at new refuses);
    marked = quiet_marked stage puts p.agent (Refused p.agent.at class 0) p.lows refl refl here.1.marked;
  },
)
marks_kept stage puts many p _ (inl past) (IsRefused call class begins has answer) = inl past
marks_kept stage puts many p _ (inr here) (IsRefused call class begins has answer) = inr (
  here.0,
  record {
    touches = touches_kept stage p _ here.1.touches (IsRefused call class begins has answer);
    marked = quiet_marked stage puts p.agent (Refused p.agent.at class (length p.rows)) p.lows refl refl here.1.marked;
  },
)
marks_kept stage puts many p _ (inl past) (Tests call begins course answer) = inl past
marks_kept stage puts many p _ (inr here) (Tests call begins course answer) = inr (
  here.0,
  record {
    touches = touches_kept stage p _ here.1.touches (Tests call begins course answer);
    marked = quiet_marked stage puts p.agent (Tested p.agent.at (length p.rows)) p.lows refl refl here.1.marked;
  },
)
marks_kept stage puts many p _ (inl past) (Passes call item begins plain) = inl past
marks_kept stage puts many p _ (inr here) (Passes call item begins plain) =
    let is = plain_item (course_at p.agent call) p.agent.at item plain in
    inr (
      here.0,
      record {
        touches = touches_kept stage p _ here.1.touches (Passes call item begins plain);
        marked = quiet_marked stage puts p.agent item p.lows is.0 is.1 here.1.marked;
      },
    )
marks_kept stage puts many p _ (inl past) (Enters call step after entering answer) =
    let long = length-append p.rows (next_row p.agent call step ∷ []) in inl (omega (arith, past, long))
marks_kept stage puts many p _ (inr here) (Enters call step after entering answer) =
    let long = length-append p.rows (next_row p.agent call step ∷ []) in
    let many_are = here.0 in inl (omega (arith, many_are, long))
marks_kept stage puts many p _ (inl past) (Issues call t access issuing later) = inl past
marks_kept stage puts many p _ (inr here) (Issues call t access issuing later) = inr (
  here.0,
  record {
    touches = touches_kept stage p _ here.1.touches (Issues call t access issuing later);
    marked = quiet_marked stage puts p.agent (Issue p.agent.at access) p.lows refl refl here.1.marked;
  },
)
marks_kept stage puts many p _ (inl past) (IssuesWhole call t access items after issuing once touches) = inl past
marks_kept stage puts many p _ (inr here) (IssuesWhole call t access items after issuing once touches) =
    let calls = calls_at stage p.agent.rank in
    let item = Issue p.agent.at access in
    let its : issued_at calls (p.agent.log ++ item ∷ []) (length p.agent.log) ≡ Some (made_by p.agent access t) =
    ap (λ (o : Option Item). option_map_or (issued_by calls (length p.agent.log)) o None)
    (get_rest p.agent.log (item ∷ []) (length p.agent.log) 0 (omega arith))
    ∙ made_is stage p.agent call t access issuing in
    let m : Marking = record (marking_of stage p.agent puts) { log = p.agent.log ++ item ∷ [] } in
    inr (
      here.0,
      record {
        touches = touches_kept stage p _ here.1.touches (IssuesWhole call t access items after issuing once touches);
        marked = marked_more m items p.lows after (quiet_marked stage puts p.agent item p.lows refl refl here.1.marked)
            (access_more m stage (made_by p.agent access t) p.lows after items refl its (Some t)
            (its_transfer stage p.agent call t issuing.here issuing.moves) touches);
      },
    )
marks_kept stage puts many p _ (inl past) (Draws state new) = inl past
marks_kept stage puts many p _ (inr here) (Draws state new) = inr (
  here.0,
  record {
    touches = touches_kept stage p _ here.1.touches (Draws state new);
    marked = here.1.marked;
  },
)
marks_kept stage puts many p _ (inl past) (Delivers at one items after there due touches) = inl past
marks_kept stage puts many p _ (inr here) (Delivers at one items after there due touches) =
    let waits : IsUntouched (calls_at stage p.agent.rank) p.agent.log one =
    each_at (IsUntouched (calls_at stage p.agent.rank) p.agent.log) p.agent.pending at one here.1.touches.has.waiting
    there in
    inr (
      here.0,
      record {
        touches = touches_kept stage p _ here.1.touches (Delivers at one items after there due touches);
        marked = marked_more (marking_of stage p.agent puts) items p.lows after here.1.marked
            (access_more (marking_of stage p.agent puts) stage one p.lows after items refl waits.0 _ refl touches);
      },
    )
