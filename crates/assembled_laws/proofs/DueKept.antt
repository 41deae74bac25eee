-- Every move of a rank that makes steps keeps that its touches are made when they are due, where the delay is end.
use Rattle.std.proofs.Common.{◌≡◌, ◌+◌, true, false, [], ◌∷◌, ◌++◌, length, refl}
use Rattle.std.specs.Prelude.{nat_lt}
use Rattle.list_laws.proofs.Each.{each_append}
use Rattle.rma_types.specs.declared.schedules.Delay.TheVariants.{End as EndDelay}
use Rattle.rma_record.specs.declared.items.Item.TheVariants.{Issue, Tested, Refused, Ended}
use Rattle.assembled_laws.proofs.DueDeliveries.{delivered_due, issued_due}
use Rattle.assembled_laws.proofs.DueMoves.{IsBefore, HasDue, KeepsDue, first_pays, alone_pays, issue_pays, pushed}
use Rattle.assembled_laws.proofs.DueMoves.{ending, entering, plain_named, refused_later}
use Rattle.assembled_laws.proofs.PendingElements.{made_has_elements}
use Rattle.assembled_laws.proofs.Unfinished.{HasElements}
use Rattle.call_laws.proofs.CallMoves.{after_some}
use Rattle.call_laws.proofs.KnownMoves.{known_kept}
use Rattle.lawful_runs.specs.Stages.{Stage, calls_at, shapes_in}
use Rattle.rank_laws.proofs.AwaitMoves.{KeepsAwaited, awaited_kept}
use Rattle.rank_laws.proofs.Inductions.{KeepsIn}
use Rattle.rank_laws.proofs.Moves.{Point, course_at, Move, move_weaker, Learns, Rises, Ends, RefusesAlone, IsRefused}
use Rattle.rank_laws.proofs.Moves.{Tests, Passes, Enters, Issues, IssuesWhole, Draws, Delivers}
use Rattle.rank_laws.proofs.TouchMoves.{plain_by_course}
use Rattle.step_runs.specs.Agents.{Agent, next_call, keep_item}
use Rattle.step_runs.specs.BoardSteps.{next_row}
use Rattle.step_runs.specs.DataSteps.{no_shapes}

-- the rank ends
ends_due : (stage : Stage) (agent : Agent) → KeepsAwaited stage agent → HasDue stage agent →
    HasDue stage (record (keep_item no_shapes stage agent Ended) { ended = true })
ends_due stage agent awaited h =
    let more = pushed stage agent Ended (next_call stage agent) agent.entered agent.known awaited h refl
    (λ rows one waits. refl) in record {
      begun = each_append (IsBefore (agent.at + 1)) agent.log (Ended ∷ []) h.begun (tt, tt);
      unbegun = λ new. each_append (IsBefore agent.at) agent.log (Ended ∷ []) (h.unbegun new) (tt, tt);
      elements = h.elements;
      due = more.0;
      owed = more.1;
    }

-- what each move keeps of the laws below, with what it leaves due
with_due : (stage : Stage) (p q : Point) → KeepsDue stage p → Move false stage p q → HasDue stage q.agent →
    KeepsDue stage q
with_due stage p q h move has = record {
  known = known_kept stage p q h.known (move_weaker false stage p q move);
  awaited = awaited_kept stage p q h.awaited (move_weaker false stage p q move);
  has = has;
}

pub due_kept : (stage : Stage) → stage.delay ≡ EndDelay → KeepsIn false stage (KeepsDue stage)
due_kept stage end p _ h (Learns more others) = with_due stage p _ h (Learns more others) h.has
due_kept stage end p _ h (Rises after rise) = with_due stage p _ h (Rises after rise) h.has
due_kept stage end p _ h (Ends past empty going) = with_due stage p _ h (Ends past empty going)
    (ends_due stage p.agent h.awaited h.has)
due_kept stage end p _ h (RefusesAlone call class here new refuses) =
    let item = Refused p.agent.at class 0 in
    with_due stage p _ h (RefusesAlone call class here new refuses)
    (ending stage p.agent no_shapes item h.awaited h.has refl refl
    (alone_pays stage p.agent call class item here refuses))
due_kept stage end p _ h (IsRefused call class begins has answer) =
    let item = Refused p.agent.at class (length p.rows) in
    let some = after_some stage p call class h.known has answer in
    with_due stage p _ h (IsRefused call class begins has answer)
    (ending stage p.agent (shapes_in stage p.rows) item h.awaited h.has refl refl
    (first_pays stage p.agent call item h.awaited h.has begins refl refl
    (refused_later p.agent.at class (length p.rows) some.0 some.1)))
due_kept stage end p _ h (Tests call begins course answer) =
    let item = Tested p.agent.at (length p.rows) in
    with_due stage p _ h (Tests call begins course answer)
    (ending stage p.agent (shapes_in stage p.rows) item h.awaited h.has refl refl
    (first_pays stage p.agent call item h.awaited h.has begins refl refl refl))
due_kept stage end p _ h (Passes call item begins plain) =
    let is = plain_by_course (calls_at stage p.agent.rank) (length p.agent.log) (course_at p.agent call) p.agent.at item
    plain in
    let named = plain_named (course_at p.agent call) p.agent.at item plain in
    with_due stage p _ h (Passes call item begins plain)
    (ending stage p.agent no_shapes item h.awaited h.has is.0 named.1
    (first_pays stage p.agent call item h.awaited h.has begins named.0 named.1 named.2))
due_kept stage end p _ h (Enters call step after enters answer) =
    with_due stage p _ h (Enters call step after enters answer)
    (entering stage p.agent call step after (shapes_in stage (p.rows ++ next_row p.agent call step ∷ []))
    (length p.rows) enters h.awaited h.has)
due_kept stage end p _ h (Issues call t access issuing later) =
    let item = Issue p.agent.at access in
    let more = ending stage p.agent no_shapes item h.awaited h.has refl refl
    (issue_pays stage p.agent call t access h.awaited h.has issuing) in
    with_due stage p _ h (Issues call t access issuing later) (record {
      begun = more.begun;
      unbegun = more.unbegun;
      elements = each_append (HasElements stage.layout (calls_at stage p.agent.rank)) p.agent.pending _ more.elements
          (made_has_elements stage p.agent call t access issuing (nat_lt 0 access.len) refl);
      due = more.due;
      owed = more.owed;
    })
due_kept stage end p _ h (IssuesWhole call t access items after issuing once touches) =
    with_due stage p _ h (IssuesWhole call t access items after issuing once touches)
    (issued_due stage p.agent call t access items p.lows after end h.awaited h.has issuing once touches)
due_kept stage end p _ h (Draws state new) = with_due stage p _ h (Draws state new) (record {
  begun = h.has.begun;
  unbegun = h.has.unbegun;
  elements = h.has.elements;
  due = h.has.due;
  owed = h.has.owed;
})
due_kept stage end p _ h (Delivers at one items after there due touches) =
    with_due stage p _ h (Delivers at one items after there due touches)
    (delivered_due stage p.agent at one items p.lows after end h.awaited h.has there due touches)
