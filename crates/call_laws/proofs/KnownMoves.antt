-- Every move keeps that a rank knows what its log says, whatever entries are put later.
use Rattle.std.proofs.Common.{◌≡◌, ℕ, false, List, [], ◌∷◌, ◌++◌, length, Some, None, refl, sym, ◌∙◌, ap, subst}
use Rattle.std.proofs.Common.{append_assoc}
use Rattle.std.specs.List.{AllByRecursion}
use Rattle.rma_types.specs.declared.accesses.Step.{Step}
use Rattle.rma_types.specs.declared.accesses.Step.TheVariants.{Arrive, Leave, One}
use Rattle.rma_types.specs.declared.calls.Call.{Call}
use Rattle.rma_types.specs.declared.scripts.Part.{Part}
use Rattle.rma_types.proofs.ActionLaws.{transfer_makes_none}
use Rattle.rma_record.specs.declared.items.Item.{Item}
use Rattle.rma_record.specs.declared.items.Item.TheVariants.{Issue, Entry, Tested, Refused, Ended}
use Rattle.board_rules.specs.Board.{Allow, decide}
use Rattle.board_rules.specs.Entries.{Row}
use Rattle.call_laws.proofs.BegunWindows.{IsOpen, HasBegunWindows, begun_by_others, numbers_at, begun_ending}
use Rattle.call_laws.proofs.BegunWindows.{begun_leaving, begun_looking_up, begun_arriving, later_creates_none}
use Rattle.call_laws.proofs.LeavingCreations.{parts_stay}
use Rattle.call_laws.proofs.Teaching.{IsPlain, TeachesNothing, plain_alike, plain_unmade, call_alike, learns_call}
use Rattle.call_laws.proofs.Teaching.{passing_is_plain, issue_is_plain, arrive_is_plain, look_up_is_plain}
use Rattle.call_laws.proofs.Teaching.{only_is_plain, leave_ends}
use Rattle.rma_types.specs.Actions.{creation_of}
use Rattle.lawful_runs.specs.Stages.{Stage, calls_at, known_at, shapes_in}
use Rattle.rank_laws.proofs.Awaiting.{rank_of, known_push, touches_teach_nothing}
use Rattle.rank_laws.proofs.Inductions.{Keeps}
use Rattle.rank_laws.proofs.Moves.{Point, point, Entering, OnlyEntry, LookUp, Arriving, Leaving, Learns, Rises, Ends}
use Rattle.rank_laws.proofs.Moves.{RefusesAlone, IsRefused, Tests, Passes, Enters, Issues, IssuesWhole, Draws, Delivers}
use Rattle.rank_laws.proofs.Touching.{IsTouchOf, touches_own, touches_of_own}
use Rattle.rank_rules.specs.Knowledge.{Knowledge, learn}
use Rattle.step_runs.specs.Agents.{Agent, next_call, keep_item, end_call}
use Rattle.step_runs.specs.BoardSteps.{next_row}
use Rattle.step_runs.specs.DataSteps.{no_shapes}

-- the log says this in a run with these entries, whatever follows them
abbrev pub KnowsAlways : Stage → ℕ → List Row → List Item → Knowledge → Type 0
KnowsAlways stage rank rows log known = (more : List Row) → known_at (rank_of stage rank (rows ++ more)) log ≡ known

pub record KnowsLog (stage : Stage) (p : Point) : Type 0 where
  pub begun : HasBegunWindows stage p.agent p.rows
  pub unmade : p.rows ≡ [] → p.agent.known.windows.windows ≡ []
  pub knows : KnowsAlways stage p.agent.rank p.rows p.agent.log p.agent.known

-- ---- one more entry, or one more item

pub knows_longer : (stage : Stage) (rank : ℕ) (rows new : List Row) (log : List Item) (known : Knowledge) →
    KnowsAlways stage rank rows log known → KnowsAlways stage rank (rows ++ new) log known
knows_longer stage rank rows new log known h more =
    subst (λ (all : List Row). known_at (rank_of stage rank all) log ≡ known) (sym (append_assoc rows new more))
    (h (new ++ more))

-- the item teaches the same, whatever entries follow
abbrev TeachesAlike : Stage → ℕ → List Row → (ℕ → List Part) → Knowledge → Item → Type 0
TeachesAlike stage rank rows shapes known item = (more : List Row) →
    learn (shapes_in stage (rows ++ more)) (calls_at stage rank) known item
    ≡ learn shapes (calls_at stage rank) known item

knows_push : (stage : Stage) (rank : ℕ) (rows : List Row) (log : List Item) (known : Knowledge)
    (shapes : ℕ → List Part) (item : Item) → KnowsAlways stage rank rows log known →
    TeachesAlike stage rank rows shapes known item →
    KnowsAlways stage rank rows (log ++ item ∷ []) (learn shapes (calls_at stage rank) known item)
knows_push stage rank rows log known shapes item h alike more =
    known_push (rank_of stage rank (rows ++ more)) log item
    ∙ ap (λ (k : Knowledge). learn (shapes_in stage (rows ++ more)) (calls_at stage rank) k item) (h more)
    ∙ alike more

plain_teaches : (stage : Stage) (rank : ℕ) (rows : List Row) (shapes : ℕ → List Part) (known : Knowledge)
    (item : Item) → IsPlain (calls_at stage rank) item → TeachesAlike stage rank rows shapes known item
plain_teaches stage rank rows shapes known item plain more =
    plain_alike (shapes_in stage (rows ++ more)) shapes (calls_at stage rank) known item plain

some_rows : (rows : List Row) (row : Row) → rows ++ row ∷ [] ≡ [] → ⊥
some_rows [] row e = cc e
some_rows (r ∷ rows) row e = cc e

-- an item that makes no window, and puts no entry, ends the call
knows_ending : (stage : Stage) (p : Point) (shapes : ℕ → List Part) (item : Item) → KnowsLog stage p →
    HasBegunWindows stage (end_call (keep_item shapes stage p.agent item)) p.rows →
    IsPlain (calls_at stage p.agent.rank) item →
    KnowsLog stage (record p { agent = end_call (keep_item shapes stage p.agent item) })
knows_ending stage p shapes item h begun plain = record {
  begun = begun;
  unmade = λ e. plain_unmade shapes (calls_at stage p.agent.rank) p.agent.known item plain (h.unmade e);
  knows = knows_push stage p.agent.rank p.rows p.agent.log p.agent.known shapes item h.knows
      (plain_teaches stage p.agent.rank p.rows shapes p.agent.known item plain);
}

-- at a call that has not begun
ending_new : (stage : Stage) (p : Point) (shapes : ℕ → List Part) (item : Item) → KnowsLog stage p →
    p.agent.entered ≡ false → IsPlain (calls_at stage p.agent.rank) item →
    KnowsLog stage (record p { agent = end_call (keep_item shapes stage p.agent item) })
ending_new stage p shapes item h new plain = knows_ending stage p shapes item h
    (begun_ending stage p.agent p.rows shapes item plain (h.begun.outside new)) plain

-- at a call that makes no window
ending_at : (stage : Stage) (p : Point) (call : Call) (shapes : ℕ → List Part) (item : Item) → KnowsLog stage p →
    next_call stage p.agent ≡ Some call → IsPlain (calls_at stage p.agent.rank) item → creation_of call ≡ None →
    KnowsLog stage (record p { agent = end_call (keep_item shapes stage p.agent item) })
ending_at stage p call shapes item h here plain none = knows_ending stage p shapes item h
    (begun_ending stage p.agent p.rows shapes item plain (numbers_at stage p.agent p.rows call h.begun here none)) plain

-- the touches of an access
knows_touches : (stage : Stage) (rank issue : ℕ) (rows : List Row) (log items : List Item) (known : Knowledge) →
    AllByRecursion (IsTouchOf issue) items → KnowsAlways stage rank rows log known →
    KnowsAlways stage rank rows (log ++ items) known
knows_touches stage rank issue rows log items known own h more =
    touches_teach_nothing (rank_of stage rank (rows ++ more)) issue items log own ∙ h more

-- ---- entries

entered_knows : (stage : Stage) (p : Point) (call : Call) (step : Step) (shapes : ℕ → List Part) → KnowsLog stage p →
    TeachesAlike stage p.agent.rank (p.rows ++ next_row p.agent call step ∷ []) shapes p.agent.known
    (Entry p.agent.at (length p.rows) step) →
    KnowsAlways stage p.agent.rank (p.rows ++ next_row p.agent call step ∷ [])
    (p.agent.log ++ Entry p.agent.at (length p.rows) step ∷ [])
    (learn shapes (calls_at stage p.agent.rank) p.agent.known (Entry p.agent.at (length p.rows) step))
entered_knows stage p call step shapes h alike =
    let rows = p.rows ++ next_row p.agent call step ∷ [] in
    knows_push stage p.agent.rank rows p.agent.log p.agent.known shapes (Entry p.agent.at (length p.rows) step)
    (knows_longer stage p.agent.rank p.rows (next_row p.agent call step ∷ []) p.agent.log p.agent.known h.knows) alike

leave_teaches : (stage : Stage) (agent : Agent) (rows : List Row) (call : Call) → next_call stage agent ≡ Some call →
    decide stage.script.ranks rows (next_row agent call Leave) ≡ Allow →
    IsOpen rows agent.rank agent.known.windows.created call →
    TeachesAlike stage agent.rank (rows ++ next_row agent call Leave ∷ [])
    (shapes_in stage (rows ++ next_row agent call Leave ∷ [])) agent.known (Entry agent.at (length rows) Leave)
leave_teaches stage agent rows call here answer open_ more =
    let now = rows ++ next_row agent call Leave ∷ [] in
    let calls = calls_at stage agent.rank in
    let item = Entry agent.at (length rows) Leave in
    let ends = leave_ends stage agent call (length rows) here in
    learns_call (shapes_in stage (now ++ more)) calls agent.known item agent.at call ends here
    ∙ call_alike (shapes_in stage (now ++ more)) (shapes_in stage now) agent.known agent.at call
    (λ creation makes. parts_stay stage agent rows call creation answer makes open_ more)
    ∙ sym (learns_call (shapes_in stage now) calls agent.known item agent.at call ends here)

enters_knows : (stage : Stage) (p : Point) (call : Call) (step : Step) (after : Agent → Agent) → KnowsLog stage p →
    Entering stage p.agent call step after →
    decide stage.script.ranks p.rows (next_row p.agent call step) ≡ Allow →
    (let now = p.rows ++ next_row p.agent call step ∷ [] in
    KnowsLog stage (point (after (keep_item (shapes_in stage now) stage p.agent
    (Entry p.agent.at (length p.rows) step))) now
    p.lows))
enters_knows stage p call _ _ h (OnlyEntry begins course) answer = record {
  begun = record {
    outside = λ new win. later_creates_none p.rows (next_row p.agent call One) p.agent.rank win refl
        ∙ (begun_ending stage p.agent p.rows (shapes_in stage (p.rows ++ next_row p.agent call One ∷ []))
        (Entry p.agent.at (length p.rows) One) plain (h.begun.outside begins.new)).outside new win;
    inside = λ entered. absurd (cc entered);
  };
  unmade = λ e. absurd (some_rows p.rows (next_row p.agent call One) e);
  knows = entered_knows stage p call One (shapes_in stage (p.rows ++ next_row p.agent call One ∷ [])) h
      (plain_teaches stage p.agent.rank (p.rows ++ next_row p.agent call One ∷ [])
      (shapes_in stage (p.rows ++ next_row p.agent call One ∷ [])) p.agent.known
      (Entry p.agent.at (length p.rows) One) plain);
}
  where
    plain : IsPlain (calls_at stage p.agent.rank) (Entry p.agent.at (length p.rows) One)
    plain = only_is_plain stage p.agent call (length p.rows) begins.here course
enters_knows stage p call _ _ h (LookUp begins course) answer = record {
  begun = begun_looking_up stage p.agent p.rows call (shapes_in stage (p.rows ++ next_row p.agent call One ∷ []))
      (length p.rows) begins course h.begun;
  unmade = λ e. absurd (some_rows p.rows (next_row p.agent call One) e);
  knows = entered_knows stage p call One (shapes_in stage (p.rows ++ next_row p.agent call One ∷ [])) h
      (plain_teaches stage p.agent.rank (p.rows ++ next_row p.agent call One ∷ [])
      (shapes_in stage (p.rows ++ next_row p.agent call One ∷ [])) p.agent.known
      (Entry p.agent.at (length p.rows) One)
      (look_up_is_plain stage p.agent call (length p.rows) begins.here course));
}
enters_knows stage p call _ _ h (Arriving begins course) answer = record {
  begun = begun_arriving stage p.agent p.rows call (shapes_in stage (p.rows ++ next_row p.agent call Arrive ∷ []))
      (length p.rows) begins h.begun;
  unmade = λ e. absurd (some_rows p.rows (next_row p.agent call Arrive) e);
  knows = entered_knows stage p call Arrive (shapes_in stage (p.rows ++ next_row p.agent call Arrive ∷ [])) h
      (plain_teaches stage p.agent.rank (p.rows ++ next_row p.agent call Arrive ∷ [])
      (shapes_in stage (p.rows ++ next_row p.agent call Arrive ∷ [])) p.agent.known
      (Entry p.agent.at (length p.rows) Arrive)
      (arrive_is_plain stage p.agent call (length p.rows) begins.here));
}
enters_knows stage p call _ _ h (Leaving here inside moves) answer = record {
  begun = begun_leaving stage p.agent p.rows call (shapes_in stage (p.rows ++ next_row p.agent call Leave ∷ []))
      (length p.rows) here (h.begun.inside inside call here);
  unmade = λ e. absurd (some_rows p.rows (next_row p.agent call Leave) e);
  knows = entered_knows stage p call Leave (shapes_in stage (p.rows ++ next_row p.agent call Leave ∷ [])) h
      (leave_teaches stage p.agent p.rows call here answer (h.begun.inside inside call here));
}

-- ---- moves

pub known_kept : (stage : Stage) → Keeps stage (KnowsLog stage)
known_kept stage p _ h (Learns more others) = record {
  begun = begun_by_others stage p.agent p.rows more others h.begun;
  unmade = λ e. h.unmade (none_before p.rows more e);
  knows = knows_longer stage p.agent.rank p.rows more p.agent.log p.agent.known h.knows;
}
  where
    none_before : (rows more : List Row) → rows ++ more ≡ [] → rows ≡ []
    none_before [] more e = refl
    none_before (row ∷ rows) more e = absurd (cc e)
known_kept stage p _ h (Rises after rise) = record { begun = h.begun; unmade = h.unmade; knows = h.knows }
known_kept stage p _ h (Ends past empty going) = record {
  begun = record { outside = h.begun.outside; inside = h.begun.inside };
  unmade = h.unmade;
  knows = knows_push stage p.agent.rank p.rows p.agent.log p.agent.known no_shapes Ended h.knows (λ more. refl);
}
known_kept stage p _ h (RefusesAlone call class here new refuses) =
    ending_new stage p no_shapes (Refused p.agent.at class 0) h new (TeachesNothing refl)
known_kept stage p _ h (IsRefused call class begins has answer) =
    ending_new stage p (shapes_in stage p.rows) (Refused p.agent.at class (length p.rows)) h begins.new
    (TeachesNothing refl)
known_kept stage p _ h (Tests call begins course answer) =
    ending_new stage p (shapes_in stage p.rows) (Tested p.agent.at (length p.rows)) h begins.new (TeachesNothing refl)
known_kept stage p _ h (Passes call item begins plain) =
    ending_new stage p no_shapes item h begins.new (passing_is_plain stage p.agent call item begins plain)
known_kept stage p _ h (Enters call step after entering answer) = enters_knows stage p call step after h entering answer
known_kept stage p _ h (Issues call t access issuing later) =
    let next = ending_at stage p call no_shapes (Issue p.agent.at access) h issuing.here
    (issue_is_plain stage p.agent call t access issuing) (transfer_makes_none call t issuing.moves) in
    record {
      begun = record { outside = next.begun.outside; inside = next.begun.inside };
      unmade = next.unmade;
      knows = next.knows;
    }
known_kept stage p _ h (IssuesWhole call t access items after issuing once touches) =
    let next = ending_at stage p call no_shapes (Issue p.agent.at access) h issuing.here
    (issue_is_plain stage p.agent call t access issuing) (transfer_makes_none call t issuing.moves) in
    record {
      begun = record { outside = next.begun.outside; inside = next.begun.inside };
      unmade = next.unmade;
      knows = knows_touches stage p.agent.rank (length p.agent.log) p.rows
          (p.agent.log ++ Issue p.agent.at access ∷ []) items
          (learn no_shapes (calls_at stage p.agent.rank) p.agent.known (Issue p.agent.at access))
          (touches_own t (length p.agent.log) 0 _ p.lows items after touches) next.knows;
    }
known_kept stage p _ h (Draws state new) = record {
  begun = record { outside = h.begun.outside; inside = h.begun.inside };
  unmade = h.unmade;
  knows = h.knows;
}
known_kept stage p _ h (Delivers at one items after there due touches) = record {
  begun = record { outside = h.begun.outside; inside = h.begun.inside };
  unmade = h.unmade;
  knows = knows_touches stage p.agent.rank one.index p.rows p.agent.log items p.agent.known
      (touches_of_own stage one _ p.lows items after touches) h.knows;
}
