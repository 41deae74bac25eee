-- A rank has ended exactly where its log ends with Ended.
use Rattle.std.proofs.Common.{◌≡◌, ℕ, suc, false, ◌&&◌, List, [], ◌∷◌, ◌++◌, length, Option, Some, refl}
use Rattle.std.proofs.Common.{sym, ◌∙◌, ap, arith, append-nil, append_assoc, length-append}
use Rattle.std.specs.Prelude.{slice_get, map}
use Rattle.std.specs.List.{AllByRecursion, list_all}
use Rattle.std.specs.Option.{option_map_or}
use Rattle.list_laws.proofs.Truths.{false_unless}
use Rattle.rma_types.specs.declared.accesses.Step.{Step}
use Rattle.rma_types.specs.declared.calls.Call.{Call}
use Rattle.rma_record.specs.declared.items.Item.{Item}
use Rattle.rma_record.specs.declared.items.Item.TheVariants.{Issue, Null, Touch, Flush, Request, Entry, Tested, Refused}
use Rattle.rma_record.specs.declared.items.Item.TheVariants.{Ended}
use Rattle.lawful_runs.specs.Items.{is_ended, has_ended}
use Rattle.lawful_runs.specs.Stages.{Stage, stage_of}
use Rattle.rank_laws.proofs.Inductions.{Keeps, EndsOver, over_kept, lived_holds}
use Rattle.rank_laws.proofs.Lists.{get_rest}
use Rattle.rank_laws.proofs.Moves.{Point, course_at, Entering, OnlyEntry, LookUp, Arriving, Leaving, IsPlainItem}
use Rattle.rank_laws.proofs.Moves.{Learns, Rises, Ends, RefusesAlone, IsRefused, Tests, Passes, Enters, Issues}
use Rattle.rank_laws.proofs.Moves.{IssuesWhole, Draws, Delivers}
use Rattle.rank_laws.proofs.Touching.{IsTouchOf, touches_own, touches_of_own}
use Rattle.rank_laws.specs.Lawful.{AssembledRunsEndAlike}
use Rattle.rank_rules.specs.Courses.{Course, OneNull, OneIssue, LookUpAndIssue, OneFlush, OneRequest, ArriveAndLeave}
use Rattle.rank_rules.specs.Courses.{EntryOrTested, OneEntry}
use Rattle.rank_rules.specs.declared.pending.PendingAccess.{PendingAccess}
use Rattle.step_runs.specs.Agents.{Agent, next_call}

-- ---- the end of a log

pub ends_with : (log : List Item) (item : Item) → has_ended (log ++ item ∷ []) ≡ is_ended item
ends_with log item =
    ap (λ n. option_map_or is_ended (slice_get (log ++ item ∷ []) n) false)
    (omega (arith, length-append log (item ∷ [])))
    ∙ ap (λ (o : Option Item). option_map_or is_ended o false) (get_rest log (item ∷ []) (length log) 0 (omega arith))

touch_is_no_end : (issue : ℕ) (item : Item) → IsTouchOf issue item → is_ended item ≡ false
touch_is_no_end issue (Touch of element cell place bits) is = refl
touch_is_no_end issue (Issue number access) is = absurd is
touch_is_no_end issue (Null number) is = absurd is
touch_is_no_end issue (Flush number) is = absurd is
touch_is_no_end issue (Request number) is = absurd is
touch_is_no_end issue (Entry number place step) is = absurd is
touch_is_no_end issue (Tested number seen) is = absurd is
touch_is_no_end issue (Refused number class seen) is = absurd is
touch_is_no_end issue Ended is = absurd is

ends_with_touches : (issue : ℕ) (items log : List Item) → AllByRecursion (IsTouchOf issue) items →
    has_ended log ≡ false → has_ended (log ++ items) ≡ false
ends_with_touches issue [] log own e = ap has_ended (append-nil log) ∙ e
ends_with_touches issue (item ∷ items) log own e =
    ap has_ended (sym (append_assoc log (item ∷ []) items))
    ∙ ends_with_touches issue items (log ++ item ∷ []) own.1 (ends_with log item ∙ touch_is_no_end issue item own.0)

-- ---- moves

pub record EndsAlike (stage : Stage) (p : Point) : Type 0 where
  pub over : EndsOver stage p
  pub alike : p.agent.ended ≡ has_ended p.agent.log

-- a rank at a call has not ended
going_at : (stage : Stage) (p : Point) (call : Call) → EndsAlike stage p → next_call stage p.agent ≡ Some call →
    p.agent.ended ≡ false
going_at stage p call h here = false_unless p.agent.ended (λ e. let past = (h.over e).past in cc (sym past ∙ here))

plain_is_no_end : (course : Course) (number : ℕ) (item : Item) → IsPlainItem course number item →
    is_ended item ≡ false
plain_is_no_end OneNull number item e = ap is_ended e
plain_is_no_end OneIssue number item e = absurd e
plain_is_no_end LookUpAndIssue number item e = absurd e
plain_is_no_end OneFlush number item e = ap is_ended e
plain_is_no_end OneRequest number item e = ap is_ended e
plain_is_no_end ArriveAndLeave number item e = absurd e
plain_is_no_end EntryOrTested number item e = absurd e
plain_is_no_end OneEntry number item e = absurd e

entering_alike : (stage : Stage) (agent : Agent) (call : Call) (step : Step) (after : Agent → Agent) (next : Agent) →
    Entering stage agent call step after →
    (next_call stage agent ≡ Some call) × ((after next).ended ≡ next.ended) × ((after next).log ≡ next.log)
entering_alike stage agent call _ _ next (OnlyEntry begins course) = (begins.here, refl, refl)
entering_alike stage agent call _ _ next (LookUp begins course) = (begins.here, refl, refl)
entering_alike stage agent call _ _ next (Arriving begins course) = (begins.here, refl, refl)
entering_alike stage agent call _ _ next (Leaving here inside moves) = (here, refl, refl)

alike_push : (stage : Stage) (p : Point) (call : Call) (item : Item) → EndsAlike stage p →
    next_call stage p.agent ≡ Some call → is_ended item ≡ false → p.agent.ended ≡ has_ended (p.agent.log ++ item ∷ [])
alike_push stage p call item h here plain = going_at stage p call h here ∙ sym (ends_with p.agent.log item ∙ plain)

pub alike_kept : (stage : Stage) → Keeps stage (EndsAlike stage)
alike_kept stage p _ h (Learns more others) = record { over = h.over; alike = h.alike }
alike_kept stage p _ h (Rises after rise) = record { over = h.over; alike = h.alike }
alike_kept stage p _ h (Ends past empty going) = record {
  over = over_kept stage p _ h.over (Ends past empty going);
  alike = sym (ends_with p.agent.log Ended);
}
alike_kept stage p _ h (RefusesAlone call class here new refuses) = record {
  over = over_kept stage p _ h.over (RefusesAlone call class here new refuses);
  alike = alike_push stage p call (Refused p.agent.at class 0) h here refl;
}
alike_kept stage p _ h (IsRefused call class begins has answer) = record {
  over = over_kept stage p _ h.over (IsRefused call class begins has answer);
  alike = alike_push stage p call (Refused p.agent.at class (length p.rows)) h begins.here refl;
}
alike_kept stage p _ h (Tests call begins course answer) = record {
  over = over_kept stage p _ h.over (Tests call begins course answer);
  alike = alike_push stage p call (Tested p.agent.at (length p.rows)) h begins.here refl;
}
alike_kept stage p _ h (Passes call item begins plain) = record {
  over = over_kept stage p _ h.over (Passes call item begins plain);
  alike = alike_push stage p call item h begins.here (plain_is_no_end (course_at p.agent call) p.agent.at item plain);
}
alike_kept stage p _ h (Enters call step after entering answer) =
    let same = entering_alike stage p.agent call step after _ entering in
    record {
      over = over_kept stage p _ h.over (Enters call step after entering answer);
      alike = same.1 ∙ alike_push stage p call (Entry p.agent.at (length p.rows) step) h same.0 refl
          ∙ sym (ap has_ended same.2);
    }
alike_kept stage p _ h (Issues call t access issuing later) = record {
  over = over_kept stage p _ h.over (Issues call t access issuing later);
  alike = alike_push stage p call (Issue p.agent.at access) h issuing.here refl;
}
alike_kept stage p _ h (IssuesWhole call t access items after issuing once touches) = record {
  over = over_kept stage p _ h.over (IssuesWhole call t access items after issuing once touches);
  alike = going_at stage p call h issuing.here
      ∙ sym (ends_with_touches (length p.agent.log) items (p.agent.log ++ Issue p.agent.at access ∷ [])
      (touches_own t (length p.agent.log) 0 _ p.lows items after touches)
      (ends_with p.agent.log (Issue p.agent.at access)));
}
alike_kept stage p _ h (Draws state new) = record {
  over = over_kept stage p _ h.over (Draws state new);
  alike = h.alike;
}
alike_kept stage p _ h (Delivers at one items after there due touches) =
    let going = false_unless p.agent.ended (λ e. let empty = (h.over e).empty in cc
    (sym (ap (λ (pending : List PendingAccess). slice_get pending at) empty) ∙ there)) in
    record {
      over = over_kept stage p _ h.over (Delivers at one items after there due touches);
      alike = going ∙ sym (ends_with_touches one.index items p.agent.log
          (touches_of_own stage one _ p.lows items after touches) (sym h.alike ∙ going));
    }

-- ---- the run

all_alike : (agents : List Agent) → ((rank : ℕ) (agent : Agent) → slice_get agents rank ≡ Some agent →
    agent.ended ≡ has_ended agent.log) →
    list_all (λ (agent : Agent). agent.ended) agents ≡ list_all has_ended (map (λ (agent : Agent). agent.log) agents)
all_alike [] h = refl
all_alike (agent ∷ agents) h =
    ap (λ b. b && list_all (λ (a : Agent). a.ended) agents) (h 0 agent refl)
    ∙ ap (λ b. has_ended agent.log && b) (all_alike agents (λ rank other e. h (suc rank) other e))

pub runs_end_alike : AssembledRunsEndAlike
runs_end_alike script delay seed run is =
    is.ended
    ∙ all_alike is.agents (λ rank agent e.
    (lived_holds (stage_of script delay) seed rank (EndsAlike (stage_of script delay))
    (alike_kept (stage_of script delay)) (record { over = λ k. absurd (cc k); alike = refl }) is.puts agent
    (is.lives rank agent e)).0.alike)
    ∙ ap (list_all has_ended) (sym is.logs)
