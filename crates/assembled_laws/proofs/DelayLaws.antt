-- In an assembled run each log has the touches where the delay has them.
use Rattle.std.proofs.Common.{◌≡◌, ◌<◌, ℕ, false, List, [], length, Option, Some, None, refl, sym, subst}
use Rattle.std.specs.Prelude.{slice_get, IfSome}
use Rattle.rma_types.specs.declared.schedules.Delay.{Delay}
use Rattle.rma_types.specs.declared.schedules.Delay.TheVariants.{None as NoDelay, End as EndDelay}
use Rattle.rma_types.specs.declared.schedules.Delay.TheVariants.{Seeded as SeededDelay}
use Rattle.rma_types.specs.declared.scripts.Script.{Script}
use Rattle.rma_record.specs.declared.items.Item.{Item}
use Rattle.rma_record.specs.declared.items.Item.TheVariants.{Issue, Null, Touch, Flush, Request, Entry, Tested, Refused}
use Rattle.rma_record.specs.declared.items.Item.TheVariants.{Ended}
use Rattle.rma_record.specs.declared.runs.Run.{Run}
use Rattle.assembled_laws.proofs.Due.{AreDue, due_touches}
use Rattle.assembled_laws.proofs.DueKept.{due_kept}
use Rattle.assembled_laws.proofs.DueMoves.{KeepsDue}
use Rattle.board_rules.specs.Entries.{Row}
use Rattle.call_laws.proofs.CallLaws.{new_calls}
use Rattle.lawful_runs.specs.DelayLaw.{IsMadeWhenDue, IsDueAt, KeepsDelay}
use Rattle.lawful_runs.specs.LawfulRun.{rank_in}
use Rattle.lawful_runs.specs.Logs.{log_of, rows_of}
use Rattle.lawful_runs.specs.Stages.{Stage, stage_of}
use Rattle.rank_laws.proofs.Awaiting.{rank_of}
use Rattle.rank_laws.proofs.Inductions.{stops_holding, lived_rank}
use Rattle.rank_laws.proofs.Lists.{numbers_each}
use Rattle.rank_laws.proofs.Moves.{point}
use Rattle.rank_laws.proofs.Runs.{rank_there}
use Rattle.rank_laws.proofs.Touching.{touches_of_own}
use Rattle.rank_laws.proofs.TouchLaws.{new_awaited, keeps_none}
use Rattle.rank_laws.specs.Assembled.{IsAssembled}
use Rattle.rank_laws.specs.Deliveries.{IsDelivered}
use Rattle.rank_laws.specs.Fronts.{Lows, first_lows, Put}
use Rattle.rank_laws.specs.Lives.{Drains, Stays, Drained, HasLived}
use Rattle.rank_rules.specs.declared.pending.PendingAccess.{PendingAccess}
use Rattle.step_runs.specs.Agents.{Agent, new_agent}

-- ---- delay end

new_due : (stage : Stage) (seed rank : ℕ) (lows : Lows) → KeepsDue stage (point (new_agent stage seed rank) [] lows)
new_due stage seed rank lows = record {
  known = (new_calls stage seed rank lows).known;
  awaited = new_awaited stage seed rank;
  has = record {
    begun = tt;
    unbegun = λ new. tt;
    elements = tt;
    due = λ rows index issue element cell place bits e. absurd (cc e);
    owed = λ index issue element cell place bits e. absurd (cc e);
  };
}

-- the deliveries of a rank that makes no other step stand at the end of its log
delivered_last : (stage : Stage) (rank : ℕ) (now next : Agent) (low after : Lows) (o : Option PendingAccess) →
    IsDelivered stage now 0 o low next after → AreDue stage rank now.log → AreDue stage rank next.log
delivered_last stage rank now next low after None h due =
    subst (λ (agent : Agent). AreDue stage rank agent.log) (sym h.0) due
delivered_last stage rank now next low after (Some one) h due =
    subst (λ (agent : Agent). AreDue stage rank agent.log) (sym h.2)
    (due_touches stage rank one.index now.log h.0 (touches_of_own stage one _ low h.0 after h.1) due)

drained_last : (stage : Stage) (rank : ℕ) (agent : Agent) (lows : Lows) (last : Agent) (low : Lows) →
    Drains stage agent lows last low → AreDue stage rank agent.log → AreDue stage rank last.log
drained_last stage rank agent lows _ _ Stays due = due
drained_last stage rank agent lows _ _ (Drained now next low after drains made) due =
    delivered_last stage rank now next low after (slice_get now.pending 0) made
    (drained_last stage rank agent lows now low drains due)

lived_due : (stage : Stage) (seed rank : ℕ) (puts : List Put) (agent : Agent) → stage.delay ≡ EndDelay →
    HasLived stage seed rank puts agent → AreDue stage rank agent.log
lived_due stage seed rank puts agent end lived =
    let stopped = stops_holding false stage seed rank (KeepsDue stage) (due_kept stage end)
    (new_due stage seed rank first_lows) puts agent lived in
    drained_last stage rank lived.stopped lived.lows agent lived.last lived.drains
    (subst (λ r. AreDue stage r lived.stopped.log) stopped.1 stopped.0.has.due)

-- what is at an index is made when it is due, if it is a touch
made_when_due : (stage : Stage) (rank : ℕ) (rows : List Row) (log : List Item) → AreDue stage rank log →
    (index : ℕ) (o : Option Item) → slice_get log index ≡ o →
    IfSome o (IsMadeWhenDue (rank_of stage rank rows) log index)
made_when_due stage rank rows log due index None e = tt
made_when_due stage rank rows log due index (Some (Touch issue element cell place bits)) e =
    due rows index issue element cell place bits e
made_when_due stage rank rows log due index (Some (Issue number access)) e = tt
made_when_due stage rank rows log due index (Some (Null number)) e = tt
made_when_due stage rank rows log due index (Some (Flush number)) e = tt
made_when_due stage rank rows log due index (Some (Request number)) e = tt
made_when_due stage rank rows log due index (Some (Entry number place step)) e = tt
made_when_due stage rank rows log due index (Some (Tested number seen)) e = tt
made_when_due stage rank rows log due index (Some (Refused number class seen)) e = tt
made_when_due stage rank rows log due index (Some Ended) e = tt

keeps_end : (stage : Stage) (seed rank : ℕ) (puts : List Put) (agent : Agent) (rows : List Row) →
    HasLived stage seed rank puts agent → stage.delay ≡ EndDelay →
    KeepsDelay EndDelay (rank_of stage rank rows) agent.log
keeps_end stage seed rank puts agent rows lived end = numbers_each (IsDueAt (rank_of stage rank rows) agent.log)
    (λ index. made_when_due stage rank rows agent.log (lived_due stage seed rank puts agent end lived) index
    (slice_get agent.log index) refl) 0 (length agent.log)

-- ---- any delay

keeps_delay : (stage : Stage) (seed rank : ℕ) (puts : List Put) (agent : Agent) (rows : List Row) →
    HasLived stage seed rank puts agent → (d : Delay) → stage.delay ≡ d →
    KeepsDelay d (rank_of stage rank rows) agent.log
keeps_delay stage seed rank puts agent rows lived NoDelay e =
    keeps_none stage seed rank puts agent rows lived (lived_rank stage seed rank puts agent lived) e
keeps_delay stage seed rank puts agent rows lived EndDelay e = keeps_end stage seed rank puts agent rows lived e
keeps_delay stage seed rank puts agent rows lived SeededDelay e = tt

pub delays_are_kept : (script : Script) (delay : Delay) (seed : ℕ) (run : Run) →
    IsAssembled script delay seed run → (rank : ℕ) → rank < script.ranks →
    KeepsDelay delay (rank_in script delay run rank) (log_of run rank)
delays_are_kept script delay seed run is rank inside =
    let there = rank_there script delay seed run is rank inside in
    subst (KeepsDelay delay (rank_in script delay run rank)) (sym there.log)
    (keeps_delay (stage_of script delay) seed rank is.puts there.agent (rows_of script run) there.lived delay refl)
