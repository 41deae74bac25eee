-- What a rank says of itself at its end: it has ended, or its next entry is not yet possible.
use Rattle.std.proofs.Common.{◌≡◌, ℕ, ◌⊎◌, inl, inr, Bool, true, false, List, [], ◌∷◌, ◌++◌, length, map, refl, sym, ◌∙◌}
use Rattle.std.proofs.Common.{ap, subst, arith, append-nil, cond, not, Option, Some, None}
use Rattle.std.specs.Prelude.{◌&&◌, ◌==◌, drop, is_none}
use Rattle.std.specs.Option.{option_map_or}
use Rattle.std.proofs.lemmas.Bool.{eqb-true}
use Rattle.std.proofs.lemmas.List.{map-append}
use Rattle.rma_types.specs.declared.calls.Call.{Call}
use Rattle.agreement_laws.proofs.BoardItems.{board_adds}
use Rattle.cell_face.specs.Faces.{Face}
use Rattle.kept_rows.specs.Gifts.{Given, rows_given}
use Rattle.kept_rows.specs.KeptCalls.{kept_row}
use Rattle.kept_rows.specs.KeptRowLaws.{kept_rows}
use Rattle.lawful_runs.specs.Stages.{Stage}
use Rattle.rank_laws.specs.Lives.{Stops}
use Rattle.step_histories.proofs.Waits.{waits_stuck}
use Rattle.rank_rules.specs.declared.pending.PendingAccess.{PendingAccess}
use Rattle.step_laws.proofs.DataWeights.{ended_now}
use Rattle.step_runs.specs.Agents.{Agent, has_pending, next_call, tries_entry}
use Rattle.step_runs.specs.BoardSteps.{board_step, stay_waiting}
use Rattle.step_runs.specs.DataSteps.{go_on, just_delivers, move_of, without_delivery}
use Rattle.kept_rows.proofs.KeptRowLawLaws.{rows_twice}
use Rattle.rank_histories.proofs.Looking.{given_rows}
use Rattle.rank_histories.proofs.Restored.{waits_alike}
use Rattle.rank_histories.specs.Among.{HasLivedAmong}
use Rattle.rank_histories.specs.Partly.{IsBetween, IsDraining, lows_of}

-- a rank that waits after its step at the board stops after all that it then knows
pub waits_stops : (stage : Stage) (agent : Agent) (before given : List Given) → tries_entry stage agent ≡ true →
    rows_given given ≡ map kept_row (drop (length before) (board_step stage agent (rows_given before)).rows) →
    (board_step stage agent (rows_given before)).waits ≡ true →
    Stops stage (board_step stage agent (rows_given before)).agent (rows_given (before ++ given))
waits_stops stage agent before given tries rows waits =
    let step = board_step stage agent (rows_given before) in
    let adds = board_adds stage agent (rows_given before) in
    let stuck = waits_stuck stage agent (rows_given before) tries waits in
    let new : rows_given given ≡ kept_rows adds.more = given_rows stage agent before given rows in
    let all : rows_given (before ++ given) ≡ rows_given before ++ kept_rows adds.more =
    map-append (λ (one : Given). one.row) before given ∙ ap (λ l. rows_given before ++ l) new in
    let same : kept_rows (rows_given (before ++ given)) ≡ kept_rows step.rows =
    ap kept_rows all ∙ map-append kept_row (rows_given before) (kept_rows adds.more)
    ∙ ap (λ l. kept_rows (rows_given before) ++ l) (rows_twice adds.more)
    ∙ sym (map-append kept_row (rows_given before) adds.more) ∙ ap kept_rows (sym adds.now) in
    inr (stuck.0, waits_alike stage step.agent (rows_given (before ++ given)) step.rows same stuck.1)

-- a rank whose calls have all their items, and of which nothing is pending, has ended after its step
pub over_ends : (stage : Stage) (agent : Agent) →
    (is_none (next_call stage agent) && not (has_pending agent)) ≡ true → (move_of stage agent).agent.ended ≡ true
over_ends stage agent over = by (next_call stage agent) (has_pending agent) agent.ended refl over
  where
    by : (o : Option Call) (pending ended : Bool) → agent.ended ≡ ended → (is_none o && not pending) ≡ true →
        (option_map_or (go_on stage agent) o (cond pending (just_delivers agent 0)
        (cond ended (without_delivery agent) (without_delivery (ended_now stage agent))))).agent.ended ≡ true
    by None false true e h = e
    by None false false e h = refl
    by None true ended e h = absurd (cc h)
    by (Some call) pending ended e h = absurd (cc h)

-- nothing is pending where a drain finds nothing
pub none_pending : (agent : Agent) → has_pending agent ≡ false → agent.pending ≡ []
none_pending agent none = by agent.pending none
  where
    by : (pending : List PendingAccess) → not (length pending == 0) ≡ false → pending ≡ []
    by [] e = refl
    by (one ∷ pending) e =
        let zeroth = eqb-true (length (one ∷ pending)) 0 (is_true (length (one ∷ pending) == 0) e) in
        absurd (omega (arith, zeroth))
      where
        is_true : (b : Bool) → not b ≡ false → b ≡ true
        is_true true h = refl
        is_true false h = absurd (cc h)

-- Entries that follow undo it neither for a rank that has ended, nor for one after which there is none.
pub stops_still : (stage : Stage) (agent : Agent) (known later : List Given) → Stops stage agent (rows_given known) →
    (agent.ended ≡ true) ⊎ (later ≡ []) → Stops stage agent (rows_given (known ++ later))
stops_still stage agent known later stops (inl ended) = inl ended
stops_still stage agent known later stops (inr none) =
    subst (λ (l : List Given). Stops stage agent (rows_given l))
    (sym (ap (λ l. known ++ l) none ∙ append-nil known)) stops

-- entries after which its next entry is still not possible do not undo it
pub stuck_still : (stage : Stage) (agent : Agent) (known later : List Given) → Stops stage agent (rows_given known) →
    (tries_entry stage agent ≡ true → board_step stage agent (rows_given (known ++ later))
    ≡ stay_waiting agent (rows_given (known ++ later))) → Stops stage agent (rows_given (known ++ later))
stuck_still stage agent known later (inl ended) nothing = inl ended
stuck_still stage agent known later (inr stuck) nothing = inr (stuck.0, nothing stuck.0)

-- a rank that stopped between two steps, and then delivered all, has its whole history among the entries
pub lived_among : (stage : Stage) (seed rank : ℕ) (entries : List Given) (stopped agent : Agent)
    (touched left : List ℕ) (face last : Face) → IsBetween stage seed rank entries stopped touched face →
    Stops stage stopped (rows_given entries) →
    IsDraining stage stopped (lows_of stage face) agent left last → agent.pending ≡ [] →
    HasLivedAmong stage seed rank entries agent
lived_among stage seed rank entries stopped agent touched left face last between stops draining empty = record {
  stopped = stopped;
  lows = lows_of stage face;
  last = lows_of stage last;
  life = between.life;
  stops = stops;
  drains = draining.drains;
  nothing_pending = empty;
}
