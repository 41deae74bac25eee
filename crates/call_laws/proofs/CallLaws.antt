-- In an assembled run each log has the items of the calls of its rank.
use Rattle.std.proofs.Common.{◌≡◌, ℕ, inl, inr, true, false, List, [], ◌∷◌, Option, Some, None, IsTrue, refl, sym, ◌∙◌}
use Rattle.std.proofs.Common.{ap, subst, append-nil}
use Rattle.std.specs.Prelude.{slice_get, IsSomeAnd}
use Rattle.rma_types.specs.declared.accesses.Step.TheVariants.{Arrive}
use Rattle.rma_types.specs.declared.calls.Call.{Call}
use Rattle.rma_record.specs.declared.items.Item.{Item}
use Rattle.rma_record.specs.declared.items.Item.TheVariants.{Entry, Ended}
use Rattle.board_rules.specs.Entries.{Row}
use Rattle.call_laws.proofs.CallMoves.{HasCalls, calls_kept}
use Rattle.call_laws.proofs.KnownMoves.{KnowsAlways}
use Rattle.call_laws.proofs.Standing.{untouched_touches, knows_untouched, view_of, OpensCall, FinishedAlways, Inside}
use Rattle.call_laws.proofs.Standing.{Standing, IsOutside, IsInside, IsPast, past_has_none}
use Rattle.call_laws.proofs.Stopping.{WaitsAt, WaitsFirst, WaitsToLeave, waits_there}
use Rattle.call_laws.proofs.Teaching.{look_up_moves}
use Rattle.call_laws.specs.Calls.{AssembledRunsHaveItemsOfCalls}
use Rattle.lawful_runs.specs.CallItems.{other_items, AreFinished, may_stand, StandsAt, HasItemsOfCalls}
use Rattle.lawful_runs.specs.LawfulRun.{rank_in}
use Rattle.lawful_runs.specs.Stages.{Stage, stage_of, calls_at, known_at}
use Rattle.rank_laws.proofs.Awaiting.{rank_of}
use Rattle.rank_laws.proofs.BoardLaws.{rows_are}
use Rattle.rank_laws.proofs.Inductions.{stops_holding}
use Rattle.rank_laws.proofs.Moves.{Point, point, course_at}
use Rattle.rank_laws.proofs.Runs.{rank_there}
use Rattle.rank_laws.proofs.Touching.{touches_of_own}
use Rattle.rank_laws.specs.Deliveries.{IsDelivered}
use Rattle.rank_laws.specs.Fronts.{Lows, first_lows, Put, rows_put}
use Rattle.rank_laws.specs.Lives.{Stops, Drains, Stays, Drained, HasLived}
use Rattle.rank_rules.specs.Courses.{Course, OneNull, OneIssue, LookUpAndIssue, OneFlush, OneRequest, ArriveAndLeave}
use Rattle.rank_rules.specs.Courses.{EntryOrTested, OneEntry, course_of}
use Rattle.rank_rules.specs.Knowledge.{Knowledge, own_class}
use Rattle.rank_rules.specs.declared.pending.PendingAccess.{PendingAccess}
use Rattle.step_runs.specs.Agents.{Agent, new_agent, next_call}

-- ---- a rank that stops

known_now : (stage : Stage) (rank : ℕ) (rows : List Row) (items : List Item) (known : Knowledge) →
    KnowsAlways stage rank rows items known → known ≡ known_at (rank_of stage rank rows) items
known_now stage rank rows items known h =
    subst (λ (all : List Row). known ≡ known_at (rank_of stage rank all) items) (append-nil rows) (sym (h []))

finished_now : (stage : Stage) (rank : ℕ) (rows : List Row) (number : ℕ) (items : List Item) →
    FinishedAlways stage rank rows number items → AreFinished (rank_of stage rank rows) number items
finished_now stage rank rows number items h =
    subst (λ (all : List Row). AreFinished (rank_of stage rank all) number items) (append-nil rows) (h [])

-- before the first entry of its call
stands_first : (stage : Stage) (agent : Agent) (rows : List Row) (call : Call) →
    KnowsAlways stage agent.rank rows (other_items agent.log) agent.known → agent.entered ≡ false →
    WaitsAt stage agent rows call → StandsAt (rank_of stage agent.rank rows) (other_items agent.log) agent.at call []
stands_first stage agent rows call knows new (WaitsFirst still passes may waits) =
    let same = known_now stage agent.rank rows (other_items agent.log) agent.known knows in (
      subst (λ (k : Knowledge). own_class k call ≡ None) same passes,
      inl (refl, subst (λ (k : Knowledge). IsTrue (may_stand (course_of k.windows call))) same may, waits),
    )
stands_first stage agent rows call knows new (WaitsToLeave entered none waits) = absurd (cc (sym new ∙ entered))

collective_opens : (course : Course) (number : ℕ) (item : Item) → (course ≡ LookUpAndIssue → ⊥) →
    OpensCall course number item → (course ≡ ArriveAndLeave) × ((place : ℕ) × (item ≡ Entry number place Arrive))
collective_opens OneNull number item other opens = absurd opens
collective_opens OneIssue number item other opens = absurd opens
collective_opens LookUpAndIssue number item other opens = absurd (other refl)
collective_opens OneFlush number item other opens = absurd opens
collective_opens OneRequest number item other opens = absurd opens
collective_opens ArriveAndLeave number item other opens = (refl, opens)
collective_opens EntryOrTested number item other opens = absurd opens
collective_opens OneEntry number item other opens = absurd opens

-- before the Leave
stands_to_leave : (stage : Stage) (agent : Agent) (rows : List Row)
    (i : Inside stage agent.rank rows (view_of agent)) → WaitsAt stage agent rows i.call →
    StandsAt (rank_of stage agent.rank rows) i.before agent.at i.call (i.item ∷ [])
stands_to_leave stage agent rows i (WaitsFirst new passes may waits) = let entered = i.entered in absurd
    (cc (sym new ∙ entered))
stands_to_leave stage agent rows i (WaitsToLeave entered none waits) =
    let same = known_now stage agent.rank rows i.before agent.known i.same in
    let opened = collective_opens (course_at agent i.call) agent.at i.item
    (λ is. let moves = look_up_moves agent.known.windows i.call is in let some = moves.1 in cc (sym none ∙ some))
    i.opens in (
      subst (λ (k : Knowledge). own_class k i.call ≡ None) same i.passes,
      inr (
        opened.1.0,
        ap (λ (x : Item). x ∷ []) opened.1.1,
        subst (λ (k : Knowledge). course_of k.windows i.call ≡ ArriveAndLeave) same opened.0,
        waits,
      ),
    )

stands_at : (stage : Stage) (rank : ℕ) (rows : List Row) (before : List Item) (number : ℕ) (rest : List Item)
    (call : Call) → slice_get (calls_at stage rank) number ≡ Some call →
    StandsAt (rank_of stage rank rows) before number call rest →
    IsSomeAnd (slice_get (calls_at stage rank) number)
    (λ c. StandsAt (rank_of stage rank rows) before number c rest)
stands_at stage rank rows before number rest call here is =
    subst (λ (o : Option Call). IsSomeAnd o (λ c. StandsAt (rank_of stage rank rows) before number c rest)) (sym here)
    is

ended_items : (stage : Stage) (p : Point) → HasCalls stage p → p.agent.ended ≡ true →
    HasItemsOfCalls (rank_of stage p.agent.rank p.rows) (other_items p.agent.log)
ended_items stage p h ended = by h.standing
  where
    by : Standing stage p.agent.rank p.rows (view_of p.agent) →
        HasItemsOfCalls (rank_of stage p.agent.rank p.rows) (other_items p.agent.log)
    by (IsOutside o) = let going = o.going in absurd (cc (sym going ∙ ended))
    by (IsInside i) = let going = i.going in absurd (cc (sym going ∙ ended))
    by (IsPast past) = (
      p.agent.at,
      past.before,
      Ended ∷ [],
      past.split,
      finished_now stage p.agent.rank p.rows p.agent.at past.before past.done,
      inl (past.number, refl),
    )

standing_items : (stage : Stage) (p : Point) (call : Call) → HasCalls stage p → next_call stage p.agent ≡ Some call →
    WaitsAt stage p.agent p.rows call →
    HasItemsOfCalls (rank_of stage p.agent.rank p.rows) (other_items p.agent.log)
standing_items stage p call h here waits = by h.standing
  where
    by : Standing stage p.agent.rank p.rows (view_of p.agent) →
        HasItemsOfCalls (rank_of stage p.agent.rank p.rows) (other_items p.agent.log)
    by (IsOutside o) = (
      p.agent.at,
      other_items p.agent.log,
      [],
      sym (append-nil (other_items p.agent.log)),
      finished_now stage p.agent.rank p.rows p.agent.at (other_items p.agent.log) o.done,
      inr (stands_at stage p.agent.rank p.rows (other_items p.agent.log) p.agent.at [] call here
          (stands_first stage p.agent p.rows call
          (knows_untouched stage p.agent.rank p.rows p.agent.log p.agent.known h.known.knows) o.new waits)),
    )
    by (IsInside i) =
        let same : call ≡ i.call = let there = i.here in cc (here, there) in (
          p.agent.at,
          i.before,
          i.item ∷ [],
          i.split,
          finished_now stage p.agent.rank p.rows p.agent.at i.before i.done,
          inr (stands_at stage p.agent.rank p.rows i.before p.agent.at (i.item ∷ []) i.call i.here
              (stands_to_leave stage p.agent p.rows i
              (subst (WaitsAt stage p.agent p.rows) same waits))),
        )
    by (IsPast past) = absurd (past_has_none stage p.agent.rank p.rows (view_of p.agent) call past here)

stopped_items : (stage : Stage) (p : Point) → HasCalls stage p → Stops stage p.agent p.rows →
    HasItemsOfCalls (rank_of stage p.agent.rank p.rows) (other_items p.agent.log)
stopped_items stage p h (inl ended) = ended_items stage p h ended
stopped_items stage p h (inr waits) =
    let there = waits_there stage p.agent p.rows waits.0 waits.1 in standing_items stage p there.0 h there.1 there.2

-- ---- the deliveries after the last step

delivered_items : (stage : Stage) (now next : Agent) (low after : Lows) (o : Option PendingAccess) →
    IsDelivered stage now 0 o low next after → other_items next.log ≡ other_items now.log
delivered_items stage now next low after None h = ap (λ (agent : Agent). other_items agent.log) h.0
delivered_items stage now next low after (Some one) h = ap (λ (agent : Agent). other_items agent.log) h.2
    ∙ untouched_touches one.index now.log h.0 (touches_of_own stage one _ low h.0 after h.1)

drained_items : (stage : Stage) (agent : Agent) (lows : Lows) (last : Agent) (low : Lows) →
    Drains stage agent lows last low → other_items last.log ≡ other_items agent.log
drained_items stage agent lows _ _ Stays = refl
drained_items stage agent lows _ _ (Drained now next low after drains made) =
    delivered_items stage now next low after (slice_get now.pending 0) made
    ∙ drained_items stage agent lows now low drains

-- ---- the run

pub new_calls : (stage : Stage) (seed rank : ℕ) (lows : Lows) →
    HasCalls stage (point (new_agent stage seed rank) [] lows)
new_calls stage seed rank lows = record {
  known = record {
    begun = record { outside = λ new win. refl; inside = λ entered. absurd (cc entered) };
    unmade = λ e. refl;
    knows = λ more. refl;
  };
  standing = IsOutside (record { new = refl; going = refl; done = λ more. refl });
}

pub lived_items : (stage : Stage) (seed rank : ℕ) (puts : List Put) (agent : Agent) →
    HasLived stage seed rank puts agent → HasItemsOfCalls (rank_of stage rank (rows_put puts)) (other_items agent.log)
lived_items stage seed rank puts agent lived =
    let stopped = stops_holding true stage seed rank (HasCalls stage) (calls_kept stage)
    (new_calls stage seed rank first_lows) puts
    agent lived in
    subst (HasItemsOfCalls (rank_of stage rank (rows_put puts)))
    (sym (drained_items stage lived.stopped lived.lows agent lived.last lived.drains))
    (subst (λ r. HasItemsOfCalls (rank_of stage r (rows_put puts)) (other_items lived.stopped.log)) stopped.1
    (stopped_items stage (point lived.stopped (rows_put puts) lived.lows) stopped.0 lived.stops))

pub calls_are_lawful : AssembledRunsHaveItemsOfCalls
calls_are_lawful script delay seed run is rank inside =
    let stage = stage_of script delay in
    let there = rank_there script delay seed run is rank inside in
    subst (λ (log : List Item). HasItemsOfCalls (rank_in script delay run rank) (other_items log)) (sym there.log)
    (subst (λ (rows : List Row). HasItemsOfCalls (rank_of stage rank rows) (other_items there.agent.log))
    (sym (rows_are script delay seed run is))
    (lived_items stage seed rank is.puts there.agent there.lived))
