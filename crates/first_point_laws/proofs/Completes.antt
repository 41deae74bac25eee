-- The step of its target to which the complete of an access leads is a wait on the window of the access.
use Rattle.std.proofs.Common.{◌≡◌, ℕ, inl, inr, true, false, List, length, Some, refl, ap}
use Rattle.std.proofs.Common.{sym, ◌∙◌, subst, arith}
use Rattle.std.specs.Prelude.{◌&&◌, slice_get, Contains}
use Rattle.std.specs.Option.{option_map_or}
use Rattle.std.proofs.lemmas.Bool.{and_parts, or_cases, eqb-true, false≢true}
use Rattle.std.proofs.lemmas.Option.{some_pair_parts}
use Rattle.list_laws.proofs.Members.{In, contains_in}
use Rattle.list_laws.proofs.Options.{some_of}
use Rattle.rma_types.specs.declared.accesses.Id.{Id}
use Rattle.rma_types.specs.declared.accesses.Step.{Step}
use Rattle.rma_types.specs.declared.accesses.Step.TheVariants.{Arrive, Leave, One}
use Rattle.rma_types.specs.declared.calls.Call.{Call}
use Rattle.rma_types.specs.declared.schedules.Delay.TheVariants.{Seeded}
use Rattle.rma_types.specs.declared.scripts.Script.{Script}
use Rattle.rma_record.specs.declared.items.Item.TheVariants.{Entry}
use Rattle.rma_record.specs.declared.runs.Run.{Run}
use Rattle.board_rules.specs.Edges.{Event, are_on_one_window, is_edge_by, is_matched_one, is_waited_for_by}
use Rattle.board_rules.specs.Entries.{Row, window_of}
use Rattle.board_rules.specs.Posts.{is_complete, is_wait}
use Rattle.board_rules.specs.Questions.{question}
use Rattle.rma_types.specs.declared.actions.Synchronisation.{Synchronisation}
use Rattle.rma_types.specs.declared.actions.Synchronisation.TheVariants.{Fences, Posts, Starts, Completes, Waits, Locks}
use Rattle.rma_types.specs.declared.actions.Synchronisation.TheVariants.{Unlocks, Flushes, Syncs}
use Rattle.rma_types.specs.Actions.{synchronisation_of}
use Rattle.call_rules.specs.WellFormed.{IsWellFormed}
use Rattle.lawful_runs.specs.LawfulRun.{IsLawful}
use Rattle.lawful_runs.specs.Logs.{log_of, calls_of}
use Rattle.order_rules.specs.Before.{NamedEvent, events_in, is_edge_between}
use Rattle.order_rules.specs.CallSteps.{CallStep, IssuedAccess, step_by, steps_in, is_later_at_origin, is_step_on}
use Rattle.order_rules.specs.CallSteps.{is_later_on_window}
use Rattle.order_rules.specs.DonePoints.{completes_start}
use Rattle.order_laws.proofs.Order.{edge_between, event_on_board, same_on_board}
use Rattle.read_laws.proofs.Folds.{find_in}
use Rattle.read_laws.proofs.Steps.{IsStep, step_is}
use Rattle.first_point_laws.specs.PointLaws.{EndsStartOf, WaitsAtTarget, IsLedTo}
use Rattle.first_point_laws.proofs.Owned.{owned_entry}
use Rattle.first_point_laws.proofs.Positions.{wait_paired}
use Rattle.first_point_laws.proofs.Waiting.{IsSynchronised, one_row, within_logs, synchronised_step, on_number}
use Rattle.first_point_laws.proofs.Waiting.{number_on}

pub complete_is : (s : Synchronisation) → is_complete s ≡ true → s ≡ Completes
complete_is (Fences asserts) h = absurd (cc h)
complete_is (Posts group asserts) h = absurd (cc h)
complete_is (Starts group asserts) h = absurd (cc h)
complete_is Completes h = refl
complete_is (Waits tests) h = absurd (cc h)
complete_is (Locks kind target asserts) h = absurd (cc h)
complete_is (Unlocks target) h = absurd (cc h)
complete_is (Flushes target local) h = absurd (cc h)
complete_is Syncs h = absurd (cc h)

-- the event of an entry of step One
abbrev pub event_at : Script → ℕ → ℕ → List Row → ℕ → Call → NamedEvent
event_at script rank index earlier number call = record {
  id = record { rank = rank; index = index };
  event = record {
    place = length earlier;
    step = One;
    asked = question
        script.ranks earlier (one_row rank number call);
  };
}

module _ (script : Script) (run : Run) (formed : IsWellFormed script) (lawful : IsLawful script Seeded run) where
  -- two events of one name are one
  pub same_event : (a b : NamedEvent) → In a (events_in script run) → In b (events_in script run) → a.id ≡ b.id →
      a ≡ b
  same_event a b of_a of_b same =
      let x = event_on_board script run lawful.ranks lawful.board a of_a in
      let y = event_on_board script run lawful.ranks lawful.board b of_b in
      let both : Some (Entry x.number a.event.place a.event.step) ≡ Some (Entry y.number b.event.place b.event.step) =
      sym x.logged ∙ ap (λ (id : Id). slice_get (log_of run id.rank) id.index) same ∙ y.logged in
      same_on_board script run lawful.ranks lawful.board a b of_a of_b (cc both)

  -- the complete that ends the start epoch of an access
  pub record IsEnd (a : IssuedAccess) (y : CallStep) : Type 0 where
    pub listed : In y (steps_in script run)
    pub step : IsStep script run y
    pub later : is_later_at_origin a y ≡ true
    pub call_is : synchronisation_of y.call ≡ Some Completes
    pub one : IsSynchronised script run y.id.rank y.id.index y.call Completes
    pub window : one.live.number ≡ a.issued.access.window

  pub end_is : (a : IssuedAccess) (y : CallStep) → EndsStartOf script run a y → IsEnd a y
  end_is a y ends =
      let found = find_in (λ x. is_later_on_window a x && completes_start x) (steps_in script run) y ends.next in
      let two = and_parts (is_later_on_window a y) (completes_start y) found.1 in
      let parts = and_parts (is_later_at_origin a y) (is_step_on a.issued.access.window y) two.0 in
      let s = some_of is_complete (synchronisation_of y.call) two.1 in
      let call_is : synchronisation_of y.call ≡ Some Completes = s.1 ∙ ap Some (complete_is s.0 s.2) in
      let step = step_is script run found.0 in
      let one = synchronised_step script run formed lawful y Completes step call_is refl in
      record {
        listed = found.0;
        step = step;
        later = parts.0;
        call_is = call_is;
        one = one;
        window = on_number script run formed lawful y Completes a.issued.access.window step one parts.1;
      }

  pub event_of : (rank index : ℕ) (call : Call) (s : Synchronisation) → IsSynchronised script run rank index call s →
      NamedEvent
  event_of rank index call s one = event_at script rank index one.earlier one.number call

  -- ---- what an edge from a complete says

  waits_by : (a b : Event) (second : Synchronisation) → is_edge_by a b Completes second ≡ true → is_wait second ≡ true
  waits_by a b second h = elim (or_cases (is_wait second && is_waited_for_by a b) false h) [
    | inl waited ↦ (and_parts (is_wait second) (is_waited_for_by a b) waited).0
    | inr none ↦ absurd (false≢true none)
  ]

  matched : (a b : Event) (step : Step) → synchronisation_of a.asked.call ≡ Some Completes →
      is_matched_one a b One step ≡ true →
      (step ≡ One) × (second : Synchronisation) × (synchronisation_of b.asked.call ≡ Some second)
      × (is_wait second ≡ true)
  matched a b One e h =
      let first : option_map_or (is_edge_by a b Completes) (synchronisation_of b.asked.call) false ≡ true =
      sym (ap (λ o. option_map_or
      (λ first. option_map_or (is_edge_by a b first) (synchronisation_of b.asked.call) false) o false) e) ∙ h in
      let second = some_of (is_edge_by a b Completes) (synchronisation_of b.asked.call) first in
      (refl, second.0, second.1, waits_by a b second.0 second.2)
  matched a b Arrive e h = absurd (false≢true h)
  matched a b Leave e h = absurd (false≢true h)

module _ (script : Script) (run : Run) (formed : IsWellFormed script) (lawful : IsLawful script Seeded run) where
  -- the event of the name of a step, where it is of step One, asks by the call of the step
  asks_by : (x : CallStep) (f : NamedEvent) → IsStep script run x → In f (events_in script run) → f.id ≡ x.id →
      f.event.step ≡ One → f.event.asked.call ≡ x.call
  asks_by x f step of_f f_is one_step =
      let board = event_on_board script run lawful.ranks lawful.board f of_f in
      let logged : slice_get (log_of run x.id.rank) x.id.index ≡ Some (Entry board.number f.event.place One) =
      ap (λ (id : Id). slice_get (log_of run id.rank) id.index) (sym f_is) ∙ board.logged
      ∙ ap (λ s. Some (Entry board.number f.event.place s)) one_step in
      let item : step.item ≡ Entry board.number f.event.place One = cc (sym step.logged ∙ logged) in
      let number = (some_pair_parts board.number step.number One x.step (sym (ap step_by item) ∙ step.step_is)).0 in
      let within = within_logs run.logs x.id.rank x.id.index step.item step.logged in
      let owned = owned_entry script Seeded run lawful x.id.rank x.id.index board.number f.event.place x.call
      (omega (arith, within, lawful.ranks)) logged
      (ap (slice_get (calls_of script x.id.rank)) number ∙ step.call_is) in
      let same = same_event script run formed lawful f
      (event_at script x.id.rank x.id.index owned.earlier board.number x.call) of_f owned.placed.event f_is in
      ap (λ (e : NamedEvent). e.event.asked.call) same

  led_waits : (a : IssuedAccess) (y x : CallStep) → IsEnd script run formed lawful a y → IsStep script run x →
      Contains (steps_in script run) x → x.id.rank ≡ a.issued.access.target →
      (f : NamedEvent) → In f (events_in script run) → f.id ≡ x.id → (second : Synchronisation) →
      synchronisation_of x.call ≡ Some second → is_wait second ≡ true →
      (n : ℕ) → n ≡ a.issued.access.window → n ≡ f.event.asked.window → WaitsAtTarget script run a x
  led_waits a y x end step listed rank f of_f f_is second sync waits n window asked =
      let one = synchronised_step script run formed lawful x second step sync
      (wait_paired second waits) in
      let same = same_event script run formed lawful f
      (event_at script x.id.rank x.id.index one.earlier one.number x.call) of_f one.placed.event f_is in
      let number : one.live.number ≡ a.issued.access.window = sym one.at
      ∙ sym (ap (λ (e : NamedEvent). e.event.asked.window) same) ∙ sym asked ∙ window in
      record {
        step = listed;
        rank = rank;
        window = number_on script run formed lawful x second a.issued.access.window step one number;
        waits = ap (λ o. option_map_or is_wait o false) sync ∙ waits;
      }

  pub lead_to_waits : (a : IssuedAccess) (y x : CallStep) → EndsStartOf script run a y →
      Contains (steps_in script run) x → x.id.rank ≡ a.issued.access.target → IsLedTo script run y x →
      WaitsAtTarget script run a x
  lead_to_waits a y x ends listed rank led =
      let end = end_is script run formed lawful a y ends in
      let edge = edge_between (events_in script run) y.id x.id led in
      let e = edge.0 in
      let f = edge.1 in
      let first = event_at script y.id.rank y.id.index end.one.earlier end.one.number y.call in
      let same : e ≡ first = same_event script run formed lawful e first edge.2 end.one.placed.event edge.4 in
      let parts = and_parts (are_on_one_window first.event f.event)
      (is_matched_one first.event f.event One f.event.step)
      (subst (λ (z : NamedEvent). is_edge_between z f ≡ true) same edge.6) in
      let wait = matched script run formed lawful first.event f.event f.event.step end.call_is parts.1 in
      let step = step_is script run (contains_in (steps_in script run) x listed) in
      led_waits a y x end step listed rank f edge.3 edge.5 wait.1
      (ap synchronisation_of (sym (asks_by x f step edge.3 edge.5 wait.0)) ∙ wait.2) wait.3
      end.one.live.number end.window
      (sym end.one.at ∙ eqb-true (window_of end.one.earlier (one_row y.id.rank end.one.number y.call))
      f.event.asked.window parts.0)
