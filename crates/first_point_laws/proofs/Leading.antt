-- Where the complete of an access is before a wait of its target on the window, it leads to that wait or to an earlier
-- one.
use Rattle.std.proofs.Common.{◌≡◌, ℕ, suc, ◌+◌, ◌<◌, ◌≤◌, inl, inr, true, false, cond, List, [], ◌∷◌, ◌++◌}
use Rattle.std.proofs.Common.{length, take, Some, refl, ap, sym, ◌∙◌, subst, arith, append_assoc, length-append}
use Rattle.std.specs.Prelude.{◌&&◌, ◌==◌, slice_index_or, reverse}
use Rattle.std.specs.List.{count_by, flat_map}
use Rattle.std.specs.Option.{option_map_or}
use Rattle.std.proofs.lemmas.Bool.{and_from, or_left, eq-eqb, cases_lt}
use Rattle.std.proofs.lemmas.Grind.{flat_map-append}
use Rattle.std.proofs.lemmas.List.{append-nil, get_or_at, take_at, reverse-append}
use Rattle.std.proofs.lemmas.List.Sums.{sum_by-append}
use Rattle.list_laws.proofs.Members.{In, in_contains, contains_in}
use Rattle.list_laws.proofs.Options.{some_of}
use Rattle.list_laws.proofs.Tests.{count_cons}
use Rattle.rma_types.specs.declared.accesses.Step.TheVariants.{One}
use Rattle.rma_types.specs.declared.calls.Call.{Call}
use Rattle.rma_types.specs.declared.schedules.Delay.TheVariants.{Seeded}
use Rattle.rma_types.specs.declared.scripts.Script.{Script}
use Rattle.rma_record.specs.declared.items.Item.TheVariants.{Entry}
use Rattle.rma_record.specs.declared.runs.Run.{Run}
use Rattle.board_rules.specs.Edges.{are_on_one_window, is_edge_by, is_matched_one, is_waited_for_by, group_completed}
use Rattle.board_rules.specs.Entries.{Row, acts, synchronisations, window_of}
use Rattle.board_rules.specs.Posts.{group_of_post, group_of_start, is_complete, is_wait, naming, posts, starts}
use Rattle.board_rules.specs.Posts.{completes, completed_groups, last_posted}
use Rattle.rma_types.specs.declared.actions.Synchronisation.{Synchronisation}
use Rattle.rma_types.specs.declared.actions.Synchronisation.TheVariants.{Fences, Posts, Starts, Completes, Waits, Locks}
use Rattle.rma_types.specs.declared.actions.Synchronisation.TheVariants.{Unlocks, Flushes, Syncs}
use Rattle.rma_types.specs.Actions.{synchronisation_of}
use Rattle.call_rules.specs.Ranks.{is_member}
use Rattle.call_rules.specs.WellFormed.{IsWellFormed}
use Rattle.board_rules.proofs.PostLaws.{may_wait}
use Rattle.lawful_runs.specs.LawfulRun.{IsLawful}
use Rattle.order_rules.specs.Before.{NamedEvent, events_in, is_edge_between, Before}
use Rattle.order_rules.specs.CallSteps.{CallStep, IssuedAccess, known_before, steps_in}
use Rattle.rank_rules.specs.Epochs.{epochs_at, may_synchronise}
use Rattle.order_laws.proofs.Edges.{naming_append}
use Rattle.order_laws.proofs.Order.{edge_from, log_ascends}
use Rattle.read_laws.proofs.Steps.{IsStep, step_is}
use Rattle.first_point_laws.specs.PointLaws.{EndsStartOf, WaitsAtTarget, IsLedTo}
use Rattle.first_point_laws.proofs.Completes.{IsEnd, end_is, event_at}
use Rattle.first_point_laws.proofs.Ended.{IsGroupEnded, group_ended, count_split}
use Rattle.first_point_laws.proofs.FirstSteps.{listed_entry}
use Rattle.first_point_laws.proofs.NumberedWaits.{front_of, same_front, before_place, IsNumbered, numbered_wait}
use Rattle.first_point_laws.proofs.Positions.{wait_paired}
use Rattle.first_point_laws.proofs.Posted.{posts_needed, posts_grow}
use Rattle.first_point_laws.proofs.Splits.{in_call, made, made_is, made_pushed}
use Rattle.first_point_laws.proofs.Ties.{posted_open}
use Rattle.first_point_laws.proofs.Waiting.{IsSynchronised, one_row, within_logs, synchronised_step, on_number}
use Rattle.first_point_laws.proofs.Waiting.{number_on}

-- ---- posts and waits

wait_posts_none : (s : Synchronisation) → is_wait s ≡ true → group_of_post s ≡ []
wait_posts_none (Fences asserts) h = absurd (cc h)
wait_posts_none (Posts group asserts) h = absurd (cc h)
wait_posts_none (Starts group asserts) h = absurd (cc h)
wait_posts_none Completes h = absurd (cc h)
wait_posts_none (Waits tests) h = refl
wait_posts_none (Locks kind target asserts) h = absurd (cc h)
wait_posts_none (Unlocks target) h = absurd (cc h)
wait_posts_none (Flushes target local) h = absurd (cc h)
wait_posts_none Syncs h = absurd (cc h)

last_of : (groups : List (List ℕ)) (group : List ℕ) →
    slice_index_or (reverse (groups ++ group ∷ [])) 0 [] ≡ group
last_of groups group = ap (λ l. slice_index_or l 0 []) (reverse-append groups (group ∷ []))

-- the posts before a wait, where it is known how many they are
posts_of_wait : (all : List Synchronisation) (s : Synchronisation) (front back : List Synchronisation)
    (groups : List (List ℕ)) (group : List ℕ) (more : List (List ℕ)) → all ++ s ∷ [] ≡ front ++ back →
    is_wait s ≡ true → flat_map group_of_post all ≡ groups ++ group ∷ more →
    length (flat_map group_of_post front) ≡ length groups + 1 → flat_map group_of_post front ≡ groups ++ group ∷ []
posts_of_wait all s front back groups group more split waits posted long =
    same_front (flat_map group_of_post front) (flat_map group_of_post back) (groups ++ group ∷ []) more
    (sym (flat_map-append group_of_post front back) ∙ ap (flat_map group_of_post) (sym split)
    ∙ flat_map-append group_of_post all (s ∷ [])
    ∙ ap (λ l. flat_map group_of_post all ++ (l ++ [])) (wait_posts_none s waits)
    ∙ append-nil (flat_map group_of_post all) ∙ posted ∙ sym (append_assoc groups (group ∷ []) more))
    (long ∙ sym (length-append groups (group ∷ [])))

named_once_more : (rank : ℕ) (groups : List (List ℕ)) (group : List ℕ) → is_member rank group ≡ true →
    naming rank (groups ++ group ∷ []) ≡ naming rank groups + 1
named_once_more rank groups group member =
    let joined = naming_append rank groups (group ∷ []) in
    let one = count_cons (is_member rank) group [] in
    let counts : ◌≡◌ {A = ℕ} (cond (is_member rank group) 1 0) 1 = ap (λ b. cond b 1 0) member in
    omega (arith, joined, one, counts)

module _ (script : Script) (run : Run) (formed : IsWellFormed script) (lawful : IsLawful script Seeded run) where
  -- where a rank may wait, it has posted once more than it has waited
  posts_at_wait : (rank index : ℕ) (call : Call) (s : Synchronisation) → is_wait s ≡ true →
      (one : IsSynchronised script run rank index call s) →
      length (flat_map group_of_post (made rank one.live.number one.earlier)) ≡ count_by is_wait
      (made rank one.live.number one.earlier) + 1
  posts_at_wait rank index call s waits one =
      let is = may_wait s waits in
      let epochs = epochs_at (known_before script run (record { rank = rank; index = index })).epochs one.win in
      let opens = posted_open epochs is.0 (subst (λ x. may_synchronise epochs x ≡ true) is.1 one.may) in
      let tied = one.tied.exposure in omega (arith, opens, tied)

  -- ---- the edge

  module _ (rank index to at : ℕ) (call other : Call) (s : Synchronisation)
      (y : IsSynchronised script run rank index call Completes) (x : IsSynchronised script run to at other s)
      (completes_is : synchronisation_of call ≡ Some Completes) (waits_is : synchronisation_of other ≡ Some s)
      (waits : is_wait s ≡ true) (window : ℕ) (first : y.live.number ≡ window) (second : x.live.number ≡ window)
      (g : IsGroupEnded rank to window y.earlier) (groups : List (List ℕ)) (group : List ℕ)
      (posted : flat_map group_of_post (made to x.live.number x.earlier) ≡ groups ++ group ∷ [])
      (member : is_member rank group ≡ true) (counts : naming rank groups ≡ naming to g.ended) where
    abbrev a : NamedEvent
    a = event_at script rank index y.earlier y.number call

    abbrev b : NamedEvent
    b = event_at script to at x.earlier x.number other

    made_y : synchronisations (acts y.earlier) rank (window_of y.earlier (one_row rank y.number call)) ≡ made rank
        window y.earlier
    made_y = made_is rank (window_of y.earlier (one_row rank y.number call)) [] y.earlier
        ∙ ap (λ n. made rank n y.earlier) (y.at ∙ first)

    starts_y : starts a.event.asked rank ≡ g.ended ++ g.group ∷ g.more
    starts_y = ap (flat_map group_of_start) made_y ∙ g.begun

    completes_y : completes a.event.asked rank ≡ length g.ended
    completes_y = ap (count_by is_complete) made_y ∙ g.completed

    group_is : group_completed a.event ≡ g.group
    group_is = (λ i. slice_index_or (starts_y i) (completes_y i) [])
        ∙ get_or_at g.ended g.group g.more [] (length g.ended) refl

    completed_is : completed_groups a.event.asked rank ≡ g.ended
    completed_is = (λ i. take (completes_y i) (starts_y i)) ∙ take_at g.ended (g.group ∷ g.more) (length g.ended) refl

    posts_x : posts b.event.asked to ≡ groups ++ group ∷ []
    posts_x = ap (flat_map group_of_post)
        (made_is to (window_of x.earlier (one_row to x.number other)) [] x.earlier
        ∙ ap (λ n. made to n x.earlier) x.at) ∙ posted

    last_is : last_posted b.event.asked ≡ group
    last_is = ap (λ l. slice_index_or (reverse l) 0 []) posts_x ∙ last_of groups group

    counted : naming to (completed_groups a.event.asked rank) + 1 ≡ naming rank (posts b.event.asked to)
    counted =
        let left = ap (naming to) completed_is in
        let right = ap (naming rank) posts_x ∙ named_once_more rank groups group member in
        omega (arith, left, right, counts)

    waited : is_waited_for_by a.event b.event ≡ true
    waited = and_from (is_member to (group_completed a.event) && is_member rank (last_posted b.event.asked))
        (naming to (completed_groups a.event.asked rank) + 1 == naming rank (posts b.event.asked to))
        (and_from (is_member to (group_completed a.event)) (is_member rank (last_posted b.event.asked))
        (ap (is_member to) group_is ∙ g.member) (ap (is_member rank) last_is ∙ member))
        (eq-eqb (naming to (completed_groups a.event.asked rank) + 1) (naming rank (posts b.event.asked to)) counted)

    matches : is_matched_one a.event b.event One One ≡ true
    matches =
        ap (λ o. option_map_or
        (λ first. option_map_or (is_edge_by a.event b.event first) (synchronisation_of other) false) o false)
        completes_is
        ∙ ap (λ o. option_map_or (is_edge_by a.event b.event Completes) o false) waits_is
        ∙ or_left (is_wait s && is_waited_for_by a.event b.event) false
        (and_from (is_wait s) (is_waited_for_by a.event b.event) waits waited)

    edge : is_edge_between a b ≡ true
    edge = and_from (are_on_one_window a.event b.event) (is_matched_one a.event b.event One One)
        (eq-eqb (window_of y.earlier (one_row rank y.number call)) (window_of x.earlier (one_row to x.number other))
        (y.at ∙ first ∙ sym (x.at ∙ second))) matches

  -- ---- the wait

  module _ (a : IssuedAccess) (y late : CallStep) (ends : EndsStartOf script run a y)
      (waits : WaitsAtTarget script run a late) (order : Before script run y.id late.id)
      (end : IsEnd script run formed lawful a y) (s : Synchronisation) (sync : synchronisation_of late.call ≡ Some s)
      (is_waiting : is_wait s ≡ true) (last : IsSynchronised script run late.id.rank late.id.index late.call s)
      (last_is : last.live.number ≡ a.issued.access.window) where
    abbrev window : ℕ
    window = a.issued.access.window

    abbrev to : ℕ
    to = late.id.rank

    abbrev row : Row
    row = one_row late.id.rank last.number late.call

    abbrev all : List Synchronisation
    all = made late.id.rank a.issued.access.window last.earlier

    g : IsGroupEnded y.id.rank late.id.rank a.issued.access.window end.one.earlier
    g = subst (λ r. IsGroupEnded y.id.rank r a.issued.access.window end.one.earlier) (sym waits.rank)
        (group_ended script run formed lawful a y ends end)

    posts_reach : naming to g.ended < naming y.id.rank (flat_map group_of_post all)
    posts_reach =
        let low = before_place script run formed lawful
        (event_at script y.id.rank y.id.index end.one.earlier end.one.number y.call) end.one.placed.event late.id order
        (event_at script late.id.rank late.id.index last.earlier last.number late.call) last.placed.event refl
        (omega arith) in
        let more = front_of end.one.earlier (one_row y.id.rank end.one.number y.call ∷ end.one.later) last.earlier
        (row ∷ last.later) (sym end.one.placed.split ∙ last.placed.split) low in
        let needed = posts_needed script run formed lawful y.id.rank to window end.one.earlier
        (one_row y.id.rank end.one.number y.call ∷ end.one.later) end.one.placed.split g in
        let grown = posts_grow y.id.rank to window end.one.earlier more.0 in
        let same = ap (λ l. naming y.id.rank (flat_map group_of_post (made to window l))) more.1 in
        omega (arith, needed, grown, same)

    all_and_last : made to window (last.earlier ++ row ∷ []) ≡ all ++ s ∷ []
    all_and_last = made_pushed to window last.earlier row
        ∙ ap (λ l. all ++ l) (ap (λ b. cond b (in_call late.call) [])
        (and_from (to == to) (window_of last.earlier row == window) (eq-eqb to to refl)
        (eq-eqb (window_of last.earlier row) window (last.at ∙ last_is)))
        ∙ ap (λ o. option_map_or (λ x. x ∷ []) o []) sync)

    waits_made : count_by is_wait (made to window (last.earlier ++ row ∷ [])) ≡ length (flat_map group_of_post all)
    waits_made =
        let tied = subst (λ n. length (flat_map group_of_post (made to n last.earlier)) ≡ count_by is_wait
        (made to n last.earlier) + 1) last_is
        (posts_at_wait late.id.rank late.id.index late.call s is_waiting last) in
        let joined = ap (count_by is_wait) all_and_last ∙ sum_by-append (λ x. cond (is_wait x) 1 0) all (s ∷ []) in
        let one = count_cons is_wait s [] in
        let counts : ◌≡◌ {A = ℕ} (cond (is_wait s) 1 0) 1 = ap (λ b. cond b 1 0) is_waiting in
        omega (arith, tied, joined, one, counts)

    Led : Type 0
    Led = (x : CallStep) × WaitsAtTarget script run a x × IsLedTo script run y x × (x.id.index ≤ late.id.index)

    found_led : (groups : List (List ℕ)) (group : List ℕ) (more : List (List ℕ)) →
        flat_map group_of_post all ≡ groups ++ group ∷ more → naming y.id.rank groups ≡ naming to g.ended →
        is_member y.id.rank group ≡ true → IsNumbered script run formed lawful to window (length groups)
        (last.earlier ++ row ∷ []) → Led
    unfolding Led
    found_led groups group more posted counts member w =
        let x : CallStep = record {
          id = w.id;
          call = w.call;
          step = One;
          known = known_before script run w.id;
        } in
        let is : IsStep script run x = record {
          item = Entry w.one.number (length w.one.earlier) One;
          number = w.one.number;
          logged = w.one.placed.logged;
          step_is = refl;
          call_is = w.one.placed.of_rank;
          known_is = refl;
        } in
        let within = within_logs run.logs w.id.rank w.id.index (Entry w.one.number (length w.one.earlier) One)
        w.one.placed.logged in
        let front_posts = posts_of_wait all s w.front w.back groups group more (sym all_and_last ∙ w.made_all)
        is_waiting posted
        (ap (λ l. length (flat_map group_of_post l)) (sym w.made_here)
        ∙ posts_at_wait w.id.rank w.id.index w.call w.s w.waits w.one
        ∙ ap (λ l. count_by is_wait l + 1) w.made_here ∙ ap (λ n. n + 1) w.count) in
        let g_here = g_at w.id.rank w.rank_is in
        let edge_is = edge y.id.rank y.id.index w.id.rank w.id.index y.call w.call w.s end.one w.one end.call_is w.sync
        w.waits window end.window w.number g_here.0 groups group
        (ap (flat_map group_of_post) w.made_here ∙ front_posts) member (counts ∙ g_here.1) in (
          x,
          record {
            step = in_contains (listed_entry script run w.id.rank w.id.index w.one.number One
                (Entry w.one.number (length w.one.earlier) One) w.call within w.one.placed.logged refl
                w.one.placed.of_rank);
            rank = w.rank_is ∙ waits.rank;
            window = number_on script run formed lawful x w.s window is w.one w.number;
            waits = ap (λ o. option_map_or is_wait o false) w.sync ∙ w.waits;
          },
          edge_from (events_in script run)
              (event_at script y.id.rank y.id.index end.one.earlier end.one.number y.call)
              (event_at script w.id.rank w.id.index w.one.earlier w.one.number w.call) end.one.placed.event
              w.one.placed.event edge_is,
          not_after w.id.rank w.id.index w.one.earlier w.one.number w.call w.rank_is w.one.placed.event w.low,
        )
      where
        g_at : (r : ℕ) → r ≡ late.id.rank →
            (h : IsGroupEnded y.id.rank r a.issued.access.window end.one.earlier)
            × (naming late.id.rank g.ended ≡ naming r h.ended)
        g_at r same = subst (λ r. (h : IsGroupEnded y.id.rank r a.issued.access.window end.one.earlier)
            × (naming late.id.rank g.ended ≡ naming r h.ended)) (sym same) (g, refl)

        not_after : (r i : ℕ) (earlier : List Row) (number : ℕ) (call : Call) → r ≡ late.id.rank →
            In (event_at script r i earlier number call) (events_in script run) →
            length earlier < length (last.earlier ++ row ∷ []) → i ≤ late.id.index
        not_after r i earlier number call same of_event low = elim (cases_lt late.id.index i) [
          | inl below ↦
              let up = log_ascends script Seeded run lawful
              (event_at script late.id.rank late.id.index last.earlier last.number late.call)
              (event_at script r i earlier number call) last.placed.event of_event (sym same) below in
              let sum = length-append last.earlier (row ∷ []) in absurd (omega (arith, up, low, sum))
          | inr within ↦ within
        ]

    led : (x : CallStep) × WaitsAtTarget script run a x × IsLedTo script run y x × (x.id.index ≤ late.id.index)
    unfolding Led
    led =
        let one = count_split (is_member y.id.rank) (naming to g.ended) (flat_map group_of_post all) posts_reach in
        let total = ap length one.3 ∙ length-append one.0 (one.1 ∷ one.2) in
        let counts = waits_made in
        found_led one.0 one.1 one.2 one.3 one.4 one.5
        (numbered_wait script run formed lawful to window (length one.0) (last.earlier ++ row ∷ []) last.later
        (last.placed.split ∙ sym (append_assoc last.earlier (row ∷ []) last.later))
        (below (length one.0) (length one.2) total counts))
      where
        below : (k n : ℕ) → length (flat_map group_of_post all) ≡ k + suc n →
            count_by is_wait (made to window (last.earlier ++ row ∷ [])) ≡ length (flat_map group_of_post all) →
            k < count_by is_wait (made to window (last.earlier ++ row ∷ []))
        below k n total counts = omega (arith, total, counts)

  pub led_to_first : (a : IssuedAccess) (y late : CallStep) → EndsStartOf script run a y →
      WaitsAtTarget script run a late → Before script run y.id late.id →
      (x : CallStep) × WaitsAtTarget script run a x × IsLedTo script run y x × (x.id.index ≤ late.id.index)
  led_to_first a y late ends waits order =
      let end = end_is script run formed lawful a y ends in
      let wait = some_of is_wait (synchronisation_of late.call) waits.waits in
      let step = step_is script run (contains_in (steps_in script run) late waits.step) in
      let last = synchronised_step script run formed lawful late wait.0 step wait.1 (wait_paired wait.0 wait.2) in
      led a y late ends waits order end wait.0 wait.1 wait.2 last
      (on_number script run formed lawful late wait.0 a.issued.access.window step last waits.window)
