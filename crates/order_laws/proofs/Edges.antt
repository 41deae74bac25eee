-- An edge leads to an entry of a greater place: each entry that is allowed came after those that it waits for.
use Rattle.std.proofs.Common.{◌≡◌, ℕ, zero, suc, ◌+◌, ◌-◌, ◌<◌, ◌≤◌, inl, inr, Bool, true, false, List, [], ◌∷◌, ◌++◌}
use Rattle.std.proofs.Common.{length, take, Some, None, refl, ap, sym, subst, ◌∙◌, arith, length-append}
use Rattle.std.specs.Prelude.{◌&&◌, ◌==◌, cond, nat_le, nat_lt, ℤ}
use Rattle.std.specs.List.{list_any, filter, flat_map, count_by}
use Rattle.std.specs.Option.{option_map_or}
use Rattle.std.proofs.lemmas.Bool.{false≢true, or_cases, and_parts, eqb-true, ltb-true, leb-true}
use Rattle.std.proofs.lemmas.Grind.{flat_map-append}
use Rattle.std.proofs.lemmas.List.{length-map}
use Rattle.std.proofs.lemmas.List.Elements.{filter-append}
use Rattle.std.proofs.lemmas.List.Sums.{sum_by-append, sum_by-cons}
use Rattle.list_laws.proofs.Members.{In, here, there, any_in, all_in}
use Rattle.list_laws.proofs.Options.{some_of}
use Rattle.rma_types.specs.declared.accesses.Step.{Step}
use Rattle.rma_types.specs.declared.accesses.Step.TheVariants.{Arrive, Leave, One}
use Rattle.rma_types.specs.declared.calls.Asserts.{Asserts}
use Rattle.rma_types.specs.declared.calls.Call.{Call}
use Rattle.rma_types.specs.declared.actions.Synchronisation.{Synchronisation}
use Rattle.rma_types.specs.declared.actions.Synchronisation.TheVariants.{Fences, Posts, Starts, Completes, Waits, Locks}
use Rattle.rma_types.specs.declared.actions.Synchronisation.TheVariants.{Unlocks, Flushes, Syncs}
use Rattle.rma_types.specs.Actions.{action_of, synchronisation_of}
use Rattle.rma_types.proofs.ActionLaws.{is_synchronising}
use Rattle.call_rules.specs.Ranks.{members_of, is_member}
use Rattle.call_rules.proofs.NumbersFrom.{in_numbers}
use Rattle.call_rules.proofs.RankLaws.{member_in}
use Rattle.board_rules.specs.Board.{Allow, decision, refusal, may_enter_now, may_synchronise_now}
use Rattle.board_rules.specs.Edges.{Event, is_edge, is_arrive_to_leave, are_of_one_round, is_matched_one, is_edge_by}
use Rattle.board_rules.specs.Edges.{is_started_by, is_waited_for_by, is_locked_after, group_completed}
use Rattle.board_rules.specs.Entries.{Act, Collective, collective_of, is_collective}
use Rattle.board_rules.specs.Entries.{is_same_collective, arrivals, is_by_on, is_arrive, synchronisations}
use Rattle.board_rules.specs.Locks.{lock_of, unlock_of}
use Rattle.board_rules.specs.Posts.{group_of_post, group_of_start, is_complete, is_wait, naming, posts, starts}
use Rattle.board_rules.specs.Posts.{completed_groups, last_posted, start_has_posts, wait_has_completes}
use Rattle.board_rules.specs.Questions.{Question}
use Rattle.board_rules.specs.Rounds.{arrivals_of, rounds_begun, all_arrived}
use Rattle.board_rules.proofs.CollectiveLaws.{same_collective}
use Rattle.board_rules.proofs.DecisionLaws.{allowed_now}
use Rattle.board_rules.proofs.PostLaws.{may_wait}

-- ---- counts over more entries

pub naming_append : (rank : ℕ) (xs ys : List (List ℕ)) → naming rank (xs ++ ys) ≡ naming rank xs + naming rank ys
naming_append rank xs ys = sum_by-append (λ x. cond (is_member rank x) 1 0) xs ys

take_append : {X : Type 0} (n : ℕ) (xs ys : List X) → take n (xs ++ ys) ≡ take n xs ++ take (n - length xs) ys
take_append zero xs ys = let none : zero - length xs ≡ zero = omega arith in sym (ap (λ k. take k ys) none)
take_append (suc n) [] ys = let all : suc n - 0 ≡ suc n = omega arith in sym (ap (λ k. take k ys) all)
take_append (suc n) (x ∷ xs) ys =
    let same : suc n - suc (length xs) ≡ n - length xs = omega arith in
    ap (λ l. x ∷ l) (take_append n xs ys ∙ ap (λ k. take n xs ++ take k ys) (sym same))

naming_take : (rank n more : ℕ) (xs : List (List ℕ)) → naming rank (take n xs) ≤ naming rank (take (n + more) xs)
naming_take rank zero more xs = omega arith
naming_take rank (suc n) more [] = omega arith
naming_take rank (suc n) more (x ∷ xs) =
    let on : suc n + more ≡ suc (n + more) = omega arith in
    let a : naming rank (x ∷ take n xs) ≡ cond (is_member rank x) 1 0 + naming rank (take n xs) = sum_by-cons
    (λ (g : List ℕ). cond (is_member rank g) 1 0) x (take n xs) in
    let b : naming rank (x ∷ take (n + more) xs) ≡ cond (is_member rank x) 1 0 + naming rank
    (take (n + more) xs) = sum_by-cons (λ (g : List ℕ). cond (is_member rank g) 1 0) x (take (n + more) xs) in
    let c = naming_take rank n more xs in
    let d : naming rank (take (suc n + more) (x ∷ xs)) ≡ naming rank (x ∷ take (n + more) xs) = ap
    (λ k. naming rank (take k (x ∷ xs))) on in
    omega arith

synchronisations_append : (xs ys : List Act) (rank window : ℕ) →
    synchronisations (xs ++ ys) rank window ≡ synchronisations xs rank window ++ synchronisations ys rank window
synchronisations_append xs ys rank window =
    let f : Act → List Synchronisation = λ act. option_map_or (λ s. s ∷ []) (synchronisation_of act.row.call) [] in
    ap (flat_map f) (filter-append (is_by_on rank window) xs ys)
    ∙ flat_map-append f (filter (is_by_on rank window) xs) (filter (is_by_on rank window) ys)

arrivals_grow : (xs ys : List Act) (c : Collective) (rank window : ℕ) → length (arrivals xs c rank window) ≤ length
    (arrivals (xs ++ ys) c rank window)
arrivals_grow xs ys c rank window =
    let test : Act → Bool = λ act. is_by_on rank window act && is_arrive act.row.step && is_collective c act.row.call in
    let call : Act → Call = λ act. act.row.call in
    let apart = filter-append test xs ys in
    let all : length (arrivals (xs ++ ys) c rank window) ≡ length (filter test xs) + length (filter test ys) =
    length-map (filter test (xs ++ ys)) call ∙ ap length apart ∙ length-append (filter test xs) (filter test ys) in
    let some : length (arrivals xs c rank window) ≡ length (filter test xs) = length-map (filter test xs) call in
    omega arith

-- what is counted of a list of synchronisations, and of a longer one
groups_append : (f : Synchronisation → List (List ℕ)) (xs ys : List Act) (rank window : ℕ) →
    flat_map f (synchronisations (xs ++ ys) rank window) ≡ flat_map f (synchronisations xs rank window) ++ flat_map f
    (synchronisations ys rank window)
groups_append f xs ys rank window = ap (flat_map f) (synchronisations_append xs ys rank window)
    ∙ flat_map-append f (synchronisations xs rank window) (synchronisations ys rank window)

naming_grows : (f : Synchronisation → List (List ℕ)) (xs ys : List Act) (rank window named : ℕ) →
    naming named (flat_map f (synchronisations xs rank window)) ≤ naming named
    (flat_map f (synchronisations (xs ++ ys) rank window))
naming_grows f xs ys rank window named =
    let all = ap (naming named) (groups_append f xs ys rank window)
    ∙ naming_append named (flat_map f (synchronisations xs rank window))
    (flat_map f (synchronisations ys rank window)) in
    omega arith

completed_grows : (xs ys : List Act) (rank window named : ℕ) →
    naming named (take (count_by is_complete (synchronisations xs rank window))
    (flat_map group_of_start (synchronisations xs rank window)))
    ≤ naming named (take (count_by is_complete (synchronisations (xs ++ ys) rank window))
    (flat_map group_of_start (synchronisations (xs ++ ys) rank window)))
completed_grows xs ys rank window named =
    let front = flat_map group_of_start (synchronisations xs rank window) in
    let back = flat_map group_of_start (synchronisations ys rank window) in
    let few = count_by is_complete (synchronisations xs rank window) in
    let more = count_by is_complete (synchronisations ys rank window) in
    let counted : count_by is_complete (synchronisations (xs ++ ys) rank window) ≡ few + more =
    ap (count_by is_complete) (synchronisations_append xs ys rank window)
    ∙ sum_by-append (λ s. cond (is_complete s) 1 0) (synchronisations xs rank window)
    (synchronisations ys rank window) in
    let groups = groups_append group_of_start xs ys rank window in
    let whole : naming named (take (count_by is_complete (synchronisations (xs ++ ys) rank window))
    (flat_map group_of_start (synchronisations (xs ++ ys) rank window))) ≡ naming named
    (take (few + more) (front ++ back)) =
    ap (λ n. naming named (take n (flat_map group_of_start (synchronisations (xs ++ ys) rank window)))) counted
    ∙ ap (λ g. naming named (take (few + more) g)) groups in
    let cut : naming named (take (few + more) (front ++ back)) ≡ naming named (take (few + more) front) + naming named
    (take (few + more - length front) back) =
    ap (naming named) (take_append (few + more) front back) ∙ naming_append named (take (few + more) front)
    (take (few + more - length front) back) in
    let grown = naming_take named few more front in
    omega arith

-- ---- what an entry that is allowed says

may_now : (q : Question) (s : Synchronisation) → decision q One ≡ Allow → synchronisation_of q.call ≡ Some s →
    may_synchronise_now q s ≡ true
may_now q s h e =
    let found = is_synchronising (action_of q.call) s e in
    let now : may_enter_now q (action_of q.call) ≡ true = allowed_now (refusal q One)
    (may_enter_now q (action_of q.call)) h in
    subst (λ action. may_enter_now q action ≡ true) found.1 now

-- ---- collective calls

leaves_after : (a b : Step) → is_arrive_to_leave a b ≡ true → b ≡ Leave
leaves_after Arrive Arrive h = absurd (false≢true h)
leaves_after Arrive Leave h = refl
leaves_after Arrive One h = absurd (false≢true h)
leaves_after Leave b h = absurd (false≢true h)
leaves_after One b h = absurd (false≢true h)

collective_ascends : (qa qb : Question) (more : List Act) (pa pb : ℕ) (sa sb : Step) → qa.entries ≡ qb.entries ++ more →
    qa.rank < qb.ranks → decision qb Leave ≡ Allow →
    are_of_one_round (record { place = pa; step = sa; asked = qa }) (record { place = pb; step = sb; asked = qb }) ≡
    true → ⊥
collective_ascends qa qb more pa pb sa sb entries within allowed h =
    let three = and_parts _ _ h in
    let two = and_parts _ _ three.0 in
    let window : qa.window ≡ qb.window = eqb-true _ _ two.0 in
    let counts : rounds_begun qa + 1 ≡ rounds_begun qb = eqb-true _ _ three.1 in
    let first = some_of (λ c. is_collective c qb.call) (collective_of qa.call) two.1 in
    let second = some_of (is_same_collective first.0) (collective_of qb.call) first.2 in
    let c = first.0 in
    let same : first.0 ≡ second.0 = same_collective first.0 second.0 second.2 in
    let of_b : collective_of qb.call ≡ Some c = second.1 ∙ ap Some (sym same) in
    let of_a : collective_of qa.call ≡ Some c = first.1 in
    let all : all_arrived qb ≡ true = allowed_now None (all_arrived qb) allowed in
    let here_b : rounds_begun qb ≤ length (arrivals_of qb qa.rank) =
    leb-true _ _ (all_in (λ rank. nat_le (rounds_begun qb) (length (arrivals_of qb rank))) all
    (in_numbers 0 qb.ranks qa.rank (omega arith) (omega (arith, within)))) in
    let a_counts : rounds_begun qa ≡ length (arrivals (qb.entries ++ more) c qa.rank qb.window) =
    ap (λ o. length (option_map_or (λ collective. arrivals qa.entries collective qa.rank qa.window) o [])) of_a
    ∙ ap (λ e. length (arrivals e c qa.rank qa.window)) entries
    ∙ ap (λ w. length (arrivals (qb.entries ++ more) c qa.rank w)) window in
    let b_counts : length (arrivals_of qb qa.rank) ≡ length (arrivals qb.entries c qa.rank qb.window) =
    ap (λ o. length (option_map_or (λ collective. arrivals qb.entries collective qa.rank qb.window) o [])) of_b in
    let grown = arrivals_grow qb.entries more c qa.rank qb.window in
    omega arith

-- ---- posts and starts, completes and waits

start_of : (s : Synchronisation) (group : List ℕ) → In group (group_of_start s) → (ranks : List ℤ) × (asserts : Asserts)
    × (s ≡ Starts ranks asserts) × (group ≡ members_of ranks)
start_of (Fences asserts) group m = elim m [ ]
start_of (Posts ranks asserts) group m = elim m [ ]
start_of (Starts ranks asserts) group m = (ranks, asserts, refl, only m)
  where
    only : {X : Type 0} {x y : X} → In x (y ∷ []) → x ≡ y
    only here = refl
    only (there m) = elim m [ ]
start_of Completes group m = elim m [ ]
start_of (Waits tests) group m = elim m [ ]
start_of (Locks kind target asserts) group m = elim m [ ]
start_of (Unlocks target) group m = elim m [ ]
start_of (Flushes target local) group m = elim m [ ]
start_of Syncs group m = elim m [ ]

started_ascends : (qa qb : Question) (more : List Act) (pa pb : ℕ) (posted group : List ℕ) →
    qa.entries ≡ qb.entries ++ more → qa.window ≡ qb.window → start_has_posts qb group ≡ true →
    is_started_by (record { place = pa; step = One; asked = qa }) posted (record { place = pb; step = One; asked = qb })
    group ≡ true → ⊥
started_ascends qa qb more pa pb posted group entries window has h =
    let two = and_parts (is_member qb.rank posted && is_member qa.rank group)
    (naming qb.rank (posts qa qa.rank) == naming qa.rank (starts qb qb.rank)) h in
    let named = and_parts (is_member qb.rank posted) (is_member qa.rank group) two.0 in
    let counts : naming qb.rank (posts qa qa.rank) ≡ naming qa.rank (starts qb qb.rank) = eqb-true _ _ two.1 in
    let below : naming qa.rank (starts qb qb.rank) < naming qb.rank (posts qb qa.rank) =
    ltb-true _ _ (all_in (λ member. nat_lt (naming member (starts qb qb.rank)) (naming qb.rank (posts qb member))) has
    (member_in qa.rank group named.1)) in
    let grown = naming_grows group_of_post qb.entries more qa.rank qb.window qb.rank in
    let same : naming qb.rank (posts qa qa.rank) ≡ naming qb.rank
    (flat_map group_of_post (synchronisations (qb.entries ++ more) qa.rank qb.window)) =
    ap (λ e. naming qb.rank (flat_map group_of_post (synchronisations e qa.rank qa.window))) entries
    ∙ ap (λ w. naming qb.rank (flat_map group_of_post (synchronisations (qb.entries ++ more) qa.rank w))) window in
    omega arith

waited_ascends : (qa qb : Question) (more : List Act) (pa pb : ℕ) → qa.entries ≡ qb.entries ++ more →
    qa.window ≡ qb.window → wait_has_completes qb ≡ true →
    is_waited_for_by (record { place = pa; step = One; asked = qa }) (record { place = pb; step = One; asked = qb }) ≡
    true → ⊥
waited_ascends qa qb more pa pb entries window has h =
    let group = group_completed (record { place = pa; step = One; asked = qa }) in
    let two = and_parts (is_member qb.rank group && is_member qa.rank (last_posted qb))
    (naming qb.rank (completed_groups qa qa.rank) + 1 == naming qa.rank (posts qb qb.rank)) h in
    let named = and_parts (is_member qb.rank group) (is_member qa.rank (last_posted qb)) two.0 in
    let counts : naming qb.rank (completed_groups qa qa.rank) + 1 ≡ naming qa.rank (posts qb qb.rank) =
    eqb-true _ _ two.1 in
    let equal : naming qb.rank (completed_groups qb qa.rank) ≡ naming qa.rank (posts qb qb.rank) =
    eqb-true _ _ (all_in (λ member. naming qb.rank (completed_groups qb member) == naming member (posts qb qb.rank)) has
    (member_in qa.rank (last_posted qb) named.1)) in
    let grown = completed_grows qb.entries more qa.rank qb.window qb.rank in
    let f : List Act → ℕ → ℕ = λ e w. naming qb.rank
    (take (count_by is_complete (synchronisations e qa.rank w))
    (flat_map group_of_start (synchronisations e qa.rank w))) in
    let same : naming qb.rank (completed_groups qa qa.rank) ≡ f (qb.entries ++ more) qb.window =
    ap (λ e. f e qa.window) entries ∙ ap (f (qb.entries ++ more)) window in
    omega arith

-- ---- synchronisations of step One

module _ (qa qb : Question) (more : List Act) (pa pb : ℕ) (first second : Synchronisation)
    (entries : qa.entries ≡ qb.entries ++ more) (window : qa.window ≡ qb.window)
    (may : may_synchronise_now qb second ≡ true) where
  abbrev first_event : Event
  first_event = record { place = pa; step = One; asked = qa }

  abbrev second_event : Event
  second_event = record { place = pb; step = One; asked = qb }

  starts_after : list_any (λ posted. list_any (is_started_by first_event posted second_event) (group_of_start second))
      (group_of_post first) ≡ true → ⊥
  starts_after started =
      let posted = any_in (λ posted. list_any (is_started_by first_event posted second_event) (group_of_start second))
      (group_of_post first) started in
      let group = any_in (is_started_by first_event posted.0 second_event) (group_of_start second) posted.2 in
      let is = start_of second group.0 group.1 in
      let has : start_has_posts qb (members_of is.0) ≡ true = subst (λ s. may_synchronise_now qb s ≡ true) is.2 may in
      started_ascends qa qb more pa pb posted.0 group.0 entries window
      (subst (λ g. start_has_posts qb g ≡ true) (sym is.3) has) group.2

  waits_after : (is_complete first && is_wait second && is_waited_for_by first_event second_event) ≡ true → ⊥
  waits_after waited =
      let two = and_parts (is_complete first && is_wait second) (is_waited_for_by first_event second_event) waited in
      let is = may_wait second (and_parts (is_complete first) (is_wait second) two.0).1 in
      let has : wait_has_completes qb ≡ true = subst (λ s. may_synchronise_now qb s ≡ true) is.1 may in
      waited_ascends qa qb more pa pb entries window has two.1

  locks_after : pb ≤ pa → option_map_or (λ unlocked. option_map_or (is_locked_after first_event unlocked second_event)
      (lock_of second) false) (unlock_of first) false ≡ true → ⊥
  locks_after late locked =
      let unlocked = some_of (λ unlocked. option_map_or (is_locked_after first_event unlocked second_event)
      (lock_of second) false) (unlock_of first) locked in
      let lock = some_of (is_locked_after first_event unlocked.0 second_event) (lock_of second) unlocked.2 in
      let above : pa < pb = ltb-true pa pb (and_parts _ _ lock.2).0 in
      omega arith

  one_ascends : pb ≤ pa → is_edge_by first_event second_event first second ≡ true → ⊥
  one_ascends late h = elim (or_cases _ _ h) [
    | inl early ↦ elim (or_cases _ _ early) [ inl started ↦ starts_after started | inr waited ↦ waits_after waited ]
    | inr locked ↦ locks_after late locked
  ]

-- an entry that is allowed has no edge from an entry that is not before it
pub no_edge_back : (qa qb : Question) (more : List Act) (pa pb : ℕ) (sa sb : Step) → qa.entries ≡ qb.entries ++ more →
    qa.rank < qb.ranks → pb ≤ pa → decision qb sb ≡ Allow →
    is_edge (record { place = pa; step = sa; asked = qa }) (record { place = pb; step = sb; asked = qb }) ≡ true → ⊥
no_edge_back qa qb more pa pb sa sb entries within late allowed h =
    let two = and_parts _ _ h in
    elim (or_cases _ _ two.1) [
      | inl collective ↦
          let parts = and_parts _ _ collective in
          let leaving : sb ≡ Leave = leaves_after sa sb parts.0 in
          collective_ascends qa qb more pa pb sa sb entries within (subst (λ s. decision qb s ≡ Allow) leaving allowed)
          parts.1
      | inr single ↦ by_steps sa sb allowed single (eqb-true _ _ two.0)
    ]
  where
    by_steps : (sa sb : Step) → decision qb sb ≡ Allow → is_matched_one (record { place = pa; step = sa; asked = qa })
        (record { place = pb; step = sb; asked = qb }) sa sb ≡ true → qa.window ≡ qb.window → ⊥
    by_steps One One allowed single window =
        let first = some_of (λ first. option_map_or
        (is_edge_by (record { place = pa; step = One; asked = qa }) (record { place = pb; step = One; asked = qb })
        first) (synchronisation_of qb.call) false) (synchronisation_of qa.call) single in
        let second = some_of (is_edge_by (record { place = pa; step = One; asked = qa })
        (record { place = pb; step = One; asked = qb }) first.0) (synchronisation_of qb.call) first.2 in
        one_ascends qa qb more pa pb first.0 second.0 entries window (may_now qb second.0 allowed second.1) late
        second.2
    by_steps One Arrive allowed single window = absurd (false≢true single)
    by_steps One Leave allowed single window = absurd (false≢true single)
    by_steps Arrive sb allowed single window = absurd (false≢true single)
    by_steps Leave sb allowed single window = absurd (false≢true single)
