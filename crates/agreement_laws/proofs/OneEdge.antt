-- No entry has both an edge to it and an edge from it: it releases or acquires, and not both.
use Rattle.std.proofs.Common.{◌≡◌, ℕ, ◌⊎◌, inl, inr, Bool, true, false, List, Some, refl, sym, ◌∙◌, subst}
use Rattle.std.specs.Prelude.{◌&&◌, ◌||◌}
use Rattle.std.specs.List.{list_any}
use Rattle.std.specs.Option.{option_map_or}
use Rattle.std.proofs.lemmas.Bool.{and_parts, or_cases}
use Rattle.list_laws.proofs.Members.{In, any_in}
use Rattle.list_laws.proofs.Options.{some_of}
use Rattle.rma_types.specs.declared.accesses.Step.{Step}
use Rattle.rma_types.specs.declared.accesses.Step.TheVariants.{Arrive, Leave, One}
use Rattle.rma_types.specs.declared.actions.Synchronisation.{Synchronisation}
use Rattle.rma_types.specs.declared.actions.Synchronisation.TheVariants.{Fences, Posts, Starts, Completes, Waits, Locks}
use Rattle.rma_types.specs.declared.actions.Synchronisation.TheVariants.{Unlocks, Flushes, Syncs}
use Rattle.rma_types.specs.Actions.{synchronisation_of}
use Rattle.board_rules.specs.Edges.{Event, are_on_one_window, is_arrive_to_leave, are_of_one_round, is_started_by}
use Rattle.board_rules.specs.Edges.{is_waited_for_by, is_locked_after, is_edge_by, is_matched_one, is_edge}
use Rattle.board_rules.specs.Locks.{lock_of, unlock_of}
use Rattle.board_rules.specs.Posts.{group_of_post, group_of_start, is_complete, is_wait}

-- a post, a complete or an unlock
abbrev pub releases_by : Synchronisation → Bool
releases_by (Fences asserts) = false
releases_by (Posts group asserts) = true
releases_by (Starts group asserts) = false
releases_by Completes = true
releases_by (Waits tests) = false
releases_by (Locks kind target asserts) = false
releases_by (Unlocks target) = true
releases_by (Flushes target local) = false
releases_by Syncs = false

-- a start, a wait or a lock
abbrev pub acquires_by : Synchronisation → Bool
acquires_by (Fences asserts) = false
acquires_by (Posts group asserts) = false
acquires_by (Starts group asserts) = true
acquires_by Completes = false
acquires_by (Waits tests) = true
acquires_by (Locks kind target asserts) = true
acquires_by (Unlocks target) = false
acquires_by (Flushes target local) = false
acquires_by Syncs = false

not_both : (s : Synchronisation) → releases_by s ≡ true → acquires_by s ≡ true → ⊥
not_both (Fences asserts) h k = cc h
not_both (Posts group asserts) h k = cc k
not_both (Starts group asserts) h k = cc h
not_both Completes h k = cc k
not_both (Waits tests) h k = cc h
not_both (Locks kind target asserts) h k = cc h
not_both (Unlocks target) h k = cc k
not_both (Flushes target local) h k = cc h
not_both Syncs h k = cc h

post_releases : (s : Synchronisation) {group : List ℕ} → In group (group_of_post s) → releases_by s ≡ true
post_releases (Fences asserts) m = elim m [ ]
post_releases (Posts group asserts) m = refl
post_releases (Starts group asserts) m = elim m [ ]
post_releases Completes m = elim m [ ]
post_releases (Waits tests) m = elim m [ ]
post_releases (Locks kind target asserts) m = elim m [ ]
post_releases (Unlocks target) m = elim m [ ]
post_releases (Flushes target local) m = elim m [ ]
post_releases Syncs m = elim m [ ]

start_acquires : (s : Synchronisation) {group : List ℕ} → In group (group_of_start s) → acquires_by s ≡ true
start_acquires (Fences asserts) m = elim m [ ]
start_acquires (Posts group asserts) m = elim m [ ]
start_acquires (Starts group asserts) m = refl
start_acquires Completes m = elim m [ ]
start_acquires (Waits tests) m = elim m [ ]
start_acquires (Locks kind target asserts) m = elim m [ ]
start_acquires (Unlocks target) m = elim m [ ]
start_acquires (Flushes target local) m = elim m [ ]
start_acquires Syncs m = elim m [ ]

complete_releases : (s : Synchronisation) → is_complete s ≡ true → releases_by s ≡ true
complete_releases (Fences asserts) h = absurd (cc h)
complete_releases (Posts group asserts) h = absurd (cc h)
complete_releases (Starts group asserts) h = absurd (cc h)
complete_releases Completes h = refl
complete_releases (Waits tests) h = absurd (cc h)
complete_releases (Locks kind target asserts) h = absurd (cc h)
complete_releases (Unlocks target) h = absurd (cc h)
complete_releases (Flushes target local) h = absurd (cc h)
complete_releases Syncs h = absurd (cc h)

wait_acquires : (s : Synchronisation) → is_wait s ≡ true → acquires_by s ≡ true
wait_acquires (Fences asserts) h = absurd (cc h)
wait_acquires (Posts group asserts) h = absurd (cc h)
wait_acquires (Starts group asserts) h = absurd (cc h)
wait_acquires Completes h = absurd (cc h)
wait_acquires (Waits tests) h = refl
wait_acquires (Locks kind target asserts) h = absurd (cc h)
wait_acquires (Unlocks target) h = absurd (cc h)
wait_acquires (Flushes target local) h = absurd (cc h)
wait_acquires Syncs h = absurd (cc h)

unlock_releases : (s : Synchronisation) (target : _) → unlock_of s ≡ Some target → releases_by s ≡ true
unlock_releases (Fences asserts) target e = absurd (cc e)
unlock_releases (Posts group asserts) target e = absurd (cc e)
unlock_releases (Starts group asserts) target e = absurd (cc e)
unlock_releases Completes target e = absurd (cc e)
unlock_releases (Waits tests) target e = absurd (cc e)
unlock_releases (Locks kind other asserts) target e = absurd (cc e)
unlock_releases (Unlocks other) target e = refl
unlock_releases (Flushes other local) target e = absurd (cc e)
unlock_releases Syncs target e = absurd (cc e)

lock_acquires : (s : Synchronisation) (lock : _) → lock_of s ≡ Some lock → acquires_by s ≡ true
lock_acquires (Fences asserts) lock e = absurd (cc e)
lock_acquires (Posts group asserts) lock e = absurd (cc e)
lock_acquires (Starts group asserts) lock e = absurd (cc e)
lock_acquires Completes lock e = absurd (cc e)
lock_acquires (Waits tests) lock e = absurd (cc e)
lock_acquires (Locks kind target asserts) lock e = refl
lock_acquires (Unlocks target) lock e = absurd (cc e)
lock_acquires (Flushes target local) lock e = absurd (cc e)
lock_acquires Syncs lock e = absurd (cc e)

edge_kinds : (a b : Event) (first second : Synchronisation) → is_edge_by a b first second ≡ true →
    (releases_by first ≡ true) × (acquires_by second ≡ true)
edge_kinds a b first second h =
    elim (or_cases (list_any (λ posted. list_any (is_started_by a posted b) (group_of_start second))
    (group_of_post first)
    || (is_complete first && is_wait second && is_waited_for_by a b))
    (option_map_or (λ unlocked. option_map_or (is_locked_after a unlocked b) (lock_of second) false)
    (unlock_of first) false) h) [
      | inr locks ↦
          let unlocked = some_of (λ unlocked. option_map_or (is_locked_after a unlocked b) (lock_of second) false)
          (unlock_of first) locks in
          let lock = some_of (is_locked_after a unlocked.0 b) (lock_of second) unlocked.2 in
          (unlock_releases first unlocked.0 unlocked.1, lock_acquires second lock.0 lock.1)
      | inl rest ↦ elim (or_cases (list_any (λ posted. list_any (is_started_by a posted b) (group_of_start second))
          (group_of_post first))
          (is_complete first && is_wait second && is_waited_for_by a b) rest) [
            | inl starts ↦
                let posted = any_in (λ posted. list_any (is_started_by a posted b) (group_of_start second))
                (group_of_post first) starts in
                let started = any_in (is_started_by a posted.0 b) (group_of_start second) posted.2 in
                (post_releases first posted.1, start_acquires second started.1)
            | inr waits ↦
                let parts = and_parts (is_complete first && is_wait second) (is_waited_for_by a b) waits in
                let two = and_parts (is_complete first) (is_wait second) parts.0 in
                (complete_releases first two.0, wait_acquires second two.1)
          ]
    ]

-- a step with its synchronisation, which may release or acquire
abbrev pub Releases : Event → Type 0
Releases e = (e.step ≡ Arrive) ⊎ ((e.step ≡ One) × (s : Synchronisation) × (synchronisation_of e.asked.call ≡ Some s)
    × (releases_by s ≡ true))

abbrev pub Acquires : Event → Type 0
Acquires e = (e.step ≡ Leave) ⊎ ((e.step ≡ One) × (s : Synchronisation) × (synchronisation_of e.asked.call ≡ Some s)
    × (acquires_by s ≡ true))

arrive_to_leave : (a b : Step) → is_arrive_to_leave a b ≡ true → (a ≡ Arrive) × (b ≡ Leave)
arrive_to_leave Arrive Arrive h = absurd (cc h)
arrive_to_leave Arrive Leave h = (refl, refl)
arrive_to_leave Arrive One h = absurd (cc h)
arrive_to_leave Leave b h = absurd (cc h)
arrive_to_leave One b h = absurd (cc h)

matched : (a b : Event) (s t : Step) → is_matched_one a b s t ≡ true →
    (s ≡ One) × (t ≡ One) × (option_map_or
    (λ first. option_map_or (is_edge_by a b first) (synchronisation_of b.asked.call) false)
    (synchronisation_of a.asked.call) false ≡ true)
matched a b One One h = (refl, refl, h)
matched a b One Arrive h = absurd (cc h)
matched a b One Leave h = absurd (cc h)
matched a b Arrive t h = absurd (cc h)
matched a b Leave t h = absurd (cc h)

pub edge_ends : (a b : Event) → is_edge a b ≡ true → Releases a × Acquires b
edge_ends a b h =
    let parts = and_parts (are_on_one_window a b)
    ((is_arrive_to_leave a.step b.step && are_of_one_round a b) || is_matched_one a b a.step b.step) h in
    elim (or_cases (is_arrive_to_leave a.step b.step && are_of_one_round a b)
    (is_matched_one a b a.step b.step) parts.1) [
      | inl round ↦
          let steps = arrive_to_leave a.step b.step
          (and_parts (is_arrive_to_leave a.step b.step) (are_of_one_round a b) round).0 in
          (inl steps.0, inl steps.1)
      | inr one ↦
          let is = matched a b a.step b.step one in
          let first = some_of (λ first. option_map_or (is_edge_by a b first) (synchronisation_of b.asked.call) false)
          (synchronisation_of a.asked.call) is.2 in
          let second = some_of (is_edge_by a b first.0) (synchronisation_of b.asked.call) first.2 in
          let kinds = edge_kinds a b first.0 second.0 second.2 in
          (inr (is.0, first.0, first.1, kinds.0), inr (is.1, second.0, second.1, kinds.1))
    ]

apart : (e : Event) → Releases e → Acquires e → ⊥
apart e (inl arrives) (inl leaves) = cc (arrives, leaves)
apart e (inl arrives) (inr one) = cc (arrives, one.0)
apart e (inr one) (inl leaves) = cc (one.0, leaves)
apart e (inr one) (inr other) =
    let both : Some one.1 ≡ Some other.1 = sym one.2 ∙ other.2 in
    let same : one.1 ≡ other.1 = cc both in
    not_both other.1 (subst (λ s. releases_by s ≡ true) same one.3) other.3

-- an edge leads to an entry, and none leads from it
pub no_two_edges : (a b c : Event) → is_edge a b ≡ true → is_edge b c ≡ true → ⊥
no_two_edges a b c h k = apart b (edge_ends b c k).0 (edge_ends a b h).1
