-- Two synchronisations of which the first fills a slot from which the second gains have an edge.
use Rattle.std.proofs.Common.{◌≡◌, cond, ℕ, ◌+◌, ◌-◌, ◌==◌, Bool, true, false, not, ◌&&◌, ◌||◌, List, refl, ap, sym}
use Rattle.std.proofs.Common.{◌∙◌, Option, Some, None, ℤ}
use Rattle.std.proofs.lemmas.Bool.{eqb-true, eq-eqb}
use Rattle.std.specs.List.{list_any}
use Rattle.std.specs.Prelude.{nat_lt}
use Rattle.list_laws.proofs.Truths.{both_left, both_right, or_first}
use Rattle.rma_types.specs.declared.calls.Asserts.{Asserts}
use Rattle.rma_types.specs.declared.calls.Lock.{Lock}
use Rattle.rma_types.specs.declared.actions.Synchronisation.{Synchronisation}
use Rattle.rma_types.specs.declared.actions.Synchronisation.TheVariants.{Posts as PostsTo, Starts, Completes, Waits}
use Rattle.rma_types.specs.declared.actions.Synchronisation.TheVariants.{Locks, Unlocks}
use Rattle.call_rules.specs.Ranks.{is_member, members_of, natural}
use Rattle.board_rules.specs.Edges.{Event, are_on_one_window, group_completed, is_edge_by}
use Rattle.board_rules.specs.Locks.{Held, do_clash, held_locks, is_exclusive, is_given_back}
use Rattle.board_rules.specs.Posts.{completed_groups, last_posted, naming, posts, starts}
use Rattle.board_rules.specs.Questions.{Question}
use Rattle.entry_gains.specs.Given.{group_ended, is_held_at, is_reached, kind_held, reached_slot, slot_given, slot_read}
use Rattle.entry_gains.specs.Plans.{unlock_slot_of}
use Rattle.entry_gains.specs.declared.slots.Slot.{Slot}
use Rattle.entry_gains.specs.declared.slots.Slot.TheVariants.{Post, Complete, Unlock}
use Rattle.entry_gains.proofs.SlotLaws.{and_both, if_holds}
use Rattle.entry_gains.proofs.MeetLocks.{implied, some_target, asked_at, is_met, locks_met, held_case}
use Rattle.entry_gains.proofs.SlotPairs.{excluding}

-- ---- slots that meet, and their edge

pub unlock_case : {P : Type 0} (q : Question) (target : Option ℤ) (from : ℕ) (slot : Slot) →
    slot_given q (Unlocks target) from ≡ Some slot →
    ((at : ℕ) (exclusive : Bool) → is_reached q.ranks target at ≡ true → slot ≡ Unlock q.window at exclusive →
    list_any (λ (one : Held). is_held_at q.rank q.window at one && (not exclusive || is_exclusive one.kind))
    (held_locks q.ranks q.entries) ≡ true → P) → P
unlock_case {P} q target from slot e case = by (nat_lt from 16) e
  where
    of : (at : ℕ) (exclusive : Bool) → (b : Bool) → is_reached q.ranks target at ≡ b →
        cond b (unlock_slot_of q.window at exclusive (kind_held q at)) None ≡ Some slot → P
    of at exclusive true reached is = held_case (held_locks q.ranks q.entries) q.rank q.window at exclusive slot is
        (case at exclusive reached)
    of at exclusive false reached is = cc

    by : (b : Bool) → cond b (reached_slot q target false from) (reached_slot q target true (from - 16)) ≡ Some slot → P
    by true is = of from false (is_reached q.ranks target from) refl is
    by false is = of (from - 16) true (is_reached q.ranks target (from - 16)) refl is

-- an edge between the two, on one window
abbrev pub Edge : Event → Event → Synchronisation → Synchronisation → Type 0
Edge a b first second = (are_on_one_window a b ≡ true) × (is_edge_by a b first second ≡ true)

pub started_edge : (a b : Event) (g h : List ℤ) (x y : Asserts) (from to : ℕ) (slot : Slot) →
    slot_given a.asked (PostsTo g x) from ≡ Some slot → slot_read b.asked (Starts h y) to ≡ Some slot →
    Edge a b (PostsTo g x) (Starts h y)
started_edge a b g h x y from to slot filled read =
    let f : ((nat_lt from 16 && is_member from (members_of g))
    ≡ true) × (Post a.asked.window a.asked.rank from (naming from (posts a.asked a.asked.rank)) ≡ slot) =
    if_holds _ _ slot filled in
    let r : ((nat_lt to 16 && is_member to (members_of h))
    ≡ true) × (Post b.asked.window to b.asked.rank (naming to (starts b.asked b.asked.rank)) ≡ slot) =
    if_holds _ _ slot read in
    let one : a.asked.window ≡ b.asked.window = cc (f.1, r.1) in
    let sender : a.asked.rank ≡ to = cc (f.1, r.1) in
    let receiver : from ≡ b.asked.rank = cc (f.1, r.1) in
    let number : naming from (posts a.asked a.asked.rank) ≡ naming to (starts b.asked b.asked.rank) = cc (f.1, r.1) in
    let posted : is_member b.asked.rank (members_of g) ≡ true =
    ap (λ k. is_member k (members_of g)) (sym receiver) ∙ both_right (nat_lt from 16) _ f.0 in
    let started : is_member a.asked.rank (members_of h) ≡ true =
    ap (λ k. is_member k (members_of h)) sender ∙ both_right (nat_lt to 16) _ r.0 in
    let counted : naming b.asked.rank (posts a.asked a.asked.rank) ≡ naming a.asked.rank (starts b.asked b.asked.rank) =
    ap (λ k. naming k (posts a.asked a.asked.rank)) (sym receiver)
    ∙ (number ∙ ap (λ k. naming k (starts b.asked b.asked.rank)) (sym sender)) in (
      eq-eqb a.asked.window b.asked.window one,
      or_first _ _ (or_first _ _ (or_first _ _ (or_first _ _ (and_both _ _ (and_both _ _ posted started)
          (eq-eqb _ _ counted))))),
    )

pub waited_edge : (a b : Event) (tests : Bool) (from to : ℕ) (slot : Slot) →
    slot_given a.asked Completes from ≡ Some slot → slot_read b.asked (Waits tests) to ≡ Some slot →
    Edge a b Completes (Waits tests)
waited_edge a b tests from to slot filled read =
    let f : ((nat_lt from 16 && is_member from (group_ended a.asked))
    ≡ true) × (Complete a.asked.window a.asked.rank from (naming from (completed_groups a.asked a.asked.rank) + 1)
    ≡ slot) = if_holds _ _ slot filled in
    let r : ((nat_lt to 16 && is_member to (last_posted b.asked))
    ≡ true) × (Complete b.asked.window to b.asked.rank (naming to (posts b.asked b.asked.rank)) ≡ slot) =
    if_holds _ _ slot read in
    let one : a.asked.window ≡ b.asked.window = cc (f.1, r.1) in
    let sender : a.asked.rank ≡ to = cc (f.1, r.1) in
    let receiver : from ≡ b.asked.rank = cc (f.1, r.1) in
    let number : naming from (completed_groups a.asked a.asked.rank) + 1 ≡ naming to (posts b.asked b.asked.rank) =
    cc (f.1, r.1) in
    let ended : is_member b.asked.rank (group_completed a) ≡ true =
    ap (λ k. is_member k (group_completed a)) (sym receiver) ∙ both_right (nat_lt from 16) _ f.0 in
    let posted : is_member a.asked.rank (last_posted b.asked) ≡ true =
    ap (λ k. is_member k (last_posted b.asked)) sender ∙ both_right (nat_lt to 16) _ r.0 in
    let counted : naming b.asked.rank (completed_groups a.asked a.asked.rank) + 1
    ≡ naming a.asked.rank (posts b.asked b.asked.rank) =
    ap (λ k. naming k (completed_groups a.asked a.asked.rank) + 1) (sym receiver)
    ∙ (number ∙ ap (λ k. naming k (posts b.asked b.asked.rank)) (sym sender)) in (
      eq-eqb a.asked.window b.asked.window one,
      or_first _ _ (and_both _ _ (and_both _ _ ended posted) (eq-eqb _ _ counted)),
    )

pub reach_back : (ranks rank window at : ℕ) (unlocked : Option ℤ) (one : Held) → is_reached ranks unlocked at ≡ true →
    is_held_at rank window at one ≡ true → is_given_back rank window unlocked one ≡ true
reach_back ranks rank window at None one reached held = and_both _ _ (both_left _ _ held) refl
reach_back ranks rank window at (Some target) one reached held =
    let here : one.target ≡ at = eqb-true one.target at (both_right _ _ held) in
    let there : at ≡ natural target = eqb-true at (natural target) reached in
    and_both _ _ (both_left _ _ held) (eq-eqb one.target (natural target) (here ∙ there))

pub locked_edge : (a b : Event) (unlocked : Option ℤ) (kind : Lock) (locked : Option ℤ) (asserts : Asserts)
    (from to : ℕ) (slot : Slot) → nat_lt a.place b.place ≡ true →
    slot_given a.asked (Unlocks unlocked) from ≡ Some slot →
    slot_read b.asked (Locks kind locked asserts) to ≡ Some slot →
    Edge a b (Unlocks unlocked) (Locks kind locked asserts)
locked_edge a b unlocked kind locked asserts from to slot later filled read =
    let r : (is_reached b.asked.ranks locked to ≡ true) × (Unlock b.asked.window to (not (is_exclusive kind)) ≡ slot) =
    if_holds _ _ slot read in
    unlock_case a.asked unlocked from slot filled
    (λ at exclusive reached is held.
    let one : a.asked.window ≡ b.asked.window = cc (is, r.1) in
    let target : at ≡ to = cc (is, r.1) in
    let excludes_it : exclusive ≡ not (is_exclusive kind) = cc (is, r.1) in
    let reached_at : is_reached b.asked.ranks locked at ≡ true = ap (is_reached b.asked.ranks locked) target ∙ r.0 in
    let met : list_any (is_met a.asked unlocked b.asked kind locked) (held_locks a.asked.ranks a.asked.entries) ≡ true =
    implied (held_locks a.asked.ranks a.asked.entries)
    (λ one_held both.
    let here : is_held_at a.asked.rank a.asked.window at one_held ≡ true = both_left _ _ both in
    let window : (one_held.window == a.asked.window) ≡ true = both_right _ _ (both_left _ _ here) in
    let there : one_held.window ≡ b.asked.window = eqb-true one_held.window a.asked.window window ∙ one in
    let clash : do_clash one_held (asked_at b.asked kind at) ≡ true =
    and_both _ _ (and_both _ _ (eq-eqb one_held.window b.asked.window there) (both_right _ _ here))
    (excluding one_held.kind kind exclusive excludes_it (both_right _ _ both)) in
    and_both _ _ window (and_both _ _ (reach_back a.asked.ranks a.asked.rank a.asked.window at unlocked one_held
    reached here)
    (some_target (λ target. do_clash one_held
    (asked_at b.asked kind target)) b.asked.ranks locked at reached_at clash))) held in (
      eq-eqb a.asked.window b.asked.window one,
      and_both _ _ later (locks_met a.asked unlocked b.asked kind locked
          ∙ met),
    ))

pub edge_of : (a b : Event) (first second : Synchronisation) (from to : ℕ) (slot : Slot) →
    nat_lt a.place b.place ≡ true → slot_given a.asked first from ≡ Some slot →
    slot_read b.asked second to ≡ Some slot → Edge a b first second
edge_of a b (PostsTo g x) (Starts h y) from to slot later filled read =
    started_edge a b g h x y from to slot filled read
edge_of a b (PostsTo g x) (Waits tests) from to slot later filled read =
    let f : Post a.asked.window a.asked.rank from (naming from (posts a.asked a.asked.rank)) ≡ slot =
    (if_holds (nat_lt from 16 && is_member from (members_of g))
    (Post a.asked.window a.asked.rank from (naming from (posts a.asked a.asked.rank))) slot filled).1 in
    let r : Complete b.asked.window to b.asked.rank (naming to (posts b.asked b.asked.rank)) ≡ slot =
    (if_holds (nat_lt to 16 && is_member to (last_posted b.asked))
    (Complete b.asked.window to b.asked.rank (naming to (posts b.asked b.asked.rank))) slot read).1 in cc (f, r)
edge_of a b (PostsTo g x) (Locks kind locked asserts) from to slot later filled read =
    let f : Post a.asked.window a.asked.rank from (naming from (posts a.asked a.asked.rank)) ≡ slot =
    (if_holds (nat_lt from 16 && is_member from (members_of g))
    (Post a.asked.window a.asked.rank from (naming from (posts a.asked a.asked.rank))) slot filled).1 in
    let r : Unlock b.asked.window to (not (is_exclusive kind)) ≡ slot =
    (if_holds (is_reached b.asked.ranks locked to)
    (Unlock b.asked.window to (not (is_exclusive kind))) slot read).1 in cc (f, r)
edge_of a b Completes (Starts h y) from to slot later filled read =
    let f : Complete a.asked.window a.asked.rank from (naming from (completed_groups a.asked a.asked.rank) + 1) ≡ slot =
    (if_holds (nat_lt from 16 && is_member from (group_ended a.asked))
    (Complete a.asked.window a.asked.rank from (naming from (completed_groups a.asked a.asked.rank) + 1)) slot
    filled).1 in
    let r : Post b.asked.window to b.asked.rank (naming to (starts b.asked b.asked.rank)) ≡ slot =
    (if_holds (nat_lt to 16 && is_member to (members_of h))
    (Post b.asked.window to b.asked.rank (naming to (starts b.asked b.asked.rank))) slot read).1 in cc (f, r)
edge_of a b Completes (Waits tests) from to slot later filled read = waited_edge a b tests from to slot filled read
edge_of a b Completes (Locks kind locked asserts) from to slot later filled read =
    let f : Complete a.asked.window a.asked.rank from (naming from (completed_groups a.asked a.asked.rank) + 1) ≡ slot =
    (if_holds (nat_lt from 16 && is_member from (group_ended a.asked))
    (Complete a.asked.window a.asked.rank from (naming from (completed_groups a.asked a.asked.rank) + 1)) slot
    filled).1 in
    let r : Unlock b.asked.window to (not (is_exclusive kind)) ≡ slot =
    (if_holds (is_reached b.asked.ranks locked to)
    (Unlock b.asked.window to (not (is_exclusive kind))) slot read).1 in cc (f, r)
edge_of a b (Unlocks unlocked) (Starts h y) from to slot later filled read =
    let r : Post b.asked.window to b.asked.rank (naming to (starts b.asked b.asked.rank)) ≡ slot =
    (if_holds (nat_lt to 16 && is_member to (members_of h))
    (Post b.asked.window to b.asked.rank (naming to (starts b.asked b.asked.rank))) slot read).1 in
    unlock_case a.asked unlocked from slot filled (λ at exclusive reached is held. cc (is, r))
edge_of a b (Unlocks unlocked) (Waits tests) from to slot later filled read =
    let r : Complete b.asked.window to b.asked.rank (naming to (posts b.asked b.asked.rank)) ≡ slot =
    (if_holds (nat_lt to 16 && is_member to (last_posted b.asked))
    (Complete b.asked.window to b.asked.rank (naming to (posts b.asked b.asked.rank))) slot read).1 in
    unlock_case a.asked unlocked from slot filled (λ at exclusive reached is held. cc (is, r))
edge_of a b (Unlocks unlocked) (Locks kind locked asserts) from to slot later filled read =
    locked_edge a b unlocked kind locked asserts from to slot later filled read
edge_of a b first second from to slot later filled read = cc
