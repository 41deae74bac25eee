-- Of two synchronisations with an edge the first fills a slot from which the second gains.
use Rattle.std.proofs.Common.{◌≡◌, cond, ℕ, ◌+◌, ◌-◌, ◌<◌, ◌≤◌, ◌==◌, Bool, true, false, not, ◌&&◌, ◌||◌, List, [], ◌∷◌}
use Rattle.std.proofs.Common.{refl, ap, sym, ◌∙◌, arith, Option, Some, None, ℤ, pos, negsuc}
use Rattle.std.proofs.lemmas.Bool.{true≢false, eqb-true, eq-eqb, le-ltb, lt-ltb, ltb-true}
use Rattle.std.specs.List.{list_any}
use Rattle.std.specs.Prelude.{nat_lt}
use Rattle.list_laws.proofs.Truths.{both_left, both_right, or_first, or_second}
use Rattle.rma_types.specs.declared.calls.Asserts.{Asserts}
use Rattle.rma_types.specs.declared.calls.Lock.{Lock}
use Rattle.rma_types.specs.declared.calls.Lock.TheVariants.{Shared, Exclusive}
use Rattle.rma_types.specs.declared.actions.Synchronisation.{Synchronisation}
use Rattle.rma_types.specs.declared.actions.Synchronisation.TheVariants.{Posts as PostsTo, Starts, Completes, Waits}
use Rattle.rma_types.specs.declared.actions.Synchronisation.TheVariants.{Locks, Unlocks}
use Rattle.call_rules.specs.Ranks.{is_member, members_of, natural}
use Rattle.rank_rules.specs.EpochTests.{is_wrong_rank, names_wrong_rank}
use Rattle.board_rules.specs.Edges.{Event, are_on_one_window, group_completed, is_edge_by, is_locked_after}
use Rattle.board_rules.specs.Edges.{is_started_by, is_waited_for_by}
use Rattle.board_rules.specs.Locks.{Held, do_clash, excludes, held_locks, is_exclusive, is_given_back, targets_of}
use Rattle.board_rules.specs.Posts.{completed_groups, last_posted, naming, posts, starts}
use Rattle.board_rules.specs.Questions.{Question}
use Rattle.entry_gains.specs.Given.{is_held_at, is_reached, kind_held, reached_slot, slot_given, slot_read}
use Rattle.entry_gains.specs.Plans.{unlock_slot_of}
use Rattle.entry_gains.specs.declared.slots.Slot.{Slot}
use Rattle.entry_gains.specs.declared.slots.Slot.TheVariants.{Post, Complete, Unlock}
use Rattle.entry_gains.proofs.SlotLaws.{and_both, holds_if, or_either}
use Rattle.entry_gains.proofs.MeetLocks.{implied, target_case, asked_at, is_met, locks_met, some_held, exclusive_held}

-- ---- two synchronisations

-- the slot that the first fills and the second gains from
pub record Pair (a b : Question) (first second : Synchronisation) : Type 0 where
  pub slot : Slot
  pub from : ℕ
  pub to : ℕ
  pub from_below : from < 32
  pub to_below : to < 32
  pub filled : slot_given a first from ≡ Some slot
  pub read : slot_read b second to ≡ Some slot

pub or_none : (b : Bool) → (b || false) ≡ true → b ≡ true
or_none true e = refl
or_none false e = e

-- the ranks that a lock asks for are below 16
pub Reaches : ℕ → Synchronisation → Type 0
Reaches ranks s = (ranks ≤ 16) × (names_wrong_rank ranks s ≡ false)

pub reached_below : (ranks : ℕ) (target : Option ℤ) (at : ℕ) → ranks ≤ 16 → is_wrong_rank ranks target ≡ false →
    is_reached ranks target at ≡ true → at < ranks
reached_below ranks None at few right reached = ltb-true at ranks reached
reached_below ranks (Some (pos n)) at few right reached =
    let here : at ≡ n = eqb-true at n reached in
    let below : n < ranks = below_of (nat_lt n ranks) refl right in
    omega arith
  where
    below_of : (b : Bool) → nat_lt n ranks ≡ b → not b ≡ false → n < ranks
    below_of true is e = ltb-true n ranks is
    below_of false is e = absurd (true≢false e)
reached_below ranks (Some (negsuc n)) at few right reached = absurd (true≢false right)

pub started_pair : (a b : Event) (g h : List ℤ) (x y : Asserts) → a.asked.rank < 16 → b.asked.rank < 16 →
    are_on_one_window a b ≡ true →
    is_started_by a (members_of g) b (members_of h) ≡ true → Pair a.asked b.asked (PostsTo g x) (Starts h y)
started_pair a b g h x y few more window e =
    let posted : is_member b.asked.rank (members_of g) ≡ true = both_left _ _ (both_left _ _ e) in
    let started : is_member a.asked.rank (members_of h) ≡ true = both_right _ _ (both_left _ _ e) in
    let number : naming b.asked.rank (posts a.asked a.asked.rank) ≡ naming a.asked.rank (starts b.asked b.asked.rank) =
    eqb-true _ _ (both_right _ _ e) in
    let one : a.asked.window ≡ b.asked.window = eqb-true a.asked.window b.asked.window window in
    record {
      slot = Post a.asked.window a.asked.rank b.asked.rank (naming b.asked.rank (posts a.asked a.asked.rank));
      from = b.asked.rank;
      to = a.asked.rank;
      from_below = omega arith;
      to_below = omega arith;
      filled = holds_if _ _ (and_both (nat_lt b.asked.rank 16) _ (lt-ltb b.asked.rank 16 more) posted);
      read = holds_if _ _ (and_both (nat_lt a.asked.rank 16) _ (lt-ltb a.asked.rank 16 few) started)
          ∙ ap Some (ap (λ w. Post w a.asked.rank b.asked.rank (naming a.asked.rank (starts b.asked b.asked.rank)))
          (sym one)
          ∙ ap (Post a.asked.window a.asked.rank b.asked.rank) (sym number));
    }

pub waited_pair : (a b : Event) (tests : Bool) → a.asked.rank < 16 → b.asked.rank < 16 → are_on_one_window a b ≡ true →
    is_waited_for_by a b ≡ true → Pair a.asked b.asked Completes (Waits tests)
waited_pair a b tests few more window e =
    let ended : is_member b.asked.rank (group_completed a) ≡ true = both_left _ _ (both_left _ _ e) in
    let posted : is_member a.asked.rank (last_posted b.asked) ≡ true = both_right _ _ (both_left _ _ e) in
    let number : naming b.asked.rank (completed_groups a.asked a.asked.rank) + 1
    ≡ naming a.asked.rank (posts b.asked b.asked.rank) = eqb-true _ _ (both_right _ _ e) in
    let one : a.asked.window ≡ b.asked.window = eqb-true a.asked.window b.asked.window window in
    record {
      slot = Complete a.asked.window a.asked.rank b.asked.rank
          (naming b.asked.rank (completed_groups a.asked a.asked.rank) + 1);
      from = b.asked.rank;
      to = a.asked.rank;
      from_below = omega arith;
      to_below = omega arith;
      filled = holds_if _ _ (and_both (nat_lt b.asked.rank 16) _ (lt-ltb b.asked.rank 16 more) ended);
      read = holds_if _ _ (and_both (nat_lt a.asked.rank 16) _ (lt-ltb a.asked.rank 16 few) posted)
          ∙ ap Some (ap (λ w. Complete w a.asked.rank b.asked.rank (naming a.asked.rank (posts b.asked b.asked.rank)))
          (sym one)
          ∙ ap (Complete a.asked.window a.asked.rank b.asked.rank) (sym number));
    }

-- a held lock that is given back, at a target that is reached
pub lock_pair : (a b : Event) (unlocked : Option ℤ) (kind : Lock) (locked : Option ℤ) (asserts : Asserts) (at : ℕ) →
    at < 16 → at < a.asked.ranks → are_on_one_window a b ≡ true → is_reached b.asked.ranks locked at ≡ true →
    list_any (λ (one : Held). is_held_at a.asked.rank a.asked.window at one &&
    (not (not (is_exclusive kind)) || is_exclusive one.kind)) (held_locks a.asked.ranks a.asked.entries) ≡ true →
    is_reached a.asked.ranks unlocked at ≡ true → Pair a.asked b.asked (Unlocks unlocked) (Locks kind locked asserts)
lock_pair a b unlocked Exclusive locked asserts at few within window reached held given =
    let same : a.asked.window ≡ b.asked.window = eqb-true a.asked.window b.asked.window window in
    let some : list_any (is_held_at a.asked.rank a.asked.window at) (held_locks a.asked.ranks a.asked.entries) ≡ true =
    implied (held_locks a.asked.ranks a.asked.entries) (λ one both. both_left _ _ both) held in
    record {
      slot = Unlock a.asked.window at false;
      from = at;
      to = at;
      from_below = omega arith;
      to_below = omega arith;
      filled = ap (λ b. cond b (reached_slot a.asked unlocked false at) (reached_slot a.asked unlocked true (at - 16)))
          (lt-ltb at 16 few)
          ∙ (ap (λ b. cond b (unlock_slot_of a.asked.window at false (kind_held a.asked at)) None) given
          ∙ some_held (held_locks a.asked.ranks a.asked.entries) a.asked.rank a.asked.window at some);
      read = holds_if _ _ reached ∙ ap Some (ap (λ w. Unlock w at false) (sym same));
    }
lock_pair a b unlocked Shared locked asserts at few within window reached held given =
    let same : a.asked.window ≡ b.asked.window = eqb-true a.asked.window b.asked.window window in
    let past : at + 16 - 16 ≡ at = omega arith in
    record {
      slot = Unlock a.asked.window at true;
      from = at + 16;
      to = at;
      from_below = omega arith;
      to_below = omega arith;
      filled = ap (λ b. cond b (reached_slot a.asked unlocked false (at + 16))
          (reached_slot a.asked unlocked true (at + 16 - 16))) (le-ltb (at + 16) 16 (omega arith))
          ∙ (ap (reached_slot a.asked unlocked true) past
          ∙ (ap (λ b. cond b (unlock_slot_of a.asked.window at true (kind_held a.asked at)) None) given
          ∙ exclusive_held (held_locks a.asked.ranks a.asked.entries) a.asked.rank a.asked.window at held));
      read = holds_if _ _ reached ∙ ap Some (ap (λ w. Unlock w at true) (sym same));
    }

pub given_reach : (ranks rank window at : ℕ) (unlocked : Option ℤ) (one : Held) → at < ranks → one.target ≡ at →
    is_given_back rank window unlocked one ≡ true → is_reached ranks unlocked at ≡ true
given_reach ranks rank window at None one within here back = lt-ltb at ranks within
given_reach ranks rank window at (Some target) one within here back =
    let e : one.target ≡ natural target = eqb-true one.target (natural target) (both_right _ _ back) in
    eq-eqb at (natural target) (sym here ∙ e)

-- an element that passes, and what passes at it
pub any_element : {X P : Type 0} (test : X → Bool) (xs : List X) →
    ((x : X) → test x ≡ true → ((other : X → Bool) → other x ≡ true → list_any other xs ≡ true) → P) →
    list_any test xs ≡ true → P
any_element test [] case e = absurd (true≢false (sym e))
any_element test (x ∷ xs) case e = or_either (test x) (list_any test xs)
    (λ here. case x here (λ other is. or_first (other x) (list_any other xs) is))
    (any_element test xs (λ y passes others. case y passes (λ other is. or_second (other x) (list_any other xs)
    (others other is)))) e

pub excluded : (one kind : Lock) → excludes one kind ≡ true → (not (not (is_exclusive kind)) || is_exclusive one) ≡ true
excluded Shared Shared e = e
excluded Shared Exclusive e = refl
excluded Exclusive Shared e = refl
excluded Exclusive Exclusive e = refl

pub excluding : (one kind : Lock) (exclusive : Bool) → exclusive ≡ not (is_exclusive kind) →
    (not exclusive || is_exclusive one) ≡ true → excludes one kind ≡ true
excluding Shared Shared true is e = e
excluding Shared Shared false is e = absurd (true≢false (sym is))
excluding Shared Exclusive exclusive is e = refl
excluding Exclusive kind exclusive is e = refl

pub locked_pair : (a b : Event) (unlocked : Option ℤ) (kind : Lock) (locked : Option ℤ) (asserts : Asserts) →
    b.asked.ranks ≤ 16 → a.asked.ranks ≡ b.asked.ranks → is_wrong_rank b.asked.ranks locked ≡ false →
    are_on_one_window a b ≡ true → is_locked_after a unlocked b (kind, locked) ≡ true →
    Pair a.asked b.asked (Unlocks unlocked) (Locks kind locked asserts)
locked_pair a b unlocked kind locked asserts few all right window e =
    any_element (is_met a.asked unlocked b.asked kind locked) (held_locks a.asked.ranks a.asked.entries)
    (λ one met others.
    let here : (one.window == a.asked.window) ≡ true = both_left _ _ met in
    let back : is_given_back a.asked.rank a.asked.window unlocked one ≡ true =
    both_left _ _ (both_right (one.window == a.asked.window) _ met) in
    let any : list_any (λ target. do_clash one (asked_at b.asked kind target)) (targets_of b.asked.ranks locked)
    ≡ true = both_right _ _ (both_right (one.window == a.asked.window) _ met) in
    target_case (λ target. do_clash one (asked_at b.asked kind target)) b.asked.ranks locked
    (λ at reached clash.
    let target : (one.target == at) ≡ true = both_right _ _ (both_left _ _ clash) in
    let excludes : excludes one.kind kind ≡ true = both_right _ _ clash in
    let holder : (one.holder == a.asked.rank) ≡ true = both_left _ _ (both_left _ _ back) in
    let within : at < b.asked.ranks = reached_below b.asked.ranks locked at few right reached in
    lock_pair a b unlocked kind locked asserts at (omega arith) (omega arith) window reached
    (others (λ (one : Held). is_held_at a.asked.rank a.asked.window at one &&
    (not (not (is_exclusive kind)) || is_exclusive one.kind))
    (and_both _ _ (and_both _ _ (and_both _ _ holder here) target) (excluded one.kind kind excludes)))
    (given_reach a.asked.ranks a.asked.rank a.asked.window at unlocked one (omega arith)
    (eqb-true one.target at target) back)) any)
    (sym (locks_met a.asked unlocked b.asked kind locked) ∙ both_right _ _ e)

-- ---- an edge between two synchronisations, and their slots

-- what is asked of the two
pub record MayMeet (a b : Event) : Type 0 where
  pub from : a.asked.rank < 16
  pub to : b.asked.rank < 16
  pub few : b.asked.ranks ≤ 16
  pub all : a.asked.ranks ≡ b.asked.ranks
  pub later : nat_lt a.place b.place ≡ true

pub pair_of : (a b : Event) (first second : Synchronisation) → MayMeet a b →
    names_wrong_rank b.asked.ranks second ≡ false → are_on_one_window a b ≡ true → is_edge_by a b first second ≡ true →
    Pair a.asked b.asked first second
pair_of a b (PostsTo g x) (Starts h y) may right window e =
    started_pair a b g h x y may.from may.to window (or_none _ (or_none _ (or_none _ (or_none _ e))))
pair_of a b Completes (Waits tests) may right window e = waited_pair a b tests may.from may.to window (or_none _ e)
pair_of a b (Unlocks unlocked) (Locks kind locked asserts) may right window e =
    locked_pair a b unlocked kind locked asserts may.few may.all right window e
pair_of a b first second may right window e = absurd (true≢false (sym e))
