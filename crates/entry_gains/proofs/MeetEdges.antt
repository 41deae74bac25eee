-- An edge leads from one entry to another exactly where the later one gains from a slot that the earlier one fills.
use Rattle.std.proofs.Common.{◌≡◌, ℕ, ◌+◌, ◌<◌, ◌==◌, Bool, true, false, ◌&&◌, ◌||◌, refl, ap, sym, ◌∙◌, arith, Option}
use Rattle.std.proofs.Common.{Some, None}
use Rattle.std.proofs.lemmas.Bool.{true≢false, eqb-true, eq-eqb}
use Rattle.std.specs.Option.{option_map_or}
use Rattle.std.specs.Prelude.{nat_lt}
use Rattle.list_laws.proofs.Truths.{both_left, both_right, or_first, same_truth}
use Rattle.rma_types.specs.declared.accesses.Step.{Step}
use Rattle.rma_types.specs.declared.accesses.Step.TheVariants.{Arrive, Leave, One}
use Rattle.rma_types.specs.declared.actions.Synchronisation.{Synchronisation}
use Rattle.rma_types.specs.declared.actions.Synchronisation.TheVariants.{Posts as PostsTo, Starts, Completes, Waits}
use Rattle.rma_types.specs.declared.actions.Synchronisation.TheVariants.{Locks, Unlocks}
use Rattle.rma_types.specs.Actions.{synchronisation_of}
use Rattle.call_rules.proofs.NumbersFrom.{some_number}
use Rattle.rank_rules.specs.EpochTests.{names_wrong_rank}
use Rattle.board_rules.specs.Edges.{Event, are_of_one_round, are_on_one_window, is_arrive_to_leave, is_edge, is_edge_by}
use Rattle.board_rules.specs.Edges.{is_matched_one}
use Rattle.board_rules.specs.Entries.{Collective, Creation, Freeing, Fence, Barrier, collective_of, is_collective}
use Rattle.board_rules.specs.Entries.{is_same_collective}
use Rattle.board_rules.specs.Questions.{Question}
use Rattle.board_rules.specs.Rounds.{rounds_begun}
use Rattle.board_rules.proofs.CollectiveLaws.{same_collective}
use Rattle.entry_gains.specs.Given.{do_meet, fills, given_slot, is_filled_by, is_slot, meeting_of, read_slot}
use Rattle.entry_gains.specs.Given.{slot_arrived, slot_asked, slot_given, slot_left, slot_read, slot_synchronised}
use Rattle.entry_gains.specs.declared.slots.Slot.{Slot}
use Rattle.entry_gains.specs.declared.slots.Slot.TheVariants.{Round, Post, Complete, Unlock}
use Rattle.entry_gains.proofs.SlotLaws.{and_both, if_holds, is_slot_of, is_slot_to}
use Rattle.entry_gains.proofs.SlotLaws.{number_case}
use Rattle.entry_gains.proofs.SlotPairs.{Pair, or_none, MayMeet, pair_of}
use Rattle.entry_gains.proofs.PairEdges.{unlock_case, Edge, edge_of}

-- what makes them meet: a slot at two indices
pub record Meets (a : Question) (s : Step) (b : Question) (t : Step) : Type 0 where
  pub slot : Slot
  pub from : ℕ
  pub to : ℕ
  pub from_below : from < 32
  pub to_below : to < 32
  pub filled : given_slot a s from ≡ Some slot
  pub read : read_slot b t to ≡ Some slot

pub meet_of : (a b : Event) → Meets a.asked a.step b.asked b.step → do_meet a b ≡ true
unfolding do_meet fills
meet_of a b shared = some_number (λ at. is_filled_by a (read_slot b.asked b.step at)) 0 32 shared.to (omega arith)
    (omega (arith, shared.to_below))
    (rw shared.read (some_number (λ at. is_slot shared.slot (given_slot a.asked a.step at)) 0 32 shared.from
    (omega arith) (omega (arith, shared.from_below))
    (is_slot_of shared.slot (given_slot a.asked a.step shared.from) shared.filled)))

filled_case : {P : Type 0} (a b : Event) (to : ℕ) → to < 32 → (one : Option Slot) → read_slot b.asked b.step to ≡ one →
    (Meets a.asked a.step b.asked b.step → P) → is_filled_by a one ≡ true → P
unfolding fills
filled_case a b to high None read case found = absurd (true≢false (sym found))
filled_case a b to high (Some slot) read case found =
    number_case (λ from. is_slot slot (given_slot a.asked a.step from)) 0 32
    (λ from low below is. case (record {
      slot = slot;
      from = from;
      to = to;
      from_below = omega arith;
      to_below = high;
      filled = is_slot_to slot (given_slot a.asked a.step from) is;
      read = read;
    })) found

pub meet_case : {P : Type 0} (a b : Event) → (Meets a.asked a.step b.asked b.step → P) → do_meet a b ≡ true → P
unfolding do_meet
meet_case a b case e = number_case (λ at. is_filled_by a (read_slot b.asked b.step at)) 0 32
    (λ to low high. filled_case a b to (omega arith) (read_slot b.asked b.step to) refl case) e

-- ---- collective calls

meeting_same_of : (c d : Collective) → meeting_of c ≡ meeting_of d → is_same_collective c d ≡ true
meeting_same_of Creation Creation e = refl
meeting_same_of Freeing Freeing e = refl
meeting_same_of Fence Fence e = refl
meeting_same_of Barrier Barrier e = refl
meeting_same_of c d e = cc

round_shared : (a b : Event) → are_of_one_round a b ≡ true → Meets a.asked Arrive b.asked Leave
round_shared a b e = of (collective_of a.asked.call)
    (collective_of b.asked.call) refl refl (both_right _ _ (both_left _ _ e))
  where
    of : (c d : Option Collective) → collective_of a.asked.call ≡ c → collective_of b.asked.call ≡ d →
        option_map_or (λ collective. option_map_or (is_same_collective collective) d false) c false ≡ true →
        Meets a.asked Arrive b.asked Leave
    of None d c_is d_is same = absurd (true≢false (sym same))
    of (Some c) None c_is d_is same = absurd (true≢false (sym same))
    of (Some c) (Some d) c_is d_is same =
        let one : a.asked.window ≡ b.asked.window = eqb-true _ _ (both_left _ _ (both_left _ _ e)) in
        let number : rounds_begun a.asked + 1 ≡ rounds_begun b.asked = eqb-true _ _ (both_right _ _ e) in
        let kind : c ≡ d = same_collective c d same in
        record {
          slot = Round a.asked.window (meeting_of c) (rounds_begun a.asked + 1);
          from = 0;
          to = 0;
          from_below = omega arith;
          to_below = omega arith;
          filled = ap (slot_arrived a.asked 0) c_is;
          read = ap (slot_left b.asked 0) d_is
              ∙ ap Some (ap (λ w. Round w (meeting_of d) (rounds_begun b.asked)) (sym one)
              ∙ (ap (λ k. Round a.asked.window (meeting_of k) (rounds_begun b.asked)) (sym kind)
              ∙ ap (Round a.asked.window (meeting_of c)) (sym number)));
        }

shared_round : (a b : Event) → Meets a.asked Arrive b.asked Leave →
    (are_on_one_window a b ≡ true) × (are_of_one_round a b ≡ true)
shared_round a b shared = of (collective_of a.asked.call)
    (collective_of b.asked.call) refl refl shared.filled shared.read
  where
    of : (c d : Option Collective) → collective_of a.asked.call ≡ c → collective_of b.asked.call ≡ d →
        slot_arrived a.asked shared.from c ≡ Some shared.slot → slot_left b.asked shared.to d ≡ Some shared.slot →
        (are_on_one_window a b ≡ true) × (are_of_one_round a b ≡ true)
    of None d c_is d_is filled read = cc
    of (Some c) None c_is d_is filled read = cc
    of (Some c) (Some d) c_is d_is filled read =
        let f : Round a.asked.window (meeting_of c) (rounds_begun a.asked + 1) ≡ shared.slot =
        (if_holds (shared.from == 0) (Round a.asked.window (meeting_of c)
        (rounds_begun a.asked + 1)) shared.slot filled).1 in
        let r : Round b.asked.window (meeting_of d) (rounds_begun b.asked) ≡ shared.slot =
        (if_holds (shared.to == 0) (Round b.asked.window (meeting_of d)
        (rounds_begun b.asked)) shared.slot read).1 in
        let one : a.asked.window ≡ b.asked.window = cc (f, r) in
        let number : rounds_begun a.asked + 1 ≡ rounds_begun b.asked = cc (f, r) in
        let kind : meeting_of c ≡ meeting_of d = cc (f, r) in
        let window : are_on_one_window a b ≡ true = eq-eqb a.asked.window b.asked.window one in
        (window, and_both _ _ (and_both _ _ window (both c d c_is d_is (meeting_same_of c d kind))) (eq-eqb _ _ number))
      where
        both : (c d : Collective) → collective_of a.asked.call ≡ Some c → collective_of b.asked.call ≡ Some d →
            is_same_collective c d ≡ true →
            option_map_or (λ collective. is_collective collective b.asked.call) (collective_of a.asked.call) false
            ≡ true
        both c d c_is d_is same = ap (λ o. option_map_or
            (λ collective. is_collective collective b.asked.call) o false) c_is
            ∙ (ap (λ o. option_map_or (is_same_collective c) o false) d_is ∙ same)

-- ---- steps

-- the call names no rank of the run wrongly
abbrev pub right_of : ℕ → Option Synchronisation → Bool
right_of ranks o = option_map_or (names_wrong_rank ranks) o false

one_shared : (a b : Event) → MayMeet a b → right_of b.asked.ranks (synchronisation_of b.asked.call) ≡ false →
    are_on_one_window a b ≡ true → is_matched_one a b One One ≡ true → Meets a.asked One b.asked One
one_shared a b may right window e =
    of (synchronisation_of a.asked.call) (synchronisation_of b.asked.call) refl refl right e
  where
    of : (s t : Option Synchronisation) → synchronisation_of a.asked.call ≡ s → synchronisation_of b.asked.call ≡ t →
        right_of b.asked.ranks t ≡ false →
        option_map_or (λ first. option_map_or (is_edge_by a b first) t false) s false ≡ true →
        Meets a.asked One b.asked One
    of None t s_is t_is right e = absurd (true≢false (sym e))
    of (Some first) None s_is t_is right e = absurd (true≢false (sym e))
    of (Some first) (Some second) s_is t_is right e =
        let pair : Pair a.asked b.asked first second = pair_of a b first second may right window e in
        record {
          slot = pair.slot;
          from = pair.from;
          to = pair.to;
          from_below = pair.from_below;
          to_below = pair.to_below;
          filled = ap (slot_synchronised a.asked pair.from) s_is ∙ pair.filled;
          read = ap (slot_asked b.asked pair.to) t_is ∙ pair.read;
        }

shared_one : (a b : Event) → nat_lt a.place b.place ≡ true → Meets a.asked One b.asked One →
    (are_on_one_window a b ≡ true) × (is_matched_one a b One One ≡ true)
shared_one a b later shared = of (synchronisation_of a.asked.call)
    (synchronisation_of b.asked.call) refl refl shared.filled shared.read
  where
    of : (s t : Option Synchronisation) → synchronisation_of a.asked.call ≡ s → synchronisation_of b.asked.call ≡ t →
        slot_synchronised a.asked shared.from s ≡ Some shared.slot →
        slot_asked b.asked shared.to t ≡ Some shared.slot →
        (are_on_one_window a b ≡ true) × (is_matched_one a b One One ≡ true)
    of None t s_is t_is filled read = cc
    of (Some first) None s_is t_is filled read = cc
    of (Some first) (Some second) s_is t_is filled read =
        let edge : Edge a b first second =
        edge_of a b first second shared.from shared.to shared.slot later filled read in (
          edge.0,
          ap (λ o. option_map_or (λ first. option_map_or (is_edge_by a b first)
              (synchronisation_of b.asked.call) false) o false) s_is
              ∙ (ap (λ o. option_map_or (is_edge_by a b first) o false) t_is ∙ edge.1),
        )

-- the edge between two steps
abbrev pub Stepped : Event → Event → Step → Step → Bool
Stepped a b s t = (is_arrive_to_leave s t && are_of_one_round a b) || is_matched_one a b s t

steps_shared : (a b : Event) (s t : Step) → MayMeet a b →
    right_of b.asked.ranks (synchronisation_of b.asked.call) ≡ false → are_on_one_window a b ≡ true →
    Stepped a b s t ≡ true → Meets a.asked s b.asked t
steps_shared a b Arrive Leave may right window e = round_shared a b (or_none _ e)
steps_shared a b One One may right window e = one_shared a b may right window e
steps_shared a b Arrive Arrive may right window e = absurd (true≢false (sym e))
steps_shared a b Arrive One may right window e = absurd (true≢false (sym e))
steps_shared a b Leave t may right window e = absurd (true≢false (sym e))
steps_shared a b One Arrive may right window e = absurd (true≢false (sym e))
steps_shared a b One Leave may right window e = absurd (true≢false (sym e))

abbrev pub is_round : Slot → Bool
is_round (Round w m r) = true
is_round (Post w f t n) = false
is_round (Complete w f t n) = false
is_round (Unlock w t e) = false

read_no_round : (q : Question) (s : Synchronisation) (at : ℕ) (slot : Slot) → slot_read q s at ≡ Some slot →
    is_round slot ≡ false
read_no_round q (Starts h y) at slot e = ap is_round (sym (if_holds _ _ slot e).1)
read_no_round q (Waits tests) at slot e = ap is_round (sym (if_holds _ _ slot e).1)
read_no_round q (Locks kind target asserts) at slot e = ap is_round (sym (if_holds _ _ slot e).1)
read_no_round q s at slot e = cc e

given_no_round : (q : Question) (s : Synchronisation) (at : ℕ) (slot : Slot) → slot_given q s at ≡ Some slot →
    is_round slot ≡ false
given_no_round q (PostsTo g x) at slot e = ap is_round (sym (if_holds _ _ slot e).1)
given_no_round q Completes at slot e = ap is_round (sym (if_holds _ _ slot e).1)
given_no_round q (Unlocks target) at slot e =
    unlock_case q target at slot e (λ at exclusive reached is held. ap is_round is)
given_no_round q s at slot e = cc e

asked_no_round : (q : Question) (t : Option Synchronisation) (at : ℕ) (slot : Slot) → slot_asked q at t ≡ Some slot →
    is_round slot ≡ false
asked_no_round q None at slot e = cc e
asked_no_round q (Some s) at slot e = read_no_round q s at slot e

synchronised_no_round : (q : Question) (t : Option Synchronisation) (at : ℕ) (slot : Slot) →
    slot_synchronised q at t ≡ Some slot → is_round slot ≡ false
synchronised_no_round q None at slot e = cc e
synchronised_no_round q (Some s) at slot e = given_no_round q s at slot e

arrived_round : (q : Question) (c : Option Collective) (at : ℕ) (slot : Slot) → slot_arrived q at c ≡ Some slot →
    is_round slot ≡ true
arrived_round q None at slot e = cc e
arrived_round q (Some c) at slot e = ap is_round (sym (if_holds _ _ slot e).1)

left_round : (q : Question) (c : Option Collective) (at : ℕ) (slot : Slot) → slot_left q at c ≡ Some slot →
    is_round slot ≡ true
left_round q None at slot e = cc e
left_round q (Some c) at slot e = ap is_round (sym (if_holds _ _ slot e).1)

arrive_apart : (a b : Event) → Meets a.asked Arrive b.asked One → ⊥
arrive_apart a b shared = true≢false
    (sym (arrived_round a.asked (collective_of a.asked.call) shared.from shared.slot shared.filled)
    ∙ asked_no_round b.asked (synchronisation_of b.asked.call) shared.to shared.slot shared.read)

leave_apart : (a b : Event) → Meets a.asked One b.asked Leave → ⊥
leave_apart a b shared = true≢false
    (sym (left_round b.asked (collective_of b.asked.call) shared.to shared.slot shared.read)
    ∙ synchronised_no_round a.asked (synchronisation_of a.asked.call) shared.from shared.slot shared.filled)

shared_steps : (a b : Event) (s t : Step) → nat_lt a.place b.place ≡ true → Meets a.asked s b.asked t →
    (are_on_one_window a b ≡ true) × (Stepped a b s t ≡ true)
shared_steps a b Arrive Leave later shared =
    let edge : (are_on_one_window a b ≡ true) × (are_of_one_round a b ≡ true) = shared_round a b shared in
    (edge.0, or_first _ _ edge.1)
shared_steps a b One One later shared = shared_one a b later shared
shared_steps a b Arrive Arrive later shared = cc shared.read
shared_steps a b Arrive One later shared = absurd (arrive_apart a b shared)
shared_steps a b Leave t later shared = cc shared.filled
shared_steps a b One Arrive later shared = cc shared.read
shared_steps a b One Leave later shared = absurd (leave_apart a b shared)

-- an edge leads to a later entry exactly where it gains from a slot that the earlier one fills
pub edge_meets : (a b : Event) → MayMeet a b → right_of b.asked.ranks (synchronisation_of b.asked.call) ≡ false →
    is_edge a b ≡ do_meet a b
edge_meets a b may right = same_truth (is_edge a b) (do_meet a b)
    (λ edge. meet_of a b (steps_shared a b a.step b.step may right (both_left _ _ edge) (both_right _ _ edge)))
    (λ meet. meet_case a b (λ shared. let edge : (are_on_one_window a b ≡ true) × (Stepped a b a.step b.step ≡ true) =
    shared_steps a b a.step b.step may.later shared in and_both _ _ edge.0 edge.1) meet)
