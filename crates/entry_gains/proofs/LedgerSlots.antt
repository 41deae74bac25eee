-- The slots of an entry, by the tables, are those that the definitions name.
use Rattle.std.proofs.Common.{◌≡◌, ℕ, ◌+◌, ◌-◌, ◌<◌, ◌≤◌, ◌==◌, Bool, true, false, not, ◌&&◌, cond, List, [], length}
use Rattle.std.proofs.Common.{refl, ap, sym, ◌∙◌, arith, ⊎_elim, Option, Some, None, ℤ}
use Rattle.std.proofs.lemmas.Bool.{cases_lt, le-ltb, lt-ltb}
use Rattle.std.proofs.lemmas.List.{length-map}
use Rattle.std.proofs.lemmas.List.Sums.{count_by-le-length, length-filter}
use Rattle.std.specs.List.{count_by, filter}
use Rattle.std.specs.Option.{option_map_or}
use Rattle.std.specs.Prelude.{nat_lt, slice_index, slice_index_or}
use Rattle.rma_types.specs.declared.accesses.Step.{Step}
use Rattle.rma_types.specs.declared.accesses.Step.TheVariants.{Arrive, Leave, One}
use Rattle.rma_types.specs.declared.calls.Lock.{Lock}
use Rattle.rma_types.specs.declared.calls.Lock.TheVariants.{Shared, Exclusive}
use Rattle.rma_types.specs.declared.actions.Action.{Action}
use Rattle.rma_types.specs.declared.actions.Synchronisation.{Synchronisation}
use Rattle.rma_types.specs.declared.actions.Action.TheVariants.{Creates, Frees, Synchronises, Meets as MeetsAll}
use Rattle.rma_types.specs.declared.actions.Synchronisation.TheVariants.{Fences, Posts as PostsTo, Starts as StartsTo}
use Rattle.rma_types.specs.declared.actions.Synchronisation.TheVariants.{Completes as CompletesOne, Waits as WaitsFor}
use Rattle.rma_types.specs.declared.actions.Synchronisation.TheVariants.{Locks as LocksWith, Unlocks as UnlocksOf}
use Rattle.rma_types.specs.declared.actions.Synchronisation.TheVariants.{Flushes, Syncs}
use Rattle.rma_types.specs.Actions.{action_of, synchronisation_in, synchronisation_of}
use Rattle.call_rules.specs.Ranks.{is_member, members_of}
use Rattle.rank_rules.specs.EpochTests.{is_wrong_rank}
use Rattle.board_rules.specs.Entries.{Act, Collective, Creation as CreationOf, Freeing as FreeingOf, Fence as FenceOf}
use Rattle.board_rules.specs.Entries.{Barrier as BarrierOf, arrivals, collective_in, collective_of, is_arrive, is_by_on}
use Rattle.board_rules.specs.Entries.{is_collective}
use Rattle.board_rules.specs.Locks.{is_exclusive}
use Rattle.board_rules.specs.Posts.{completed_groups, completes, last_posted, naming, posts, starts}
use Rattle.board_rules.specs.Questions.{Question}
use Rattle.board_rules.specs.Rounds.{rounds_begun}
use Rattle.entry_gains.specs.Deeds.{IsDeed, IsReach, IsSynchronisationDeed}
use Rattle.entry_gains.specs.Given.{given_slot, group_ended, is_reached, kind_held, meeting_of, reached_slot, read_slot}
use Rattle.entry_gains.specs.Given.{slot_arrived, slot_asked, slot_given, slot_left, slot_read, slot_synchronised}
use Rattle.entry_gains.specs.Ledgers.{HasTables, deed_arrived, deed_given, deed_left, deed_read, kind_reached}
use Rattle.entry_gains.specs.Ledgers.{round_key, side_key, start_key, step_given, step_read}
use Rattle.entry_gains.specs.Plans.{slot_if, unlock_slot_of}
use Rattle.entry_gains.specs.Tables.{begun_at, counted, held_at, is_within, lock_key, ordinals_at, side_at}
use Rattle.entry_gains.specs.declared.deeds.Deed.{Deed}
use Rattle.entry_gains.specs.declared.deeds.Deed.TheVariants.{Meets}
use Rattle.entry_gains.specs.declared.deeds.Reach.{Reach}
use Rattle.entry_gains.specs.declared.ledger.Ledger.{Ledger}
use Rattle.entry_gains.specs.declared.slots.Slot.{Slot}
use Rattle.entry_gains.specs.declared.slots.Slot.TheVariants.{Round, Post, Complete, Unlock}
use Rattle.entry_gains.proofs.DeedKinds.{locks_case, posts_case, starts_case, unlocks_case}
use Rattle.entry_gains.proofs.MeetEdges.{right_of}
use Rattle.entry_gains.proofs.SlotPairs.{reached_below}

-- ---- rounds

pub few_arrivals : (entries : List Act) (collective : Collective) (rank window : ℕ) →
    length (arrivals entries collective rank window) ≤ length entries
few_arrivals entries collective rank window =
    let p : Act → Bool = λ act. is_by_on rank window act && is_arrive act.row.step && is_collective collective
    act.row.call in
    let a : length (arrivals entries collective rank window)
    ≡ count_by (λ act. is_by_on rank window act && is_arrive act.row.step && is_collective collective act.row.call)
    entries =
    length-map (filter (λ act. is_by_on rank window act && is_arrive act.row.step && is_collective collective
    act.row.call) entries) (λ (act : Act). act.row.call)
    ∙ length-filter (λ act. is_by_on rank window act && is_arrive act.row.step && is_collective collective
    act.row.call) entries in
    let b : count_by (λ act. is_by_on rank window act && is_arrive act.row.step && is_collective collective
    act.row.call) entries ≤ length entries =
    count_by-le-length (λ act. is_by_on rank window act && is_arrive act.row.step && is_collective collective
    act.row.call) entries in
    omega arith

begun_is : (q : Question) (ledger : Ledger) (collective : Collective) → collective_of q.call ≡ Some collective →
    HasTables q.ranks q.entries ledger →
    begun_at ledger.rounds (round_key q.window (meeting_of collective) q.rank) ≡ rounds_begun q
begun_is q ledger collective is tables =
    tables.rounds q.window collective q.rank
    ∙ sym (ap (λ o. length (option_map_or (λ collective. arrivals q.entries collective q.rank q.window) o [])) is)

pub counted_is : (n : ℕ) → n < 4294967295 → counted n ≡ n + 1
counted_is n small = omega arith

arrived_at : (q : Question) (ledger : Ledger) (collective : Collective) → collective_of q.call ≡ Some collective →
    HasTables q.ranks q.entries ledger → length q.entries < 4294967295 → (at : ℕ) →
    deed_arrived ledger q.window q.rank (Meets (meeting_of collective)) at ≡ slot_arrived q at (Some collective)
arrived_at q ledger collective is tables few at =
    let number : begun_at ledger.rounds (round_key q.window (meeting_of collective) q.rank) ≡ rounds_begun q =
    begun_is q ledger collective is tables in
    let small : begun_at ledger.rounds (round_key q.window (meeting_of collective) q.rank)
    ≡ length (arrivals q.entries collective q.rank q.window) = tables.rounds q.window collective q.rank in
    let below : length (arrivals q.entries collective q.rank q.window) ≤ length q.entries =
    few_arrivals q.entries collective q.rank q.window in
    ap (λ n. slot_if (at == 0) (Round q.window (meeting_of collective) n))
    (counted_is (begun_at ledger.rounds (round_key q.window (meeting_of collective) q.rank)) (omega arith)
    ∙ ap (λ n. n + 1) number)

left_at : (q : Question) (ledger : Ledger) (collective : Collective) → collective_of q.call ≡ Some collective →
    HasTables q.ranks q.entries ledger → (at : ℕ) →
    deed_left ledger q.window q.rank (Meets (meeting_of collective)) at ≡ slot_left q at (Some collective)
left_at q ledger collective is tables at =
    ap (λ n. slot_if (at == 0) (Round q.window (meeting_of collective) n)) (begun_is q ledger collective is tables)

-- ---- synchronisations

slot_alike : (at : ℕ) (x y : Bool) (s t : Slot) → (at < 16 → x ≡ y) → (at < 16 → s ≡ t) →
    slot_if (nat_lt at 16 && x) s ≡ slot_if (nat_lt at 16 && y) t
slot_alike at x y s t tests slots = ⊎_elim
    (λ below. ap (λ b. slot_if (nat_lt at 16 && b) s) (tests below) ∙ ap (slot_if (nat_lt at 16 && y)) (slots below))
    (λ past. ap (λ b. slot_if (b && x) s) (le-ltb at 16 past) ∙ sym (ap (λ b. slot_if (b && y) t) (le-ltb at 16 past)))
    (cases_lt at 16)

number_alike : (at : ℕ) (member : Bool) (window rank n m : ℕ) → (at < 16 → n ≡ cond member (m + 1) 0) →
    slot_if (nat_lt at 16 && nat_lt 0 n) (Complete window rank at n)
    ≡ slot_if (nat_lt at 16 && member) (Complete window rank at (m + 1))
number_alike at member window rank n m is = ⊎_elim
    (λ below. ap (λ k. slot_if (nat_lt at 16 && nat_lt 0 k) (Complete window rank at k)) (is below)
    ∙ of member (nat_lt at 16))
    (λ past. ap (λ b. slot_if (b && nat_lt 0 n) (Complete window rank at n)) (le-ltb at 16 past)
    ∙ sym (ap (λ b. slot_if (b && member) (Complete window rank at (m + 1))) (le-ltb at 16 past)))
    (cases_lt at 16)
  where
    of : (member b : Bool) → slot_if (b && nat_lt 0 (cond member (m + 1) 0))
        (Complete window rank at (cond member (m + 1) 0)) ≡ slot_if (b && member) (Complete window rank at (m + 1))
    of true b = ap (λ x. slot_if (b && x) (Complete window rank at (m + 1))) (lt-ltb 0 (m + 1) (omega arith))
    of false true = refl
    of false false = refl

reached_alike : (window at : ℕ) (exclusive x y : Bool) (k l : Option Lock) → x ≡ y → (y ≡ true → k ≡ l) →
    unlock_slot_of window at exclusive (cond x k None) ≡ cond y (unlock_slot_of window at exclusive l) None
reached_alike window at exclusive x true k l e same =
    ap (λ b. unlock_slot_of window at exclusive (cond b k None)) e ∙ ap (unlock_slot_of window at exclusive) (same refl)
reached_alike window at exclusive x false k l e same = ap (λ b. unlock_slot_of window at exclusive (cond b k None)) e

unlock_at : (q : Question) (ledger : Ledger) (target : Option ℤ) (reach : Reach) (exclusive : Bool) →
    HasTables q.ranks q.entries ledger → q.ranks ≤ 16 → is_wrong_rank q.ranks target ≡ false →
    IsReach q.ranks target reach → (at : ℕ) → at < 32 →
    unlock_slot_of q.window at exclusive (kind_reached ledger q.window q.rank reach at)
    ≡ reached_slot q target exclusive at
unlock_at q ledger target reach exclusive tables few right is at below =
    reached_alike q.window at exclusive (is_within reach at) (is_reached q.ranks target at)
    (held_at ledger.held (lock_key (side_key q.window q.rank) at)) (kind_held q at) (is at below)
    (λ reached. tables.held q.window q.rank at (reached_below q.ranks target at few right reached))

pub synchronisation_given : (q : Question) (ledger : Ledger) (deed : Deed) (s : Synchronisation) →
    HasTables q.ranks q.entries ledger → q.ranks ≤ 16 → right_of q.ranks (Some s) ≡ false →
    IsSynchronisationDeed q.ranks s deed → (at : ℕ) → at < 32 →
    deed_given ledger q.window q.rank deed at ≡ slot_given q s at
synchronisation_given q ledger deed (Fences asserts) tables few right is at below =
    ap (λ d. deed_given ledger q.window q.rank d at) is
synchronisation_given q ledger deed (PostsTo group asserts) tables few right is at below =
    posts_case (λ d. deed_given ledger q.window q.rank d at ≡ slot_given q (PostsTo group asserts) at)
    (members_of group) deed
    (λ named told. slot_alike at (slice_index_or named at false) (is_member at (members_of group))
    (Post q.window q.rank at (slice_index (side_at ledger.sides (side_key q.window q.rank)).posted_to at))
    (Post q.window q.rank at (naming at (posts q q.rank)))
    (told at) (λ within. ap (Post q.window q.rank at) ((tables.sides q.window q.rank).posted at within))) is
synchronisation_given q ledger deed (StartsTo group asserts) tables few right is at below =
    starts_case (λ d. deed_given ledger q.window q.rank d at ≡ slot_given q (StartsTo group asserts) at)
    (members_of group) deed (λ named told. refl) is
synchronisation_given q ledger deed CompletesOne tables few right is at below =
    ap (λ d. deed_given ledger q.window q.rank d at) is
    ∙ number_alike at (is_member at (group_ended q)) q.window q.rank
    (slice_index (ordinals_at ledger.started
    (start_key q.window q.rank (side_at ledger.sides (side_key q.window q.rank)).completes)) at)
    (naming at (completed_groups q q.rank))
    (λ within. ap (λ n. slice_index (ordinals_at ledger.started (start_key q.window q.rank n)) at)
    (tables.sides q.window q.rank).completes
    ∙ tables.started q.window q.rank (completes q q.rank) at within)
synchronisation_given q ledger deed (WaitsFor tests) tables few right is at below =
    ap (λ d. deed_given ledger q.window q.rank d at) is
synchronisation_given q ledger deed (LocksWith kind target asserts) tables few right is at below =
    locks_case (λ d. deed_given ledger q.window q.rank d at
    ≡ slot_given q (LocksWith kind target asserts) at) q.ranks kind target deed (λ one reach same told. refl) is
synchronisation_given q ledger deed (UnlocksOf target) tables few right is at below =
    unlocks_case (λ d. deed_given ledger q.window q.rank d at ≡ slot_given q (UnlocksOf target) at) q.ranks target deed
    (λ reach told. of reach told (nat_lt at 16)) is
  where
    of : (reach : Reach) → IsReach q.ranks target reach → (b : Bool) →
        cond b (unlock_slot_of q.window at false (kind_reached ledger q.window q.rank reach at))
        (unlock_slot_of q.window (at - 16) true (kind_reached ledger q.window q.rank reach (at - 16)))
        ≡ cond b (reached_slot q target false at) (reached_slot q target true (at - 16))
    of reach told true = unlock_at q ledger target reach false tables few right told at below
    of reach told false = unlock_at q ledger target reach true tables few right told (at - 16) (omega arith)
synchronisation_given q ledger deed (Flushes target local) tables few right is at below =
    ap (λ d. deed_given ledger q.window q.rank d at) is
synchronisation_given q ledger deed Syncs tables few right is at below =
    ap (λ d. deed_given ledger q.window q.rank d at) is

pub synchronisation_read : (q : Question) (ledger : Ledger) (deed : Deed) (s : Synchronisation) →
    HasTables q.ranks q.entries ledger → IsSynchronisationDeed q.ranks s deed → (at : ℕ) → at < 32 →
    deed_read ledger q.window q.rank deed at ≡ slot_read q s at
synchronisation_read q ledger deed (Fences asserts) tables is at below =
    ap (λ d. deed_read ledger q.window q.rank d at) is
synchronisation_read q ledger deed (PostsTo group asserts) tables is at below =
    posts_case (λ d. deed_read ledger q.window q.rank d at ≡ slot_read q (PostsTo group asserts) at)
    (members_of group) deed (λ named told. refl) is
synchronisation_read q ledger deed (StartsTo group asserts) tables is at below =
    starts_case (λ d. deed_read ledger q.window q.rank d at ≡ slot_read q (StartsTo group asserts) at)
    (members_of group) deed
    (λ named told. slot_alike at (slice_index_or named at false) (is_member at (members_of group))
    (Post q.window at q.rank (slice_index (side_at ledger.sides (side_key q.window q.rank)).started_to at))
    (Post q.window at q.rank (naming at (starts q q.rank)))
    (told at) (λ within. ap (Post q.window at q.rank) ((tables.sides q.window q.rank).started at within))) is
synchronisation_read q ledger deed CompletesOne tables is at below = ap (λ d. deed_read ledger q.window q.rank d at) is
synchronisation_read q ledger deed (WaitsFor tests) tables is at below =
    ap (λ d. deed_read ledger q.window q.rank d at) is
    ∙ slot_alike at (slice_index_or (side_at ledger.sides (side_key q.window q.rank)).last_post at false)
    (is_member at (last_posted q))
    (Complete q.window at q.rank (slice_index (side_at ledger.sides (side_key q.window q.rank)).posted_to at))
    (Complete q.window at q.rank (naming at (posts q q.rank)))
    ((tables.sides q.window q.rank).last at)
    (λ within. ap (Complete q.window at q.rank) ((tables.sides q.window q.rank).posted at within))
synchronisation_read q ledger deed (LocksWith kind target asserts) tables is at below =
    locks_case (λ d. deed_read ledger q.window q.rank d at
    ≡ slot_read q (LocksWith kind target asserts) at) q.ranks kind target deed
    (λ one reach same told. ap (λ b. slot_if b (Unlock q.window at (cond (is_exclusive one) false true)))
    (told at below)
    ∙ ap (λ x. slot_if (is_reached q.ranks target at) (Unlock q.window at x)) (of one
    ∙ ap (λ k. not (is_exclusive k)) same)) is
  where
    of : (one : Lock) → cond (is_exclusive one) false true ≡ not (is_exclusive one)
    of Shared = refl
    of Exclusive = refl
synchronisation_read q ledger deed (UnlocksOf target) tables is at below =
    unlocks_case (λ d. deed_read ledger q.window q.rank d at
    ≡ slot_read q (UnlocksOf target) at) q.ranks target deed (λ reach told. refl) is
synchronisation_read q ledger deed (Flushes target local) tables is at below =
    ap (λ d. deed_read ledger q.window q.rank d at) is
synchronisation_read q ledger deed Syncs tables is at below = ap (λ d. deed_read ledger q.window q.rank d at) is

-- ---- steps

synchronises_collective : (q : Question) (ledger : Ledger) (deed : Deed) (s : Synchronisation) →
    collective_of q.call ≡ collective_in (Synchronises 0 s) → HasTables q.ranks q.entries ledger →
    IsSynchronisationDeed q.ranks s deed → (at : ℕ) →
    (length q.entries < 4294967295 → deed_arrived ledger q.window q.rank deed at
    ≡ slot_arrived q at (collective_in (Synchronises 0 s))) × (deed_left ledger q.window q.rank deed at
    ≡ slot_left q at (collective_in (Synchronises 0 s)))
synchronises_collective q ledger deed (Fences asserts) c_is tables is at = (
  λ few. ap (λ d. deed_arrived ledger q.window q.rank d at) is
      ∙ arrived_at q ledger FenceOf c_is tables few at,
  ap (λ d. deed_left ledger q.window q.rank d at) is
      ∙ left_at q ledger FenceOf c_is tables at,
)
synchronises_collective q ledger deed (PostsTo group asserts) c_is tables is at =
    posts_case (λ d. (length q.entries < 4294967295 →
    deed_arrived ledger q.window q.rank d at ≡ None) × (deed_left ledger q.window q.rank d at ≡ None))
    (members_of group) deed (λ named told. (λ few. refl, refl)) is
synchronises_collective q ledger deed (StartsTo group asserts) c_is tables is at =
    starts_case (λ d. (length q.entries < 4294967295 →
    deed_arrived ledger q.window q.rank d at ≡ None) × (deed_left ledger q.window q.rank d at ≡ None))
    (members_of group) deed (λ named told. (λ few. refl, refl)) is
synchronises_collective q ledger deed CompletesOne c_is tables is at =
    (λ few. ap (λ d. deed_arrived ledger q.window q.rank d at) is, ap (λ d. deed_left ledger q.window q.rank d at) is)
synchronises_collective q ledger deed (WaitsFor tests) c_is tables is at =
    (λ few. ap (λ d. deed_arrived ledger q.window q.rank d at) is, ap (λ d. deed_left ledger q.window q.rank d at) is)
synchronises_collective q ledger deed (LocksWith kind target asserts) c_is tables is at =
    locks_case (λ d. (length q.entries < 4294967295 →
    deed_arrived ledger q.window q.rank d at ≡ None) × (deed_left ledger q.window q.rank d at
    ≡ None)) q.ranks kind target deed (λ one reach same told. (λ few. refl, refl)) is
synchronises_collective q ledger deed (UnlocksOf target) c_is tables is at =
    unlocks_case (λ d. (length q.entries < 4294967295 →
    deed_arrived ledger q.window q.rank d at ≡ None) × (deed_left ledger q.window q.rank d at
    ≡ None)) q.ranks target deed (λ reach told. (λ few. refl, refl)) is
synchronises_collective q ledger deed (Flushes target local) c_is tables is at =
    (λ few. ap (λ d. deed_arrived ledger q.window q.rank d at) is, ap (λ d. deed_left ledger q.window q.rank d at) is)
synchronises_collective q ledger deed Syncs c_is tables is at =
    (λ few. ap (λ d. deed_arrived ledger q.window q.rank d at) is, ap (λ d. deed_left ledger q.window q.rank d at) is)

collective_slots : (q : Question) (ledger : Ledger) (deed : Deed) (action : Action) →
    collective_of q.call ≡ collective_in action → HasTables q.ranks q.entries ledger → IsDeed q.ranks action deed →
    (at : ℕ) →
    (length q.entries < 4294967295 → deed_arrived ledger q.window q.rank deed at
    ≡ slot_arrived q at (collective_in action)) × (deed_left ledger q.window q.rank deed at
    ≡ slot_left q at (collective_in action))
collective_slots q ledger deed (Creates creation) c_is tables is at = (
  λ few. ap (λ d. deed_arrived ledger q.window q.rank d at) is
      ∙ arrived_at q ledger CreationOf c_is tables few at,
  ap (λ d. deed_left ledger q.window q.rank d at) is
      ∙ left_at q ledger CreationOf c_is tables at,
)
collective_slots q ledger deed (Frees win) c_is tables is at = (
  λ few. ap (λ d. deed_arrived ledger q.window q.rank d at) is
      ∙ arrived_at q ledger FreeingOf c_is tables few at,
  ap (λ d. deed_left ledger q.window q.rank d at) is
      ∙ left_at q ledger FreeingOf c_is tables at,
)
collective_slots q ledger deed MeetsAll c_is tables is at = (
  λ few. ap (λ d. deed_arrived ledger q.window q.rank d at) is
      ∙ arrived_at q ledger BarrierOf c_is tables few at,
  ap (λ d. deed_left ledger q.window q.rank d at) is
      ∙ left_at q ledger BarrierOf c_is tables at,
)
collective_slots q ledger deed (Synchronises win s) c_is tables is at =
    synchronises_collective q ledger deed s c_is tables is at
collective_slots q ledger deed action c_is tables is at =
    (λ few. ap (λ d. deed_arrived ledger q.window q.rank d at) is, ap (λ d. deed_left ledger q.window q.rank d at) is)

one_slots : (q : Question) (ledger : Ledger) (deed : Deed) (action : Action) → HasTables q.ranks q.entries ledger →
    q.ranks ≤ 16 → right_of q.ranks (synchronisation_in action) ≡ false → IsDeed q.ranks action deed → (at : ℕ) →
    at < 32 →
    (deed_given ledger q.window q.rank deed at
    ≡ slot_synchronised q at (synchronisation_in action)) × (deed_read ledger q.window q.rank deed at
    ≡ slot_asked q at (synchronisation_in action))
one_slots q ledger deed (Synchronises win s) tables few right is at below = (
  synchronisation_given q ledger deed s tables few right is at below,
  synchronisation_read q ledger deed s tables is at below,
)
one_slots q ledger deed action tables few right is at below =
    (ap (λ d. deed_given ledger q.window q.rank d at) is, ap (λ d. deed_read ledger q.window q.rank d at) is)

-- the slots that an entry fills
pub given_slots : (q : Question) (ledger : Ledger) (deed : Deed) (step : Step) → HasTables q.ranks q.entries ledger →
    q.ranks ≤ 16 → length q.entries < 4294967295 → right_of q.ranks (synchronisation_of q.call) ≡ false →
    IsDeed q.ranks (action_of q.call) deed → (at : ℕ) → at < 32 →
    step_given ledger q.window q.rank step deed at ≡ given_slot q step at
given_slots q ledger deed Arrive tables few count right is at below =
    (collective_slots q ledger deed (action_of q.call) refl tables is at).0 count
given_slots q ledger deed Leave tables few count right is at below = refl
given_slots q ledger deed One tables few count right is at below =
    (one_slots q ledger deed (action_of q.call) tables few right is at below).0

-- the slots from which an entry gains
pub read_slots : (q : Question) (ledger : Ledger) (deed : Deed) (step : Step) → HasTables q.ranks q.entries ledger →
    q.ranks ≤ 16 → right_of q.ranks (synchronisation_of q.call) ≡ false → IsDeed q.ranks (action_of q.call) deed →
    (at : ℕ) → at < 32 →
    step_read ledger q.window q.rank step deed at ≡ read_slot q step at
read_slots q ledger deed Arrive tables few right is at below = refl
read_slots q ledger deed Leave tables few right is at below =
    (collective_slots q ledger deed (action_of q.call) refl tables is at).1
read_slots q ledger deed One tables few right is at below =
    (one_slots q ledger deed (action_of q.call) tables few right is at below).1
