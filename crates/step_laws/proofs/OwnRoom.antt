-- What lies in memory where a rank does not refuse a call: the ranges that it names, and the bytes that it reaches.
use Rattle.std.proofs.Common.{◌≡◌, ℕ, zero, suc, ◌+◌, ◌*◌, ◌%◌, ◌<◌, ◌≤◌, Bool, true, false, cond, not, List, [], ◌∷◌}
use Rattle.std.proofs.Common.{Option, Some, None, refl, sym, ◌∙◌, ap, subst, arith}
use Rattle.std.specs.Prelude.{◌&&◌, ◌||◌, ◌==◌, nat_lt, nat_le, map, ℤ, pos, negsuc, int_lt, ◌+ℤ◌, slice_index_or}
use Rattle.std.specs.List.{filter, list_any, list_all, AllByRecursion}
use Rattle.std.specs.Option.{option_map_or}
use Rattle.std.proofs.lemmas.Bool.{and_parts, or_parts, not-false, eqb-true, ltb-true, ltb-false, le-ltb}
use Rattle.list_laws.proofs.Each.{each_kept}
use Rattle.rma_types.specs.declared.accesses.Access.{Access}
use Rattle.rma_types.specs.declared.calls.Call.{Call}
use Rattle.rma_types.specs.declared.calls.Flavor.{Flavor}
use Rattle.rma_types.specs.declared.calls.Flavor.TheVariants.{Allocate, Create, Dynamic}
use Rattle.rma_types.specs.declared.classes.Class.TheVariants.{Disp, Range as RangeClass}
use Rattle.rma_types.specs.declared.scripts.Layout.{Layout}
use Rattle.rma_types.specs.declared.scripts.Part.{Part}
use Rattle.rma_types.specs.Datatypes.{size_of}
use Rattle.rma_types.specs.declared.actions.Action.{Action}
use Rattle.rma_types.specs.declared.actions.Creation.{Creation}
use Rattle.rma_types.specs.declared.actions.Target.{Target}
use Rattle.rma_types.specs.declared.actions.Transfer.{Transfer}
use Rattle.rma_types.specs.declared.actions.Action.TheVariants.{Creates, Attaches, Moves}
use Rattle.rma_types.specs.declared.actions.Target.TheVariants.{Own, Null, Named}
use Rattle.call_rules.specs.Pieces.{numbers_from}
use Rattle.call_rules.specs.Ranks.{natural, is_rank}
use Rattle.call_rules.specs.Transfers.{rank_reached, bytes_of}
use Rattle.rank_rules.specs.Classes.{Test, first_class}
use Rattle.rank_rules.specs.Courses.{OneNull, OneIssue, LookUpAndIssue, course_of_transfer, access_on}
use Rattle.rank_rules.specs.Epochs.{Epochs}
use Rattle.rank_rules.specs.EpochTests.{is_wrong_target, epoch_tests, epoch_class}
use Rattle.rank_rules.specs.Ranges.{Range, has_byte, covers}
use Rattle.rank_rules.specs.Windows.{Window, OwnRange, RankWindows, window_of_name, is_live, is_same_flavor, part_at}
use Rattle.rank_rules.specs.Windows.{attached_to}
use Rattle.rank_rules.specs.WindowTests.{is_outside, is_in_use, has_wrong_base, is_not_dynamic, address_in}
use Rattle.rank_rules.specs.WindowTests.{is_misplaced, passes_end, is_unattached, part_reached, address_of}
use Rattle.rank_rules.specs.WindowTests.{is_out_of_range, has_rank_and_count, place_tests, window_tests, window_class}
use Rattle.rank_rules.proofs.ClassLaws.{none_applies}
use Rattle.step_laws.proofs.Lists.{each_mapped, number_among}
use Rattle.step_laws.proofs.OwnTests.{HasIssue}
use Rattle.step_laws.specs.Inside.{bytes_at, LiesInMemory}
pub use Rattle.step_laws.specs.Rooms.{FitsMemory, IsByAddress, IsRoomyWindow, EndsInMemory, AreRoomy}

-- ---- ranges of a space

-- a range that is not outside a space ends within it
not_outside : (space : ℕ) (base bytes : ℤ) → int_lt base (pos 0) ≡ false → int_lt bytes (pos 0) ≡ false →
    int_lt (pos space) (base +ℤ bytes) ≡ false → natural base + natural bytes ≤ space
not_outside space (pos a) (pos b) e f g = ltb-false space (a + b) g
not_outside space (pos a) (negsuc b) e f g = absurd (cc f)
not_outside space (negsuc a) bytes e f g = absurd (cc e)

-- a positive number is not below 0
positive : (bytes : ℤ) → int_lt bytes (pos 1) ≡ false → int_lt bytes (pos 0) ≡ false
positive (pos n) e = le-ltb n 0 (omega arith)
positive (negsuc n) e = absurd (cc e)

-- a created window's range lies in the space
pub creation_is_inside : (known : RankWindows) (creation : Creation) → window_class known (Creates creation) ≡ None →
    creation.flavor ≡ Create →
    natural creation.base + natural creation.bytes ≤ known.space
creation_is_inside known creation e made =
    let tests = none_applies (window_tests known (Creates creation)) e in
    let range : (is_outside known creation.base creation.bytes || is_in_use known creation.base creation.bytes) ≡
    false =
    ap (λ f. has_wrong_base known f creation.base creation.bytes) (sym made) ∙ tests.1.1.0 in
    let outside = or_parts (is_outside known creation.base creation.bytes)
    (is_in_use known creation.base creation.bytes) range in
    let ends = or_parts (int_lt creation.base (pos 0)) (int_lt (pos known.space) (creation.base +ℤ creation.bytes))
    outside.0 in
    not_outside known.space creation.base creation.bytes ends.0 tests.1.0 ends.1

-- so does an attached range
pub attach_is_inside : (known : RankWindows) (win : ℕ) (base bytes : ℤ) →
    window_class known (Attaches win base bytes) ≡ None → natural base + natural bytes ≤ known.space
attach_is_inside known win base bytes e =
    let tests = none_applies (window_tests known (Attaches win base bytes)) e in
    let ends = or_parts (int_lt base (pos 0)) (int_lt (pos known.space) (base +ℤ bytes)) tests.1.1.1.0 in
    not_outside known.space base bytes ends.0 (positive bytes tests.1.1.0) ends.1

-- ---- bytes of ranges

-- each element passes
all_pass : {X : Type 0} (test : X → Bool) (xs : List X) → list_all test xs ≡ true →
    AllByRecursion (λ x. test x ≡ true) xs
all_pass test [] e = tt
all_pass test (x ∷ xs) e = let parts = and_parts (test x) (list_all test xs) e in (parts.0, all_pass test xs parts.1)

-- some element passes, and has the property of all
some_passes : {X : Type 0} (P : X → Type 0) (test : X → Bool) (xs : List X) → AllByRecursion P xs →
    list_any test xs ≡ true → (x : X) × P x × (test x ≡ true)
some_passes P test [] h e = absurd (cc e)
some_passes {X} P test (x ∷ xs) h e = by_test (test x) refl (some_passes P test xs h.1) e
  where
    by_test : (b : Bool) → test x ≡ b → (list_any test xs ≡ true → (y : X) × P y × (test y ≡ true)) →
        (b || list_any test xs) ≡ true → (y : X) × P y × (test y ≡ true)
    by_test true t rest e = (x, h.0, t)
    by_test false t rest e = rest e

-- a byte that some ranges cover lies where they do
pub covered_is_inside : (most : ℕ) (ranges : List Range) (lo len : ℕ) →
    AllByRecursion (λ (range : Range). range.base + range.bytes ≤ most) ranges → covers ranges lo len ≡ true →
    (address : ℕ) → lo ≤ address → address < lo + len → address < most
covered_is_inside most ranges lo len fit covered address low high =
    let has : list_any (has_byte address) ranges ≡ true =
    number_among (λ a. list_any (has_byte a) ranges ≡ true) lo len address
    (all_pass (λ a. list_any (has_byte a) ranges) (numbers_from lo len) covered) low high in
    let range = some_passes (λ (r : Range). r.base + r.bytes ≤ most) (has_byte address) ranges fit has in
    let byte = and_parts (nat_le range.0.base address) (nat_lt address (range.0.base + range.0.bytes)) range.2 in
    within address (range.0.base + range.0.bytes) most (ltb-true address (range.0.base + range.0.bytes) byte.1) range.1
  where
    within : (a b c : ℕ) → a < b → b ≤ c → a < c
    within a b c h k = omega arith

-- ---- windows that lie in memory

-- the ranges that are attached to a window of the rank lie in its memory
attached_fit : (memory : Layout) (known : RankWindows) (win : ℕ) → AreRoomy memory known →
    AllByRecursion (λ (range : Range). range.base + range.bytes ≤ bytes_at memory known.rank) (attached_to known win)
attached_fit memory known win roomy =
    each_mapped (EndsInMemory memory known.rank)
    (λ (range : Range). range.base + range.bytes ≤ bytes_at memory known.rank) (λ (own : OwnRange). own.range)
    (λ own h. h)
    (filter (λ (own : OwnRange). own.is_attached && own.win == win) known.ranges)
    (each_kept (EndsInMemory memory known.rank) (λ (own : OwnRange). own.is_attached && own.win == win) known.ranges
    roomy.ranges)

-- ---- transfers

-- the address of a transfer that is not misplaced is aligned
aligned_if : (part : Part) (t : Transfer) → is_misplaced part t.disp t.dtype ≡ false →
    address_in part t.disp % size_of t.dtype ≡ 0
aligned_if part t e =
    let parts = or_parts (int_lt t.disp (pos 0)) (not (address_in part t.disp % size_of t.dtype == 0)) e in
    eqb-true (address_in part t.disp % size_of t.dtype) 0
    (not-false (address_in part t.disp % size_of t.dtype == 0) parts.1)

-- a transfer that does not pass the end of a part lies where the part does
ends_if : (most : ℕ) (part : Part) (t : Transfer) → part.base + part.bytes ≤ most →
    passes_end part t.disp (bytes_of t) ≡ false →
    (address : ℕ) → address_in part t.disp ≤ address → address < address_in part t.disp + bytes_of t → address < most
ends_if most part t fits e address low high =
    within address (address_in part t.disp + bytes_of t) (part.base + part.bytes) most high
    (ltb-false (part.base + part.bytes) (address_in part t.disp + bytes_of t) e) fits
  where
    within : (a b c d : ℕ) → a < b → b ≤ c → c ≤ d → a < d
    within a b c d h k l = omega arith

-- the transfer has a target
abbrev pub HasTarget : Target → Type 0
HasTarget Own = Unit {0}
HasTarget Null = ⊥
HasTarget (Named rank) = Unit {0}

-- where the count is right and the rank is one, the place is tested
abbrev pub HasRightPlace : RankWindows → Window → Transfer → Type 0
HasRightPlace known window t =
    (is_misplaced (part_reached known window t) t.disp t.dtype ≡ false) × (is_out_of_range known window t ≡ false)

place_passed : (known : RankWindows) (window : Window) (t : Transfer) → has_rank_and_count known.ranks t ≡ true →
    first_class (place_tests known window t) ≡ None → HasRightPlace known window t
place_passed known window t right e =
    let places : List Test = (is_misplaced (part_reached known window t) t.disp t.dtype, Disp) ∷
    (is_out_of_range known window t, RangeClass) ∷ [] in
    let tests = none_applies places (subst (λ b. first_class (cond b places []) ≡ None) right e) in
    (tests.0, tests.1.0)

-- the count and the rank of a transfer that passes are right
pub counts_and_ranks : (ranks : ℕ) (epochs : List Epochs) (t : Transfer) → epoch_class ranks epochs (Moves t) ≡ None →
    (int_lt t.count (pos 0) ≡ false) × (is_wrong_target ranks t.target ≡ false)
counts_and_ranks ranks epochs t e = let tests = none_applies (epoch_tests ranks epochs (Moves t)) e
    in (tests.0, tests.1.1.0)

count_is_right : (ranks : ℕ) (t : Transfer) (target : Target) → t.target ≡ target → HasTarget target →
    int_lt t.count (pos 0) ≡ false → is_wrong_target ranks target ≡ false →
    has_rank_and_count ranks t ≡ true
count_is_right ranks t Own is some count rank =
    subst (λ (x : Target). has_rank_and_count ranks (record t { target = x }) ≡ true) (sym is) (ap not count)
count_is_right ranks t Null is some count rank = absurd some
count_is_right ranks t (Named r) is some count rank =
    subst (λ (x : Target). has_rank_and_count ranks (record t { target = x }) ≡ true) (sym is)
    (both (is_rank ranks r) (int_lt t.count (pos 0)) rank count)
  where
    both : (a b : Bool) → not a ≡ false → b ≡ false → (a && not b) ≡ true
    both true true e f = absurd (cc f)
    both true false e f = refl
    both false b e f = absurd (cc e)

-- a transfer with an Issue has a target
pub issue_has_target : (known : RankWindows) (t : Transfer) (target : Target) → t.target ≡ target →
    HasIssue (course_of_transfer known t) → HasTarget target
issue_has_target known t Own is h = tt
issue_has_target known t Null is h = subst
    (λ (x : Target). HasIssue (course_of_transfer known (record t { target = x }))) is h
issue_has_target known t (Named rank) is h = tt

-- the place of a transfer that has an Issue and passes all tests is right
pub right_place : (known : RankWindows) (epochs : List Epochs) (window : Window) (t : Transfer) →
    HasIssue (course_of_transfer known t) →
    epoch_class known.ranks epochs (Moves t) ≡ None → first_class (place_tests known window t) ≡ None →
    HasRightPlace known window t
right_place known epochs window t h own place =
    let right = counts_and_ranks known.ranks epochs t own in
    place_passed known window t
    (count_is_right known.ranks t t.target refl (issue_has_target known t t.target refl h) right.0 right.1) place

-- a transfer to a rank of a dynamic window has a look-up
not_looked_up : (known : RankWindows) (t : Transfer) (window : Window) (rank : ℤ) → t.target ≡ Named rank →
    window_of_name known t.win ≡ Some window →
    is_same_flavor window.flavor Dynamic ≡ true → course_of_transfer known t ≡ OneIssue → ⊥
not_looked_up known t window rank is live dynamic course =
    let named = subst (λ (x : Target). course_of_transfer known (record t { target = x }) ≡ OneIssue) is course in
    let looks = subst (λ (o : Option Window). cond
    (option_map_or (λ (w : Window). is_same_flavor w.flavor Dynamic) o false) LookUpAndIssue OneIssue ≡ OneIssue)
    live named in
    let both = subst (λ b. cond b LookUpAndIssue OneIssue ≡ OneIssue) dynamic looks in
    absurd (cc both)

-- the access of a transfer without a look-up lies in memory
pub access_lies : (memory : Layout) (known : RankWindows) (t : Transfer) (window : Window) → AreRoomy memory known →
    IsRoomyWindow memory window →
    window_of_name known t.win ≡ Some window → course_of_transfer known t ≡ OneIssue → HasRightPlace known window t →
    LiesInMemory memory (access_on known t window) t.dtype
access_lies memory known t window roomy room live course right = record {
  inside = by_flavor (is_same_flavor window.flavor Dynamic) refl right.1;
  aligned = aligned_if (part_reached known window t) t right.0;
}
  where
    Inside : Type 0
    Inside = (address : ℕ) → address_of known window t ≤ address → address < address_of known window t + bytes_of t →
        address < bytes_at memory (rank_reached known.rank t.target)

    by_target : (target : Target) → t.target ≡ target → is_same_flavor window.flavor Dynamic ≡ true →
        is_unattached known window.win t.target (address_of known window t) (bytes_of t) ≡ false → HasTarget target →
        Inside
    by_target Own is dynamic attached some = λ address low high.
        subst (λ (x : Target). address < bytes_at memory (rank_reached known.rank x)) (sym is)
        (covered_is_inside (bytes_at memory known.rank) (attached_to known window.win) (address_of known window t)
        (bytes_of t) (attached_fit memory known window.win roomy)
        (not-false (covers (attached_to known window.win) (address_of known window t) (bytes_of t))
        (subst (λ (x : Target). is_unattached known window.win x (address_of known window t) (bytes_of t) ≡ false) is
        attached)) address low high)
    by_target Null is dynamic attached some = absurd some
    by_target (Named rank) is dynamic attached some = absurd (not_looked_up known t window rank is live dynamic course)

    by_flavor : (b : Bool) → is_same_flavor window.flavor Dynamic ≡ b →
        cond b (is_unattached known window.win t.target (address_of known window t) (bytes_of t))
        (passes_end (part_reached known window t) t.disp (bytes_of t)) ≡ false → Inside
    by_flavor true dynamic e = by_target t.target refl dynamic e
        (issue_has_target known t t.target refl (subst HasIssue (sym course) tt))
    by_flavor false dynamic e =
        ends_if (bytes_at memory (rank_reached known.rank t.target)) (part_reached known window t) t
        (room.parts (rank_reached known.rank t.target)) e

-- the access of a transfer whose look-up found all its bytes attached lies in memory
pub looked_up_lies : (memory : Layout) (known : RankWindows) (t : Transfer) (window : Window) (ranges : List Range) →
    IsRoomyWindow memory window →
    is_same_flavor window.flavor Dynamic ≡ true → HasRightPlace known window t →
    AllByRecursion (λ (range : Range). range.base + range.bytes ≤ bytes_at memory (rank_reached known.rank t.target))
    ranges →
    covers ranges (natural t.disp) (bytes_of t) ≡ true → LiesInMemory memory (access_on known t window) t.dtype
looked_up_lies memory known t window ranges room dynamic right fit covered = record {
  inside = λ address low high. covered_is_inside (bytes_at memory (rank_reached known.rank t.target)) ranges
      (natural t.disp) (bytes_of t) fit covered address
      (subst (λ n. n ≤ address) same low) (subst (λ n. address < n + bytes_of t) same high);
  aligned = aligned_if (part_reached known window t) t right.0;
}
  where
    part : Part
    part = part_reached known window t

    same : address_in part t.disp ≡ natural t.disp
    same =
        let at = room.addresses dynamic (rank_reached known.rank t.target) in
        ap (λ b. b + natural t.disp * part.unit) at.0 ∙ ap (λ u. 0 + natural t.disp * u) at.1 ∙ plain (natural t.disp)
      where
        plain : (n : ℕ) → 0 + n * 1 ≡ n
        plain n = omega arith
