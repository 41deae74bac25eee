-- What one synchronisation more does to a side.
use Rattle.std.proofs.Common.{◌≡◌, ℕ, zero, suc, ◌+◌, ◌<◌, ◌≤◌, Bool, true, false, cond, List, [], ◌∷◌, ◌++◌, length}
use Rattle.std.proofs.Common.{get_or, take, reverse, refl, ap, sym, ◌∙◌, arith, append-nil, ⊎_elim}
use Rattle.std.proofs.lemmas.Bool.{cases_lt}
use Rattle.std.proofs.lemmas.Grind.{flat_map-append}
use Rattle.std.proofs.lemmas.List.{length-append, take-append-le}
use Rattle.std.proofs.lemmas.List.Sums.{count_by-le-length}
use Rattle.std.specs.List.{count_by, flat_map}
use Rattle.std.specs.Prelude.{slice_index, slice_index_or}
use Rattle.list_laws.proofs.Lists.{last_of}
use Rattle.list_laws.proofs.Tests.{count_append}
use Rattle.rma_types.specs.declared.calls.Asserts.{Asserts}
use Rattle.rma_types.specs.declared.actions.Synchronisation.{Synchronisation}
use Rattle.rma_types.specs.declared.actions.Synchronisation.TheVariants.{Posts as PostsTo, Starts as StartsTo}
use Rattle.rma_types.specs.declared.actions.Synchronisation.TheVariants.{Completes as CompletesOne}
use Rattle.call_rules.specs.Ranks.{is_member, members_of}
use Rattle.board_rules.specs.Posts.{group_of_post, group_of_start, is_complete, naming}
use Rattle.std.specs.Prelude.{ℤ}
use Rattle.board_rules.proofs.PostLaws.{naming_more}
use Rattle.entry_gains.specs.Deeds.{IsGroup}
use Rattle.entry_gains.specs.Ledgers.{HasCompleted, HasPosted, HasStarted, IsSide, ordinal}
use Rattle.entry_gains.specs.Tables.{counted}
use Rattle.entry_gains.specs.declared.tables.Side.{Side}
use Rattle.entry_gains.proofs.LedgerSlots.{counted_is}

-- ---- counts

pub length_flat : {X Y : Type 0} (f : X → List Y) → ((x : X) → length (f x) ≤ 1) → (xs : List X) →
    length (flat_map f xs) ≤ length xs
length_flat f few [] = omega arith
length_flat f few (x ∷ xs) =
    let here : length (f x) ≤ 1 = few x in
    let later : length (flat_map f xs) ≤ length xs = length_flat f few xs in
    let all : length (f x ++ flat_map f xs) ≡ length (f x) + length (flat_map f xs) =
    length-append (f x) (flat_map f xs) in
    omega arith

pub one_post : (s : Synchronisation) → length (group_of_post s) ≤ 1
one_post (PostsTo group asserts) = omega arith
one_post s = omega arith

pub one_start : (s : Synchronisation) → length (group_of_start s) ≤ 1
one_start (StartsTo group asserts) = omega arith
one_start s = omega arith

-- the synchronisations are fewer than a count may be
pub naming_few : (rank : ℕ) (f : Synchronisation → List (List ℕ)) → ((s : Synchronisation) → length (f s) ≤ 1) →
    (made : List Synchronisation) → length made < 4294967295 → naming rank (flat_map f made) < 4294967295
naming_few rank f one made few =
    let a : naming rank (flat_map f made) ≤ length (flat_map f made) =
    count_by-le-length (is_member rank) (flat_map f made) in
    let b : length (flat_map f made) ≤ length made = length_flat f one made in
    omega arith

raised_is : (n m : ℕ) (x y : Bool) → n ≡ m → m < 4294967295 → x ≡ y → cond x (counted n) n ≡ m + cond y 1 0
raised_is n m x true same few is = ap (λ b. cond b (counted n) n) is ∙ (ap counted same ∙ counted_is m few)
raised_is n m x false same few is =
    let plain : m ≡ m + 0 = omega arith in
    ap (λ b. cond b (counted n) n) is ∙ (same ∙ plain)

-- ---- a synchronisation that brings nothing to a list

flat_same : {Y : Type 0} (f : Synchronisation → List Y) (made : List Synchronisation) (s : Synchronisation) →
    f s ≡ [] → flat_map f (made ++ s ∷ []) ≡ flat_map f made
flat_same f made s none =
    flat_map-append f made (s ∷ []) ∙ (ap (λ ys. flat_map f made ++ (ys ++ [])) none ∙ append-nil (flat_map f made))

flat_one : {Y : Type 0} (f : Synchronisation → List Y) (made : List Synchronisation) (s : Synchronisation) (y : Y) →
    f s ≡ y ∷ [] → flat_map f (made ++ s ∷ []) ≡ flat_map f made ++ y ∷ []
flat_one f made s y one =
    flat_map-append f made (s ∷ []) ∙ ap (λ ys. flat_map f made ++ (ys ++ [])) one

count_none : (made : List Synchronisation) (s : Synchronisation) → is_complete s ≡ false →
    count_by is_complete (made ++ s ∷ []) ≡ count_by is_complete made
count_none made s none =
    let plain : count_by is_complete made + (0 + cond false 1 0) ≡ count_by is_complete made = omega arith in
    count_append is_complete made (s ∷ []) ∙ (ap (λ b. count_by is_complete made + (0 + cond b 1 0)) none ∙ plain)

-- a synchronisation that is no post, no start and no complete
pub idle_side : (made : List Synchronisation) (s : Synchronisation) (side : Side) → group_of_post s ≡ [] →
    group_of_start s ≡ [] → is_complete s ≡ false → IsSide made side → IsSide (made ++ s ∷ []) side
idle_side made s side posts starts completes is = record {
  posted = λ to below. is.posted to below ∙ sym (ap (naming to) (flat_same group_of_post made s posts));
  started = λ to below. is.started to below ∙ sym (ap (naming to) (flat_same group_of_start made s starts));
  last = λ to below. is.last to below
      ∙ sym (ap (λ groups. is_member to (slice_index_or (reverse groups) 0 [])) (flat_same group_of_post made s posts));
  starts = is.starts ∙ sym (ap length (flat_same group_of_start made s starts));
  completes = is.completes ∙ sym (count_none made s completes);
}

-- ---- a post, a start and a complete

pub post_side : (made : List Synchronisation) (group : List ℤ) (asserts : Asserts) (side new : Side)
    (named : List Bool) → length made < 4294967295 → IsGroup named (members_of group) → HasPosted side new named →
    IsSide made side →
    IsSide (made ++ PostsTo group asserts ∷ []) new
post_side made group asserts side new named few told has is = record {
  posted = λ to below. has.posted to below
      ∙ (raised_is (slice_index side.posted_to to) (naming to (flat_map group_of_post made))
      (slice_index_or named to false) (is_member to (members_of group)) (is.posted to below)
      (naming_few to group_of_post one_post made few) (told to below)
      ∙ sym (ap (naming to) (flat_one group_of_post made (PostsTo group asserts) (members_of group) refl)
      ∙ naming_more to (flat_map group_of_post made) (members_of group)));
  started = λ to below. ap (λ counts. slice_index counts to) has.started
      ∙ (is.started to below ∙ sym (ap (naming to) (flat_same group_of_start made (PostsTo group asserts) refl)));
  last = λ to below. ap (λ last. slice_index_or last to false) has.last ∙ (told to below
      ∙ sym (ap (λ groups. is_member to (slice_index_or (reverse groups) 0 []))
      (flat_one group_of_post made (PostsTo group asserts) (members_of group) refl)
      ∙ ap (is_member to) (last_of (flat_map group_of_post made) (members_of group))));
  starts = has.starts ∙ (is.starts ∙ sym (ap length (flat_same group_of_start made (PostsTo group asserts) refl)));
  completes = has.completes ∙ (is.completes ∙ sym (count_none made (PostsTo group asserts) refl));
}

starts_few : (made : List Synchronisation) → length made < 4294967295 →
    length (flat_map group_of_start made) < 4294967295
starts_few made few =
    let b : length (flat_map group_of_start made) ≤ length made = length_flat group_of_start one_start made in
    omega arith

pub start_side : (made : List Synchronisation) (group : List ℤ) (asserts : Asserts) (side new : Side)
    (named : List Bool) → length made < 4294967295 → IsGroup named (members_of group) → HasStarted side new named →
    IsSide made side →
    IsSide (made ++ StartsTo group asserts ∷ []) new
start_side made group asserts side new named few told has is = record {
  started = λ to below. has.started to below
      ∙ (raised_is (slice_index side.started_to to) (naming to (flat_map group_of_start made))
      (slice_index_or named to false) (is_member to (members_of group)) (is.started to below)
      (naming_few to group_of_start one_start made few) (told to below)
      ∙ sym (ap (naming to) (flat_one group_of_start made (StartsTo group asserts) (members_of group) refl)
      ∙ naming_more to (flat_map group_of_start made) (members_of group)));
  posted = λ to below. ap (λ counts. slice_index counts to) has.posted
      ∙ (is.posted to below ∙ sym (ap (naming to) (flat_same group_of_post made (StartsTo group asserts) refl)));
  last = λ to below. ap (λ last. slice_index_or last to false) has.last ∙ (is.last to below
      ∙ sym (ap (λ groups. is_member to (slice_index_or (reverse groups) 0 []))
      (flat_same group_of_post made (StartsTo group asserts) refl)));
  starts = has.starts ∙ (ap counted is.starts
      ∙ (counted_is (length (flat_map group_of_start made)) (starts_few made few)
      ∙ sym (ap length (flat_one group_of_start made (StartsTo group asserts) (members_of group) refl)
      ∙ length-append (flat_map group_of_start made) (members_of group ∷ []))));
  completes = has.completes ∙ (is.completes ∙ sym (count_none made (StartsTo group asserts) refl));
}

pub complete_side : (made : List Synchronisation) (side new : Side) → length made < 4294967295 →
    HasCompleted side new → IsSide made side → IsSide (made ++ CompletesOne ∷ []) new
complete_side made side new few has is =
    let small : count_by is_complete made ≤ length made = count_by-le-length is_complete made in
    let one : count_by is_complete made + (0 + 1) ≡ count_by is_complete made + 1 = omega arith in
    record {
      posted = λ to below. ap (λ counts. slice_index counts to) has.posted
          ∙ (is.posted to below ∙ sym (ap (naming to) (flat_same group_of_post made CompletesOne refl)));
      started = λ to below. ap (λ counts. slice_index counts to) has.started
          ∙ (is.started to below ∙ sym (ap (naming to) (flat_same group_of_start made CompletesOne refl)));
      last = λ to below. ap (λ last. slice_index_or last to false) has.last ∙ (is.last to below
          ∙ sym (ap (λ groups. is_member to (slice_index_or (reverse groups) 0 []))
          (flat_same group_of_post made CompletesOne refl)));
      starts = has.starts ∙ (is.starts ∙ sym (ap length (flat_same group_of_start made CompletesOne refl)));
      completes = has.completes ∙ (ap counted is.completes ∙ (counted_is (count_by is_complete made) (omega arith)
          ∙ sym (count_append is_complete made (CompletesOne ∷ []) ∙ one)));
    }

-- ---- the numbers of a start

get_or_last : (groups : List (List ℕ)) (group : List ℕ) → get_or (groups ++ group ∷ []) (length groups) [] ≡ group
get_or_last [] group = refl
get_or_last (one ∷ groups) group = get_or_last groups group

get_or_other : (groups : List (List ℕ)) (group : List ℕ) (n : ℕ) → (n ≡ length groups → ⊥) →
    get_or (groups ++ group ∷ []) n [] ≡ get_or groups n []
get_or_other [] group zero ne = absurd (ne refl)
get_or_other [] group (suc n) ne = refl
get_or_other (one ∷ groups) group zero ne = refl
get_or_other (one ∷ groups) group (suc n) ne = get_or_other groups group n (λ e. ne (ap suc e))

get_or_past : (groups : List (List ℕ)) (n : ℕ) → length groups ≤ n → get_or groups n [] ≡ []
get_or_past [] n past = refl
get_or_past (one ∷ groups) zero past = absurd (omega arith)
get_or_past (one ∷ groups) (suc n) past = get_or_past groups n (omega arith)

take_length : (groups : List (List ℕ)) (group : List ℕ) → take (length groups) (groups ++ group ∷ []) ≡ groups
take_length [] group = refl
take_length (one ∷ groups) group = ap (λ xs. one ∷ xs) (take_length groups group)

-- of the new start, and of every other
pub ordinal_new : (to : ℕ) (groups : List (List ℕ)) (group : List ℕ) →
    ordinal to (groups ++ group ∷ []) (length groups) ≡ cond (is_member to group) (naming to groups + 1) 0
ordinal_new to groups group =
    ap (λ one. cond (is_member to one) (naming to (take (length groups) (groups ++ group ∷ [])) + 1) 0)
    (get_or_last groups group)
    ∙ ap (λ xs. cond (is_member to group) (naming to xs + 1) 0) (take_length groups group)

pub ordinal_other : (to : ℕ) (groups : List (List ℕ)) (group : List ℕ) (n : ℕ) → (n ≡ length groups → ⊥) →
    ordinal to (groups ++ group ∷ []) n ≡ ordinal to groups n
ordinal_other to groups group n ne =
    ap (λ one. cond (is_member to one) (naming to (take n (groups ++ group ∷ [])) + 1) 0)
    (get_or_other groups group n ne)
    ∙ ⊎_elim
    (λ below. ap (λ xs. cond (is_member to (get_or groups n [])) (naming to xs + 1) 0)
    (take-append-le n groups (group ∷ []) (omega arith)))
    (λ past. ap (λ one. cond (is_member to one) (naming to (take n (groups ++ group ∷ [])) + 1) 0)
    (get_or_past groups n past)
    ∙ sym (ap (λ one. cond (is_member to one) (naming to (take n groups) + 1) 0) (get_or_past groups n past)))
    (cases_lt n (length groups))
