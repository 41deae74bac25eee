-- Two folds of the updates of a cell: those below a place, and those that a test leaves.
use Rattle.std.proofs.Common.{◌≡◌, ℕ, zero, suc, ◌+◌, ◌-◌, ◌<◌, ◌≤◌, ◌⊎◌, inl, inr, Bool, true, false, cond, List, []}
use Rattle.std.proofs.Common.{◌∷◌, Option, Some, None, refl, ap, sym, ◌∙◌, subst, arith}
use Rattle.std.specs.List.{filter, find, count_by}
use Rattle.std.specs.Option.{option_map_or}
use Rattle.std.proofs.lemmas.Bool.{cases_lt, eqb-true}
use Rattle.list_laws.proofs.Members.{In, here, there}
use Rattle.list_laws.proofs.Tests.{count_cons}
use Rattle.rma_types.specs.Datatypes.{size_of}
use Rattle.call_rules.specs.declared.elements.Change.{Change}
use Rattle.lawful_runs.specs.Accesses.{Touching}
use Rattle.lawful_runs.specs.Cells.{has_place, bits_after, state}
use Rattle.read_laws.proofs.Bytes.{byte_of, DoAgree}
use Rattle.read_laws.proofs.Changes.{IsInCell, apart_stays, change_agrees}

-- ---- what is found in a filtered list

-- an element that passes a test, or none
abbrev pub kept_if : {X : Type 0} → Bool → X → Option X
kept_if b x = cond b (Some x) None

-- an element counts one or none
one_counts : (b : Bool) (n whole : ℕ) → whole ≡ cond b 1 0 + n → b ≡ true → whole ≤ 1 → n ≡ 0
one_counts true n whole e passes small = omega arith
one_counts false n whole e passes small = absurd (cc passes)

rest_counts : (b : Bool) (n whole : ℕ) → whole ≡ cond b 1 0 + n → whole ≤ 1 → n ≤ 1
rest_counts true n whole e small = omega arith
rest_counts false n whole e small = omega arith

fails_where_none : (b : Bool) (n whole : ℕ) → whole ≡ cond b 1 0 + n → whole ≡ 0 → (b ≡ false) × (n ≡ 0)
fails_where_none true n whole e none = absurd (omega arith)
fails_where_none false n whole e none = (refl, omega arith)

none_found : {X : Type 0} (q p : X → Bool) (xs : List X) → count_by q xs ≡ 0 → find q (filter p xs) ≡ None
none_found q p [] none = refl
none_found {X} q p (x ∷ xs) none =
    let fails = fails_where_none (q x) (count_by q xs) (count_by q (x ∷ xs)) (count_cons q x xs) none in
    by_test (p x) fails.0 (none_found q p xs fails.1)
  where
    by_test : (b : Bool) → q x ≡ false → find q (filter p xs) ≡ None →
        find q (cond b (x ∷ filter p xs) (filter p xs)) ≡ None
    by_test true fails rest = ap (λ t. cond t (Some x) (find q (filter p xs))) fails ∙ rest
    by_test false fails rest = rest

-- of an element that stands at most once, what the test leaves
pub found_if : {X : Type 0} (q p : X → Bool) (xs : List X) → count_by q xs ≤ 1 →
    find q (filter p xs) ≡ option_map_or (λ x. kept_if (p x) x) (find q xs) None
found_if q p [] once = refl
found_if {X} q p (x ∷ xs) once = by_tests (q x) (p x) refl refl (λ few. found_if q p xs few)
  where
    by_tests : (b c : Bool) → q x ≡ b → p x ≡ c →
        (count_by q xs ≤ 1 → find q (filter p xs) ≡ option_map_or (λ y. kept_if (p y) y) (find q xs) None) →
        find q (cond c (x ∷ filter p xs) (filter p xs))
        ≡ option_map_or (λ y. kept_if (p y) y) (cond b (Some x) (find q xs)) None
    by_tests true true is passes rest = ap (λ t. cond t (Some x) (find q (filter p xs))) is
        ∙ sym (ap (λ t. kept_if t x) passes)
    by_tests true false is fails rest =
        none_found q p xs (one_counts (q x) (count_by q xs) (count_by q (x ∷ xs)) (count_cons q x xs) is once)
        ∙ sym (ap (λ t. kept_if t x) fails)
    by_tests false true is passes rest =
        ap (λ t. cond t (Some x) (find q (filter p xs))) is
        ∙ rest (rest_counts (q x) (count_by q xs) (count_by q (x ∷ xs)) (count_cons q x xs) once)
    by_tests false false is fails rest =
        rest (rest_counts (q x) (count_by q xs) (count_by q (x ∷ xs)) (count_cons q x xs) once)

pub find_in : {X : Type 0} (q : X → Bool) (xs : List X) (x : X) → find q xs ≡ Some x → In x xs × (q x ≡ true)
find_in q [] x e = absurd (cc e)
find_in {X} q (y ∷ ys) x e = by_test (q y) refl (λ later. find_in q ys x later) e
  where
    by_test : (b : Bool) → q y ≡ b → (find q ys ≡ Some x → In x ys × (q x ≡ true)) →
        cond b (Some y) (find q ys) ≡ Some x → In x (y ∷ ys) × (q x ≡ true)
    by_test true is rest e =
        let same : y ≡ x = cc e in (subst (λ z. In z (y ∷ ys)) same here, subst (λ z. q z ≡ true) same is)
    by_test false is rest e = let later = rest e in (there later.0, later.1)

-- ---- the two folds

abbrev pub after_found : ℕ → Option Touching → ℕ
after_found bits found = option_map_or (λ (update : Touching). bits_after bits update.change) found bits

-- the bytes of an element are apart from some bytes, or share one with them
abbrev AreApart : Change → ℕ → ℕ → Type 0
AreApart change first count = (change.first_byte + size_of change.dtype ≤ first) ⊎ (first + count ≤ change.first_byte)

abbrev pub DoShare : Change → ℕ → ℕ → Type 0
DoShare change first count = (first < change.first_byte + size_of change.dtype) × (change.first_byte < first + count)

share_or_apart : (change : Change) (first count : ℕ) → DoShare change first count ⊎ AreApart change first count
share_or_apart change first count = elim (cases_lt first (change.first_byte + size_of change.dtype)) [
  | inr apart ↦ inr (inl apart)
  | inl low ↦ elim (cases_lt change.first_byte (first + count)) [
    | inl high ↦ inl (low, high)
    | inr apart ↦ inr (inr apart)
  ]
]

-- the updates of a cell: each is the only one of its place, and changes an element of the cell
pub record AreUpdates (updates : List Touching) : Type 0 where
  pub once : (place : ℕ) → count_by (has_place place) updates ≤ 1
  pub inside : (update : Touching) (change : Change) → In update updates → update.change ≡ Some change → IsInCell change

-- Which bytes are needed after so many updates: fewer updates need them too, and an update that changes one of them
-- passes the test, and changes no other byte, or the bytes that it changes are needed before it.
pub record AreNeeded (updates : List Touching) (test : Touching → Bool) (Needs : ℕ → ℕ → ℕ → Type 0) : Type 0 where
  pub fewer : (k first count : ℕ) → Needs (suc k) first count → Needs k first count
  pub within : (k first count : ℕ) → Needs k first count → first + count ≤ 4
  pub passes : (update : Touching) (change : Change) (first count : ℕ) → In update updates →
      update.change ≡ Some change →
      Needs (suc update.place) first count → DoShare change first count → test update ≡ true
  pub widens : (update : Touching) (change : Change) (first count : ℕ) → In update updates →
      update.change ≡ Some change →
      Needs (suc update.place) first count → DoShare change first count →
      ((first ≤ change.first_byte) × (change.first_byte + size_of change.dtype ≤ first + count))
      ⊎ Needs update.place change.first_byte (size_of change.dtype)

module _ (updates : List Touching) (test : Touching → Bool) (are : AreUpdates updates) where
  abbrev left : ℕ → ℕ
  left k = state (filter test updates) k

  left_next : (k : ℕ) → left (suc k) ≡ after_found (left k)
      (option_map_or (λ x. kept_if (test x) x) (find (has_place k) updates) None)
  left_next k = ap (after_found (state (filter test updates) k)) (found_if (has_place k) test updates (are.once k))

  -- one more update that is apart
  apart_test : (b : Bool) (update : Touching) (change : Change) (bits first count : ℕ) → update.change ≡ Some change →
      IsInCell change → first + count ≤ 4 → AreApart change first count →
      DoAgree first count (after_found bits (kept_if b update)) bits
  apart_test true update change bits first count is i within apart =
      subst (λ c. DoAgree first count (bits_after bits c) bits) (sym is)
      (apart_stays change bits first count i within apart)
  apart_test false update change bits first count is i within apart = λ at low high. refl

  joined : (first count a b c d : ℕ) → DoAgree first count a b → DoAgree first count b c → DoAgree first count d c →
      DoAgree first count a d
  joined first count a b c d one two three = λ at low high. one at low high ∙ two at low high ∙ sym (three at low high)

  -- ---- below the place

  module _ (Needs : ℕ → ℕ → ℕ → Type 0) (needed : AreNeeded updates test Needs) where
    step : (k first count : ℕ) (found : Option Touching) → find (has_place k) updates ≡ found →
        Needs (suc k) first count →
        DoAgree first count (state updates k) (left k) →
        ((first count : ℕ) → Needs k first count → DoAgree first count (state updates k) (left k)) →
        DoAgree first count (after_found (state updates k) found)
        (after_found (left k) (option_map_or (λ x. kept_if (test x) x) found None))
    step k first count None is needs agree wider = agree
    step k first count (Some update) is needs agree wider = by_change update.change refl
      where
        member : In update updates × (has_place k update ≡ true)
        member = find_in (has_place k) updates update is

        place : update.place ≡ k
        place = eqb-true update.place k member.1

        needs_here : Needs (suc update.place) first count
        needs_here = subst (λ n. Needs (suc n) first count) (sym place) needs

        within : first + count ≤ 4
        within = needed.within (suc k) first count needs

        by_change : (c : Option Change) → update.change ≡ c →
            DoAgree first count (after_found (state updates k) (Some update))
            (after_found (left k) (kept_if (test update) update))
        by_change None none = λ at low high.
            ap (λ c. byte_of (bits_after (state updates k) c) at) none ∙ agree at low high
            ∙ sym (stays (test update) at)
          where
            stays : (b : Bool) (at : ℕ) → byte_of (after_found (left k) (kept_if b update)) at ≡ byte_of (left k) at
            stays true at = ap (λ c. byte_of (bits_after (left k) c) at) none
            stays false at = refl
        by_change (Some change) some = elim (share_or_apart change first count) [
          | inr apart ↦ joined first count (after_found (state updates k) (Some update)) (state updates k) (left k)
              (after_found (left k) (kept_if (test update) update))
              (apart_test true update change (state updates k) first count some
              (are.inside update change member.0 some) within apart)
              agree (apart_test (test update) update change (left k) first count some
              (are.inside update change member.0 some) within apart)
          | inl shared ↦
              let passes = needed.passes update change first count member.0 some needs_here shared in
              let element : DoAgree change.first_byte (size_of change.dtype) (state updates k) (left k) =
              elim (needed.widens update change first count member.0 some needs_here shared) [
                | inl inner ↦ λ at low high. agree at (omega (arith, inner.0)) (omega (arith, inner.1))
                | inr outer ↦ wider change.first_byte (size_of change.dtype)
                    (subst (λ n. Needs n change.first_byte (size_of change.dtype)) place outer)
              ] in
              let both = change_agrees change (state updates k) (left k) first count
              (are.inside update change member.0 some) within agree element in
              subst (λ b. DoAgree first count (after_found (state updates k) (Some update))
              (after_found (left k) (kept_if b update))) (sym passes)
              (subst (λ c. DoAgree first count (bits_after (state updates k) c) (bits_after (left k) c)) (sym some)
              both)
        ]

    -- what is needed after so many updates agrees
    below : (k first count : ℕ) → Needs k first count → DoAgree first count (state updates k) (left k)
    below zero first count needs = λ at low high. refl
    below (suc k) first count needs =
        subst (DoAgree first count (state updates (suc k))) (sym (left_next k))
        (step k first count (find (has_place k) updates) refl needs
        (below k first count (needed.fewer k first count needs)) (below k))

  -- ---- from the place on

  above_step : (k first count bits : ℕ) (found : Option Touching) → find (has_place k) updates ≡ found →
      first + count ≤ 4 →
      ((update : Touching) (change : Change) → In update updates → update.change ≡ Some change → update.place ≡ k →
      DoShare change first count → test update ≡ false) →
      DoAgree first count (after_found bits (option_map_or (λ x. kept_if (test x) x) found None)) bits
  above_step k first count bits None is within fails = λ at low high. refl
  above_step k first count bits (Some update) is within fails = by_change update.change refl
    where
      member : In update updates × (has_place k update ≡ true)
      member = find_in (has_place k) updates update is

      by_change : (c : Option Change) → update.change ≡ c →
          DoAgree first count (after_found bits (kept_if (test update) update)) bits
      by_change None none = λ at low high. stays (test update) at
        where
          stays : (b : Bool) (at : ℕ) → byte_of (after_found bits (kept_if b update)) at ≡ byte_of bits at
          stays true at = ap (λ c. byte_of (bits_after bits c) at) none
          stays false at = refl
      by_change (Some change) some = elim (share_or_apart change first count) [
        | inr apart ↦ apart_test (test update) update change bits first count some
            (are.inside update change member.0 some) within apart
        | inl shared ↦
            let refutes = fails update change member.0 some (eqb-true update.place k member.1) shared in
            subst (λ b. DoAgree first count (after_found bits (kept_if b update)) bits) (sym refutes)
            (λ at low high. refl)
      ]

  above : (more k first count : ℕ) → first + count ≤ 4 →
      ((update : Touching) (change : Change) → In update updates → update.change ≡ Some change → k ≤ update.place →
      DoShare change first count → test update ≡ false) →
      DoAgree first count (left k) (left (k + more))
  above zero k first count within fails = λ at low high. let same : k ≡ k + 0 = omega arith in
      ap (λ n. byte_of (left n) at) same
  above (suc more) k first count within fails =
      let rest = above more k first count within fails in
      let last = subst (λ b. DoAgree first count b (left (k + more))) (sym (left_next (k + more)))
      (above_step (k + more) first count (left (k + more)) (find (has_place (k + more)) updates) refl within
      (λ update change m some at shared. fails update change m some (omega (arith, at)) shared)) in
      let same : suc (k + more) ≡ k + suc more = omega arith in
      λ at low high. rest at low high ∙ sym (last at low high) ∙ ap (λ n. byte_of (left n) at) same

-- the two folds agree on the bytes that are needed at the place, where no update from there on that the test leaves
-- changes one
pub folds_agree : (updates : List Touching) (test : Touching → Bool) (Needs : ℕ → ℕ → ℕ →
    Type 0) (place total first count : ℕ) →
    AreUpdates updates → AreNeeded updates test Needs → Needs place first count → place ≤ total →
    ((update : Touching) (change : Change) → In update updates → update.change ≡ Some change → place ≤ update.place →
    DoShare change first count → test update ≡ false) →
    DoAgree first count (state updates place) (state (filter test updates) total)
folds_agree updates test Needs place total first count are needed needs most fails =
    let one = below updates test are Needs needed place first count needs in
    let two = above updates test are (total - place) place first count (needed.within place first count needs) fails in
    let same : place + (total - place) ≡ total = omega arith in
    λ at low high. one at low high ∙ two at low high ∙ ap (λ n. byte_of (state (filter test updates) n) at) same
