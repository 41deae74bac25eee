-- What is tested of each member of a group, by one truth for each rank.
use Rattle.std.proofs.Common.{◌≡◌, ℕ, ◌<◌, Bool, true, false, ◌||◌, eqb, List, [], ◌∷◌, refl, ap, sym, ◌∙◌, get_or}
use Rattle.std.proofs.Common.{⊎_elim}
use Rattle.std.specs.List.{list_all}
use Rattle.std.proofs.lemmas.Bool.{eq-eqb, eqb-true, or_cases, and_left, and_right}
use Rattle.call_rules.specs.Ranks.{is_member}
use Rattle.sync_board.specs.Sides.{IsGroup, AreRanks}

pub all_of : (test : ℕ → Bool) (group : List ℕ) → ((rank : ℕ) → is_member rank group ≡ true → test rank ≡ true) →
    list_all test group ≡ true
all_of test [] each = refl
all_of test (rank ∷ ranks) each =
    let here : test rank ≡ true = each rank (ap (λ b. b || is_member rank ranks) (eq-eqb rank rank refl)) in
    let later : list_all test ranks ≡ true = all_of test ranks
    (λ other member. each other (or_true (eqb rank other) (is_member other ranks) member)) in
    rw (here, later) refl
  where
    or_true : (a b : Bool) → b ≡ true → (a || b) ≡ true
    or_true true b e = refl
    or_true false b e = e

pub not_all_of : (test : ℕ → Bool) (group : List ℕ) (rank : ℕ) → is_member rank group ≡ true → test rank ≡ false →
    list_all test group ≡ false
not_all_of test [] rank member fails = absurd (let e : false ≡ true = member in cc)
not_all_of test (other ∷ ranks) rank member fails =
    ⊎_elim
    (λ same. and_left (test other) (list_all test ranks) (ap test (eqb-true other rank same) ∙ fails))
    (λ later. and_right (test other) (list_all test ranks) (not_all_of test ranks rank later fails))
    (or_cases (eqb other rank) (is_member rank ranks) member)

-- all ranks that are told pass
pub all_told : (test : ℕ → Bool) (named : List Bool) (group : List ℕ) → IsGroup named group → AreRanks group →
    ((rank : ℕ) → rank < 16 → get_or named rank false ≡ true → test rank ≡ true) → list_all test group ≡ true
all_told test named group same ranks each = all_of test group
    (λ rank member. each rank (ranks rank member) (same rank (ranks rank member) ∙ member))

-- one rank that is told fails
pub one_told : (test : ℕ → Bool) (named : List Bool) (group : List ℕ) (rank : ℕ) → IsGroup named group → rank < 16 →
    get_or named rank false ≡ true → test rank ≡ false → list_all test group ≡ false
one_told test named group rank same within told fails = not_all_of test group rank (sym (same rank within) ∙ told) fails
