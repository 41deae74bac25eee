-- How many windows of each name are made, with one more.
use Rattle.std.proofs.Common.{◌≡◌, ℕ, ◌+◌, ◌<◌, inl, inr, Bool, true, false, cond, List, [], ◌∷◌, ◌++◌, length}
use Rattle.std.proofs.Common.{refl, sym, ◌∙◌, ap, subst, arith, length-set}
use Rattle.std.specs.Prelude.{◌==◌, ◌≢◌, nat_lt, replicate, slice_index, slice_set}
use Rattle.std.specs.List.{count_by}
use Rattle.std.proofs.lemmas.Bool.{eq-eqb, ne_eqb, cases_eq, lt-ltb}
use Rattle.std.proofs.lemmas.List.{get_or-set_same, get_or-set_other, get_or-replicate, length-replicate}
use Rattle.list_laws.proofs.Tests.{one_more}
use Rattle.window_regions.specs.RoundsMade.{AreRounds, AreFewRounds, with_round}

-- no window is made
pub none_made : AreRounds [] (replicate 32 0)
none_made = record {
  length = length-replicate {A = ℕ} 32 0;
  counts = λ win below. get_or-replicate 32 win 0 0 below;
  few = λ win below. let e : slice_index (replicate 32 0) win ≡ 0 = get_or-replicate 32 win 0 0 below in omega arith;
}

elsewhere : (rounds : List ℕ) (win value name : ℕ) (b : Bool) → name ≢ win →
    slice_index (cond b (slice_set rounds win value) rounds) name ≡ slice_index rounds name
elsewhere rounds win value name true apart = get_or-set_other rounds win name value 0 apart
elsewhere rounds win value name false apart = refl

here : (rounds : List ℕ) (win value : ℕ) (b : Bool) → b ≡ true → win < length rounds →
    slice_index (cond b (slice_set rounds win value) rounds) win ≡ value
here rounds win value true e inside = get_or-set_same rounds win value 0 inside
here rounds win value false e inside = absurd (cc e)

as_long : (rounds : List ℕ) (win value : ℕ) (b : Bool) →
    length (cond b (slice_set rounds win value) rounds) ≡ length rounds
as_long rounds win value true = length-set rounds win value
as_long rounds win value false = refl

-- one window more of the name
pub one_made : (created rounds : List ℕ) (win : ℕ) → AreRounds created rounds → AreFewRounds (with_round rounds win) →
    AreRounds (created ++ win ∷ []) (with_round rounds win)
one_made created rounds win old few = record {
  length = as_long rounds win (slice_index rounds win + 1) (nat_lt win 32) ∙ old.length;
  counts = by_name;
  few = few;
}
  where
    plain : (n : ℕ) → n ≡ n + 0
    plain n = omega arith

    same : (name : ℕ) → name < 32 → win ≡ name → slice_index (with_round rounds win) name ≡
        count_by (λ one. one == name) (created ++ win ∷ [])
    same name below e =
        subst (λ w. slice_index (with_round rounds w) name ≡ count_by (λ one. one == name) (created ++ w ∷ [])) (sym e)
        (here rounds name (slice_index rounds name + 1) (nat_lt name 32) (lt-ltb name 32 below)
        (subst (λ n. name < n) (sym old.length) below)
        ∙ (ap (λ n. n + 1) (old.counts name below)
        ∙ (ap (λ b. count_by (λ one. one == name) created + cond b 1 0) (sym (eq-eqb name name refl))
        ∙ sym (one_more created name name))))

    other : (name : ℕ) → name < 32 → (win ≡ name → ⊥) → slice_index (with_round rounds win) name ≡
        count_by (λ one. one == name) (created ++ win ∷ [])
    other name below apart =
        elsewhere rounds win (slice_index rounds win + 1) name (nat_lt win 32) (λ e. apart (sym e))
        ∙ (old.counts name below
        ∙ (plain (count_by (λ one. one == name) created)
        ∙ (ap (λ b. count_by (λ one. one == name) created + cond b 1 0) (sym (ne_eqb win name apart))
        ∙ sym (one_more created win name))))

    by_name : (name : ℕ) → name < 32 → slice_index (with_round rounds win) name ≡
        count_by (λ one. one == name) (created ++ win ∷ [])
    by_name name below = elim (cases_eq win name) [
      | inl e ↦ same name below e
      | inr apart ↦ other name below apart
    ]
