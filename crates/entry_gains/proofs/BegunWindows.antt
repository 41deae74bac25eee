-- How many windows each rank has begun to create, with one entry more.
use Rattle.std.proofs.Common.{◌≡◌, ◌≢◌, ℕ, ◌+◌, ◌*◌, ◌-◌, ◌<◌, ◌≤◌, ◌^◌, Bool, true, false, ◌&&◌, cond, eqb, is_some}
use Rattle.std.proofs.Common.{List, [], ◌∷◌, ◌++◌, length, refl, ap, sym, subst, ◌∙◌, arith, IfSome, Option, Some, None}
use Rattle.std.proofs.Common.{⊎_elim, inl, inr}
use Rattle.std.specs.Prelude.{slice_index}
use Rattle.std.specs.Option.{option_map_or}
use Rattle.std.proofs.lemmas.Bool.{and_left, cases_eq, eq-eqb, ne_eqb, true≢false}
use Rattle.std.proofs.lemmas.List.{length-map}
use Rattle.std.proofs.lemmas.List.Sums.{count_by-le-length, sum_by-append, sum_by-cons}
use Rattle.rma_types.specs.declared.actions.Action.{Action}
use Rattle.rma_types.specs.declared.actions.Action.TheVariants.{Creates}
use Rattle.rma_types.specs.Actions.{action_of, creation_in, window_in_action, window_of_call}
use Rattle.rank_rules.specs.Windows.{window_number}
use Rattle.board_rules.specs.Entries.{Row, begins_window, creations, names_window, round_of}
use Rattle.board_rules.specs.Entries.{window_of}
use Rattle.kept_rows.specs.Gifts.{Front, Given, rows_given}
use Rattle.kept_rows.specs.KeptCalls.{kept_row}
use Rattle.kept_rows.proofs.KeptActs.{creation_kept, name_kept}
use Rattle.kept_rows.proofs.GiftLaws.{rows_more}
use Rattle.entry_gains.specs.ByPlace.{IsComing, KeepsBegun, round_begun}
use Rattle.entry_gains.specs.Gains.{IsNext, one_more}
use Rattle.entry_gains.specs.declared.by_place.Begun.{Begun}

-- the entry is the arrival at the creation of a window of this rank and name
unfoldable pub begins_here : Row → ℕ → ℕ → Bool
begins_here row rank name = eqb row.rank rank && begins_window row && names_window name row.call

pub creations_more : (rows : List Row) (row : Row) (rank name : ℕ) →
    creations (rows ++ kept_row row ∷ []) rank name ≡ creations rows rank name + cond (begins_here row rank name) 1 0
unfolding begins_here
creations_more rows row rank name =
    sum_by-append (λ (row : Row). cond (eqb row.rank rank && begins_window row && names_window name row.call) 1 0) rows
    (kept_row row ∷ [])
    ∙ (ap (λ n. creations rows rank name + n)
    (sum_by-cons (λ (row : Row). cond (eqb row.rank rank && begins_window row && names_window name row.call) 1 0)
    (kept_row row) [])
    ∙ rw (creation_kept row.call, name_kept row.call)
    (ap (λ n. creations rows rank name + n) (alone (cond (begins_here row rank name) 1 0))))
  where
    alone : (n : ℕ) → n + 0 ≡ n
    alone n = omega arith

pub creations_few : (rows : List Row) (rank name : ℕ) → creations rows rank name ≤ length rows
creations_few rows rank name =
    count_by-le-length (λ (row : Row). eqb row.rank rank && begins_window row && names_window name row.call) rows

-- ---- whether an entry begins a window of a rank and a name

named_by : (action : Action) (name other : ℕ) → window_in_action action ≡ Some name →
    is_some (creation_in action) ≡ true →
    option_map_or (λ n. eqb n other) (window_in_action action) false ≡ eqb name other
named_by action name other named creates = ap (λ o. option_map_or (λ n. eqb n other) o false) named

here_begins : (row : Row) (name : ℕ) → window_of_call row.call ≡ Some name →
    begins_here row row.rank name ≡ begins_window row
unfolding begins_here
here_begins row name named =
    split (eqb row.rank row.rank) (begins_window row) (names_window name row.call) (eq-eqb row.rank row.rank refl)
    (ap (λ o. option_map_or (λ n. eqb n name) o false) named ∙ eq-eqb name name refl)
  where
    split : (a b c : Bool) → a ≡ true → c ≡ true → (a && b && c) ≡ b
    split true true true e f = refl
    split true true false e f = absurd (true≢false (sym f))
    split true false c e f = refl
    split false b c e f = absurd (true≢false (sym e))

other_name : (a b c : Bool) → c ≡ false → (a && b && c) ≡ false
other_name true true c e = e
other_name true false c e = refl
other_name false b c e = refl

begins_elsewhere : (row : Row) (rank name : ℕ) →
    ((n : ℕ) → window_of_call row.call ≡ Some n → row.rank ≡ rank → n ≡ name → ⊥) → begins_here row rank name ≡ false
unfolding begins_here
begins_elsewhere row rank name apart = ⊎_elim
    (λ by. other_name (eqb row.rank rank) (begins_window row) (names_window name row.call)
    (unnamed (window_of_call row.call) (λ n is same. apart n is by same)))
    (λ off. and_left (eqb row.rank rank && begins_window row) (names_window name row.call)
    (and_left (eqb row.rank rank) (begins_window row) (ne_eqb row.rank rank off)))
    (cases_eq row.rank rank)
  where
    unnamed : (o : Option ℕ) → ((n : ℕ) → o ≡ Some n → n ≡ name → ⊥) →
        option_map_or (λ n. eqb n name) o false ≡ false
    unnamed None f = refl
    unnamed (Some n) f = ne_eqb n name (f n refl)

-- ---- what is kept

-- the number of the window that the entry is on
pub window_is : (rows : List Row) (row : Row) (begun : Begun) (begins : Bool) (window : ℕ) → KeepsBegun rows begun →
    length rows < 131072 → row.rank < 16 → begins ≡ begins_window row →
    IfSome (window_of_call row.call) (λ n. n < 32) →
    (window_of_call row.call ≡ None → window ≡ 0) →
    ((n : ℕ) → window_of_call row.call ≡ Some n → slice_index begun.counts (32 * row.rank + n) < 2 ^ 26 →
    window ≡ window_number (round_begun begins (slice_index begun.counts (32 * row.rank + n))) n) →
    window ≡ window_of rows row
window_is rows row begun begins window kept short within is = by_name (window_of_call row.call)
  where
    by_name : (o : Option ℕ) → IfSome o (λ n. n < 32) → (o ≡ None → window ≡ 0) →
        ((n : ℕ) → o ≡ Some n → slice_index begun.counts (32 * row.rank + n) < 2 ^ 26 →
        window ≡ window_number (round_begun begins (slice_index begun.counts (32 * row.rank + n))) n) →
        window ≡ option_map_or (λ win. window_number (round_of rows row win) win) o 0
    by_name None below none named = none refl
    by_name (Some n) below none named =
        let count = kept row.rank n within below in
        let few = creations_few rows row.rank n in
        named n refl (omega (arith, count, few, short))
        ∙ ap (λ c. window_number (round_begun begins c) n) count
        ∙ ap (λ b. window_number (cond b (creations rows row.rank n) (creations rows row.rank n - 1)) n) is

-- the counts with one entry more
pub begun_more : (rows : List Row) (row : Row) (before after : Begun) (begins : Bool) → KeepsBegun rows before →
    length rows < 131072 → row.rank < 16 → begins ≡ begins_window row →
    IfSome (window_of_call row.call) (λ n. n < 32) →
    ((n : ℕ) → window_of_call row.call ≡ Some n → slice_index before.counts (32 * row.rank + n) < 2 ^ 26 →
    slice_index after.counts (32 * row.rank + n)
    ≡ slice_index before.counts (32 * row.rank + n) + cond begins 1 0) →
    ((index : ℕ) → ((n : ℕ) → window_of_call row.call ≡ Some n → index ≢ 32 * row.rank + n) →
    slice_index after.counts index ≡ slice_index before.counts index) →
    KeepsBegun (rows ++ kept_row row ∷ []) after
begun_more rows row before after begins kept short within is below here others rank name high low =
    by_name (window_of_call row.call) refl
  where
    alone : (n : ℕ) → n + 0 ≡ n
    alone n = omega arith

    apart_from : begins_here row rank name ≡ false →
        slice_index after.counts (32 * rank + name) ≡ slice_index before.counts (32 * rank + name) →
        slice_index after.counts (32 * rank + name) ≡ creations (rows ++ kept_row row ∷ []) rank name
    apart_from off same =
        same ∙ (kept rank name high low ∙ sym (creations_more rows row rank name
        ∙ (ap (λ b. creations rows rank name + cond b 1 0) off ∙ alone (creations rows rank name))))

    differ : (n : ℕ) → n < 32 → (row.rank ≡ rank → n ≡ name → ⊥) → 32 * rank + name ≢ 32 * row.rank + n
    differ n small apart e = apart (omega arith) (omega arith)

    by_name : (o : Option ℕ) → window_of_call row.call ≡ o →
        slice_index after.counts (32 * rank + name) ≡ creations (rows ++ kept_row row ∷ []) rank name
    by_name None named = apart_from
        (begins_elsewhere row rank name (λ n got by same. cc (sym named ∙ got)))
        (others (32 * rank + name) (λ n got. cc (sym named ∙ got)))
    by_name (Some n) named = ⊎_elim
        (λ by. ⊎_elim
        (λ same.
        let at : 32 * rank + name ≡ 32 * row.rank + n = omega arith in
        let count : slice_index before.counts (32 * row.rank + n) ≡ creations rows rank name =
        ap (slice_index before.counts) (sym at) ∙ kept rank name high low in
        let few = creations_few rows rank name in
        ap (slice_index after.counts) at
        ∙ (here n named (omega (arith, count, few, short))
        ∙ (ap (λ c. c + cond begins 1 0) count
        ∙ (ap (λ b. creations rows rank name + cond b 1 0)
        (is ∙ sym (here_begins row n named) ∙ ap (λ r. begins_here row r n) by ∙ ap (begins_here row rank) same)
        ∙ sym (creations_more rows row rank name)))))
        (λ off. elsewhere n named (λ by same. off same))
        (cases_eq n name))
        (λ off. elsewhere n named (λ by same. off by))
        (cases_eq row.rank rank)
      where
        elsewhere : (n : ℕ) → window_of_call row.call ≡ Some n → (row.rank ≡ rank → n ≡ name → ⊥) →
            slice_index after.counts (32 * rank + name) ≡ creations (rows ++ kept_row row ∷ []) rank name
        elsewhere n named apart = apart_from
            (begins_elsewhere row rank name (λ m got by same. apart by (cc (sym got ∙ named) ∙ same)))
            (others (32 * rank + name) (λ m got.
            subst (λ k. 32 * rank + name ≢ 32 * row.rank + k) (cc (sym named ∙ got))
            (differ n (rw named at below) apart)))

-- ---- as the entry comes, whose window has this name

module _ (ranks : ℕ) (entries : List Given) (row : Row) (before : Begun) (begins : Bool) (name : Option ℕ)
    (coming : IsComing ranks entries row) (kept : KeepsBegun (rows_given entries) before) (within : row.rank < 16)
    (is : begins ≡ begins_window row) (named : name ≡ window_of_call row.call)
    (below : IfSome name (λ n. n < 32)) where
  few : length (rows_given entries) < 131072
  few = let long = length-map entries (λ (one : Given). one.row) in let short = coming.short in omega
      (arith, long, short)

  name_below : IfSome (window_of_call row.call) (λ n. n < 32)
  name_below = subst (λ o. IfSome o (λ n. n < 32)) named below

  pub coming_is_next : (window : ℕ) → (name ≡ None → window ≡ 0) →
      ((n : ℕ) → name ≡ Some n → slice_index before.counts (32 * row.rank + n) < 2 ^ 26 →
      window ≡ window_number (round_begun begins (slice_index before.counts (32 * row.rank + n))) n) →
      IsNext ranks entries row window
  coming_is_next window none some = record {
    rank = coming.rank;
    is_on = window_is (rows_given entries) row before begins window kept few within is name_below
        (λ e. none (named ∙ e)) (λ n e. some n (named ∙ e));
    named = coming.named;
  }

  pub begun_after : (after : Begun) (gift : Option Front) →
      ((n : ℕ) → name ≡ Some n → slice_index before.counts (32 * row.rank + n) < 2 ^ 26 →
      slice_index after.counts (32 * row.rank + n)
      ≡ slice_index before.counts (32 * row.rank + n) + cond begins 1 0) →
      ((index : ℕ) → ((n : ℕ) → name ≡ Some n → index ≢ 32 * row.rank + n) →
      slice_index after.counts index ≡ slice_index before.counts index) →
      KeepsBegun (rows_given (one_more entries row gift)) after
  begun_after after gift here others =
      subst (λ rows. KeepsBegun rows after) (sym (rows_more entries (record { row = kept_row row; gift = gift })))
      (begun_more (rows_given entries) row before after begins kept few within is name_below
      (λ n e. here n (named ∙ e)) (λ index apart. others index (λ n e. apart n (sym named ∙ e))))
