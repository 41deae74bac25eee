-- Each step on a cell's word keeps the rule, and tells what it tells.
use Rattle.std.proofs.Common.{◌≡◌, ℕ, ◌+◌, ◌-◌, ◌/◌, ◌%◌, ◌^◌, ◌<◌, ◌≤◌, List}
use Rattle.std.proofs.Common.{length, get_or, set, refl, sym, ap, ◌∙◌, subst, arith, Contains, eqb}
use Rattle.std.proofs.lemmas.List.{set-get_or}
use mathlib.Core.Option.{some, none}
use lib.ListN.{get_elem?}
use prog.Atomic.{either}
use Rattle.atomic_table.specs.Table.{State, Me, Act, step, keeps, Valid, stepped, carried_after}
use Rattle.atomic_table.specs.Table.{Allows, Splits, Joins}
use Rattle.atomic_table.proofs.Lists.{exchanged}
use Rattle.call_rules.specs.declared.cells.Cell.{Cell}
use Rattle.cell_words.specs.declared.views.View.{View}
use Rattle.cell_words.specs.Words.{word_of, seen_in}
use Rattle.cell_words.specs.Histories.{cell_bits, IsState}
use Rattle.cell_words.specs.Views.{look, bare, spent, without_next, next_dealt, joined, with_look, with_update}
use Rattle.cell_words.specs.Rule.{IsKept}
use Rattle.cell_words.specs.Steps.{Looked, Added, Attempted}
use Rattle.cell_words.proofs.WordParts.{seen_again, word_added}
use Rattle.cell_words.proofs.Keeping.{noted, dealt, looked, taken_in}
use Rattle.cell_words.proofs.Updating.{room, updated}
use Rattle.cell_words.proofs.Ending.{few}

abbrev pub Kept : List ℕ → List ℕ → State (Unit {0}) View → Type 0
Kept init shares state = IsKept init shares state.words state.views

abbrev Knower : Type 0
Knower = Me (Unit {0}) View

-- a cell's word, as it is found
module _ (init shares words : List ℕ) (views : List View) (k : IsKept init shares words views) (word : ℕ)
    (first : 1 ≤ word) (inside : word - 1 < length init) where
  abbrev here : ℕ
  here = length (k.left (word - 1))

  abbrev bits_here : ℕ
  bits_here = cell_bits init k.left (word - 1) here

  pub small : here < 4294967296
  small = omega (arith, few init shares words views k (word - 1), k.small)

  pub stored_here : get_or words word 0 ≡ word_of bits_here here
  stored_here =
      let back : word ≡ word - 1 + 1 = omega arith in
      ap (λ (i : ℕ). get_or words i 0) back ∙ k.stored (word - 1) inside

  pub seen_here : seen_in (get_or words word 0) ≡ record { bits = bits_here; place = here }
  seen_here = ap seen_in stored_here ∙ seen_again bits_here here small

  pub is_state : IsState init k.left (word - 1) (seen_in (get_or words word 0))
  is_state = subst (λ (seen : Cell). IsState init k.left (word - 1) seen) (sym seen_here)
      (record { place = omega arith; bits = refl })

  pub not_below : (id : ℕ) (v : View) → get_elem? views id ≡ some v →
      get_or v.lows (word - 1) 0 ≤ (seen_in (get_or words word 0)).place
  not_below id v at = subst (λ (seen : Cell). get_or v.lows (word - 1) 0 ≤ seen.place) (sym seen_here)
      ((k.fits id v at).lows (word - 1) inside)

  pub kept_look : (id : ℕ) (v : View) → get_elem? views id ≡ some v →
      IsKept init shares (set words word (get_or words word 0))
      (set views id (with_look v (word - 1) (seen_in (get_or words word 0))))
  kept_look id v at = rw (set-get_or words word 0)
      (looked init shares words views k id v at (word - 1) (seen_in (get_or words word 0)) is_state)

  pub kept_update : (id : ℕ) (v : View) → get_elem? views id ≡ some v → 1 ≤ v.share → (bits new : ℕ) →
      new ≡ word_of bits (here + 1) → IsKept init shares (set words word new)
      (set views id (with_update v (word - 1) (seen_in (get_or words word 0)) bits))
  kept_update id v at share bits new is =
      let back : word - 1 + 1 ≡ word = omega arith in
      let done = updated init shares words views k id v at (word - 1) share inside bits in
      subst (λ (seen : Cell). IsKept init shares (set words word new)
      (set views id (with_update v (word - 1) seen bits)))
      (sym seen_here) (rw is (subst (λ (i : ℕ). IsKept init shares (set words i (word_of bits (here + 1)))
      (set views id (with_update v (word - 1) (record { bits = bits_here; place = here }) bits))) back done))

pub looks : (init shares : List ℕ) (slots id word : ℕ) (me : Knower) → 1 ≤ word → word - 1 < length init →
    Allows (Kept init shares) slots id me word (λ n. n) (Looked (step slots word 0 0 none) me)
looks init shares slots id word me first inside s k _ at _ = (
  with_look me.0 (word - 1) (seen_in (get_or s.words word 0)),
  keeps,
  tt,
  kept_look init shares s.words s.views k word first inside id me.0 at,
  (refl, not_below init shares s.words s.views k word first inside id me.0 at),
)

pub adds : (init shares : List ℕ) (slots id word x : ℕ) (me : Knower) → 1 ≤ word → word - 1 < length init →
    1 ≤ me.0.share → x < 4294967296 → Allows (Kept init shares) slots id me word
    (λ n. (n + word_of x 1) % 2 ^ 64) (Added (step slots word (word_of x 1) 0 none) me)
adds init shares slots id word x me first inside share fits s k _ at full =
    let v = me.0 in
    let found = get_or s.words word 0 in
    let here = length (k.left (word - 1)) in
    let is = stored_here init shares s.words s.views k word first inside in
    let seen = seen_here init shares s.words s.views k word first inside in
    let more = room init shares s.words s.views k id v at (word - 1) share in
    let operand : word_of x 1 / 4294967296 ≡ x = ap (λ (c : Cell). c.bits) (seen_again x 1 (omega arith)) in
    let sum = ((seen_in found).bits + word_of x 1 / 4294967296) % 4294967296 in
    let bits = cell_bits init k.left (word - 1) here in
    let sum_is : ((seen_in found).bits + word_of x 1 / 4294967296) % 4294967296 ≡ (bits + x) % 4294967296 =
    ap (λ (c : Cell). (c.bits + word_of x 1 / 4294967296) % 4294967296) seen
    ∙ ap (λ (y : ℕ). (bits + y) % 4294967296) operand in
    let made : (found + word_of x 1) % 18446744073709551616 ≡ word_of sum (here + 1) =
    ap (λ (n : ℕ). (n + word_of x 1) % 18446744073709551616) is
    ∙ (word_added bits here x (subst (λ (n : ℕ). n < 18446744073709551616) is full) more fits
    ∙ sym (ap (λ (b : ℕ). word_of b (here + 1)) sum_is)) in (
      with_update v (word - 1) (seen_in found) sum,
      keeps,
      tt,
      kept_update init shares s.words s.views k word first inside id v at share sum _ made,
      (refl, not_below init shares s.words s.views k word first inside id v at),
    )

pub attempts : (init shares : List ℕ) (slots id word bits new : ℕ) (me : Knower) (expected : Cell) → 1 ≤ word →
    word - 1 < length init → 1 ≤ me.0.share → Contains me.0.known (look (word - 1) expected) →
    (expected.place + 1 < 4294967296 → (new ≡ word_of bits (expected.place + 1)) × (new / 4294967296 ≡ bits)) →
    Allows (Kept init shares) slots id me word (λ n. either (eqb n (word_of expected.bits expected.place)) new n)
    (Attempted (step slots word (word_of expected.bits expected.place) new none) me)
attempts init shares slots id word bits new me expected first inside share knows writes s k _ at full =
    let v = me.0 in
    let found = get_or s.words word 0 in
    let old = word_of expected.bits expected.place in
    let here = length (k.left (word - 1)) in
    let now = cell_bits init k.left (word - 1) here in
    let is = stored_here init shares s.words s.views k word first inside in
    let seen = seen_here init shares s.words s.views k word first inside in
    let more = room init shares s.words s.views k id v at (word - 1) share in
    let low = not_below init shares s.words s.views k word first inside id v at in
    let state = (k.fits id v at).known (look (word - 1) expected) knows in
    let fits : expected.place < 4294967296 = omega (arith, state.place, more) in
    let asked : seen_in old ≡ expected = seen_again expected.bits expected.place fits in
    exchanged found old new
    (λ n. (w : View) × (a : Act (Unit {0})) × Valid s.homes me.1 a × Kept init shares (stepped s word n id me.1 w a)
    × Attempted (step slots word old new none) me found (w, carried_after me.1 a))
    (λ hit.
    let place : expected.place ≡ here = ap (λ (c : Cell). c.place) (sym asked ∙ (ap seen_in (sym hit) ∙ seen)) in
    let write = writes (omega (arith, place, more)) in (
      with_update v (word - 1) (seen_in found) (new / 4294967296),
      keeps,
      tt,
      kept_update init shares s.words s.views k word first inside id v at share (new / 4294967296) new
          (write.0 ∙ (ap (λ (b : ℕ). word_of b (expected.place + 1)) (sym write.1)
          ∙ ap (λ (p : ℕ). word_of (new / 4294967296) (p + 1)) place)),
      (
        (λ _. (refl, omega (arith, ap (λ (c : Cell). c.place) seen, more))),
        (λ miss. absurd (miss hit)),
        low,
      ),
    ))
    (λ miss.
    let differ : expected.place ≡ here → ⊥ = λ same. miss (is ∙ (ap (λ (b : ℕ). word_of b here)
    (ap (λ (p : ℕ). cell_bits init k.left (word - 1) p) (sym same) ∙ sym state.bits)
    ∙ ap (λ (p : ℕ). word_of expected.bits p) (sym same))) in
    let later : (seen_in old).place < (seen_in found).place =
    omega (arith, ap (λ (c : Cell). c.place) asked, ap (λ (c : Cell). c.place) seen, state.place, differ) in (
      with_look v (word - 1) (seen_in found),
      keeps,
      tt,
      subst (λ (ws : List ℕ). IsKept init shares ws (set s.views id (with_look v (word - 1) (seen_in found))))
          (sym (set-get_or s.words word 0))
          (looked init shares s.words s.views k id v at (word - 1) (seen_in found)
          (is_state init shares s.words s.views k word first inside)),
      ((λ hit. absurd (miss hit)), (λ _. (refl, later)), low),
    ))

module _ (init shares : List ℕ) (id : ℕ) (v : View) where
  pub notes : Splits (Kept init shares) id v v (bare v.lows)
  notes s k at = noted init shares s.words s.views k id v at

  pub deals : Splits (Kept init shares) id v (without_next v) (next_dealt v)
  deals s k at = dealt init shares s.words s.views k id v at

  pub joins : (other : ℕ) (w : View) → Joins (Kept init shares) id v other w (joined v w) spent
  joins other w s k at apart there = taken_in init shares s.words s.views k id v at other w apart there
