-- Lists of seats: fresh ones as they are dealt, and all of them as they are joined.
use Rattle.std.proofs.Common.{◌≡◌, ℕ, zero, suc, ◌+◌, ◌-◌, ◌<◌, ◌⊎◌, inl, inr, ⊎_elim, true≢false, false, List, [], ◌∷◌, ◌++◌, length, drop, get_or, map, sym, refl, ap, ◌∙◌, subst, arith}
use lib.ListN.{length-map, length-append}
use Rattle.std.specs.Prelude.{Option, Some, None, All, slice_get, is_some, unwrap_or}
use mathlib.Core.List.{IsPrefix}
use Rattle.std.proofs.lemmas.List.{append_assoc}
use Rattle.std.proofs.lemmas.List.Elements.{All-cons, All-head, All-tail}
use Rattle.atomic_table.specs.Seated.{TableId}
use Rattle.turn_lock.specs.Lists.{of}
use Rattle.turn_lock.specs.Views.{numbers_from, first, resting, both, dealing, without_first}
use Rattle.turn_lock.specs.Seats.{number_of, given_by, known_by, IsIdleAt, AreFresh, gathered}
use Rattle.turn_lock.specs.declared.views.View.{View}
use Rattle.turn_lock.specs.declared.seats.TurnSeat.{TurnSeat}
use Rattle.turn_lock.proofs.Entries.{all_none}

module _ {A : Type 0} where
  pub get_snoc : (xs : List A) (a b : A) (k : ℕ) → slice_get (xs ++ a ∷ []) k ≡ Some b → (slice_get xs k ≡ Some b) ⊎ ((k ≡ length xs) × (a ≡ b))
  get_snoc [] a b zero e = inr (refl, ap (λ (o : Option A). unwrap_or o a) e)
  get_snoc [] a b (suc k) e = absurd (true≢false (sym (ap is_some e)))
  get_snoc (x ∷ xs) a b zero e = inl e
  get_snoc (x ∷ xs) a b (suc k) e = ⊎_elim (λ p. inl p) (λ p. inr (ap suc p.0, p.1)) (get_snoc xs a b k e)

  pub get_some : (xs : List A) (k : ℕ) (d : A) → k < length xs → slice_get xs k ≡ Some (get_or xs k d)
  get_some [] k d lt = absurd (omega arith)
  get_some (x ∷ xs) zero d lt = refl
  get_some (x ∷ xs) (suc k) d lt = get_some xs k d (omega arith)

  pub drop_seam : (ys : List A) (s : A) (rest : List A) → drop (length ys) ((ys ++ s ∷ []) ++ rest) ≡ s ∷ rest
  drop_seam [] s rest = refl
  drop_seam (y ∷ ys) s rest = drop_seam ys s rest

  pub all_seam : (P : A → Type 0) (ys : List A) (s : A) (rest : List A) → All P ((ys ++ s ∷ []) ++ rest) → P s
  all_seam P [] s rest all = All-head P s rest all
  all_seam P (y ∷ ys) s rest all = all_seam P ys s rest (All-tail P y ((ys ++ s ∷ []) ++ rest) all)

  pub all_unmap : {B : Type 0} (P : B → Type 0) (f : A → B) (xs : List A) → All P (map f xs) → All (λ x. P (f x)) xs
  all_unmap P f [] all = all_none (λ x. P (f x))
  all_unmap P f (x ∷ xs) all = All-cons (λ x. P (f x)) x xs (All-head P (f x) (map f xs) all) (all_unmap P f xs (All-tail P (f x) (map f xs) all))

pub numbers_more : (E : Type 0) (i n : ℕ) → 0 < n → numbers_from {E = E} i n ≡ (i, []) ∷ numbers_from (i + 1) (n - 1)
numbers_more E i zero lt = absurd (omega arith)
numbers_more E i (suc n) lt = ap (λ (l : List (ℕ × List E)). (i, []) ∷ l) (λ j. numbers_from (next j) (left j))
  where
    next : suc i ≡ i + 1
    next = omega arith

    left : n ≡ suc n - 1
    left = omega arith

module _ {V E O : Type 0} (name : TableId) (o : O) where
  pub fresh_more : (xs : List (TurnSeat V E O)) (a : TurnSeat V E O) → AreFresh name o xs → a.place.table_id ≡ name → a.place.me ≡ (resting (length xs) [] [] o, [])
      → AreFresh name o (xs ++ a ∷ [])
  fresh_more xs a fresh t e k seat d = ⊎_elim (λ p. fresh k seat p)
      (λ p. subst (λ (z : TurnSeat V E O). (z.place.table_id ≡ name) × (z.place.me ≡ (resting k [] [] o, []))) p.1
      (t, e ∙ ap (λ (n : ℕ). (resting n [] [] o, [])) (sym p.0)))
      (get_snoc xs a seat k d)

  pub fresh_at : (xs : List (TurnSeat V E O)) → AreFresh name o xs → (P : TurnSeat V E O → Type 0)
      → ((k : ℕ) (s : TurnSeat V E O) → s.place.table_id ≡ name → s.place.me ≡ (resting k [] [] o, []) → P s) → All P xs
  fresh_at xs fresh P each k d lt = let f = fresh k (get_or xs k d) (get_some xs k d lt) in each k (get_or xs k d) f.0 f.1

  pub fresh_idle : (k : ℕ) (s : TurnSeat V E O) → s.place.table_id ≡ name → s.place.me ≡ (resting k [] [] o, []) → IsIdleAt name o s
  fresh_idle k s t e =
      (t, e ∙ (λ i. (resting (first (sym e i).0.parts).0 (first (sym e i).0.parts).1 (sym e i).0.known o, [])))

  pub fresh_empty : (k : ℕ) (s : TurnSeat V E O) → s.place.table_id ≡ name → s.place.me ≡ (resting k [] [] o, []) → (given_by s ≡ []) × (known_by s ≡ [])
  fresh_empty k s t e = (ap (λ m. (first m.0.parts).1) e, ap (λ m. m.0.known) e)

  pub fresh_numbers : (xs : List (TurnSeat V E O)) → AreFresh name o xs → (k : ℕ) (d : TurnSeat V E O) → k < length xs → number_of (get_or xs k d) ≡ k
  fresh_numbers xs fresh k d lt = ap (λ m. (first m.0.parts).0) (fresh k (get_or xs k d) (get_some xs k d lt)).1

  pub gather_more : (s : TurnSeat V E O) (rest : List (TurnSeat V E O)) (all : View E O) → IsIdleAt name o s → all ≡ gathered o rest → 0 < length rest
      → both s.place.me.0 all ≡ gathered o (s ∷ rest)
  gather_more s [] all idle e lt = absurd (omega arith)
  gather_more s (d ∷ rest) all idle e lt = λ i. both (idle.1 i).0 (e i)

module _ {V E O : Type 0} (o : O) where
  pub gathered_out : (xs : List (TurnSeat V E O)) → ((gathered o xs).ticket ≡ None) × ((gathered o xs).inside ≡ false) × (length (gathered o xs).parts ≡ length xs)
  gathered_out [] = (refl, refl, refl)
  gathered_out (x ∷ xs) = (refl, refl, ap suc (length-map xs (λ (s : TurnSeat V E O). (number_of s, given_by s))))

  pub gathered_known : (l : List E) (xs : List (TurnSeat V E O)) → IsPrefix (gathered o xs).known l → All (λ (h : List E). IsPrefix h l) (gathered o xs).heard
      → All (λ (s : TurnSeat V E O). IsPrefix (known_by s) l) xs
  gathered_known l [] p all = all_none (λ (s : TurnSeat V E O). IsPrefix (known_by s) l)
  gathered_known l (x ∷ xs) p all = All-cons (λ (s : TurnSeat V E O). IsPrefix (known_by s) l) x xs p (all_unmap (λ (h : List E). IsPrefix h l) known_by xs all)

  pub gathered_gave : (owner : E → ℕ) (l : List E) (xs : List (TurnSeat V E O)) → All (λ (p : ℕ × List E). of owner p.0 l ≡ p.1) (gathered o xs).parts
      → All (λ (s : TurnSeat V E O). of owner (number_of s) l ≡ given_by s) xs
  gathered_gave owner l [] all = all_none (λ (s : TurnSeat V E O). of owner (number_of s) l ≡ given_by s)
  gathered_gave owner l (x ∷ xs) all = all_unmap (λ (p : ℕ × List E). of owner p.0 l ≡ p.1) (λ (s : TurnSeat V E O). (number_of s, given_by s)) (x ∷ xs) all

-- What is left to be dealt begins with the next number

pub dealt_at : {E O : Type 0} (i n : ℕ) (v : View E O) (o : O) → v ≡ dealing (numbers_from i n) o → 0 < n → v ≡ dealing ((i, []) ∷ numbers_from (i + 1) (n - 1)) o
dealt_at {E} i n v o e lt = e ∙ ap (λ (l : List (ℕ × List E)). dealing l o) (numbers_more E i n lt)

pub dealt_left : {E O : Type 0} (i n j m : ℕ) (v : View E O) (o : O) → v ≡ dealing (numbers_from i n) o → 0 < n → j ≡ i + 1 → m ≡ n - 1 → without_first v ≡ dealing (numbers_from j m) o
dealt_left {E} i n j m v o e lt ej em = ap without_first (dealt_at i n v o e lt) ∙ (λ k. dealing (numbers_from {E = E} (sym ej k) (sym em k)) o)

module _ {V E O : Type 0} (name : TableId) (o : O) where
  -- all seats are those that are left, the one that was taken last, and those that were taken before
  pub record Seam (all left : List (TurnSeat V E O)) (s : TurnSeat V E O) (taken : List (TurnSeat V E O)) : Type 0 where
    pub here : IsIdleAt name o s
    pub whole : left ++ drop (length left) all ≡ all
    pub fewer : length left < length all
    pub behind : drop (length left) all ≡ s ∷ taken

  pub seam : (all left : List (TurnSeat V E O)) (s : TurnSeat V E O) (taken : List (TurnSeat V E O)) → all ≡ (left ++ s ∷ []) ++ taken → All (IsIdleAt name o) all → Seam all left s taken
  seam all left s taken e idle =
      let behind = ap (λ (l : List (TurnSeat V E O)). drop (length left) l) e ∙ drop_seam left s taken in
      let long : length all ≡ length left + 1 + length taken = ap length e ∙ length-append (left ++ s ∷ []) taken ∙ ap (λ (n : ℕ). n + length taken) (length-append left (s ∷ [])) in
      record {
        here = all_seam (IsIdleAt name o) left s taken (subst (λ (l : List (TurnSeat V E O)). All (IsIdleAt name o) l) e idle);
        whole = ap (λ (l : List (TurnSeat V E O)). left ++ l) behind ∙ sym (append_assoc left (s ∷ []) taken) ∙ sym e;
        fewer = omega arith;
        behind = behind;
      }
