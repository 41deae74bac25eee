-- Seats are dealt, joined and told, and the rule stays; how a turn begins, and what its end shows.
use Rattle.std.proofs.Common.{◌≡◌, ℕ, zero, suc, ◌+◌, ◌^◌, ◌<◌, inl, ⊎_elim, false, true≢false, List, [], ◌∷◌, ◌++◌, length, set, sym, refl, ap, ◌∙◌, subst, arith}
use Rattle.std.specs.Prelude.{Option, Some, None, All, slice_index, slice_set, unwrap_or, is_some, ◌==◌}
use mathlib.Core.List.{IsPrefix}
use mathlib.Core.Option.{some, none, some-injective, some-ne-none}
use lib.ListN.{get_elem?, length-append}
use Rattle.std.proofs.lemmas.List.Elements.{All-cons, All-head, All-tail, All-append, All-weaker}
use Rattle.atomic_table.proofs.Lists.{at_set, at_snoc}
use Rattle.atomic_table.specs.Table.{State, Me, Step, step, keeps, Allows, Splits, Joins, Final, Seen, opening}
use Rattle.turn_lock.specs.Lists.{of, longer}
use Rattle.turn_lock.specs.Views.{dealing, opening_view, resting, hearing, spent, without_first, first_alone, telling, both}
use Rattle.turn_lock.specs.Rules.{weight, times, drawn, has_drawn, Fits, Kept}
use Rattle.turn_lock.specs.Steps.{Learns}
use Rattle.turn_lock.specs.declared.views.View.{View}
use Rattle.turn_lock.proofs.Totals.{total_append, total_cut, total_joined, total_over}
use Rattle.turn_lock.proofs.Entries.{all_none, longer_prefix, prefix_of, numbers_length, numbers_once, numbers_gave}
use Rattle.turn_lock.proofs.Moves.{none_some, drawn_le, recut, reseen}

some_same : {A : Type 0} (a b : A) → Some a ≡ Some b → b ≡ a
some_same a b e = sym (ap (λ (o : Option _). unwrap_or o a) e)

one_there : {A : Type 0} (a b : A) (j : ℕ) → get_elem? (a ∷ []) j ≡ some b → a ≡ b
one_there a b zero e = some-injective a b e
one_there a b (suc j) e = absurd (some-ne-none b (sym e))

module _ {V E O : Type 0} (list : V → List E) (owner : E → ℕ) (origin : V → O) (seats : ℕ) (from : O) where
  abbrev Rule : State (Option V) (View E O) → Type 0
  Rule = Kept list owner origin seats from

  abbrev FitsHere : List E → ℕ → ℕ → View E O → Type 0
  FitsHere = Fits owner seats from

  abbrev HasGiven : List E → ℕ × List E → Type 0
  HasGiven log p = (p.0 < seats) × (of owner p.0 log ≡ p.1)

  -- one seat is cut in two
  cuts : (s : State (Option V) (View E O)) (k : Rule s) (id : ℕ) (v left right : View E O) → get_elem? s.views id ≡ some v
      → length left.parts + length right.parts ≡ length v.parts → ((n : ℕ) → times n left.parts + times n right.parts ≡ times n v.parts)
      → left.ticket ≡ v.ticket → right.ticket ≡ None → left.inside ≡ v.inside → right.inside ≡ false
      → FitsHere k.log k.served k.line left → FitsHere k.log k.served k.line right
      → Rule (record { words = s.words; homes = s.homes; views = set s.views id left ++ right ∷ [] })
  cuts s k id v left right at long each t₁ t₂ i₁ i₂ f₁ f₂ = recut list owner origin seats from s k s.words (set s.views id left ++ right ∷ []) refl (
    total_cut (λ (u : View E O). length u.parts) s.views id v left right at long,
    (λ n. total_cut (λ (u : View E O). times n u.parts) s.views id v left right at (each n)),
    total_cut (λ (u : View E O). drawn u.ticket) s.views id v left right at (let a = ap drawn t₁ in let b = ap drawn t₂ in omega arith),
    (λ t. total_cut (λ (u : View E O). has_drawn t u.ticket) s.views id v left right at
        (let a = ap (λ (o : Option ℕ). has_drawn t o) t₁ in let b = ap (λ (o : Option ℕ). has_drawn t o) t₂ in omega arith)),
    total_cut (λ (u : View E O). weight u.inside) s.views id v left right at (let a = ap weight i₁ in let b = ap weight i₂ in omega arith),
  )
      (λ j u d. ⊎_elim
      (λ p. ⊎_elim (λ q. subst (λ (z : View E O). FitsHere k.log k.served k.line z) q.1 f₁) (λ q. k.fits j u q.1) (at_set s.views id j left u p))
      (λ p. subst (λ (z : View E O). FitsHere k.log k.served k.line z) p f₂)
      (at_snoc (set s.views id left) right u j d))

  -- a view of no ticket that knows no more fits where another does
  quiet_fits : (log : List E) (served line : ℕ) (v w : View E O) → FitsHere log served line v → w.ticket ≡ None → w.inside ≡ false → w.known ≡ v.known → w.heard ≡ [] → w.origin ≡ v.origin
      → All (HasGiven log) w.parts → FitsHere log served line w
  quiet_fits log served line v w f t i kn hd org gave = record {
    in_line = λ u e. absurd (none_some u (sym t ∙ e));
    numbered = let z = ap drawn t in omega arith;
    in_turn = λ e. absurd (true≢false (sym e ∙ i));
    knows = subst (λ (l : List E). IsPrefix l log) (sym kn) f.knows;
    hears = subst (λ (l : List (List E)). All (λ (h : List E). IsPrefix h log) l) (sym hd) (all_none (λ (h : List E). IsPrefix h log));
    gave = gave;
    of_origin = λ o e. f.of_origin o (sym org ∙ e);
  }

  pub deals : (id : ℕ) (p : ℕ × List E) (ps : List (ℕ × List E)) (o : O) → Splits Rule id (dealing (p ∷ ps) o) (without_first (dealing (p ∷ ps) o)) (first_alone (dealing (p ∷ ps) o))
  deals id p ps o s k at =
      let v : View E O = dealing (p ∷ ps) o in
      let f = k.fits id v at in
      cuts s k id v (without_first v) (first_alone v) at (omega arith) (λ n. omega arith) refl refl refl refl
      (quiet_fits k.log k.served k.line v (without_first v) f refl refl refl refl refl (All-tail (HasGiven k.log) p ps f.gave))
      (quiet_fits k.log k.served k.line v (first_alone v) f refl refl refl refl refl
      (All-cons (HasGiven k.log) p [] (All-head (HasGiven k.log) p ps f.gave) (all_none (HasGiven k.log))))

  pub tells : (id : ℕ) (v : View E O) → Splits Rule id v v (telling v)
  tells id v s k at = let f = k.fits id v at in
      cuts s k id v v (telling v) at (omega arith) (λ n. omega arith) refl refl refl refl f
      (quiet_fits k.log k.served k.line v (telling v) f refl refl refl refl refl (all_none (HasGiven k.log)))

  both_fits : (log : List E) (served line : ℕ) (v w : View E O) → FitsHere log served line v → FitsHere log served line w → FitsHere log served line (both v w)
  both_fits log served line v w f g = record {
    in_line = f.in_line;
    numbered = let a = f.numbered in let b = length-append v.parts w.parts in omega arith;
    in_turn = f.in_turn;
    knows = f.knows;
    hears = All-cons (λ (h : List E). IsPrefix h log) w.known (v.heard ++ w.heard) g.knows (All-append (λ (h : List E). IsPrefix h log) v.heard w.heard f.hears g.hears);
    gave = All-append (HasGiven log) v.parts w.parts f.gave g.gave;
    of_origin = f.of_origin;
  }

  spent_fits : (log : List E) (served line : ℕ) → FitsHere log served line spent
  spent_fits log served line = record {
    in_line = λ u e. absurd (none_some u e);
    numbered = omega arith;
    in_turn = λ e. absurd (true≢false (sym e));
    knows = (log, refl);
    hears = all_none (λ (h : List E). IsPrefix h log);
    gave = all_none (HasGiven log);
    of_origin = λ o e. absurd (true≢false (sym (ap is_some e)));
  }

  pub joins : (id other : ℕ) (v w : View E O) → w.ticket ≡ None → w.inside ≡ false → Joins Rule id v other w (both v w) spent
  joins id other v w t i s k at apart there =
      let g = ⊎_elim (λ p. absurd (apart p.0)) (λ p. k.fits other w p.1) (at_set s.views id other (both v w) w there) in
      let f = k.fits id v at in
      recut list owner origin seats from s k s.words (set (set s.views id (both v w)) other spent) refl (
        total_joined (λ (u : View E O). length u.parts) s.views id other v w (both v w) spent at there (length-append v.parts w.parts) refl,
        (λ n. total_joined (λ (u : View E O). times n u.parts) s.views id other v w (both v w) spent at there (total_append (λ (p : ℕ × List E). weight (p.0 == n)) v.parts w.parts) refl),
        total_joined (λ (u : View E O). drawn u.ticket) s.views id other v w (both v w) spent at there (let a = ap drawn t in omega arith) refl,
        (λ x. total_joined (λ (u : View E O). has_drawn x u.ticket) s.views id other v w (both v w) spent at there (let a = ap (λ (o : Option ℕ). has_drawn x o) t in omega arith) refl),
        total_joined (λ (u : View E O). weight u.inside) s.views id other v w (both v w) spent at there (let a = ap weight i in omega arith) refl,
      )
      (λ j u d. ⊎_elim
      (λ p. subst (λ (z : View E O). FitsHere k.log k.served k.line z) p.1 (spent_fits k.log k.served k.line))
      (λ p. ⊎_elim (λ q. subst (λ (z : View E O). FitsHere k.log k.served k.line z) q.1 (both_fits k.log k.served k.line v w f g)) (λ q. k.fits j u q.1) (at_set s.views id j (both v w) u p.1))
      (at_set (set s.views id (both v w)) other j spent u d))

  pub learns : (slots id : ℕ) (st : Step (Option V)) (n : ℕ) (g kn h : List E) (o : O) → Allows Rule slots id (hearing n g kn h o, []) 1 (λ m. m) (Learns owner st (hearing n g kn h o, []))
  learns slots id st n g kn h o s k long at small =
      let v : View E O = hearing n g kn h o in
      let w : View E O = resting n g (longer kn h) o in
      let f = k.fits id v at in
      let heard = All-head (λ (l : List E). IsPrefix l k.log) h [] f.hears in
      let p = longer_prefix kn h k.log f.knows heard in (
        w,
        keeps,
        tt,
        reseen list owner origin seats from s k (slice_set s.words 1 (slice_index s.words 1)) id v w
            (ap (λ (ws : List ℕ). slice_set ws 1 (slice_index ws 1)) k.words ∙ sym k.words) at refl (λ m. refl) refl refl
            (record {
              in_line = λ u e. absurd (none_some u e);
              numbered = omega arith;
              in_turn = λ e. absurd (true≢false (sym e));
              knows = p.2;
              hears = all_none (λ (l : List E). IsPrefix l k.log);
              gave = f.gave;
              of_origin = f.of_origin;
            }),
        (
          refl,
          p.0,
          All-cons (λ (l : List E). IsPrefix l (longer kn h)) h [] p.1 (all_none (λ (l : List E). IsPrefix l (longer kn h))),
          subst (IsPrefix (of owner n (longer kn h))) (All-head (HasGiven k.log) (n, g) [] f.gave).1 (prefix_of owner n (longer kn h) k.log p.2),
        ),
      )

  pub opens : (x : V) → list x ≡ [] → origin x ≡ from → seats < 2 ^ 32 → Rule (opening (0 ∷ 0 ∷ []) (Some x ∷ []) (opening_view seats from))
  opens x empty org few = record {
    log = [];
    served = 0;
    line = 0;
    words = refl;
    home = inl (x, refl, empty, org);
    few = few;
    all_numbers = let a = numbers_length E 0 seats in omega arith;
    each_number = λ n. let a = numbers_once E n 0 seats in omega arith;
    all_tickets = refl;
    each_ticket = λ t. omega arith;
    owned = all_none (λ (e : E). owner e < seats);
    fits = λ j u d. subst (λ (z : View E O). FitsHere [] 0 0 z) (one_there (opening_view seats from) u j d) (record {
      in_line = λ t e. absurd (none_some t e);
      numbered = omega arith;
      in_turn = λ e. absurd (true≢false (sym e));
      knows = ([], refl);
      hears = all_none (λ (h : List E). IsPrefix h []);
      gave = numbers_gave E owner seats 0 seats (omega arith);
      of_origin = λ o e. some_same from o e;
    });
  }

  -- what the last state shows of the list to a seat that has all numbers and is not inside
  pub record Ended (v : View E O) (from' : O) (log : List E) : Type 0 where
    pub from_start : from' ≡ from
    pub owned : All (λ (e : E). owner e < seats) log
    pub knew : IsPrefix v.known log
    pub heard : All (λ (h : List E). IsPrefix h log) v.heard
    pub gave : All (λ (p : ℕ × List E). of owner p.0 log ≡ p.1) v.parts

  pub closes : (id : ℕ) (v : View E O) (ws : List ℕ) (xs : List (Option V)) → Final (Seen Rule id v) ws xs → v.inside ≡ false → length v.parts ≡ seats
      → (x : V) × (get_elem? xs 0 ≡ some (Some x)) × Ended v (origin x) (list x)
  closes id v ws xs F out all =
      let s : State (Option V) (View E O) = F.0 in
      let k : Rule s = F.1.0 in
      let f = k.fits id v F.1.1 in
      ⊎_elim
      (λ h. (
        h.0,
        F.4 0 (Some h.0) (ap (λ hs. get_elem? hs 0) h.1),
        subst (λ (log : List E). Ended v (origin h.0) log) (sym h.2) (record {
          from_start = h.3;
          owned = k.owned;
          knew = f.knows;
          heard = f.hears;
          gave = All-weaker (HasGiven k.log) (λ (p : ℕ × List E). of owner p.0 k.log ≡ p.1) (λ p q. q.1) v.parts f.gave;
        }),
      ))
      (λ h. absurd (
      let a = total_over (λ (u : View E O). weight u.inside) (λ (u : View E O). length u.parts) s.views id v
      (λ j u d. let m = drawn_le k.served u.ticket u.inside (λ e. ((k.fits j u d).in_turn e).0) in let l = (k.fits j u d).numbered in omega arith) F.1.1 in
      let b = k.all_numbers in let c : weight v.inside ≡ 0 = ap weight out in let e = h.1 in omega arith))
      k.home

  -- the same for a seat that is known to be so

  pub learns_at : (slots id : ℕ) (m : Me (Option V) (View E O)) (n : ℕ) (g kn h : List E) (o : O) → m ≡ (hearing n g kn h o, [])
      → Allows Rule slots id m 1 (λ x. x) (Learns owner (step 0 0 0 0 none) m)
  learns_at slots id m n g kn h o e = subst (λ (z : Me (Option V) (View E O)). Allows Rule slots id z 1 (λ x. x) (Learns owner (step 0 0 0 0 none) z)) (sym e) (learns slots id (step 0 0 0 0 none) n g kn h o)

  pub deals_at : (id : ℕ) (v : View E O) (p : ℕ × List E) (ps : List (ℕ × List E)) (o : O) → v ≡ dealing (p ∷ ps) o → Splits Rule id v (without_first v) (first_alone v)
  deals_at id v p ps o e = subst (λ (z : View E O). Splits Rule id z (without_first z) (first_alone z)) (sym e) (deals id p ps o)

  pub closes_at : (id : ℕ) (v : View E O) (ws : List ℕ) (xs : List (Option V)) (y : Option V) → Final (Seen Rule id v) ws xs → v.inside ≡ false → length v.parts ≡ seats
      → get_elem? xs 0 ≡ some y → (x : V) × (y ≡ Some x) × Ended v (origin x) (list x)
  closes_at id v ws xs y F out all e = let c = closes id v ws xs F out all in (c.0, some-injective y (Some c.0) (sym e ∙ c.1), c.2)
