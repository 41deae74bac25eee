-- Each step of a turn keeps the rule.
use Rattle.std.proofs.Common.{◌≡◌, ℕ, ◌+◌, ◌-◌, ◌%◌, ◌^◌, ◌<◌, ◌≤◌, ◌≢◌, inl, inr, ⊎_elim, Bool, true, false, true≢false, List, [], ◌∷◌, ◌++◌, length, drop, get_or, set, sym, refl, ap, ◌∙◌, subst, arith, eqb, eq-eqb, ne_eqb}
use Rattle.std.specs.Prelude.{Option, Some, None, All, unwrap_or, is_some, slice_index, slice_set}
use mathlib.Core.List.{IsPrefix}
use mathlib.Core.Logic.{dite}
use mathlib.Core.Option.{some, none, some-injective}
use native.Mathlib.Decide.{ℕ_discrete}
use lib.ListN.{get_elem?}
use Rattle.std.proofs.Math.Nat.{mod-add-mod}
use Rattle.std.proofs.Math.Seq.{drop-append_seam}
use Rattle.std.proofs.lemmas.List.{append-nil}
use Rattle.std.proofs.lemmas.List.Elements.{All-cons, All-head, All-append, All-weaker, filter-append}
use Rattle.atomic_table.proofs.Lists.{at_set, one_turn}
use Rattle.atomic_table.specs.Table.{State, Me, Step, step, keeps, takes, gives, Allows}
use Rattle.turn_lock.specs.Lists.{of}
use Rattle.turn_lock.specs.Views.{resting, waiting, holding}
use Rattle.turn_lock.specs.Rules.{weight, times, drawn, has_drawn, numbers, tickets, insiders, with_ticket, with_number, Fits, IsShelved, Kept}
use Rattle.turn_lock.specs.Steps.{Draws, HandsOn, Looks}
use Rattle.turn_lock.specs.declared.views.View.{View}
use Rattle.turn_lock.proofs.Totals.{total_set, total_two, total_none, total_same, total_under, total_over}
use Rattle.turn_lock.proofs.Entries.{all_none, prefix_self, prefix_trans, prefix_of_same, of_none, of_all, times_at}

has_none : (t : ℕ) (o : Option ℕ) → ((u : ℕ) → o ≡ Some u → u ≢ t) → has_drawn t o ≡ 0
has_none t None f = refl
has_none t (Some u) f = ap weight (ne_eqb u t (f u refl))

has_one : (t : ℕ) (o : Option ℕ) → o ≡ Some t → has_drawn t o ≡ 1
has_one t o e = ap (λ (x : Option ℕ). has_drawn t x) e ∙ ap weight (eq-eqb t t refl)

pub none_some : (t : ℕ) → None ≡ Some t → ⊥
none_some t e = true≢false (sym (ap is_some e))

pub inside_le : (t : ℕ) (o : Option ℕ) (b : Bool) → (b ≡ true → o ≡ Some t) → weight b ≤ has_drawn t o
inside_le t o true f = let h = has_one t o (f refl) in omega arith
inside_le t o false f = omega arith

pub drawn_le : (t : ℕ) (o : Option ℕ) (b : Bool) → (b ≡ true → o ≡ Some t) → weight b ≤ drawn o
drawn_le t o true f = let h : drawn o ≡ 1 = ap drawn (f refl) in omega arith
drawn_le t o false f = omega arith

module _ {V E O : Type 0} (list : V → List E) (owner : E → ℕ) (origin : V → O) (seats : ℕ) (from : O) where
  abbrev pub Table : Type 0
  Table = State (Option V) (View E O)

  abbrev pub K : Table → Type 0
  K = Kept list owner origin seats from

  -- each total is what it was
  abbrev pub Same : List (View E O) → List (View E O) → Type 0
  Same vs ws = (numbers vs ≡ numbers ws) × ((n : ℕ) → with_number n vs ≡ with_number n ws) × (tickets vs ≡ tickets ws) × ((t : ℕ) → with_ticket t vs ≡ with_ticket t ws) × (insiders vs ≡ insiders ws)

  abbrev pub FitsIn : List E → ℕ → ℕ → View E O → Type 0
  FitsIn = Fits owner seats from

  pub recut : (s : Table) (k : K s) (words : List ℕ) (views : List (View E O)) → words ≡ s.words → Same views s.views
      → ((id : ℕ) (v : View E O) → get_elem? views id ≡ some v → FitsIn k.log k.served k.line v)
      → K (record { words = words; homes = s.homes; views = views })
  recut s k words views e same fits = record {
    log = k.log;
    served = k.served;
    line = k.line;
    words = e ∙ k.words;
    home = ⊎_elim (λ h. inl h) (λ h. inr (h.0, let i = same.4 in let o = h.1 in omega arith)) k.home;
    few = k.few;
    all_numbers = same.0 ∙ k.all_numbers;
    each_number = λ n. let a = same.1 n in let b = k.each_number n in omega arith;
    all_tickets = same.2 ∙ k.all_tickets;
    each_ticket = λ t. let a = same.3 t in let b = k.each_ticket t in omega arith;
    owned = k.owned;
    fits = fits;
  }

  -- one view changes and weighs the same
  pub reseen : (s : Table) (k : K s) (words : List ℕ) (id : ℕ) (v w : View E O) → words ≡ s.words → get_elem? s.views id ≡ some v
      → length v.parts ≡ length w.parts → ((n : ℕ) → times n v.parts ≡ times n w.parts) → v.ticket ≡ w.ticket → v.inside ≡ w.inside
      → FitsIn k.log k.served k.line w
      → K (record { words = words; homes = s.homes; views = set s.views id w })
  reseen s k words id v w e at long each ticket inside fits = recut s k words (set s.views id w) e (
    total_same (λ (u : View E O). length u.parts) s.views id v w at long,
    (λ n. total_same (λ (u : View E O). times n u.parts) s.views id v w at (each n)),
    total_same (λ (u : View E O). drawn u.ticket) s.views id v w at (ap drawn ticket),
    (λ t. total_same (λ (u : View E O). has_drawn t u.ticket) s.views id v w at (ap (λ (o : Option ℕ). has_drawn t o) ticket)),
    total_same (λ (u : View E O). weight u.inside) s.views id v w at (ap weight inside),
  )
      (λ j u d. ⊎_elim (λ p. subst (λ (z : View E O). FitsIn k.log k.served k.line z) p.1 fits) (λ p. k.fits j u p.1) (at_set s.views id j w u d))

  short_line : (s : Table) (k : K s) → k.line ≤ seats
  short_line s k = let a = total_under (λ (u : View E O). drawn u.ticket) (λ (u : View E O). length u.parts) s.views (λ i x e. (k.fits i x e).numbered) in
      let b = k.all_tickets in let c = k.all_numbers in omega arith

  -- drawing a ticket

  longer_line : (log : List E) (served line : ℕ) (v : View E O) → FitsIn log served line v → FitsIn log served (line + 1) v
  longer_line log served line v f = record {
    in_line = λ t e. let p = f.in_line t e in (p.0, let q = p.1 in omega arith);
    numbered = f.numbered;
    in_turn = f.in_turn;
    knows = f.knows;
    hears = f.hears;
    gave = f.gave;
    of_origin = f.of_origin;
  }

  draw_fits : (log : List E) (served line n : ℕ) (g kn : List E) (o : O) → FitsIn log served line (resting n g kn o) → FitsIn log served (line + 1) (waiting n g kn o (served + line))
  draw_fits log served line n g kn o f = record {
    in_line = λ t e. let q : served + line ≡ t = ap (λ (x : Option ℕ). unwrap_or x 0) e in (omega arith, omega arith);
    numbered = omega arith;
    in_turn = λ e. absurd (true≢false (sym e));
    knows = f.knows;
    hears = f.hears;
    gave = f.gave;
    of_origin = f.of_origin;
  }

  draw_kept : (id n : ℕ) (g kn : List E) (o : O) (s : Table) (k : K s) → get_elem? s.views id ≡ some (resting n g kn o)
      → K (record { words = slice_set s.words 0 ((slice_index s.words 0 + 1) % 2 ^ 64); homes = s.homes; views = set s.views id (waiting n g kn o (k.served + k.line)) })
  draw_kept id n g kn o s k at =
      let t : ℕ = k.served + k.line in
      let v : View E O = resting n g kn o in
      let w : View E O = waiting n g kn o t in
      record {
        log = k.log;
        served = k.served;
        line = k.line + 1;
        words = ap (λ (ws : List ℕ). slice_set ws 0 ((slice_index ws 0 + 1) % 2 ^ 64)) k.words
            ∙ ap (λ (z : ℕ). z ∷ k.served % 2 ^ 64 ∷ []) (mod-add-mod t (2 ^ 64) 1 ∙ ap (λ (z : ℕ). z % 2 ^ 64) (the_same k.served k.line));
        home = ⊎_elim (λ h. inl h) (λ h. inr (h.0, let i = total_same (λ (u : View E O). weight u.inside) s.views id v w at refl in let p = h.1 in omega arith)) k.home;
        few = k.few;
        all_numbers = total_same (λ (u : View E O). length u.parts) s.views id v w at refl ∙ k.all_numbers;
        each_number = λ m. let a = total_same (λ (u : View E O). times m u.parts) s.views id v w at refl in let b = k.each_number m in omega arith;
        all_tickets = let a = total_set (λ (u : View E O). drawn u.ticket) s.views id v w at in let b = k.all_tickets in omega arith;
        each_ticket = λ u. let a = total_set (λ (x : View E O). has_drawn u x.ticket) s.views id v w at in dite (ℕ_discrete t u)
            (λ e. let z = total_none (λ (x : View E O). has_drawn u x.ticket) s.views (λ j x d. has_none u x.ticket (λ y p q. let r = (k.fits j x d).in_line y p in let r1 = r.1 in omega arith)) in
            let c : weight (eqb t u) ≡ 1 = ap weight (eq-eqb t u e) in omega arith)
            (λ ne. let c : weight (eqb t u) ≡ 0 = ap weight (ne_eqb t u ne) in let b = k.each_ticket u in omega arith);
        owned = k.owned;
        fits = λ j u d. ⊎_elim (λ p. subst (λ (z : View E O). FitsIn k.log k.served (k.line + 1) z) p.1 (draw_fits k.log k.served k.line n g kn o (k.fits id v at)))
            (λ p. longer_line k.log k.served k.line u (k.fits j u p.1)) (at_set s.views id j w u d);
      }
    where
      the_same : (a b : ℕ) → a + b + 1 ≡ a + (b + 1)
      the_same a b = omega arith

  pub draws : (slots id : ℕ) (st : Step (Option V)) (n : ℕ) (g kn : List E) (o : O) → Allows K slots id (resting n g kn o, []) 0 (λ m. (m + 1) % 2 ^ 64) (Draws st (resting n g kn o, []))
  draws slots id st n g kn o s k long at small = (
    waiting n g kn o (k.served + k.line),
    keeps,
    tt,
    draw_kept id n g kn o s k at,
    (k.served + k.line, ap (λ (ws : List ℕ). slice_index ws 0) k.words, refl),
  )

  -- looking which ticket is served

  nobody_else : (s : Table) (k : K s) (id : ℕ) (v : View E O) → get_elem? s.views id ≡ some v → v.ticket ≡ Some k.served → v.inside ≡ false → insiders s.views ≡ 0
  nobody_else s k id v at mine out =
      let a = total_over (λ (u : View E O). weight u.inside) (λ (u : View E O). has_drawn k.served u.ticket) s.views id v
      (λ j u d. inside_le k.served u.ticket u.inside (λ i. ((k.fits j u d).in_turn i).0)) at in
      let b = k.each_ticket k.served in
      let c = has_one k.served v.ticket mine in
      let e : weight v.inside ≡ 0 = ap weight out in
      omega arith

  enter_fits : (log : List E) (served line n : ℕ) (g kn : List E) (o : O) (t : ℕ) (x : V) → served ≡ t → list x ≡ log → FitsIn log served line (waiting n g kn o t) → FitsIn log served line (holding n g (list x) o t)
  enter_fits log served line n g kn o t x mine is f = record {
    in_line = f.in_line;
    numbered = f.numbered;
    in_turn = λ e. (ap Some (sym mine), is);
    knows = prefix_of_same (list x) log is;
    hears = f.hears;
    gave = f.gave;
    of_origin = f.of_origin;
  }

  enter_kept : (id n : ℕ) (g kn : List E) (o : O) (t : ℕ) (s : Table) (k : K s) (x : V) → get_elem? s.views id ≡ some (waiting n g kn o t)
      → k.served ≡ t → s.homes ≡ some (Some x) ∷ [] → list x ≡ k.log
      → K (record { words = slice_set s.words 1 (slice_index s.words 1); homes = slice_set s.homes 0 none; views = set s.views id (holding n g (list x) o t) })
  enter_kept id n g kn o t s k x at mine homes is =
      let v : View E O = waiting n g kn o t in
      let w : View E O = holding n g (list x) o t in
      record {
        log = k.log;
        served = k.served;
        line = k.line;
        words = ap (λ (ws : List ℕ). slice_set ws 1 (slice_index ws 1)) k.words;
        home = inr (ap (λ hs. slice_set hs 0 none) homes, (let a = total_set (λ (u : View E O). weight u.inside) s.views id v w at in omega arith));
        few = k.few;
        all_numbers = total_same (λ (u : View E O). length u.parts) s.views id v w at refl ∙ k.all_numbers;
        each_number = λ m. let a = total_same (λ (u : View E O). times m u.parts) s.views id v w at refl in let b = k.each_number m in omega arith;
        all_tickets = total_same (λ (u : View E O). drawn u.ticket) s.views id v w at refl ∙ k.all_tickets;
        each_ticket = λ u. let a = total_same (λ (x : View E O). has_drawn u x.ticket) s.views id v w at refl in let b = k.each_ticket u in omega arith;
        owned = k.owned;
        fits = λ j u d. ⊎_elim (λ p. subst (λ (z : View E O). FitsIn k.log k.served k.line z) p.1 (enter_fits k.log k.served k.line n g kn o t x mine is (k.fits id v at)))
            (λ p. k.fits j u p.1) (at_set s.views id j w u d);
      }

  pub looks : (slots id : ℕ) (st : Step (Option V)) (n : ℕ) (g kn : List E) (o : O) (t : ℕ)
      → Allows K slots id (waiting n g kn o t, []) 1 (λ m. m) (Looks list owner origin st (waiting n g kn o t, []))
  looks slots id st n g kn o t s k long at small = dite (ℕ_discrete (slice_index s.words 1) (t % 2 ^ 64))
      (λ e.
      let f = k.fits id (waiting n g kn o t) at in
      let line = f.in_line t refl in
      let short = short_line s k in
      let few = k.few in
      let mine : k.served ≡ t = one_turn k.served t (2 ^ 64) line.0 (let l = line.1 in omega arith) (sym (ap (λ (ws : List ℕ). slice_index ws 1) k.words) ∙ e) in
      ⊎_elim
      (λ h. (
        holding n g (list h.0) o t,
        takes 0 (Some h.0),
        ap (λ hs. get_elem? hs 0) h.1,
        enter_kept id n g kn o t s k h.0 at mine h.1 h.2,
        (
          (λ _. (
            h.0,
            refl,
            (
              subst (IsPrefix kn) (sym h.2) f.knows,
              ap (of owner n) h.2 ∙ (All-head (λ (p : ℕ × List E). (p.0 < seats) × (of owner p.0 k.log ≡ p.1)) (n, g) [] f.gave).1,
              ap Some (f.of_origin o refl ∙ sym h.3),
            ),
          )),
          (λ ne. absurd (ne e)),
        ),
      ))
      (λ h. absurd (let z = nobody_else s k id (waiting n g kn o t) at (ap Some (sym mine)) refl in let p = h.1 in omega arith))
      k.home)
      (λ ne. (
        waiting n g kn o t,
        keeps,
        tt,
        reseen s k (slice_set s.words 1 (slice_index s.words 1)) id (waiting n g kn o t) (waiting n g kn o t)
            (ap (λ (ws : List ℕ). slice_set ws 1 (slice_index ws 1)) k.words ∙ sym k.words) at refl (λ m. refl) refl refl (k.fits id (waiting n g kn o t) at),
        ((λ e. absurd (ne e)), (λ _. refl)),
      ))

  -- handing on

  -- what is left for the others, once the ticket that was served is gone and this seat has added to the list
  other_fits : (log added : List E) (served line n : ℕ) (u : View E O) → FitsIn log served line u → All (λ e. owner e ≡ n) added
      → ((t : ℕ) → u.ticket ≡ Some t → t ≢ served) → ((k : ℕ) (d : ℕ × List E) → k < length u.parts → (get_or u.parts k d).0 ≢ n)
      → FitsIn (log ++ added) (served + 1) (line - 1) u
  other_fits log added served line n u f own later apart = record {
    in_line = λ t e. let p = f.in_line t e in let a = p.0 in let b = p.1 in let c = later t e in (omega arith, omega arith);
    numbered = f.numbered;
    in_turn = λ e. absurd (later served (f.in_turn e).0 refl);
    knows = prefix_trans u.known log (log ++ added) f.knows (added, refl);
    hears = All-weaker (λ (h : List E). IsPrefix h log) (λ (h : List E). IsPrefix h (log ++ added)) (λ h p. prefix_trans h log (log ++ added) p (added, refl)) u.heard f.hears;
    gave = λ k d lt. let p : ℕ × List E = get_or u.parts k d in let old = f.gave k d lt in
        (old.0, filter-append (λ (e : E). eqb (owner e) p.0) log added ∙ ap (λ (l : List E). of owner p.0 log ++ l) (of_none owner n p.0 added own (apart k d lt)) ∙ append-nil (of owner p.0 log) ∙ old.1);
    of_origin = f.of_origin;
  }

  leave_fits : (log added : List E) (served line n : ℕ) (g kn : List E) (o : O) (t : ℕ) → FitsIn log served line (holding n g kn o t) → All (λ e. owner e ≡ n) added
      → FitsIn (log ++ added) (served + 1) (line - 1) (resting n (g ++ added) (log ++ added) o)
  leave_fits log added served line n g kn o t f own =
      let mine = All-head (λ (p : ℕ × List E). (p.0 < seats) × (of owner p.0 log ≡ p.1)) (n, g) [] f.gave in
      record {
        in_line = λ u e. absurd (none_some u e);
        numbered = omega arith;
        in_turn = λ e. absurd (true≢false (sym e));
        knows = prefix_self (log ++ added);
        hears = all_none (λ (h : List E). IsPrefix h (log ++ added));
        gave = All-cons (λ (p : ℕ × List E). (p.0 < seats) × (of owner p.0 (log ++ added) ≡ p.1)) (n, g ++ added) []
            (mine.0, filter-append (λ (e : E). eqb (owner e) n) log added ∙ (λ i. mine.1 i ++ of_all owner n added own i))
            (all_none (λ (p : ℕ × List E). (p.0 < seats) × (of owner p.0 (log ++ added) ≡ p.1)));
        of_origin = f.of_origin;
      }

  put_home : (x : V) (log : List E) (views : List (View E O)) (homes : List (mathlib.Core.Option.Option (Option V))) → IsShelved list origin from log views homes → slice_set homes 0 (some (Some x)) ≡ some (Some x) ∷ []
  put_home x log views homes h = ⊎_elim (λ p. ap (λ hs. slice_set hs 0 (some (Some x))) p.1) (λ p. ap (λ hs. slice_set hs 0 (some (Some x))) p.0) h

  leave_kept : (id n : ℕ) (g kn added : List E) (o : O) (t : ℕ) (x : V) (s : Table) (k : K s) → get_elem? s.views id ≡ some (holding n g kn o t)
      → list x ≡ k.log ++ added → All (λ e. owner e ≡ n) added → origin x ≡ o
      → K (record { words = slice_set s.words 1 ((slice_index s.words 1 + 1) % 2 ^ 64); homes = slice_set s.homes 0 (some (Some x)); views = set s.views id (resting n (g ++ added) (k.log ++ added) o) })
  leave_kept id n g kn added o t x s k at is own org =
      let v : View E O = holding n g kn o t in
      let w : View E O = resting n (g ++ added) (k.log ++ added) o in
      let f = k.fits id v at in
      let served : t ≡ k.served = ap (λ (y : Option ℕ). unwrap_or y 0) (f.in_turn refl).0 in
      let mine = All-head (λ (p : ℕ × List E). (p.0 < seats) × (of owner p.0 k.log ≡ p.1)) (n, g) [] f.gave in
      let line = f.in_line t refl in
      record {
        log = k.log ++ added;
        served = k.served + 1;
        line = k.line - 1;
        words = ap (λ (ws : List ℕ). slice_set ws 1 ((slice_index ws 1 + 1) % 2 ^ 64)) k.words
            ∙ (λ i. ap (λ (z : ℕ). z % 2 ^ 64) (moved k.served k.line (let l = line.0 in let m = line.1 in omega arith)) i ∷ mod-add-mod k.served (2 ^ 64) 1 i ∷ []);
        home = inl (x, put_home x k.log s.views s.homes k.home, is, org ∙ f.of_origin o refl);
        few = k.few;
        all_numbers = total_same (λ (u : View E O). length u.parts) s.views id v w at refl ∙ k.all_numbers;
        each_number = λ m. let a = total_same (λ (u : View E O). times m u.parts) s.views id v w at refl in let b = k.each_number m in omega arith;
        all_tickets = let a = total_set (λ (u : View E O). drawn u.ticket) s.views id v w at in let b = k.all_tickets in omega arith;
        each_ticket = λ u. let a = total_set (λ (y : View E O). has_drawn u y.ticket) s.views id v w at in let b = k.each_ticket u in omega arith;
        owned = All-append (λ (e : E). owner e < seats) k.log added k.owned (All-weaker (λ (e : E). owner e ≡ n) (λ (e : E). owner e < seats) (λ e p. let q = mine.0 in omega arith) added own);
        fits = λ j u d. ⊎_elim
            (λ p. subst (λ (z : View E O). FitsIn (k.log ++ added) (k.served + 1) (k.line - 1) z) p.1 (leave_fits k.log added k.served k.line n g kn o t f own))
            (λ p. other_fits k.log added k.served k.line n u (k.fits j u p.1) own
            (λ r e q. let two = total_two (λ (y : View E O). has_drawn k.served y.ticket) s.views id j v u (λ z. p.0 (sym z)) at p.1 in
            let a = has_one k.served v.ticket (ap Some served) in let b = has_one k.served u.ticket (e ∙ ap Some q) in let c = k.each_ticket k.served in omega arith)
            (λ i d' lt q. let two = total_two (λ (y : View E O). times n y.parts) s.views id j v u (λ z. p.0 (sym z)) at p.1 in
            let a = times_at n 0 (n, g) v.parts (omega arith) refl in let b = times_at n i d' u.parts lt q in let c = k.each_number n in omega arith))
            (at_set s.views id j w u d);
      }
    where
      moved : (a b : ℕ) → 1 ≤ b → a + b ≡ a + 1 + (b - 1)
      moved a b le = omega arith

  pub hands_on : (slots id : ℕ) (st : Step (Option V)) (n : ℕ) (g kn added : List E) (o : O) (t : ℕ) (x : V) → list x ≡ kn ++ added → All (λ e. owner e ≡ n) added → origin x ≡ o
      → Allows K slots id (holding n g kn o t, (0, Some x) ∷ []) 1 (λ m. (m + 1) % 2 ^ 64) (HandsOn list st (holding n g kn o t, (0, Some x) ∷ []))
  hands_on slots id st n g kn added o t x is own org s k long at small =
      let f = k.fits id (holding n g kn o t) at in
      let all : kn ≡ k.log = (f.in_turn refl).1 in
      let whole : list x ≡ k.log ++ added = is ∙ ap (λ (l : List E). l ++ added) all in
      let gone : added ≡ drop (length kn) (list x) = sym (ap (λ (l : List E). drop (length kn) l) is ∙ drop-append_seam kn added) in (
        resting n (g ++ drop (length kn) (list x)) (list x) o,
        gives,
        tt,
        subst (λ (w : View E O). K (record { words = slice_set s.words 1 ((slice_index s.words 1 + 1) % 2 ^ 64); homes = slice_set s.homes 0 (some (Some x)); views = set s.views id w }))
            (λ i. resting n (g ++ gone i) (sym whole i) o) (leave_kept id n g kn added o t x s k at whole own org),
        refl,
      )

  -- the same for a seat that is known to be so

  pub draws_at : (slots id : ℕ) (m : Me (Option V) (View E O)) (n : ℕ) (g kn : List E) (o : O) → m ≡ (resting n g kn o, [])
      → Allows K slots id m 0 (λ x. (x + 1) % 2 ^ 64) (Draws (step 0 0 0 0 none) m)
  draws_at slots id m n g kn o e = subst (λ (z : Me (Option V) (View E O)). Allows K slots id z 0 (λ x. (x + 1) % 2 ^ 64) (Draws (step 0 0 0 0 none) z)) (sym e) (draws slots id (step 0 0 0 0 none) n g kn o)

  pub looks_at : (slots id : ℕ) (m : Me (Option V) (View E O)) (n : ℕ) (g kn : List E) (o : O) (t : ℕ) → m ≡ (waiting n g kn o t, [])
      → Allows K slots id m 1 (λ x. x) (Looks list owner origin (step 0 0 0 0 none) m)
  looks_at slots id m n g kn o t e = subst (λ (z : Me (Option V) (View E O)). Allows K slots id z 1 (λ x. x) (Looks list owner origin (step 0 0 0 0 none) z)) (sym e) (looks slots id (step 0 0 0 0 none) n g kn o t)

  pub hands_on_at : (slots id : ℕ) (m : Me (Option V) (View E O)) (n : ℕ) (g kn added : List E) (o : O) (t : ℕ) (x : V) → m ≡ (holding n g kn o t, (0, Some x) ∷ [])
      → list x ≡ kn ++ added → All (λ e. owner e ≡ n) added → origin x ≡ o
      → Allows K slots id m 1 (λ y. (y + 1) % 2 ^ 64) (HandsOn list (step 0 0 0 0 none) m)
  hands_on_at slots id m n g kn added o t x e is own org = subst (λ (z : Me (Option V) (View E O)). Allows K slots id z 1 (λ y. (y + 1) % 2 ^ 64) (HandsOn list (step 0 0 0 0 none) z)) (sym e) (hands_on slots id (step 0 0 0 0 none) n g kn added o t x is own org)
