-- How the chains of a log are made and followed.
use Rattle.std.proofs.Common.{◌≡◌, ℕ, ◌+◌, ◌<◌, ◌≤◌, ◌^◌, ◌⊎◌, inl, inr, List, [], ◌∷◌, length, get_or, set, drop}
use Rattle.std.proofs.Common.{replicate, refl, ap, sym, ◌∙◌, subst, Bool, true, false, cond, arith}
use Rattle.std.specs.Prelude.{Option, Some, None, ◌==◌, slice_get}
use Rattle.std.specs.List.{filter, enumerate_from}
use Rattle.std.specs.Option.{option_map_or}
use Rattle.std.proofs.lemmas.Bool.{eq-eqb, ne_eqb, cases_eq}
use Rattle.std.proofs.lemmas.List.{at_drop_more, at_drop_all, length-set, length-replicate, get_or-replicate}
use Rattle.std.proofs.lemmas.List.{get_or-set_same, get_or-set_other}
use Rattle.std.proofs.lemmas.Option.{get_or_from_slice_get, slice_get-get_or}
use Rattle.rma_record.specs.declared.items.Item.{Item}
use Rattle.run_report.specs.Chains.{AreChains, Leads, chain_of, is_in, links}

-- a place that is lower is below all the same
pub leads_lower : (log : List Item) (next : List ℕ) (low lower at : ℕ) (ones : List (ℕ × Item)) → lower ≤ low
    → Leads log next low at ones → Leads log next lower at ones
leads_lower log next low lower at [] h l = l
leads_lower log next low lower at (one ∷ ones) h l = let below = l.1 in (l.0, omega arith, l.2, l.3, l.4)

-- what stands below the places may change
pub leads_kept : (log : List Item) (next : List ℕ) (low at place to : ℕ) (ones : List (ℕ × Item)) → place < low
    → Leads log next low at ones → Leads log (set next place to) low at ones
leads_kept log next low at place to [] h l = l
leads_kept log next low at place to (one ∷ ones) h l =
    let below = l.1 in
    let same : get_or (set next place to) at 0
    ≡ get_or next at 0 = get_or-set_other next place at to 0 (λ e. omega arith) in
    let P : ℕ → Type 0 = λ further. Leads log (set next place to) (at + 1) further ones in (
      l.0,
      l.1,
      l.2,
      l.3,
      subst P (sym same)
          (leads_kept log next (at + 1) (get_or next at 0) place to ones (omega arith) l.4),
    )

-- one item more, from the front
links_more : (calls chain at : ℕ) (item : Item) (log : List Item) → at < length log → slice_get log at ≡ Some item
    → links calls chain at (drop at log)
    ≡ cond (is_in calls chain item) ((at, item) ∷ links calls chain (at + 1) (drop (at + 1) log))
    (links calls chain (at + 1) (drop (at + 1) log))
links_more calls chain at item log h e =
    let here : get_or log at item ≡ item = get_or_from_slice_get log at item item e in
    at_drop_more (links calls chain at) log at item h
    ∙ ap (λ one. cond (is_in calls chain one) ((at, one) ∷ links calls chain (at + 1) (drop (at + 1) log))
    (links calls chain (at + 1) (drop (at + 1) log))) here

-- before any item was put, each chain is at its end
pub no_chains : (calls : ℕ) (log : List Item) (first next : List ℕ)
    → first ≡ replicate (calls + length log) (length log)
    → next ≡ replicate (length log) (length log) → length log < 2 ^ 32 → calls < 2 ^ 32
    → AreChains calls log (length log) first next
no_chains calls log first next f n items few = record {
  count = count;
  places = ap length n ∙ length-replicate (length log) (length log);
  few_items = items;
  few_calls = few;
  chains = λ chain h.
      let all = count in
      let there : chain < calls + length log = omega arith in
      let at_end : get_or first chain 0 ≡ length log =
      ap (λ (xs : List ℕ). get_or xs chain 0) f ∙ get_or-replicate (calls + length log) chain (length log) 0 there in
      let e : length log ≤ get_or first chain 0 = omega arith in
      let none : links calls chain (length log) (drop (length log) log)
      ≡ [] = at_drop_all (links calls chain (length log)) log (length log) (omega arith) in
      let P : List (ℕ × Item) → Type 0 = λ ones. Leads log next (length log) (get_or first chain 0) ones in
      subst P (sym none) e;
}
  where
    count : length first ≡ calls + length log
    count = ap length f ∙ length-replicate (calls + length log) (length log)

-- an item that is in no chain leaves all as they are
pub unlinked : (calls at : ℕ) (log : List Item) (item : Item) (first next : List ℕ) → at < length log
    → slice_get log at ≡ Some item
    → ((chain : ℕ) → chain < length first → is_in calls chain item ≡ false)
    → AreChains calls log (at + 1) first next → AreChains calls log at first next
unlinked calls at log item first next h e none c = record {
  count = c.count;
  places = c.places;
  few_items = c.few_items;
  few_calls = c.few_calls;
  chains = λ chain l.
      let rest = links calls chain (at + 1) (drop (at + 1) log) in
      let same : links calls chain at (drop at log) ≡ rest = links_more calls chain at item log h e
      ∙ ap (λ b. cond b ((at, item) ∷ rest) rest) (none chain l) in
      let P : List (ℕ × Item) → Type 0 = λ ones. Leads log next at (get_or first chain 0) ones in
      subst P (sym same) (leads_lower log next (at + 1) at (get_or first chain 0) rest (omega arith)
      (c.chains chain l));
}

-- an item comes before the others of its chain
pub linked : (calls at chain : ℕ) (log : List Item) (item : Item) (first next : List ℕ) → at < length log
    → slice_get log at ≡ Some item
    → chain_of calls item ≡ Some chain → chain < length first
    → AreChains calls log (at + 1) first next
    → AreChains calls log at (set first chain at) (set next at (get_or first chain 0))
linked calls at chain log item first next h e is l c = record {
  count = length-set first chain at ∙ c.count;
  places = length-set next at (get_or first chain 0) ∙ c.places;
  few_items = c.few_items;
  few_calls = c.few_calls;
  chains = λ other m. of other (let len = length-set first chain at in omega arith) (cases_eq chain other);
}
  where
    next' : List ℕ
    next' = set next at (get_or first chain 0)

    rest_of : ℕ → List (ℕ × Item)
    rest_of other = links calls other (at + 1) (drop (at + 1) log)

    in_it : (other : ℕ) → is_in calls other item ≡ (chain == other)
    in_it other = ap (λ o. option_map_or (λ one. one == other) o false) is

    kept : (other : ℕ) → other < length first → Leads log next' (at + 1) (get_or first other 0) (rest_of other)
    kept other m = leads_kept log next (at + 1) (get_or first other 0) at (get_or first chain 0) (rest_of other)
        (omega arith) (c.chains other m)

    of : (other : ℕ) → other < length first → (chain ≡ other) ⊎ (chain ≡ other → ⊥)
        → Leads log next' at (get_or (set first chain at) other 0) (links calls other at (drop at log))
    of other m (inl same) =
        let ones : links calls other at (drop at log)
        ≡ (at, item) ∷ rest_of other = links_more calls other at item log h e
        ∙ ap (λ b. cond b ((at, item) ∷ rest_of other) (rest_of other)) (in_it other ∙ eq-eqb chain other same) in
        let here : get_or (set first chain at) other 0 ≡ at = ap (λ k. get_or (set first chain at) k 0) (sym same)
        ∙ get_or-set_same first chain at 0 l in
        let far : get_or next' at 0 ≡ get_or first other 0 = get_or-set_same next at (get_or first chain 0) 0
        (let p = c.places in omega arith) ∙ ap (λ k. get_or first k 0) same in
        let Q : ℕ → Type 0 = λ further. Leads log next' (at + 1) further (rest_of other) in
        let whole : Leads log next' at at ((at, item) ∷ rest_of other) =
        (refl, omega arith, h, e, subst Q (sym far) (kept other m)) in
        let P : List (ℕ × Item) → Type 0 = λ them. Leads log next' at at them in
        let R : ℕ → Type 0 = λ begin. Leads log next' at begin (links calls other at (drop at log)) in
        subst R (sym here) (subst P (sym ones) whole)
    of other m (inr apart) =
        let ones : links calls other at (drop at log) ≡ rest_of other = links_more calls other at item log h e
        ∙ ap (λ b. cond b ((at, item) ∷ rest_of other) (rest_of other)) (in_it other ∙ ne_eqb chain other apart) in
        let here : get_or (set first chain at) other 0
        ≡ get_or first other 0 = get_or-set_other first chain other at 0 (λ q. apart (sym q)) in
        let P : List (ℕ × Item) → Type 0 = λ them. Leads log next' at (get_or first other 0) them in
        let R : ℕ → Type 0 = λ begin. Leads log next' at begin (links calls other at (drop at log)) in
        subst R (sym here) (subst P (sym ones)
        (leads_lower log next' (at + 1) at (get_or first other 0) (rest_of other) (omega arith) (kept other m)))

-- the same of the item that is read at a place
pub put_none : (calls at : ℕ) (log : List Item) (d : Item) (first next : List ℕ) → at < length log
    → chain_of calls (get_or log at d) ≡ None
    → AreChains calls log (at + 1) first next → AreChains calls log at first next
put_none calls at log d first next h is c = unlinked calls at log (get_or log at d) first next h
    (slice_get-get_or log at d h)
    (λ chain l. ap (λ o. option_map_or (λ one. one == chain) o false) is) c

pub put_past : (calls at chain : ℕ) (log : List Item) (d : Item) (first next : List ℕ) → at < length log
    → Some chain ≡ chain_of calls (get_or log at d)
    → length first ≤ chain → AreChains calls log (at + 1) first next → AreChains calls log at first next
put_past calls at chain log d first next h is p c = unlinked calls at log (get_or log at d) first next h
    (slice_get-get_or log at d h)
    (λ other l. ap (λ o. option_map_or (λ one. one == other) o false) (sym is)
    ∙ ne_eqb chain other (λ e. omega arith)) c

pub put_some : (calls at chain further : ℕ) (log : List Item) (d : Item) (first next : List ℕ) → at < length log
    → Some chain ≡ chain_of calls (get_or log at d)
    → chain < length first → further ≡ get_or first chain 0 → AreChains calls log (at + 1) first next
    → AreChains calls log at (set first chain at) (set next at further)
put_some calls at chain further log d first next h is l e c =
    let P : ℕ → Type 0 = λ place. AreChains calls log at (set first chain at) (set next at place) in
    subst P (sym e) (linked calls at chain log (get_or log at d) first next h (slice_get-get_or log at d h)
    (sym is) l c)
