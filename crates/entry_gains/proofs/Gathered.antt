-- Gifts that are gathered: one entry more, and what several tests let pass together.
use Rattle.std.proofs.Common.{◌≡◌, ℕ, Bool, true, false, ◌||◌, cond, if◌then◌else◌, List, [], ◌∷◌, ◌++◌, refl, ap, sym}
use Rattle.std.proofs.Common.{◌∙◌, Option, Some, None}
use Rattle.std.specs.List.{AllByRecursion, flat_map, fold, list_any}
use Rattle.std.specs.Option.{option_map_or}
use Rattle.board_rules.specs.Edges.{Event, is_edge}
use Rattle.kept_rows.specs.Gifts.{Front, Given, gained_of, gift_to}
use Rattle.entry_gains.specs.Kept.{gathered, gift_if}
use Rattle.entry_gains.specs.Slots.{joined}
use Rattle.entry_gains.proofs.Joined.{gained_more, joined_assoc, joined_none, joined_same, joined_swap}

-- the gifts to an event are those of the entries with an edge to it
pub gathers_edges : (event : Event) (pairs : List (Event × Given)) →
    gained_of (flat_map (gift_to event) pairs) ≡ gathered (λ from. is_edge from event) pairs
gathers_edges event [] = refl
gathers_edges event (one ∷ pairs) = of (is_edge one.0 event) one.1.gift (gathers_edges event pairs)
  where
    of : (passes : Bool) (gift : Option Front) →
        gained_of (flat_map (gift_to event) pairs) ≡ gathered (λ from. is_edge from event) pairs →
        gained_of ((if passes then option_map_or (λ front. front ∷ []) gift [] else []) ++ flat_map
        (gift_to event) pairs) ≡ joined (cond passes gift None) (gathered (λ from. is_edge from event) pairs)
    of true None rest = rest
    of true (Some front) rest = gained_more front (flat_map (gift_to event) pairs) ∙ ap (joined (Some front)) rest
    of false gift rest = rest

-- one entry more
pub gathered_more : (test : Event → Bool) (pairs : List (Event × Given)) (one : Event × Given) →
    gathered test (pairs ++ one ∷ []) ≡ joined (gathered test pairs) (gift_if (test one.0) one.1)
gathered_more test [] one = joined_none (gift_if (test one.0) one.1)
gathered_more test (first ∷ pairs) one =
    ap (joined (gift_if (test first.0) first.1)) (gathered_more test pairs one)
    ∙ sym (joined_assoc (gift_if (test first.0) first.1) (gathered test pairs) (gift_if (test one.0) one.1))

-- what one test or the other lets pass
pub gathered_either : (p q : Event → Bool) (pairs : List (Event × Given)) →
    gathered (λ event. p event || q event) pairs ≡ joined (gathered p pairs) (gathered q pairs)
gathered_either p q [] = refl
gathered_either p q (one ∷ pairs) =
    ap (joined (cond (p one.0 || q one.0) one.1.gift None)) (gathered_either p q pairs)
    ∙ of (p one.0) (q one.0) one.1.gift (gathered p pairs) (gathered q pairs)
  where
    of : (x y : Bool) (g a b : Option Front) →
        joined (cond (x || y) g None) (joined a b) ≡ joined (joined (cond x g None) a) (joined (cond y g None) b)
    of true true g a b =
        ap (λ z. joined z (joined a b)) (sym (joined_same g))
        ∙ (joined_assoc g g (joined a b) ∙ (ap (joined g) (joined_swap g a b) ∙ sym (joined_assoc g a (joined g b))))
    of true false g a b = sym (joined_assoc g a b)
    of false true g a b = joined_swap g a b
    of false false g a b = refl

-- what no test lets pass
pub gathered_none : (pairs : List (Event × Given)) → gathered (λ event. false) pairs ≡ None
gathered_none [] = refl
gathered_none (one ∷ pairs) = gathered_none pairs

-- what some test of a list lets pass
pub gathered_any : (p : ℕ → Event → Bool) (ks : List ℕ) (pairs : List (Event × Given)) →
    gathered (λ event. list_any (λ k. p k event) ks) pairs ≡ fold (λ all k. joined all (gathered (p k) pairs)) None ks
gathered_any p ks pairs = from p ks pairs ∙ fold_from None (λ k. gathered (p k) pairs) ks
  where
    all : (ℕ → Option Front) → List ℕ → Option Front
    all f [] = None
    all f (k ∷ ks) = joined (f k) (all f ks)

    from : (p : ℕ → Event → Bool) (ks : List ℕ) (pairs : List (Event × Given)) →
        gathered (λ event. list_any (λ k. p k event) ks) pairs ≡ all (λ k. gathered (p k) pairs) ks
    from p [] pairs = gathered_none pairs
    from p (k ∷ ks) pairs = gathered_either (p k) (λ event. list_any (λ k. p k event) ks) pairs
        ∙ ap (joined (gathered (p k) pairs)) (from p ks pairs)

    fold_from : (start : Option Front) (f : ℕ → Option Front) (ks : List ℕ) →
        joined start (all f ks) ≡ fold (λ all k. joined all (f k)) start ks
    fold_from start f [] = joined_none start
    fold_from start f (k ∷ ks) = sym (joined_assoc start (f k) (all f ks)) ∙ fold_from (joined start (f k)) f ks

-- tests that agree on the entries
pub gathered_alike : (p q : Event → Bool) (pairs : List (Event × Given)) →
    AllByRecursion (λ (one : Event × Given). p one.0 ≡ q one.0) pairs → gathered p pairs ≡ gathered q pairs
gathered_alike p q [] all = refl
gathered_alike p q (one ∷ pairs) all =
    ap (λ b. joined (cond b one.1.gift None) (gathered p pairs)) all.0
    ∙ ap (joined (gift_if (q one.0) one.1)) (gathered_alike p q pairs all.1)
