-- Fronts are joined in any order, and once is enough.
use Rattle.std.proofs.Common.{◌≡◌, ℕ, max, List, [], ◌∷◌, refl, ap, sym, ◌∙◌, arith, Option, Some, None}
use Rattle.std.specs.List.{fold}
use Rattle.cell_face.specs.Fronts.{greater, greater_front}
use Rattle.kept_rows.specs.Gifts.{Front, gained_of}
use Rattle.entry_gains.specs.Slots.{joined}

max_assoc : (a b c : ℕ) → max (max a b) c ≡ max a (max b c)
max_assoc a b c = omega arith

max_comm : (a b : ℕ) → max a b ≡ max b a
max_comm a b = omega arith

max_same : (a : ℕ) → max a a ≡ a
max_same a = omega arith

greater_none : (xs : List ℕ) → greater xs [] ≡ xs
greater_none [] = refl
greater_none (x ∷ xs) = refl

greater_assoc : (xs ys zs : List ℕ) → greater (greater xs ys) zs ≡ greater xs (greater ys zs)
greater_assoc [] ys zs = refl
greater_assoc (x ∷ xs) [] zs = refl
greater_assoc (x ∷ xs) (y ∷ ys) [] = refl
greater_assoc (x ∷ xs) (y ∷ ys) (z ∷ zs) = rw (max_assoc x y z, greater_assoc xs ys zs) refl

greater_comm : (xs ys : List ℕ) → greater xs ys ≡ greater ys xs
greater_comm [] ys = sym (greater_none ys)
greater_comm (x ∷ xs) [] = refl
greater_comm (x ∷ xs) (y ∷ ys) = ap (λ n. n ∷ greater xs ys) (max_comm x y)
    ∙ ap (λ ns. max y x ∷ ns) (greater_comm xs ys)

greater_same : (xs : List ℕ) → greater xs xs ≡ xs
greater_same [] = refl
greater_same (x ∷ xs) = rw (max_same x, greater_same xs) refl

front_assoc : (a b c : Front) → greater_front (greater_front a b) c ≡ greater_front a (greater_front b c)
front_assoc None b c = refl
front_assoc (Some a) None c = refl
front_assoc (Some a) (Some b) None = refl
front_assoc (Some a) (Some b) (Some c) = ap Some (greater_assoc a b c)

front_comm : (a b : Front) → greater_front a b ≡ greater_front b a
front_comm None None = refl
front_comm None (Some b) = refl
front_comm (Some a) None = refl
front_comm (Some a) (Some b) = ap Some (greater_comm a b)

front_same : (a : Front) → greater_front a a ≡ a
front_same None = refl
front_same (Some a) = ap Some (greater_same a)

pub joined_none : (a : Option Front) → joined a None ≡ a
joined_none None = refl
joined_none (Some a) = refl

pub joined_assoc : (a b c : Option Front) → joined (joined a b) c ≡ joined a (joined b c)
joined_assoc None b c = refl
joined_assoc (Some a) None c = refl
joined_assoc (Some a) (Some b) None = refl
joined_assoc (Some a) (Some b) (Some c) = ap Some (front_assoc a b c)

pub joined_comm : (a b : Option Front) → joined a b ≡ joined b a
joined_comm None None = refl
joined_comm None (Some b) = refl
joined_comm (Some a) None = refl
joined_comm (Some a) (Some b) = ap Some (front_comm a b)

pub joined_same : (a : Option Front) → joined a a ≡ a
joined_same None = refl
joined_same (Some a) = ap Some (front_same a)

-- the first goes past the second
pub joined_swap : (a b c : Option Front) → joined a (joined b c) ≡ joined b (joined a c)
joined_swap a b c = sym (joined_assoc a b c) ∙ (ap (λ x. joined x c) (joined_comm a b) ∙ joined_assoc b a c)

-- what tokens carry together, one by one
pub gained_more : (front : Front) (fronts : List Front) →
    gained_of (front ∷ fronts) ≡ joined (Some front) (gained_of fronts)
gained_more front [] = refl
gained_more front (other ∷ fronts) = ap Some (fold_more front other fronts)
  where
    fold_more : (a b : Front) (cs : List Front) →
        fold greater_front (greater_front a b) cs ≡ greater_front a (fold greater_front b cs)
    fold_more a b [] = refl
    fold_more a b (c ∷ cs) = ap (λ x. fold greater_front x cs) (front_assoc a b c) ∙ fold_more a (greater_front b c) cs
