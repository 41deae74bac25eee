-- Lists by their elements and by their splits, and edges that are met.
use Rattle.std.proofs.Common.{◌≡◌, ℕ, zero, suc, ◌<◌, ◌≤◌, true, List, [], ◌∷◌, ◌++◌, length, Option, Some, None, refl}
use Rattle.std.proofs.Common.{ap, sym, subst, arith, append_assoc, append-nil}
use Rattle.std.specs.Prelude.{map, slice_get}
use Rattle.list_laws.proofs.Each.{each_at}
use Rattle.board_rules.specs.Edges.{Event, is_edge}
use Rattle.call_rules.specs.declared.elements.Change.{Change}
use Rattle.lawful_runs.specs.Accesses.{Touching, EachPair}
use Rattle.lawful_runs.specs.Cells.{KeepsOrder}
use Rattle.rank_laws.specs.Deliveries.{place_after}
use Rattle.rank_laws.specs.Fronts.{Lows, AreAtMost, Put, rows_put, event_after, AreMetFrom}

-- ---- lists

pub pair_got : {X : Type 0} (R : X → X → Type 0) (xs : List X) (i j : ℕ) (x y : X) → EachPair R xs →
    slice_get xs i ≡ Some x →
    slice_get xs j ≡ Some y → i < j → R x y
pair_got R [] i j x y all e f below = absurd (cc e)
pair_got R (z ∷ zs) zero zero x y all e f below = absurd (omega arith)
pair_got R (z ∷ zs) (suc i) zero x y all e f below = absurd (omega arith)
pair_got R (z ∷ zs) zero (suc j) x y all e f below =
    let same : z ≡ x = cc e in subst (λ w. R w y) same (each_at (R z) zs j y all.0 f)
pair_got R (z ∷ zs) (suc i) (suc j) x y all e f below = pair_got R zs i j x y all.1 e f (omega (arith, below))

pub mapped_got : {X Y : Type 0} (f : X → Y) (xs : List X) (k : ℕ) (y : Y) → slice_get (map f xs) k ≡ Some y →
    (x : X) × (slice_get xs k ≡ Some x) × (f x ≡ y)
mapped_got f [] k y e = absurd (cc e)
mapped_got f (x ∷ xs) zero y e = (x, refl, cc e)
mapped_got f (x ∷ xs) (suc k) y e = mapped_got f xs k y e

-- two splits of one list at one place are one
pub one_split : {X : Type 0} (xs zs : List X) (x z : X) (ys ws : List X) → xs ++ x ∷ ys ≡ zs ++ z ∷ ws →
    length xs ≡ length zs →
    (xs ≡ zs) × (x ≡ z)
one_split [] [] x z ys ws e long = (refl, cc e)
one_split [] (w ∷ zs) x z ys ws e long = absurd (omega (arith, long))
one_split (w ∷ xs) [] x z ys ws e long = absurd (omega (arith, long))
one_split (v ∷ xs) (w ∷ zs) x z ys ws e long =
    let same : v ≡ w = cc e in
    let rest = one_split xs zs x z ys ws (cc e) (omega (arith, long)) in (λ i. same i ∷ rest.0 i, rest.1)

-- of two splits of one list, the earlier is a split of the front of the later
pub later_split : {X : Type 0} (xs zs : List X) (x z : X) (ys ws : List X) → xs ++ x ∷ ys ≡ zs ++ z ∷ ws →
    length xs < length zs →
    (middle : List X) × (zs ≡ xs ++ x ∷ middle)
later_split xs [] x z ys ws e long = absurd (omega (arith, long))
later_split [] (w ∷ zs) x z ys ws e long = let same : x ≡ w = cc e in (zs, ap (λ v. v ∷ zs) (sym same))
later_split (v ∷ xs) (w ∷ zs) x z ys ws e long =
    let same : v ≡ w = cc e in
    let rest = later_split xs zs x z ys ws (cc e) (omega (arith, long)) in
    (rest.0, (let back : w ≡ v = sym same in λ i. back i ∷ rest.1 i))

-- the lows are at or above the front of an entry with an edge
pub met_at : (ranks : ℕ) (before xs : List Put) (put : Put) (ys : List Put) (event : Event) (lows : Lows) →
    AreMetFrom ranks before (xs ++ put ∷ ys) event lows →
    is_edge (event_after ranks (rows_put (before ++ xs)) put.row) event ≡ true → AreAtMost put.front lows
met_at ranks before [] put ys event lows met edge =
    met.0 (subst (λ l. is_edge (event_after ranks (rows_put l) put.row) event ≡ true) (append-nil before) edge)
met_at ranks before (x ∷ xs) put ys event lows met edge =
    met_at ranks (before ++ x ∷ []) xs put ys event lows met.1
    (subst (λ l. is_edge (event_after ranks (rows_put l) put.row) event ≡ true)
    (sym (append_assoc before (x ∷ []) xs)) edge)

pub keeps_by : (x y : Touching) (o : Option Change) → x.change ≡ o → place_after x.place o ≤ y.place → KeepsOrder x y
keeps_by x y None e low = subst (λ o. KeepsOrder (record x { change = o }) y) (sym e) low
keeps_by x y (Some change) e low =
    let less : x.place < y.place = omega (arith, low) in
    subst (λ o. KeepsOrder (record x { change = o }) y) (sym e) less
