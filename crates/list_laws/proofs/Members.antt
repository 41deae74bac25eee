-- Members of lists.
use Rattle.std.proofs.Common.{List, [], ◌∷◌, ◌≡◌, ◌⊎◌, ◌++◌, inr, inl, Bool, true, arith, zero, subst, suc, refl, ℕ}
use Rattle.std.proofs.Common.{◌+◌, Some}
use Rattle.std.proofs.lemmas.Bool.{cases_Bool, false≢true, or_cases, or_left, or_right, and_parts}
use Rattle.std.specs.List.{filter, AllByRecursion, list_any, list_all, flat_map}
use Rattle.std.specs.Prelude.{Contains, map, slice_get}
use Rattle.list_laws.proofs.Each.{AllFrom}

-- the element is one of the list
abbrev pub Among : {X : Type 0} → X → List X → Type 0
Among x [] = ⊥
Among x (y ∷ ys) = (y ≡ x) ⊎ Among x ys

pub among_right : {X : Type 0} (x : X) (xs ys : List X) → Among x ys → Among x (xs ++ ys)
among_right x [] ys h = h
among_right x (y ∷ xs) ys h = inr (among_right x xs ys h)

-- x is an element of the list
pub data In {X : Type 0} (x : X) : List X → Type 0 where
  here : {xs : List X} → In x (x ∷ xs)
  there : {y : X} {xs : List X} → In x xs → In x (y ∷ xs)

pub append_in : {X : Type 0} {x : X} (xs : List X) {ys : List X} → In x (xs ++ ys) → In x xs ⊎ In x ys
append_in [] m = inr m
append_in (y ∷ xs) here = inl here
append_in (y ∷ xs) (there m) = elim (append_in xs m) [ inl a ↦ inl (there a) | inr b ↦ inr b ]

pub in_filter : {X : Type 0} (p : X → Bool) {x : X} {xs : List X} → In x xs → p x ≡ true → In x (filter p xs)
in_filter p {x} {xs} here e = rw e here
in_filter p (there {y} {xs} m) e = elim (cases_Bool (p y)) [
  | inl passes ↦ rw passes (there (in_filter p m e))
  | inr fails ↦ rw fails (in_filter p m e)
]

pub contains_in : {X : Type 0} (xs : List X) (x : X) → Contains xs x → In x xs
contains_in [] x c = absurd (omega (arith, c.1))
contains_in (y ∷ ys) x (zero, within, is) = subst (λ z. In z (y ∷ ys)) is here
contains_in (y ∷ ys) x (suc k, within, is) = there (contains_in ys x (k, omega (arith, within), is))

pub each_in : {X : Type 0} (P : X → Type 0) (xs : List X) {x : X} → AllByRecursion P xs → In x xs → P x
each_in P [] all m = elim m [ ]
each_in P (y ∷ ys) all here = all.0
each_in P (y ∷ ys) all (there m) = each_in P ys all.1 m

pub all_members : {X : Type 0} (P : X → Type 0) (xs : List X) → ((x : X) → In x xs → P x) → AllByRecursion P xs
all_members P [] all = tt
all_members P (x ∷ xs) all = (all x here, all_members P xs (λ y m. all y (there m)))

pub any_in : {X : Type 0} (p : X → Bool) (xs : List X) → list_any p xs ≡ true → (x : X) × In x xs × (p x ≡ true)
any_in p [] h = absurd (false≢true h)
any_in p (x ∷ xs) h = elim (or_cases (p x) (list_any p xs) h) [
  | inl e ↦ (x, here, e)
  | inr e ↦ let rest = any_in p xs e in (rest.0, there rest.1, rest.2)
]

pub in_any : {X : Type 0} (p : X → Bool) {x : X} {xs : List X} → In x xs → p x ≡ true → list_any p xs ≡ true
in_any p here e = or_left _ _ e
in_any p (there m) e = or_right _ _ (in_any p m e)

pub all_in : {X : Type 0} (p : X → Bool) {x : X} {xs : List X} → list_all p xs ≡ true → In x xs → p x ≡ true
all_in p h here = (and_parts _ _ h).0
all_in p h (there m) = all_in p (and_parts _ _ h).1 m

pub in_append_left : {X : Type 0} {x : X} {xs : List X} (ys : List X) → In x xs → In x (xs ++ ys)
in_append_left ys here = here
in_append_left ys (there m) = there (in_append_left ys m)

pub in_append_right : {X : Type 0} {x : X} (xs : List X) {ys : List X} → In x ys → In x (xs ++ ys)
in_append_right [] m = m
in_append_right (y ∷ xs) m = there (in_append_right xs m)

pub in_map : {X Y : Type 0} (f : X → Y) {x : X} {xs : List X} → In x xs → In (f x) (map f xs)
in_map f here = here
in_map f (there m) = there (in_map f m)

pub map_in : {X Y : Type 0} (f : X → Y) (xs : List X) {y : Y} → In y (map f xs) → (x : X) × In x xs × (f x ≡ y)
map_in f [] m = elim m [ ]
map_in f (x ∷ xs) here = (x, here, refl)
map_in f (x ∷ xs) (there m) = let rest = map_in f xs m in (rest.0, there rest.1, rest.2)

pub kept_in : {X : Type 0} (p : X → Bool) (y : X) (ys : List X) {x : X} → p y ≡ true →
    (In x (filter p ys) → In x ys × (p x ≡ true)) → In x (y ∷ filter p ys) → In x (y ∷ ys) × (p x ≡ true)
kept_in p y ys passes rest here = (here, passes)
kept_in p y ys passes rest (there m) = let one = rest m in (there one.0, one.1)

pub filter_in : {X : Type 0} (p : X → Bool) (xs : List X) {x : X} → In x (filter p xs) → In x xs × (p x ≡ true)
filter_in p [] m = elim m [ ]
filter_in p (y ∷ ys) {x} m = elim (cases_Bool (p y)) [
  | inl passes ↦ kept_in p y ys passes (filter_in p ys) (rw passes at m)
  | inr fails ↦ let rest = filter_in p ys (rw fails at m) in (there rest.0, rest.1)
]

pub flat_map_in : {X Y : Type 0} (f : X → List Y) (xs : List X) {y : Y} → In y (flat_map f xs) → (x : X) × In x xs
    × In y (f x)
flat_map_in f [] m = elim m [ ]
flat_map_in f (x ∷ xs) m = elim (append_in (f x) m) [
  | inl a ↦ (x, here, a)
  | inr b ↦ let rest = flat_map_in f xs b in (rest.0, there rest.1, rest.2)
]

pub in_contains : {X : Type 0} {x : X} {xs : List X} → In x xs → Contains xs x
in_contains here = (0, omega arith, refl)
in_contains (there m) = let rest = in_contains m in (suc rest.0, omega (arith, rest.1), rest.2)

-- an element has a place
pub from_in : {X : Type 0} (P : ℕ → X → Type 0) (at : ℕ) (xs : List X) {x : X} → AllFrom P at xs → In x xs → (k : ℕ)
    × P (at + k) x × (slice_get xs k ≡ Some x)
unfolding AllFrom
from_in P at [] all m = elim m [ ]
from_in P at (x ∷ xs) all here = let same : at ≡ at + 0 = omega arith in (0, subst (λ n. P n x) same all.0, refl)
from_in P at (y ∷ xs) {x} all (there m) =
    let rest = from_in P (at + 1) xs all.1 m in
    let same : at + 1 + rest.0 ≡ at + suc rest.0 = omega arith in
    (suc rest.0, subst (λ n. P n x) same rest.1, rest.2)
