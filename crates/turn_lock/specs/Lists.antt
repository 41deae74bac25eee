-- Lists of entries: whose they are, and which is the longer of two.
use Rattle.std.specs.Prelude.{ℕ, ◌≡◌, ◌==◌, List, ◌++◌, filter, length, if◌then◌else◌, All, leb}

module _ {E : Type 0} where
  -- the entries of one owner, in order
  abbrev pub of : (E → ℕ) → ℕ → List E → List E
  of owner n entries = filter (λ e. owner e == n) entries

  -- the list goes on from what was known by entries of this owner alone
  abbrev pub AddsOwn : (E → ℕ) → ℕ → List E → List E → Type 0
  AddsOwn owner n known entries = (added : List E) × (entries ≡ known ++ added) × All (λ e. owner e ≡ n) added

  -- the longer of two lists: the first where they are as long
  abbrev pub longer : List E → List E → List E
  longer xs ys = if leb (length ys) (length xs) then xs else ys
