-- Accesses by their places, and partners that are found for them: MPI 3.1, section 11.7, in this project's profile.
use Rattle.std.specs.Prelude.{ℕ, ◌≡◌, ◌<◌, ◌≤◌, Bool, true, List, [], length, slice_index, slice_index_or}
use Rattle.std.specs.Option.{is_some}
use Rattle.rma_types.specs.declared.accesses.Id.{Id}
use Rattle.rma_types.specs.declared.findings.Model.{Model}
use Rattle.order_rules.specs.Findings.{pair_rule}
use Rattle.order_rules.specs.Ordered.{JudgedAccess}
use Rattle.access_index.specs.Indexes.{no_access}

-- what stands for an access that is not there
abbrev pub nobody : JudgedAccess
nobody = record { id = record { rank = 0; index = 0 }; access = no_access; done = []; visible = [] }

-- the access at a place
abbrev pub judged_at : List JudgedAccess → ℕ → JudgedAccess
judged_at xs place = slice_index_or xs place nobody

-- the accesses at two places are a forbidden pair
abbrev pub is_pair : Model → (Id → Id → Bool) → List JudgedAccess → ℕ → ℕ → Bool
is_pair model before xs a b = is_some (pair_rule model before (judged_at xs a) (judged_at xs b))

-- for each access a partner that is found, which has a smaller place, or where none is found its own place
pub record ArePartners (model : Model) (before : Id → Id → Bool) (xs : List JudgedAccess) (best : List ℕ)
    : Type 0 where
  pub within : (b : ℕ) → b < length xs → slice_index best b ≤ b
  pub pair : (b : ℕ) → b < length xs → slice_index best b < b → is_pair model before xs (slice_index best b) b ≡ true

-- no partner has a greater place than before
abbrev pub NoneRises : List ℕ → List ℕ → Type 0
NoneRises old best = (b : ℕ) → slice_index best b ≤ slice_index old b

-- the partner of the access at a place is at most each of these places at which there is one
abbrev pub IsLeastOf : Model → (Id → Id → Bool) → List JudgedAccess → List ℕ → ℕ → List ℕ → Type 0
IsLeastOf model before xs places b best = (k : ℕ) → k < length places → slice_index places k < b →
    is_pair model before xs (slice_index places k) b ≡ true → slice_index best b ≤ slice_index places k

-- so it is for each access at one of the other places
abbrev pub AreLeastOf : Model → (Id → Id → Bool) → List JudgedAccess → List ℕ → List ℕ → List ℕ → Type 0
AreLeastOf model before xs places others best = (j : ℕ) → j < length others →
    IsLeastOf model before xs places (slice_index others j) best
