-- What the marks of a part say of its accesses.
use Rattle.std.specs.Prelude.{ℕ, ◌≡◌, ◌%◌, ◌<◌, ◌^◌, Bool, true, ◌==◌, List, length}
use Rattle.std.specs.List.{All}
use Rattle.std.specs.Int.{bit_at}
use Rattle.call_rules.specs.Transfers.{is_ordered_kind}
use Rattle.rank_rules.specs.declared.pending.PendingAccess.{PendingAccess}
use Rattle.delivery_queue.specs.declared.number_sets.NumberSet.{NumberSet}
use Rattle.delivery_queue.specs.declared.begun.Begun.{Begun}
use Rattle.delivery_queue.specs.declared.marks.Marks.{Marks}
use Rattle.delivery_queue.specs.Spanned.{IsSpanned}

-- the number, below 32, is in the set
abbrev pub has : NumberSet → ℕ → Bool
has set number = bit_at set.bits number == 1

-- the access has each of its marks
pub record IsMarked (marks : Marks) (one : PendingAccess) : Type 0 where
  pub window : has marks.windows (one.access.window % 32) ≡ true
  pub target : has marks.targets (one.access.target % 32) ≡ true
  pub ordered : is_ordered_kind one.access.kind ≡ true → has marks.ordered (one.access.target % 32) ≡ true
  pub spanned : is_ordered_kind one.access.kind ≡ true → IsSpanned marks.span one.access
  pub fetches : one.fetches ≡ true → marks.fetches ≡ true

-- each access has the marks, and this is their number
pub record IsKept (marks : Marks) (count : ℕ) (ones : List Begun) : Type 0 where
  pub marked : All (λ (one : Begun). IsMarked marks one.access) ones
  pub counted : length ones ≡ count
  pub few : count < 2 ^ 64
