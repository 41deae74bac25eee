-- A queue with one access.
use Rattle.std.specs.Prelude.{ℕ, ◌≡◌, ◌≤◌, List, [], ◌∷◌, Some, slice_get}
use Rattle.rma_types.specs.declared.calls.Call.{Call}
use Rattle.rma_types.specs.declared.scripts.Layout.{Layout}
use Rattle.rank_rules.specs.declared.pending.PendingAccess.{PendingAccess}
use Rattle.access_steps.specs.Plans.{element_count}
use Rattle.delivery_queue.specs.Queues.{Queue, IsOfCall}

-- it has one access, that of the first call, whose four elements lie in two cells; so many of them are touched
pub record IsAlone (layout : Layout) (calls : List Call) (queue : Queue) : Type 0 where
  pub one : PendingAccess
  pub call : Call
  pub pending : queue.pending ≡ one ∷ []
  pub number : one.number ≡ 0
  pub named : slice_get calls 0 ≡ Some call
  pub is_its : IsOfCall layout 2 one call
  pub four : element_count call ≡ 4
  pub count : ℕ
  pub touched : queue.touched ≡ count ∷ []
  pub begun : count ≤ 4
