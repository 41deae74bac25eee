-- Which of the pending accesses are looked for.
use Rattle.std.specs.Prelude.{ℕ, Bool, false, ◌&&◌, ◌==◌, nat_lt, if◌then◌else◌, Option, Some, None}
use Rattle.std.specs.Option.{option_map_or}
use Rattle.call_rules.specs.Transfers.{is_ordered_kind}
use Rattle.rank_rules.specs.declared.pending.PendingAccess.{PendingAccess}
use Rattle.rank_rules.specs.Pending.{is_on, share_cell}
use Rattle.delivery_queue.specs.declared.sought.Sought.{Sought}
use Rattle.delivery_queue.specs.declared.sought.Sought.TheVariants.{Nothing, OnWindow, FetchOnWindow, AtTarget}
use Rattle.delivery_queue.specs.declared.sought.Sought.TheVariants.{FetchAtTarget, FetchOfCall, OnCellsOf}

-- the pending access is one of those that are sought
abbrev pub is_sought : Sought → PendingAccess → Bool
is_sought Nothing one = false
is_sought (OnWindow win) one = is_on win one
is_sought (FetchOnWindow win) one = is_on win one && one.fetches
is_sought (AtTarget win target) one = is_on win one && one.access.target == target
is_sought (FetchAtTarget win target) one = is_on win one && (one.access.target == target && one.fetches)
is_sought (FetchOfCall maker) one = one.fetches && option_map_or (λ number. number == one.number) maker false
is_sought (OnCellsOf access) one = is_ordered_kind one.access.kind && share_cell access one.access

-- the place that was found, if it is before another
abbrev pub before : ℕ → Option ℕ → Option ℕ
before at None = None
before at (Some place) = if nat_lt place at then Some place else None
