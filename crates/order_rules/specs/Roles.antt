-- The roles of accesses: MPI 3.1, sections 11.3 and 11.7. A load or a store is local; every other access is an RMA
-- access.
use Rattle.std.specs.Prelude.{Bool, true, false, if◌then◌else◌}
use Rattle.rma_types.specs.declared.accesses.Kind.{Kind}
use Rattle.rma_types.specs.declared.accesses.Kind.TheVariants.{Get, Put, Acc, Cas, Load as LoadKind, Store as StoreKind}
use Rattle.call_rules.specs.Transfers.{is_no_op}

pub data Role : Type 0 where
  RmaUpdate : Role
  RmaRead : Role
  Store : Role
  Load : Role

-- an accumulate with no_op is a read
abbrev pub role_of : Kind → Role
role_of Get = RmaRead
role_of Put = RmaUpdate
role_of (Acc op dtype) = if is_no_op op then RmaRead else RmaUpdate
role_of (Cas dtype) = RmaUpdate
role_of LoadKind = Load
role_of StoreKind = Store

abbrev pub is_rma_read : Role → Bool
is_rma_read RmaUpdate = false
is_rma_read RmaRead = true
is_rma_read Store = false
is_rma_read Load = false
