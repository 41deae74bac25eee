-- Parts of the memory of ranks, and which accesses reach them: after MPI 3.1, section 11.7, in this project's profile.
use Rattle.std.specs.Prelude.{ℕ, ◌≡◌, ◌<◌, ◌+◌, ◌*◌, ◌-◌, Bool, true, false, if◌then◌else◌, min, nat_le}
use Rattle.rma_types.specs.declared.accesses.Access.{Access}
use Rattle.rma_types.specs.declared.accesses.Kind.{Kind}
use Rattle.rma_types.specs.declared.accesses.Kind.TheVariants.{Get, Put, Acc, Cas, Load as LoadKind, Store as StoreKind}
use Rattle.call_rules.specs.Transfers.{is_no_op}
use Rattle.access_index.specs.declared.regions.Cast.{Cast}
use Rattle.access_index.specs.declared.regions.Cast.TheVariants.{Update, Swap, Read, Store, Load}
use Rattle.access_index.specs.declared.regions.Class.{Class}
use Rattle.access_index.specs.declared.regions.Region.{Region}
use Rattle.access_index.specs.declared.regions.Region.TheVariants.{Block, Window}

-- what an access of this kind does; an accumulate with no_op is a read
abbrev pub cast_of : Kind → Cast
cast_of Get = Read
cast_of Put = Update
cast_of (Acc op dtype) = if is_no_op op then Read else Update
cast_of (Cas dtype) = Swap
cast_of LoadKind = Load
cast_of StoreKind = Store

-- it changes memory, by RMA or by a store
abbrev pub is_update : Cast → Bool
is_update Update = true
is_update Swap = true
is_update Read = false
is_update Store = true
is_update Load = false

-- the class of an access of this rank in a block that it reaches
abbrev pub block_class : ℕ → ℕ → Access → Class
block_class block rank a = record {
  rank = rank;
  cast = cast_of a.kind;
  begins = nat_le (4 * block) a.lo;
  from = a.lo - 4 * block;
  to = min (a.lo + a.len - 4 * block) 4;
}

-- the class of an access of this rank in its window
abbrev pub window_class : ℕ → Access → Class
window_class rank a = record { rank = rank; cast = cast_of a.kind; begins = false; from = 0; to = 0 }

-- the access reaches a byte of the block at this target
pub record IsInBlock (target block : ℕ) (a : Access) : Type 0 where
  pub target_of : a.target ≡ target
  pub any : 0 < a.len
  pub begun : a.lo < 4 * block + 4
  pub still_open : 4 * block < a.lo + a.len

-- the access changes memory of the window at this target
pub record IsInWindow (target window : ℕ) (a : Access) : Type 0 where
  pub target_of : a.target ≡ target
  pub window_of : a.window ≡ window
  pub any : 0 < a.len
  pub updates : is_update (cast_of a.kind) ≡ true

-- an access of this rank reaches the region, and has this class there
abbrev pub IsIn : Region → Class → ℕ → Access → Type 0
IsIn (Block target block) class rank a = IsInBlock target block a × (class ≡ block_class block rank a)
IsIn (Window target window) class rank a = IsInWindow target window a × (class ≡ window_class rank a)
