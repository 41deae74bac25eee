-- The scripts that a text can say: the ranges of their numbers and their totals. This project's script language.
use Rattle.std.specs.Prelude.{ℕ, ◌≡◌, ◌<◌, ◌≤◌, List, length, IfSome, ℤ, pos, negsuc}
use Rattle.std.specs.List.{AllByRecursion}
use Rattle.rma_types.specs.declared.calls.Call.{Call}
use Rattle.rma_types.specs.declared.scripts.Script.{Script}
use Rattle.rma_types.specs.declared.actions.Action.{Action}
use Rattle.rma_types.specs.declared.actions.Action.TheVariants.{Creates, Frees, Attaches, Detaches, Synchronises, Meets}
use Rattle.rma_types.specs.declared.actions.Action.TheVariants.{Moves, EndsRequest}
use Rattle.rma_types.specs.declared.actions.Creation.{Creation}
use Rattle.rma_types.specs.declared.actions.Synchronisation.{Synchronisation}
use Rattle.rma_types.specs.declared.actions.Synchronisation.TheVariants.{Fences, Posts, Starts, Completes, Waits, Locks}
use Rattle.rma_types.specs.declared.actions.Synchronisation.TheVariants.{Unlocks, Flushes, Syncs}
use Rattle.rma_types.specs.declared.actions.Target.{Target}
use Rattle.rma_types.specs.declared.actions.Transfer.{Transfer}
use Rattle.rma_types.specs.declared.actions.Target.TheVariants.{Own, Null, Named}
use Rattle.rma_types.specs.Actions.{action_of}
use Rattle.call_rules.specs.Layout.{IsWithinLimits}
use Rattle.call_rules.specs.Numbers.{patterns_of}

-- a number from -2^31 to the limit
abbrev pub IsUpTo : ℕ → ℤ → Type 0
IsUpTo limit (pos n) = n ≤ limit
IsUpTo limit (negsuc n) = n < 2147483648

-- a number from -2^31 to 2^31 - 1
abbrev pub IsNumber : ℤ → Type 0
IsNumber z = IsUpTo 2147483647 z

-- the names of windows are w0 to w31
abbrev pub IsWindowName : ℕ → Type 0
IsWindowName win = win < 32

-- the names of requests are q0 to q63
abbrev pub IsRequestName : ℕ → Type 0
IsRequestName req = req < 64

-- at most 16 ranks, as they are written
abbrev pub IsWrittenGroup : List ℤ → Type 0
IsWrittenGroup group = (length group ≤ 16) × AllByRecursion IsNumber group

abbrev pub IsWrittenTarget : Target → Type 0
IsWrittenTarget Own = Unit {0}
IsWrittenTarget Null = Unit {0}
IsWrittenTarget (Named rank) = IsNumber rank

pub record IsWrittenCreation (creation : Creation) : Type 0 where
  pub name : IsWindowName creation.win
  pub address : IsNumber creation.base
  pub size : IsUpTo 65536 creation.bytes
  pub units : IsUpTo 64 creation.unit

-- at most 256 elements, each operand a bit pattern of the datatype
pub record IsWrittenTransfer (t : Transfer) : Type 0 where
  pub name : IsWindowName t.win
  pub named_request : IfSome t.request IsRequestName
  pub rank : IsWrittenTarget t.target
  pub place : IsNumber t.disp
  pub elements : IsUpTo 256 t.count
  pub amount : length t.operands ≤ 256
  pub patterns : AllByRecursion (λ pattern. pattern < patterns_of t.dtype) t.operands
  pub compared : IfSome t.compare (λ pattern. pattern < patterns_of t.dtype)

abbrev pub IsWrittenSynchronisation : Synchronisation → Type 0
IsWrittenSynchronisation (Fences asserts) = Unit {0}
IsWrittenSynchronisation (Posts group asserts) = IsWrittenGroup group
IsWrittenSynchronisation (Starts group asserts) = IsWrittenGroup group
IsWrittenSynchronisation Completes = Unit {0}
IsWrittenSynchronisation (Waits tests) = Unit {0}
IsWrittenSynchronisation (Locks kind target asserts) = IfSome target IsNumber
IsWrittenSynchronisation (Unlocks target) = IfSome target IsNumber
IsWrittenSynchronisation (Flushes target local) = IfSome target IsNumber
IsWrittenSynchronisation Syncs = Unit {0}

abbrev pub IsWrittenAction : Action → Type 0
IsWrittenAction (Creates creation) = IsWrittenCreation creation
IsWrittenAction (Frees win) = IsWindowName win
IsWrittenAction (Attaches win base bytes) = IsWindowName win × IsNumber base × IsUpTo 65536 bytes
IsWrittenAction (Detaches win base) = IsWindowName win × IsNumber base
IsWrittenAction (Synchronises win synchronisation) = IsWindowName win × IsWrittenSynchronisation synchronisation
IsWrittenAction Meets = Unit {0}
IsWrittenAction (Moves transfer) = IsWrittenTransfer transfer
IsWrittenAction (EndsRequest req) = IsRequestName req

-- a call that a line can say
abbrev pub IsWrittenCall : Call → Type 0
IsWrittenCall call = IsWrittenAction (action_of call)

-- a script that a text can say: 1 to 16 ranks, one space and one list of calls for each, and totals within their limits
pub record IsWellFormed (script : Script) : Type 0 where
  pub some_rank : 1 ≤ script.ranks
  pub few_ranks : script.ranks ≤ 16
  pub spaces : length script.spaces ≡ script.ranks
  pub lists : length script.calls ≡ script.ranks
  pub few_bytes : AllByRecursion (λ bytes. bytes ≤ 65536) script.spaces
  pub calls : AllByRecursion (AllByRecursion IsWrittenCall) script.calls
  pub limits : IsWithinLimits script
