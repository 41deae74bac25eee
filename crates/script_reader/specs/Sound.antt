-- The ranges that what was read so far keeps.
use Rattle.std.specs.Prelude.{ℕ, ◌≡◌, ◌<◌, ◌≤◌, List, length, slice_index_or, Option, None, IfSome, ℤ}
use Rattle.std.specs.List.{AllByRecursion}
use Rattle.rma_types.specs.declared.dtypes.Dtype.{Dtype}
use Rattle.call_rules.specs.Layout.{IsWithinLimits}
use Rattle.call_rules.specs.Numbers.{patterns_of}
use Rattle.call_rules.specs.WellFormed.{IsNumber, IsUpTo, IsWindowName, IsRequestName, IsWrittenGroup, IsWrittenCall}
use Rattle.script_language.specs.declared.drafts.Draft.{Draft}
use Rattle.script_language.specs.declared.fields.Fields.{Fields}
use Rattle.script_language.specs.Drafts.{script_of}

-- the lines so far keep the ranges of a script
pub record IsSoundDraft (draft : Draft) : Type 0 where
  pub few_ranks : draft.ranks ≤ 16
  pub spaces : length draft.spaces ≡ draft.ranks
  pub lists : length draft.calls ≡ draft.ranks
  pub few_bytes : AllByRecursion (λ (space : Option ℕ). IfSome space (λ bytes. bytes ≤ 65536)) draft.spaces
  pub block : AllByRecursion (λ rank. rank < draft.ranks) draft.block
  pub calls : AllByRecursion (AllByRecursion IsWrittenCall) draft.calls
  pub inside : AllByRecursion IsWrittenCall draft.inside
  pub limits : IsWithinLimits (script_of draft)

-- what the line of a directive says, in a script of so many ranks
pub record IsSoundDirective (ranks count bytes : ℕ) (block : List ℕ) : Type 0 where
  pub few : count ≤ 16
  pub room : bytes ≤ 65536
  pub members : AllByRecursion (λ rank. rank < ranks) block

-- the numbers of a call's line
pub record AreSoundNumbers (address size step rank place amount : ℤ) : Type 0 where
  pub base : IsNumber address
  pub bytes : IsUpTo 65536 size
  pub unit : IsUpTo 64 step
  pub peer : IsNumber rank
  pub disp : IsNumber place
  pub count : IsUpTo 256 amount

-- the elements of a call's line
pub record AreSoundElements (dtype : Dtype) (values : List ℕ) (compare value : ℕ) : Type 0 where
  pub amount : length values ≤ 256
  pub patterns : AllByRecursion (λ pattern. pattern < patterns_of dtype) values
  pub compared : compare < patterns_of dtype
  pub stored : value < patterns_of dtype

-- what a line says, in a script of so many ranks
pub record IsSoundLine (ranks : ℕ) (fields : Fields) : Type 0 where
  pub directive : IsSoundDirective ranks fields.ranks fields.room fields.members
  pub request : IsRequestName fields.req
  pub window : IsWindowName fields.win
  pub numbers : AreSoundNumbers fields.base fields.bytes fields.unit fields.peer fields.disp fields.count
  pub group : IsWrittenGroup fields.group
  pub target : IfSome fields.target IsNumber
  pub elements : AreSoundElements fields.dtype fields.values fields.compare fields.value

-- a space for a rank that has none yet
pub record IsNewSpace (draft : Draft) (fields : Fields) : Type 0 where
  pub owner : fields.owner < draft.ranks
  pub none : slice_index_or draft.spaces fields.owner None ≡ None
  pub room : fields.room ≤ 65536
