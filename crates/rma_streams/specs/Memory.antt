-- What the streams in memory hold.
use Rattle.std.specs.Prelude.{ℕ, Bool, List, ◌==◌}
use Rattle.std.specs.List.{list_any}
use Rattle.rma_streams.specs.Ends.{End}
use Rattle.rma_streams.specs.Faults.{counted}

-- the numbers of the calls that are to fail, counted from 1, and how many calls and faults there were
pub record Plan : Type 0 where
  pub failing : List ℕ
  pub calls : ℕ
  pub faults : ℕ

-- the next call is to fail: its number is in the list
abbrev pub call_fails : Plan → Bool
call_fails plan = list_any (λ number. number == counted plan.calls) plan.failing

-- one more call
abbrev pub called : Plan → Plan
called plan = record plan { calls = counted plan.calls }

-- one more fault
abbrev pub faulted : Plan → Plan
faulted plan = record plan { faults = counted plan.faults }

-- a source in memory: the bytes that are left, the greatest piece of a call, the plan of its failures, and the
-- end as it was told
pub record SourceState : Type 0 where
  pub left : List ℕ
  pub piece : ℕ
  pub plan : Plan
  pub end : End

-- a source that never fails: the bytes that are left, and the end as it was told
pub record SafeState : Type 0 where
  pub left : List ℕ
  pub end : End

-- a sink in memory: the bytes written, the room that it has without asking for more memory, the greatest
-- piece of a call, and the plan of its failures
pub record SinkState : Type 0 where
  pub written : List ℕ
  pub room : ℕ
  pub piece : ℕ
  pub plan : Plan

-- a sink that never fails: the bytes that it holds, and the most that it can hold
pub record HeldBytes : Type 0 where
  pub held : List ℕ
  pub room : ℕ
