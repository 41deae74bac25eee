-- The call that a line says is one that a text can write.
use Rattle.std.proofs.Common.{ℕ, Option, Some, None, ℤ, arith}
use Rattle.std.specs.Prelude.{IfSome}
use Rattle.rma_types.specs.Actions.{target_of}
use Rattle.call_rules.specs.WellFormed.{IsNumber, IsWrittenTarget, IsWrittenCall}
use Rattle.script_language.specs.declared.fields.Fields.{Fields}
use Rattle.script_language.specs.declared.forms.CallForm.{CallForm}
use Rattle.script_language.specs.declared.forms.CallForm.TheVariants.{Allocate, Create, Dynamic, Free, Attach, Detach}
use Rattle.script_language.specs.declared.forms.CallForm.TheVariants.{Fence, Post, Start, Complete, WaitWin, TestWin}
use Rattle.script_language.specs.declared.forms.CallForm.TheVariants.{LockOne, Unlock, LockAll, UnlockAll, Flush}
use Rattle.script_language.specs.declared.forms.CallForm.TheVariants.{FlushAll, FlushLocal, FlushLocalAll, Sync}
use Rattle.script_language.specs.declared.forms.CallForm.TheVariants.{Barrier, Put, RequestPut, Get, RequestGet, Acc}
use Rattle.script_language.specs.declared.forms.CallForm.TheVariants.{RequestAcc, GetAcc, RequestGetAcc, Fop, Cas, Load}
use Rattle.script_language.specs.declared.forms.CallForm.TheVariants.{Store, WaitReq, TestReq}
use Rattle.script_language.specs.Calls.{call_of}
use Rattle.script_reader.specs.Sound.{IsSoundLine}

-- ---- the call of a line

target_written : (target : Option ℤ) → IfSome target IsNumber → IsWrittenTarget (target_of target)
target_written None s = tt
target_written (Some rank) s = s

-- a call within its ranges
pub call_written : (ranks : ℕ) (form : CallForm) (fields : Fields) → IsSoundLine ranks fields →
    IsWrittenCall (call_of form fields)
call_written ranks Allocate fields s = record {
  name = s.window;
  address = omega arith;
  size = s.numbers.bytes;
  units =
      s.numbers.unit;
}
call_written ranks Create fields s = record {
  name = s.window;
  address = s.numbers.base;
  size = s.numbers.bytes;
  units =
      s.numbers.unit;
}
call_written ranks Dynamic fields s = record {
  name = s.window;
  address = omega arith;
  size = omega arith;
  units = omega
      arith;
}
call_written ranks Free fields s = s.window
call_written ranks Attach fields s = (s.window, s.numbers.base, s.numbers.bytes)
call_written ranks Detach fields s = (s.window, s.numbers.base)
call_written ranks Fence fields s = (s.window, tt)
call_written ranks Post fields s = (s.window, s.group)
call_written ranks Start fields s = (s.window, s.group)
call_written ranks Complete fields s = (s.window, tt)
call_written ranks WaitWin fields s = (s.window, tt)
call_written ranks TestWin fields s = (s.window, tt)
call_written ranks LockOne fields s = (s.window, s.numbers.peer)
call_written ranks Unlock fields s = (s.window, s.numbers.peer)
call_written ranks LockAll fields s = (s.window, tt)
call_written ranks UnlockAll fields s = (s.window, tt)
call_written ranks Flush fields s = (s.window, s.numbers.peer)
call_written ranks FlushAll fields s = (s.window, tt)
call_written ranks FlushLocal fields s = (s.window, s.numbers.peer)
call_written ranks FlushLocalAll fields s = (s.window, tt)
call_written ranks Sync fields s = (s.window, tt)
call_written ranks Barrier fields s = tt
call_written ranks Put fields s = record {
  name = s.window;
  named_request = tt;
  rank = target_written fields.target
      s.target;
  place = s.numbers.disp;
  elements = s.elements.amount;
  amount = s.elements.amount;
  patterns =
      s.elements.patterns;
  compared = tt;
}
call_written ranks RequestPut fields s = record {
  name = s.window;
  named_request = s.request;
  rank = target_written
      fields.target s.target;
  place = s.numbers.disp;
  elements = s.elements.amount;
  amount = s.elements.amount;
  patterns =
      s.elements.patterns;
  compared = tt;
}
call_written ranks Get fields s = record {
  name = s.window;
  named_request = tt;
  rank = target_written fields.target
      s.target;
  place = s.numbers.disp;
  elements = s.numbers.count;
  amount = omega arith;
  patterns = tt;
  compared = tt;
}
call_written ranks RequestGet fields s = record {
  name = s.window;
  named_request = s.request;
  rank = target_written
      fields.target s.target;
  place = s.numbers.disp;
  elements = s.numbers.count;
  amount = omega arith;
  patterns = tt;
  compared = tt;
}
call_written ranks Acc fields s = record {
  name = s.window;
  named_request = tt;
  rank = target_written fields.target
      s.target;
  place = s.numbers.disp;
  elements = s.elements.amount;
  amount = s.elements.amount;
  patterns =
      s.elements.patterns;
  compared = tt;
}
call_written ranks RequestAcc fields s = record {
  name = s.window;
  named_request = s.request;
  rank = target_written
      fields.target s.target;
  place = s.numbers.disp;
  elements = s.elements.amount;
  amount = s.elements.amount;
  patterns =
      s.elements.patterns;
  compared = tt;
}
call_written ranks GetAcc fields s = record {
  name = s.window;
  named_request = tt;
  rank = target_written fields.target
      s.target;
  place = s.numbers.disp;
  elements = s.elements.amount;
  amount = s.elements.amount;
  patterns =
      s.elements.patterns;
  compared = tt;
}
call_written ranks RequestGetAcc fields s = record {
  name = s.window;
  named_request = s.request;
  rank = target_written
      fields.target s.target;
  place = s.numbers.disp;
  elements = s.elements.amount;
  amount = s.elements.amount;
  patterns =
      s.elements.patterns;
  compared = tt;
}
call_written ranks Fop fields s = record {
  name = s.window;
  named_request = tt;
  rank = target_written fields.target
      s.target;
  place = s.numbers.disp;
  elements = omega arith;
  amount = omega arith;
  patterns = (s.elements.stored, tt);
  compared = tt;
}
call_written ranks Cas fields s = record {
  name = s.window;
  named_request = tt;
  rank = target_written fields.target
      s.target;
  place = s.numbers.disp;
  elements = omega arith;
  amount = omega arith;
  patterns = (s.elements.stored, tt);
  compared = s.elements.compared;
}
call_written ranks Load fields s = record {
  name = s.window;
  named_request = tt;
  rank = tt;
  place = s.numbers.disp;
  elements = s.numbers.count;
  amount = omega arith;
  patterns = tt;
  compared = tt;
}
call_written ranks Store fields s = record {
  name = s.window;
  named_request = tt;
  rank = tt;
  place = s.numbers.disp;
  elements = s.elements.amount;
  amount = s.elements.amount;
  patterns = s.elements.patterns;
  compared = tt;
}
call_written ranks WaitReq fields s = s.request
call_written ranks TestReq fields s = s.request
