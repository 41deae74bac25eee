-- Laws of the definitions.
use Rattle.std.proofs.Common.{◌≡◌, refl}
use Rattle.rma_types.specs.KeptCalls.{kept_call}
use Rattle.rma_types.specs.declared.calls.Call.{Call}
use Rattle.rma_types.specs.declared.calls.Call.TheVariants.{Put}

-- a call that is kept twice
pub call_kept_again : (call : Call) → kept_call (kept_call call) ≡ kept_call call
call_kept_again (Put req win target disp dtype values) = refl
call_kept_again call = refl
