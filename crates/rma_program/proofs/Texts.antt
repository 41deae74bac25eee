-- Texts that say a script, and texts that are refused.
use Rattle.std.proofs.Common.{◌≡◌, ℕ, ◌≤◌, Bool, true, false, List, length, refl}
use Rattle.std.specs.Prelude.{nat_le}
use Rattle.std.proofs.lemmas.Bool.{leb-true}
use Rattle.rma_types.specs.declared.scripts.Script.{Script}
use Rattle.script_language.specs.declared.faults.Fault.{Fault}
use Rattle.script_language.specs.Reading.{read, Reads, HasFault}

-- a text that says a script is not too long
short_by : (text : List ℕ) (script : Script) (within : Bool) → nat_le (length text) 1048576 ≡ within →
    Reads text script → length text ≤ 1048576
unfolding read
short_by text script true e reads = leb-true (length text) 1048576 e
short_by text script false e reads = absurd (cc (e, reads))

pub text_is_short : (text : List ℕ) (script : Script) → Reads text script → length text ≤ 1048576
text_is_short text script reads = short_by text script (nat_le (length text) 1048576) refl reads

-- a text that is refused says no script
pub is_no_text : (text : List ℕ) (fault : Fault) (script : Script) → HasFault text fault → Reads text script → ⊥
is_no_text text fault script first reads = cc (first, reads)
