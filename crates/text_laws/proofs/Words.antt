-- Words and targets that are printed are read as they were.
use Rattle.std.proofs.Common.{◌≡◌, ℕ, Bool, true, false, cond, eqb, List, [], ◌∷◌, Option, Some, None, Ok, Result, ℤ}
use Rattle.std.proofs.Common.{refl, ap, sym, ◌∙◌, subst, arith}
use Rattle.std.specs.Prelude.{codes, IfSome}
use Rattle.std.specs.Str.{bytes_eq}
use Rattle.std.proofs.lemmas.Bool.{eqb-true}
use Rattle.list_laws.proofs.Truths.{both_true}
use Rattle.rma_types.specs.declared.calls.Lock.{Lock}
use Rattle.rma_types.specs.declared.calls.Lock.TheVariants.{Shared, Exclusive}
use Rattle.rma_types.specs.declared.dtypes.Dtype.{Dtype}
use Rattle.rma_types.specs.declared.dtypes.Dtype.TheVariants.{Int8, Int16, Int32, Uint8, Uint16, Uint32, Byte}
use Rattle.rma_types.specs.declared.ops.Op.{Op as Operator}
use Rattle.rma_types.specs.declared.ops.Op.TheVariants.{Replace, NoOp, Max, Min, Sum, Prod, Land, Band, Lor, Bor, Lxor}
use Rattle.rma_types.specs.declared.ops.Op.TheVariants.{Bxor}
use Rattle.call_rules.specs.Text.{integer}
use Rattle.call_rules.specs.WellFormed.{IsNumber}
use Rattle.script_language.specs.declared.places.Assertion.{Assertion}
use Rattle.script_language.specs.declared.places.Assertion.TheVariants.{NoCheck, NoStore, NoPut, NoPrecede, NoSucceed}
use Rattle.script_language.specs.Answers.{◌>>=◌}
use Rattle.script_language.specs.Integers.{plain_integer}
use Rattle.script_language.specs.Spelling.{target_text}
use Rattle.script_language.specs.Tokens.{target_read, begins_number}
use Rattle.script_language.specs.Words.{dtype_text, op_text, lock_text, assertion_text, dtype_named, op_named}
use Rattle.script_language.specs.Words.{lock_named}
use Rattle.text_laws.proofs.Lines.{IsPlain}
use Rattle.text_laws.proofs.Numbers.{integer_plain, integer_begins, short_up_to, up_to_back}

pub lock_back : (kind : Lock) → lock_named (lock_text kind) ≡ Some kind
lock_back Shared = refl
lock_back Exclusive = refl

pub lock_plain : (kind : Lock) → IsPlain (lock_text kind)
lock_plain Shared = record { some = refl; bytes = refl }
lock_plain Exclusive = record { some = refl; bytes = refl }

pub dtype_back : (dtype : Dtype) → dtype_named (dtype_text dtype) ≡ Some dtype
dtype_back Int8 = refl
dtype_back Int16 = refl
dtype_back Int32 = refl
dtype_back Uint8 = refl
dtype_back Uint16 = refl
dtype_back Uint32 = refl
dtype_back Byte = refl

pub dtype_plain : (dtype : Dtype) → IsPlain (dtype_text dtype)
dtype_plain Int8 = record { some = refl; bytes = refl }
dtype_plain Int16 = record { some = refl; bytes = refl }
dtype_plain Int32 = record { some = refl; bytes = refl }
dtype_plain Uint8 = record { some = refl; bytes = refl }
dtype_plain Uint16 = record { some = refl; bytes = refl }
dtype_plain Uint32 = record { some = refl; bytes = refl }
dtype_plain Byte = record { some = refl; bytes = refl }

pub op_back : (op : Operator) → op_named (op_text op) ≡ Some op
op_back Replace = refl
op_back NoOp = refl
op_back Max = refl
op_back Min = refl
op_back Sum = refl
op_back Prod = refl
op_back Land = refl
op_back Band = refl
op_back Lor = refl
op_back Bor = refl
op_back Lxor = refl
op_back Bxor = refl

pub op_plain : (op : Operator) → IsPlain (op_text op)
op_plain Replace = record { some = refl; bytes = refl }
op_plain NoOp = record { some = refl; bytes = refl }
op_plain Max = record { some = refl; bytes = refl }
op_plain Min = record { some = refl; bytes = refl }
op_plain Sum = record { some = refl; bytes = refl }
op_plain Prod = record { some = refl; bytes = refl }
op_plain Land = record { some = refl; bytes = refl }
op_plain Band = record { some = refl; bytes = refl }
op_plain Lor = record { some = refl; bytes = refl }
op_plain Bor = record { some = refl; bytes = refl }
op_plain Lxor = record { some = refl; bytes = refl }
op_plain Bxor = record { some = refl; bytes = refl }

pub assertion_plain : (assertion : Assertion) → IsPlain (assertion_text assertion)
assertion_plain NoCheck = record { some = refl; bytes = refl }
assertion_plain NoStore = record { some = refl; bytes = refl }
assertion_plain NoPut = record { some = refl; bytes = refl }
assertion_plain NoPrecede = record { some = refl; bytes = refl }
assertion_plain NoSucceed = record { some = refl; bytes = refl }

-- ---- targets

pub target_plain : (target : Option ℤ) → IfSome target IsNumber → IsPlain (target_text target)
target_plain None h = record { some = refl; bytes = refl }
target_plain (Some rank) h = integer_plain rank (short_up_to 2147483647 rank (omega arith) h)

null_begins : (b : ℕ) (bs : List ℕ) → bytes_eq (codes "null") (b ∷ bs) ≡ true → begins_number (b ∷ bs) ≡ true → ⊥
null_begins b bs same begins =
    let first : 110 ≡ b = eqb-true 110 b (both_true (eqb 110 b) (bytes_eq (codes "ull") bs) same).0 in
    let no : begins_number (110 ∷ bs) ≡ true = subst (λ (c : ℕ). begins_number (c ∷ bs) ≡ true) (sym first) begins in
    cc

no_null : (token : List ℕ) → begins_number token ≡ true → bytes_eq (codes "null") token ≡ false
no_null [] h = absurd cc
no_null (b ∷ bs) h =
    elim (bytes_eq (codes "null") (b ∷ bs)) as (λ t. bytes_eq (codes "null") (b ∷ bs) ≡ t → t ≡ false) [
      | true ↦ λ e. absurd (null_begins b bs e h)
      | false ↦ λ e. refl
    ] refl

pub target_back : (target : Option ℤ) → IfSome target IsNumber → target_read (target_text target) ≡ Ok target
target_back None h = refl
target_back (Some rank) h =
    ap (λ (b : Bool). cond b (Ok None) (plain_integer (integer rank) >>= λ (r : ℤ). Ok (Some r)))
    (no_null (integer rank) (integer_begins rank (short_up_to 2147483647 rank (omega arith) h)))
    ∙ ap (λ (r : Result ℤ _). r >>= λ (z : ℤ). Ok (Some z)) (up_to_back 2147483647 rank (omega arith) h)
