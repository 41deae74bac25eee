-- The spelling of names and words. A name or a word is read by its spelling, so reading undoes printing.
use Rattle.std.specs.Prelude.{ℕ, ◌++◌, Option, List, [], ◌∷◌, codes, find}
use Rattle.std.specs.List.{range_with_len}
use Rattle.std.specs.Str.{bytes_eq}
use Rattle.rma_types.specs.declared.calls.Lock.{Lock}
use Rattle.rma_types.specs.declared.calls.Lock.TheVariants.{Shared, Exclusive}
use Rattle.rma_types.specs.declared.dtypes.Dtype.{Dtype}
use Rattle.rma_types.specs.declared.dtypes.Dtype.TheVariants.{Int8, Int16, Int32, Uint8, Uint16, Uint32, Byte}
use Rattle.rma_types.specs.declared.ops.Op.{Op}
use Rattle.rma_types.specs.declared.ops.Op.TheVariants.{Replace, NoOp, Max, Min, Sum, Prod, Land, Band, Lor, Bor, Lxor}
use Rattle.rma_types.specs.declared.ops.Op.TheVariants.{Bxor}
use Rattle.call_rules.specs.Text.{number}
use Rattle.script_language.specs.declared.forms.Form.{Form}
use Rattle.script_language.specs.declared.places.Assertion.{Assertion}
use Rattle.script_language.specs.declared.places.Assertion.TheVariants.{NoCheck, NoStore, NoPut, NoPrecede, NoSucceed}
use Rattle.script_language.specs.Forms.{word_of_form, all_forms}

-- the one of all that is spelled so
abbrev pub spelled_so : {A : Type 0} → (A → List ℕ) → List A → List ℕ → Option A
spelled_so spelling all token = find (λ x. bytes_eq (spelling x) token) all

-- MPI 3.1, section 3.2.2
abbrev pub dtype_text : Dtype → List ℕ
dtype_text Int8 = codes "int8"
dtype_text Int16 = codes "int16"
dtype_text Int32 = codes "int32"
dtype_text Uint8 = codes "uint8"
dtype_text Uint16 = codes "uint16"
dtype_text Uint32 = codes "uint32"
dtype_text Byte = codes "byte"

abbrev pub all_dtypes : List Dtype
all_dtypes = Int8 ∷ Int16 ∷ Int32 ∷ Uint8 ∷ Uint16 ∷ Uint32 ∷ Byte ∷ []

-- MPI 3.1, sections 5.9.2 and 11.3.4
abbrev pub op_text : Op → List ℕ
op_text Replace = codes "replace"
op_text NoOp = codes "no_op"
op_text Max = codes "max"
op_text Min = codes "min"
op_text Sum = codes "sum"
op_text Prod = codes "prod"
op_text Land = codes "land"
op_text Band = codes "band"
op_text Lor = codes "lor"
op_text Bor = codes "bor"
op_text Lxor = codes "lxor"
op_text Bxor = codes "bxor"

abbrev pub all_ops : List Op
all_ops = Replace ∷ NoOp ∷ Max ∷ Min ∷ Sum ∷ Prod ∷ Land ∷ Band ∷ Lor ∷ Bor ∷ Lxor ∷ Bxor ∷ []

-- MPI 3.1, section 11.5.3
abbrev pub lock_text : Lock → List ℕ
lock_text Shared = codes "shared"
lock_text Exclusive = codes "exclusive"

abbrev pub all_locks : List Lock
all_locks = Shared ∷ Exclusive ∷ []

-- MPI 3.1, section 11.5.5
abbrev pub assertion_text : Assertion → List ℕ
assertion_text NoCheck = codes "nocheck"
assertion_text NoStore = codes "nostore"
assertion_text NoPut = codes "noput"
assertion_text NoPrecede = codes "noprecede"
assertion_text NoSucceed = codes "nosucceed"

abbrev pub all_assertions : List Assertion
all_assertions = NoCheck ∷ NoStore ∷ NoPut ∷ NoPrecede ∷ NoSucceed ∷ []

-- w0 to w31
abbrev pub window_text : ℕ → List ℕ
window_text win = codes "w" ++ number win

abbrev pub all_windows : List ℕ
all_windows = range_with_len 0 32

-- q0 to q63
abbrev pub request_text : ℕ → List ℕ
request_text req = codes "q" ++ number req

abbrev pub all_requests : List ℕ
all_requests = range_with_len 0 64

abbrev pub form_named : List ℕ → Option Form
form_named token = spelled_so word_of_form all_forms token

abbrev pub dtype_named : List ℕ → Option Dtype
dtype_named token = spelled_so dtype_text all_dtypes token

abbrev pub op_named : List ℕ → Option Op
op_named token = spelled_so op_text all_ops token

abbrev pub lock_named : List ℕ → Option Lock
lock_named token = spelled_so lock_text all_locks token

abbrev pub assertion_named : List ℕ → Option Assertion
assertion_named token = spelled_so assertion_text all_assertions token

abbrev pub window_named : List ℕ → Option ℕ
window_named token = spelled_so window_text all_windows token

abbrev pub request_named : List ℕ → Option ℕ
request_named token = spelled_so request_text all_requests token
