-- A pending access has an element: an access without bytes is never pending.
use Rattle.std.proofs.Common.{◌≡◌, ℕ, ◌*◌, ◌<◌, Bool, true, false, cond, [], ◌∷◌, Option, Some}
use Rattle.std.proofs.Common.{None, refl, sym, ◌∙◌, ap, subst, arith}
use Rattle.std.specs.Prelude.{nat_lt, ◌/◌}
use Rattle.std.specs.List.{AllByRecursion}
use Rattle.std.specs.Option.{option_map_or}
use Rattle.std.proofs.lemmas.Bool.{ltb-true}
use Rattle.std.proofs.lemmas.List.{length-map}
use Rattle.rma_types.specs.declared.accesses.Access.{Access}
use Rattle.rma_types.specs.declared.calls.Call.{Call}
use Rattle.rma_types.specs.declared.dtypes.Dtype.{Dtype}
use Rattle.rma_types.specs.declared.dtypes.Dtype.TheVariants.{Int8, Int16, Int32, Uint8, Uint16, Uint32, Byte}
use Rattle.rma_types.specs.Datatypes.{size_of}
use Rattle.call_rules.proofs.NumbersFrom.{numbers_length}
use Rattle.assembled_laws.proofs.Unfinished.{HasElements}
use Rattle.rma_types.specs.declared.actions.Transfer.{Transfer}
use Rattle.rma_types.specs.Actions.{transfer_of}
use Rattle.call_rules.specs.Pieces.{numbers_from, piece_at, element_address}
use Rattle.call_rules.specs.Ranks.{natural}
use Rattle.call_rules.specs.Transfers.{bytes_of}
use Rattle.lawful_runs.specs.Stages.{Stage, calls_at}
use Rattle.rank_laws.proofs.DirectMoves.{made_count}
use Rattle.rank_laws.proofs.Moves.{Issuing}
use Rattle.rank_laws.proofs.TouchMoves.{made_by}
use Rattle.rank_rules.specs.Courses.{access_on, access_of}
use Rattle.rank_rules.specs.Windows.{Window, RankWindows, window_of_name}
use Rattle.step_runs.specs.Agents.{Agent}

-- ---- how many elements

some_left : (dtype : Dtype) (count : ℕ) → 0 < count * size_of dtype → 0 < count * size_of dtype / size_of dtype
some_left Int8 count h = omega arith
some_left Int16 count h = omega arith
some_left Int32 count h = omega arith
some_left Uint8 count h = omega arith
some_left Uint16 count h = omega arith
some_left Uint32 count h = omega arith
some_left Byte count h = omega arith

-- ---- the access of a call

access_bytes : (known : RankWindows) (t : Transfer) (access : Access) →
    option_map_or (λ window. Some (access_on known t window)) (window_of_name known t.win) None ≡ Some access →
    access.len ≡ bytes_of t
access_bytes known t access e = by (window_of_name known t.win) e
  where
    by : (o : Option Window) → option_map_or (λ window. Some (access_on known t window)) o None ≡ Some access →
        access.len ≡ bytes_of t
    by None none = absurd (cc none)
    by (Some window) some = let same : access_on known t window ≡ access = cc some in
        sym (ap (λ (a : Access). a.len) same)

access_unfolds : (known : RankWindows) (call : Call) (t : Transfer) → transfer_of call ≡ Some t →
    access_of known call ≡ option_map_or (λ window. Some (access_on known t window)) (window_of_name known t.win) None
access_unfolds known call t moves = rw moves refl

-- ---- Issues

-- what an Issue makes pending has an element
pub made_has_elements : (stage : Stage) (agent : Agent) (call : Call) (t : Transfer) (access : Access) →
    Issuing stage agent call t access → (b : Bool) → nat_lt 0 access.len ≡ b →
    AllByRecursion (HasElements stage.layout (calls_at stage agent.rank)) (cond b (made_by agent access t ∷ []) [])
made_has_elements stage agent call t access issuing false e = tt
made_has_elements stage agent call t access issuing true e =
    let bytes = access_bytes agent.known.windows t access
    (sym (access_unfolds agent.known.windows call t issuing.moves) ∙ issuing.reaches) in
    let some = ltb-true 0 access.len e in
    let left = some_left t.dtype (natural t.count) (subst (λ n. 0 < n) bytes some) in
    let count = made_count stage agent call t access issuing
    ∙ length-map (numbers_from 0 (access.len / size_of t.dtype))
    (λ element. piece_at stage.layout access.target (element_address access t.dtype element))
    ∙ numbers_length 0 (access.len / size_of t.dtype)
    ∙ ap (λ n. n / size_of t.dtype) bytes in
    (subst (λ n. 0 < n) (sym count) left, tt)
