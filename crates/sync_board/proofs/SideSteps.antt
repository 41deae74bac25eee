-- What one call more does to the counts and tables of a side.
use Rattle.std.proofs.Common.{◌≡◌, ℕ, zero, suc, ◌+◌, ◌<◌, ◌≤◌, Bool, cond, List, [], ◌∷◌, ◌++◌, length, get_or, take}
use Rattle.std.proofs.Common.{refl, ap, sym, ◌∙◌, arith}
use Rattle.std.proofs.lemmas.List.{take_all, take_more, take-append-le, length-append}
use Rattle.call_rules.specs.Ranks.{is_member}
use Rattle.board_rules.proofs.PostLaws.{naming_more}
use Rattle.sync_board.specs.declared.sides.Side.{Side}
use Rattle.sync_board.specs.Sides.{Done, IsGroup, AreGroups, CountsGroups, IsRaised, Keeps}

pub counts_more : (counts new : List ℕ) (named : List Bool) (groups : List (List ℕ)) (group : List ℕ) →
    CountsGroups counts groups → IsGroup named group → IsRaised counts named new →
    CountsGroups new (groups ++ group ∷ [])
counts_more counts new named groups group counted same more rank within =
    more rank within ∙ (ap (λ b. get_or counts rank 0 + cond b 1 0) (same rank within)
    ∙ (ap (λ n. n + cond (is_member rank group) 1 0) (counted rank within) ∙ sym (naming_more rank groups group)))

pub groups_more : (stored : List (List Bool)) (groups : List (List ℕ)) (named : List Bool) (group : List ℕ) →
    AreGroups stored groups → IsGroup named group → AreGroups (stored ++ named ∷ []) (groups ++ group ∷ [])
groups_more [] [] named group are same = (same, tt)
groups_more [] (one ∷ groups) named group are same = absurd are
groups_more (one ∷ stored) [] named group are same = absurd are
groups_more (one ∷ stored) (other ∷ groups) named group are same =
    (are.0, groups_more stored groups named group are.1 same)

pub groups_length : (stored : List (List Bool)) (groups : List (List ℕ)) → AreGroups stored groups →
    length stored ≡ length groups
groups_length [] [] are = refl
groups_length [] (one ∷ groups) are = absurd are
groups_length (one ∷ stored) [] are = absurd are
groups_length (one ∷ stored) (other ∷ groups) are = ap suc (groups_length stored groups are.1)

pub group_at : (stored : List (List Bool)) (groups : List (List ℕ)) (k : ℕ) (d : List Bool) (e : List ℕ) →
    AreGroups stored groups → k < length stored →
    IsGroup (get_or stored k d) (get_or groups k e)
group_at [] groups k d e are within = absurd (omega arith)
group_at (one ∷ stored) [] k d e are within = absurd are
group_at (one ∷ stored) (other ∷ groups) zero d e are within = are.0
group_at (one ∷ stored) (other ∷ groups) (suc k) d e are within = group_at stored groups k d e are.1 (omega arith)

-- a start that no complete has reached yet is not completed, and one that they have passed is
pub completed_before : (completes : ℕ) (starts : List (List ℕ)) (group : List ℕ) → completes ≤ length starts →
    take completes (starts ++ group ∷ []) ≡ take completes starts
completed_before completes starts group within = take-append-le completes starts (group ∷ []) within

pub completed_after : (completes : ℕ) (starts : List (List ℕ)) (group : List ℕ) → length starts < completes →
    take completes (starts ++ group ∷ []) ≡ take completes starts ++ group ∷ []
completed_after completes starts group past =
    let long : length (starts ++ group ∷ []) ≤ completes = omega (arith, length-append starts (group ∷ [])) in
    take_all completes (starts ++ group ∷ []) long ∙ ap (λ xs. xs ++ group ∷ [])
    (sym (take_all completes starts (omega arith)))

pub completed_one_more : (completes : ℕ) (starts : List (List ℕ)) → completes < length starts →
    take (completes + 1) starts ≡ take completes starts ++ get_or starts completes [] ∷ []
completed_one_more completes starts within = take_more starts completes [] within

pub completed_no_more : (completes : ℕ) (starts : List (List ℕ)) → length starts ≤ completes →
    take (completes + 1) starts ≡ take completes starts
completed_no_more completes starts past = take_all (completes + 1) starts (omega arith)
    ∙ sym (take_all completes starts past)

pub with_start_past : (side : Side) (named : List Bool) (new : List ℕ) → length side.starts.items < side.completes →
    IsRaised side.completed_to named new →
    (d : Done) (group : List ℕ) → IsGroup named group → Keeps d side →
    CountsGroups new (take d.completes (d.starts ++ group ∷ []))
with_start_past side named new past more d group same kept =
    let long : length side.starts.items ≡ length d.starts = groups_length side.starts.items d.starts kept.starts in
    let count : side.completes ≡ d.completes = kept.completes in
    rw (completed_after d.completes d.starts group (omega arith))
    (counts_more side.completed_to new named (take d.completes d.starts) group kept.completed_to same more)

pub with_start_before : (side : Side) (named : List Bool) → side.completes ≤ length side.starts.items →
    (d : Done) (group : List ℕ) → IsGroup named group → Keeps d side → CountsGroups side.completed_to
    (take d.completes (d.starts ++ group ∷ []))
with_start_before side named before d group same kept =
    let long : length side.starts.items ≡ length d.starts = groups_length side.starts.items d.starts kept.starts in
    let count : side.completes ≡ d.completes = kept.completes in
    rw (completed_before d.completes d.starts group (omega arith)) kept.completed_to

pub with_complete_of : (side : Side) (new : List ℕ) (e : List Bool) → side.completes < length side.starts.items →
    IsRaised side.completed_to (get_or side.starts.items side.completes e) new →
    (d : Done) → Keeps d side → CountsGroups new (take (d.completes + 1) d.starts)
with_complete_of side new e within more d kept =
    let long : length side.starts.items ≡ length d.starts = groups_length side.starts.items d.starts kept.starts in
    let count : side.completes ≡ d.completes = kept.completes in
    let same : IsGroup (get_or side.starts.items side.completes e) (get_or d.starts d.completes []) =
    rw (← count) (group_at side.starts.items d.starts side.completes e [] kept.starts within) in
    rw (completed_one_more d.completes d.starts (omega arith))
    (counts_more side.completed_to new (get_or side.starts.items side.completes e) (take d.completes d.starts)
    (get_or d.starts d.completes []) kept.completed_to same more)

pub with_complete_past : (side : Side) → length side.starts.items ≤ side.completes → (d : Done) → Keeps d side →
    CountsGroups side.completed_to (take (d.completes + 1) d.starts)
with_complete_past side past d kept =
    let long : length side.starts.items ≡ length d.starts = groups_length side.starts.items d.starts kept.starts in
    let count : side.completes ≡ d.completes = kept.completes in
    rw (completed_no_more d.completes d.starts (omega arith)) kept.completed_to
