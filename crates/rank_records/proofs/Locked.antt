-- The access epochs of the tables follow those that are known, where the rank did not refuse the call.
use Rattle.std.proofs.Common.{◌≡◌, ℕ, zero, suc, ◌+◌, ◌-◌, Bool, true, false, cond, not, List, [], ◌∷◌, ◌++◌}
use Rattle.std.proofs.Common.{Some, None, length, replicate, inl, inr, refl, ap, sym, ◌∙◌}
use Rattle.std.proofs.Common.{subst, arith}
use Rattle.std.specs.Prelude.{◌==◌, ◌||◌, nat_lt, is_some, slice_set, ℤ}
use Rattle.std.proofs.lemmas.Bool.{cases_Bool, eqb-true, eq-eqb, ne_eqb}
use Rattle.std.proofs.lemmas.Bool.Decides.{nat_tests}
use Rattle.list_laws.proofs.Tests.{without}
use Rattle.list_laws.proofs.Truths.{both_true}
use Rattle.rma_types.specs.declared.actions.Synchronisation.{Synchronisation}
use Rattle.rma_types.specs.declared.actions.Synchronisation.TheVariants.{Fences, Posts, Starts, Completes, Waits}
use Rattle.rma_types.specs.declared.actions.Synchronisation.TheVariants.{Locks as LocksBy, Unlocks, Flushes, Syncs}
use Rattle.rma_types.specs.declared.actions.Target.{Target}
use Rattle.rma_types.specs.declared.actions.Transfer.{Transfer}
use Rattle.rma_types.specs.declared.actions.Target.TheVariants.{Own, Null, Named}
use Rattle.call_rules.specs.Ranks.{is_member, natural}
use Rattle.call_rules.proofs.RankLaws.{absent_without, absent_stays, absent_append}
use Rattle.rank_rules.specs.Epochs.{AccessEpoch, Idle, FenceUnused, FenceUsed, StartTo, LocksAt, LockAll, Epochs}
use Rattle.rank_rules.specs.Epochs.{ExposureEpoch, access_after, after_transfer, after_use}
use Rattle.rank_rules.specs.Epochs.{epochs_at, is_fence_unused, is_fence_used, is_exposed}
use Rattle.rank_rules.specs.Epochs.{epoch_of_locks, may_lock, may_synchronise, no_epochs, targets_locked}
use Rattle.rank_records.specs.Deeds.{turn_by}
use Rattle.rank_records.specs.declared.deeds.Turn.TheVariants as turn
use Rattle.rank_records.specs.declared.tables.Epoch.TheVariants.{Locks}
use Rattle.rank_records.specs.Tables.{AreApart, AreLockedOnce, after_post, epoch_by, locks_in, one_less, turned}

-- ---- truth values

or_false : (a b : Bool) → (a || b) ≡ false → (a ≡ false) × (b ≡ false)
or_false true b h = absurd (cc h)
or_false false b h = (refl, h)

not_true : (a : Bool) → not a ≡ true → a ≡ false
not_true true h = absurd (cc h)
not_true false h = refl

-- ---- targets, each once

length_without : (target : ℕ) (xs : List ℕ) → AreApart xs → is_member target xs ≡ true →
    length (without target xs) + 1 ≡ length xs
length_without target [] apart h = absurd (cc h)
length_without target (x ∷ xs) apart h = elim (cases_Bool (x == target)) [
  | inl same ↦
      let is : x ≡ target = eqb-true x target same in
      let absent : is_member target xs ≡ false = subst (λ r. is_member r xs ≡ false) is apart.0 in
      let rest = absent_stays target xs absent in
      rw same (ap (λ l. length l + 1) rest ∙ omega arith)
  | inr other ↦
      let member : is_member target xs ≡ true = sym (ap (λ b. b || is_member target xs) other) ∙ h in
      let rest = length_without target xs apart.1 member in
      rw other (omega (arith, rest))
]

apart_without : (target : ℕ) (xs : List ℕ) → AreApart xs → AreApart (without target xs)
apart_without target [] apart = tt
apart_without target (x ∷ xs) apart =
    let rest = apart_without target xs apart.1 in
    let absent = absent_without x target xs apart.0 in
    elim (x == target) as (λ b. AreApart (cond (not b) (x ∷ without target xs) (without target xs)))
    [ true ↦ rest | false ↦ (absent, rest) ]

other_way : (a b : ℕ) → (a == b) ≡ false → (b == a) ≡ false
other_way a b h = ne_eqb b a (λ same. let is : (a == b) ≡ true = eq-eqb a b (sym same) in absurd (cc (h, is)))

apart_append : (rank : ℕ) (xs : List ℕ) → AreApart xs → is_member rank xs ≡ false → AreApart (xs ++ rank ∷ [])
apart_append rank [] apart h = (refl, tt)
apart_append rank (x ∷ xs) apart h =
    let parts = or_false (x == rank) (is_member rank xs) h in
    (absent_append x rank xs apart.0 (other_way x rank parts.0), apart_append rank xs apart.1 parts.1)

-- ---- an epoch after a synchronisation

locks_are : (access : AccessEpoch) → locks_in (epoch_by access) ≡ length (targets_locked access)
locks_are Idle = refl
locks_are FenceUnused = refl
locks_are FenceUsed = refl
locks_are (StartTo group) = refl
locks_are (LocksAt targets) = refl
locks_are LockAll = refl

fewer_locks : (xs : List ℕ) → epoch_by (epoch_of_locks xs) ≡ one_less (length xs + 1)
fewer_locks [] = refl
fewer_locks (x ∷ xs) =
    let more : nat_lt 1 (length (x ∷ xs) + 1) ≡ true = grind (arith, nat_tests) in
    let count : length (x ∷ xs) + 1 - 1 ≡ length (x ∷ xs) = omega arith in
    rw (more, count) refl

post_follows : (access : AccessEpoch) → is_fence_used access ≡ false → AreApart (targets_locked access) →
    (epoch_by (cond (is_fence_unused access) Idle access) ≡ after_post (epoch_by access))
    × AreApart (targets_locked (cond (is_fence_unused access) Idle access))
post_follows Idle unused apart = (refl, tt)
post_follows FenceUnused unused apart = (refl, tt)
post_follows FenceUsed unused apart = absurd (cc unused)
post_follows (StartTo group) unused apart = (refl, tt)
post_follows (LocksAt targets) unused apart = (refl, apart)
post_follows LockAll unused apart = (refl, tt)

free_of_lock : (access : AccessEpoch) (target : ℤ) → may_lock access (Some target) ≡ true →
    is_member (natural target) (targets_locked access) ≡ false
free_of_lock Idle target may = refl
free_of_lock FenceUnused target may = refl
free_of_lock FenceUsed target may = refl
free_of_lock (StartTo group) target may = refl
free_of_lock (LocksAt targets) target may = not_true (is_member (natural target) targets) may
free_of_lock LockAll target may = refl

pub turn_follows : (access : AccessEpoch) (exposure : ExposureEpoch) (s : Synchronisation) →
    may_synchronise (record { access = access; exposure = exposure }) s ≡ true → AreApart (targets_locked access) →
    (epoch_by (access_after access s) ≡ turned (epoch_by access) (turn_by s))
    × AreApart (targets_locked (access_after access s))
turn_follows access exposure (Fences asserts) may apart =
    elim asserts.nosucceed as (λ b. (epoch_by (cond b Idle FenceUnused)
    ≡ turned (epoch_by access) (cond b turn.End turn.Fence))
    × AreApart (targets_locked (cond b Idle FenceUnused))) [ true ↦ (refl, tt) | false ↦ (refl, tt) ]
turn_follows access exposure (Posts group asserts) may apart =
    post_follows access (not_true (is_fence_used access)
    (both_true (not (is_fence_used access)) (not (is_exposed exposure)) may).0) apart
turn_follows access exposure (Starts group asserts) may apart = (refl, tt)
turn_follows access exposure Completes may apart = (refl, tt)
turn_follows access exposure (Waits tests) may apart = (refl, apart)
turn_follows access exposure (LocksBy kind None asserts) may apart = (refl, tt)
turn_follows access exposure (LocksBy kind (Some target) asserts) may apart = (
  ap Locks (more (natural target) (targets_locked access) ∙ ap (λ n. n + 1) (sym (locks_are access))),
  apart_append (natural target) (targets_locked access) apart (free_of_lock access target may),
)
  where
    more : (rank : ℕ) (xs : List ℕ) → length (xs ++ rank ∷ []) ≡ length xs + 1
    more rank [] = refl
    more rank (x ∷ xs) = let rest = more rank xs in omega (arith, rest)
turn_follows access exposure (Unlocks None) may apart = (refl, tt)
turn_follows access exposure (Unlocks (Some target)) may apart =
    let count = length_without (natural target) (targets_locked access) apart may in (
      fewer_locks (without (natural target) (targets_locked access))
          ∙ ap one_less (count ∙ sym (locks_are access)),
      apart_of (without (natural target) (targets_locked access))
          (apart_without (natural target) (targets_locked access) apart),
    )
  where
    apart_of : (xs : List ℕ) → AreApart xs → AreApart (targets_locked (epoch_of_locks xs))
    apart_of [] h = tt
    apart_of (x ∷ xs) h = h
turn_follows access exposure (Flushes target local) may apart = (refl, apart)
turn_follows access exposure Syncs may apart = (refl, apart)

-- ---- an epoch after a transfer

used : (access : AccessEpoch) → (epoch_by (after_use access) ≡ epoch_by access)
    × (targets_locked (after_use access) ≡ targets_locked access)
used Idle = (refl, refl)
used FenceUnused = (refl, refl)
used FenceUsed = (refl, refl)
used (StartTo group) = (refl, refl)
used (LocksAt targets) = (refl, refl)
used LockAll = (refl, refl)

used_if : (access : AccessEpoch) (b : Bool) → (epoch_by (cond b access (after_use access)) ≡ epoch_by access)
    × (targets_locked (cond b access (after_use access)) ≡ targets_locked access)
used_if access true = (refl, refl)
used_if access false = used access

move_by : (access : AccessEpoch) (t : Transfer) (target : Target) → t.target ≡ target →
    (epoch_by (after_transfer access t) ≡ epoch_by access)
    × (targets_locked (after_transfer access t) ≡ targets_locked access)
move_by access t Own e = rw e (refl, refl)
move_by access t Null e = rw e (refl, refl)
move_by access t (Named rank) e = rw e (used_if access (is_some t.request))

pub move_follows : (access : AccessEpoch) (t : Transfer) → (epoch_by (after_transfer access t) ≡ epoch_by access)
    × (targets_locked (after_transfer access t) ≡ targets_locked access)
move_follows access t = move_by access t t.target refl

-- ---- the epochs on all windows

pub once_at : (epochs : List Epochs) (win : ℕ) → AreLockedOnce epochs →
    AreApart (targets_locked (epochs_at epochs win).access)
once_at [] win once = tt
once_at (one ∷ rest) zero once = once.0
once_at (one ∷ rest) (suc win) once = once_at rest win once.1

pub once_set : (epochs : List Epochs) (win : ℕ) (new : Epochs) → AreLockedOnce epochs →
    AreApart (targets_locked new.access) → AreLockedOnce (slice_set epochs win new)
once_set [] win new once apart = tt
once_set (one ∷ rest) zero new once apart = (apart, once.1)
once_set (one ∷ rest) (suc win) new once apart = (once.0, once_set rest win new once.1 apart)

pub once_first : (n : ℕ) → AreLockedOnce (replicate n no_epochs)
once_first zero = tt
once_first (suc n) = (tt, once_first n)
