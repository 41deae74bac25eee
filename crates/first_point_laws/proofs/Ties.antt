-- The epochs of a rank on a window, and the synchronisations that it has made on it: MPI 3.1, section 11.5.2, in this
-- project's profile. Each start but that of an open epoch has its complete, and each post but that of an open epoch has
-- its wait.
use Rattle.std.proofs.Common.{◌≡◌, ℕ, ◌+◌, Bool, true, false, cond, not, List, [], ◌∷◌, ◌++◌, length, Option, Some}
use Rattle.std.proofs.Common.{None, refl, ap, sym, ◌∙◌, subst, arith, length-append}
use Rattle.std.specs.Prelude.{◌||◌, ◌==◌, is_some, ℤ, if◌then◌else◌}
use Rattle.std.specs.List.{count_by, flat_map, filter}
use Rattle.std.proofs.lemmas.Bool.{and_parts}
use Rattle.std.proofs.lemmas.Grind.{flat_map-append}
use Rattle.std.proofs.lemmas.List.{append-nil}
use Rattle.std.proofs.lemmas.List.Sums.{sum_by-cons, sum_by-append}
use Rattle.board_rules.specs.Posts.{group_of_post, group_of_start, is_complete, is_wait}
use Rattle.rma_types.specs.declared.actions.Synchronisation.{Synchronisation}
use Rattle.rma_types.specs.declared.actions.Synchronisation.TheVariants.{Fences, Posts, Starts, Completes, Waits, Locks}
use Rattle.rma_types.specs.declared.actions.Synchronisation.TheVariants.{Unlocks, Flushes, Syncs}
use Rattle.rma_types.specs.declared.actions.Target.{Target}
use Rattle.rma_types.specs.declared.actions.Transfer.{Transfer}
use Rattle.rma_types.specs.declared.actions.Target.TheVariants.{Own, Null, Named}
use Rattle.call_rules.specs.Ranks.{natural, members_of}
use Rattle.rank_rules.specs.Epochs.{AccessEpoch, Idle, FenceUnused, FenceUsed, StartTo, LocksAt, LockAll, ExposureEpoch}
use Rattle.rank_rules.specs.Epochs.{Unexposed, PostTo, Epochs, no_epochs, may_begin, is_fence_unused, is_fence_used}
use Rattle.rank_rules.specs.Epochs.{is_start_epoch, is_exposed, may_lock, may_unlock, may_synchronise, after_use}
use Rattle.rank_rules.specs.Epochs.{after_transfer, after_lock, epoch_of_locks, after_unlock, access_after}
use Rattle.rank_rules.specs.Epochs.{exposure_after}
use Rattle.rank_rules.specs.Epochs.{after_synchronisation, targets_locked}

-- ---- what ties epochs and synchronisations

-- the group of an open start epoch, in a list
abbrev pub group_open : AccessEpoch → List (List ℕ)
group_open Idle = []
group_open FenceUnused = []
group_open FenceUsed = []
group_open (StartTo group) = group ∷ []
group_open (LocksAt targets) = []
group_open LockAll = []

abbrev pub open_posts : ExposureEpoch → ℕ
open_posts Unexposed = 0
open_posts (PostTo group) = 1

pub record IsAccessTied (access : AccessEpoch) (made : List Synchronisation) : Type 0 where
  pub ended : List (List ℕ)
  pub begun : flat_map group_of_start made ≡ ended ++ group_open access
  pub completed : count_by is_complete made ≡ length ended

abbrev pub IsExposureTied : ExposureEpoch → List Synchronisation → Type 0
IsExposureTied exposure made = length (flat_map group_of_post made) ≡ count_by is_wait made + open_posts exposure

pub record IsTied (epochs : Epochs) (made : List Synchronisation) : Type 0 where
  pub access : IsAccessTied epochs.access made
  pub exposure : IsExposureTied epochs.exposure made

pub tied_first : IsTied no_epochs []
tied_first = record { access = record { ended = []; begun = refl; completed = refl }; exposure = refl }

-- ---- one synchronisation more

flat_pushed : {X : Type 0} (f : Synchronisation → List X) (made : List Synchronisation) (s : Synchronisation) →
    flat_map f (made ++ s ∷ []) ≡ flat_map f made ++ f s
flat_pushed f made s = flat_map-append f made (s ∷ []) ∙ ap (λ l. flat_map f made ++ l) (append-nil (f s))

count_pushed : (p : Synchronisation → Bool) (made : List Synchronisation) (s : Synchronisation) →
    count_by p (made ++ s ∷ []) ≡ count_by p made + cond (p s) 1 0
count_pushed p made s =
    let joined = sum_by-append (λ x. cond (p x) 1 0) made (s ∷ []) in
    let one = sum_by-cons (λ x. cond (p x) 1 0) s [] in omega (arith, joined, one)

count_no : (p : Synchronisation → Bool) (made : List Synchronisation) (s : Synchronisation) → p s ≡ false →
    count_by p (made ++ s ∷ []) ≡ count_by p made
count_no p made s e =
    let pushed = count_pushed p made s in
    let none : ◌≡◌ {A = ℕ} (cond (p s) 1 0) 0 = ap (λ b. cond b 1 0) e in omega (arith, pushed, none)

count_yes : (p : Synchronisation → Bool) (made : List Synchronisation) (s : Synchronisation) → p s ≡ true →
    count_by p (made ++ s ∷ []) ≡ count_by p made + 1
count_yes p made s e =
    let pushed = count_pushed p made s in
    let one : ◌≡◌ {A = ℕ} (cond (p s) 1 0) 1 = ap (λ b. cond b 1 0) e in omega (arith, pushed, one)

module _ (a b : AccessEpoch) (made : List Synchronisation) (s : Synchronisation) (tied : IsAccessTied a made) where
  access_same : group_open b ≡ group_open a → group_of_start s ≡ [] → is_complete s ≡ false →
      IsAccessTied b (made ++ s ∷ [])
  access_same same none other = record {
    ended = tied.ended;
    begun = flat_pushed group_of_start made s
        ∙ ap (λ l. flat_map group_of_start made ++ l) none ∙ append-nil (flat_map group_of_start made)
        ∙ tied.begun ∙ ap (λ l. tied.ended ++ l) (sym same);
    completed = count_no is_complete made s other ∙ tied.completed;
  }

  access_starts : (group : List ℕ) → group_open a ≡ [] → group_open b ≡ group ∷ [] → group_of_start s ≡ group ∷ [] →
      is_complete s ≡ false → IsAccessTied b (made ++ s ∷ [])
  access_starts group before after starts other = record {
    ended = tied.ended;
    begun = flat_pushed group_of_start made s
        ∙ (λ i. (tied.begun ∙ ap (λ l. tied.ended ++ l) before ∙ append-nil tied.ended) i ++ starts i)
        ∙ ap (λ l. tied.ended ++ l) (sym after);
    completed = count_no is_complete made s other ∙ tied.completed;
  }

  access_completes : (group : List ℕ) → group_open a ≡ group ∷ [] → group_open b ≡ [] → group_of_start s ≡ [] →
      is_complete s ≡ true → IsAccessTied b (made ++ s ∷ [])
  access_completes group before after starts is = record {
    ended = tied.ended ++ group ∷ [];
    begun = flat_pushed group_of_start made s
        ∙ ap (λ l. flat_map group_of_start made ++ l) starts ∙ append-nil (flat_map group_of_start made)
        ∙ tied.begun ∙ ap (λ l. tied.ended ++ l) before
        ∙ sym (append-nil (tied.ended ++ group ∷ [])) ∙ ap (λ l. (tied.ended ++ group ∷ []) ++ l) (sym after);
    completed = count_yes is_complete made s is ∙ ap (λ n. n + 1) tied.completed
        ∙ sym (length-append tied.ended (group ∷ []));
  }

exposure_pushed : (a b : ExposureEpoch) (made : List Synchronisation) (s : Synchronisation) →
    length (group_of_post s) + open_posts a ≡ cond (is_wait s) 1 0 + open_posts b → IsExposureTied a made →
    IsExposureTied b (made ++ s ∷ [])
exposure_pushed a b made s same tied =
    let posts : length (flat_map group_of_post (made ++ s ∷ [])) ≡ length (flat_map group_of_post made)
    + length (group_of_post s) = ap length (flat_pushed group_of_post made s)
    ∙ length-append (flat_map group_of_post made) (group_of_post s) in
    let waits = count_pushed is_wait made s in omega (arith, posts, waits, same, tied)

-- ---- no start epoch is open

fence_closed : (a : AccessEpoch) → (may_begin a || is_fence_used a) ≡ true → group_open a ≡ []
fence_closed Idle h = refl
fence_closed FenceUnused h = refl
fence_closed FenceUsed h = refl
fence_closed (StartTo group) h = absurd (cc h)
fence_closed (LocksAt targets) h = refl
fence_closed LockAll h = refl

start_closed : (a : AccessEpoch) → may_begin a ≡ true → group_open a ≡ []
start_closed Idle h = refl
start_closed FenceUnused h = refl
start_closed FenceUsed h = refl
start_closed (StartTo group) h = absurd (cc h)
start_closed (LocksAt targets) h = refl
start_closed LockAll h = refl

lock_closed : (a : AccessEpoch) (target : Option ℤ) → may_lock a target ≡ true → group_open a ≡ []
lock_closed Idle target h = refl
lock_closed FenceUnused target h = refl
lock_closed FenceUsed target h = refl
lock_closed (StartTo group) None h = absurd (cc h)
lock_closed (StartTo group) (Some target) h = absurd (cc h)
lock_closed (LocksAt targets) target h = refl
lock_closed LockAll target h = refl

unlock_closed : (a : AccessEpoch) (target : Option ℤ) → may_unlock a target ≡ true → group_open a ≡ []
unlock_closed Idle target h = refl
unlock_closed FenceUnused target h = refl
unlock_closed FenceUsed target h = refl
unlock_closed (StartTo group) None h = absurd (cc h)
unlock_closed (StartTo group) (Some target) h = absurd (cc h)
unlock_closed (LocksAt targets) target h = refl
unlock_closed LockAll target h = refl

complete_open : (a : AccessEpoch) → is_start_epoch a ≡ true → (group : List ℕ) × (group_open a ≡ group ∷ [])
complete_open Idle h = absurd (cc h)
complete_open FenceUnused h = absurd (cc h)
complete_open FenceUsed h = absurd (cc h)
complete_open (StartTo group) h = (group, refl)
complete_open (LocksAt targets) h = absurd (cc h)
complete_open LockAll h = absurd (cc h)

post_same : (a : AccessEpoch) → group_open (if is_fence_unused a then Idle else a) ≡ group_open a
post_same Idle = refl
post_same FenceUnused = refl
post_same FenceUsed = refl
post_same (StartTo group) = refl
post_same (LocksAt targets) = refl
post_same LockAll = refl

fence_after : (b : Bool) → group_open (if b then Idle else FenceUnused) ≡ []
fence_after true = refl
fence_after false = refl

locked_after : (a : AccessEpoch) (target : Option ℤ) → group_open (after_lock a target) ≡ []
locked_after a None = refl
locked_after a (Some target) = refl

locks_closed : (targets : List ℕ) → group_open (epoch_of_locks targets) ≡ []
locks_closed [] = refl
locks_closed (target ∷ targets) = refl

unlocked_after : (a : AccessEpoch) (target : Option ℤ) → group_open (after_unlock a target) ≡ []
unlocked_after a None = refl
unlocked_after a (Some target) = locks_closed (filter (λ one. not (one == natural target)) (targets_locked a))

not_posted : (x : ExposureEpoch) → not (is_exposed x) ≡ true → open_posts x ≡ 0
not_posted Unexposed h = refl
not_posted (PostTo group) h = absurd (cc h)

posted_one : (x : ExposureEpoch) → is_exposed x ≡ true → open_posts x ≡ 1
posted_one Unexposed h = absurd (cc h)
posted_one (PostTo group) h = refl

pub posted_open : (epochs : Epochs) (tests : Bool) → may_synchronise epochs (Waits tests) ≡ true →
    open_posts epochs.exposure ≡ 1
posted_open epochs tests h = posted_one epochs.exposure h

-- ---- an accepted synchronisation

module _ (epochs : Epochs) (made : List Synchronisation) (tied : IsTied epochs made) where
  -- one that is no post, start, complete or wait, where the epochs stay as they are
  pub tied_more : (s : Synchronisation) → group_of_start s ≡ [] → is_complete s ≡ false → group_of_post s ≡ [] →
      is_wait s ≡ false → IsTied epochs (made ++ s ∷ [])
  tied_more s starts completes posts waits = record {
    access = access_same epochs.access epochs.access made s tied.access refl starts completes;
    exposure = exposure_pushed epochs.exposure epochs.exposure made s
        (ap (λ l. length l + open_posts epochs.exposure) posts
        ∙ ap (λ b. cond b 1 0 + open_posts epochs.exposure) (sym waits)) tied.exposure;
  }

  abbrev After : Synchronisation → Type 0
  After s = IsTied (after_synchronisation epochs s) (made ++ s ∷ [])

  plain : (s : Synchronisation) → group_open (access_after epochs.access s) ≡ group_open epochs.access →
      group_of_start s ≡ [] → is_complete s ≡ false →
      length (group_of_post s) + open_posts epochs.exposure ≡ cond (is_wait s) 1 0
      + open_posts (exposure_after epochs.exposure s) → After s
  plain s same starts completes opens = record {
    access = access_same epochs.access (access_after epochs.access s) made s tied.access same starts completes;
    exposure = exposure_pushed epochs.exposure (exposure_after epochs.exposure s) made s opens tied.exposure;
  }

  pub tied_after : (s : Synchronisation) → may_synchronise epochs s ≡ true →
      IsTied (after_synchronisation epochs s) (made ++ s ∷ [])
  tied_after (Fences asserts) may =
      let parts = and_parts (may_begin epochs.access || is_fence_used epochs.access)
      (not (is_exposed epochs.exposure)) may in
      plain (Fences asserts) (fence_after asserts.nosucceed ∙ sym (fence_closed epochs.access parts.0)) refl refl refl
  tied_after (Posts group asserts) may =
      let parts = and_parts (not (is_fence_used epochs.access)) (not (is_exposed epochs.exposure)) may in
      let none = not_posted epochs.exposure parts.1 in
      plain (Posts group asserts) (post_same epochs.access) refl refl (omega (arith, none))
  tied_after (Starts group asserts) may = record {
    access = access_starts epochs.access (StartTo (members_of group)) made (Starts group asserts) tied.access
        (members_of group) (start_closed epochs.access may) refl refl refl;
    exposure = exposure_pushed epochs.exposure epochs.exposure made (Starts group asserts) refl tied.exposure;
  }
  tied_after Completes may =
      let begun = complete_open epochs.access may in
      record {
        access = access_completes epochs.access Idle made Completes tied.access begun.0 begun.1 refl refl refl;
        exposure = exposure_pushed epochs.exposure epochs.exposure made Completes refl tied.exposure;
      }
  tied_after (Waits tests) may =
      let one = posted_one epochs.exposure may in plain (Waits tests) refl refl refl (omega (arith, one))
  tied_after (Locks kind target asserts) may = plain (Locks kind target asserts)
      (locked_after epochs.access target ∙ sym (lock_closed epochs.access target may)) refl refl refl
  tied_after (Unlocks target) may = plain (Unlocks target)
      (unlocked_after epochs.access target ∙ sym (unlock_closed epochs.access target may)) refl refl refl
  tied_after (Flushes target local) may = plain (Flushes target local) refl refl refl refl
  tied_after Syncs may = plain Syncs refl refl refl refl

  -- a flush or a sync has no entry
  pub tied_flush : (target : Option ℤ) (local : Bool) → IsTied (after_synchronisation epochs (Flushes target local))
      made
  tied_flush target local = record { access = tied.access; exposure = tied.exposure }

  pub tied_sync : IsTied (after_synchronisation epochs Syncs) made
  tied_sync = record { access = tied.access; exposure = tied.exposure }

-- ---- an accepted transfer

used_same : (a : AccessEpoch) → group_open (after_use a) ≡ group_open a
used_same Idle = refl
used_same FenceUnused = refl
used_same FenceUsed = refl
used_same (StartTo group) = refl
used_same (LocksAt targets) = refl
used_same LockAll = refl

transfer_same : (a : AccessEpoch) (t : Transfer) → group_open (after_transfer a t) ≡ group_open a
transfer_same a t = by_target t.target refl
  where
    requested : (b : Bool) → group_open (if b then a else after_use a) ≡ group_open a
    requested true = refl
    requested false = used_same a

    by_target : (target : Target) → t.target ≡ target → group_open (after_transfer a t) ≡ group_open a
    by_target Own is = subst (λ (x : Target). group_open (after_transfer a (record t { target = x })) ≡ group_open a)
        (sym is) refl
    by_target Null is = subst (λ (x : Target). group_open (after_transfer a (record t { target = x })) ≡ group_open a)
        (sym is) refl
    by_target (Named rank) is =
        subst (λ (x : Target). group_open (after_transfer a (record t { target = x })) ≡ group_open a) (sym is)
        (requested (is_some t.request))

pub tied_transfer : (epochs : Epochs) (made : List Synchronisation) (t : Transfer) → IsTied epochs made →
    IsTied (record epochs { access = after_transfer epochs.access t }) made
tied_transfer epochs made t tied = record {
  access = record {
    ended = tied.access.ended;
    begun = tied.access.begun ∙ ap (λ l. tied.access.ended ++ l) (sym (transfer_same epochs.access t));
    completed = tied.access.completed;
  };
  exposure = tied.exposure;
}
