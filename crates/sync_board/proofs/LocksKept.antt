-- The relation of a table of locks with the entries, as it is asked and as entries come.
use Rattle.std.proofs.Common.{◌≡◌, ◌≢◌, ℕ, ◌+◌, ◌-◌, ◌<◌, ◌≤◌, Bool, true, false, not, ◌&&◌, ◌||◌, eqb, leb, List, []}
use Rattle.std.proofs.Common.{◌∷◌, ◌++◌, refl, ap, sym, subst, ◌∙◌, append_assoc, arith, Option, Some, None, ℤ}
use Rattle.std.specs.List.{list_any}
use Rattle.std.proofs.lemmas.Bool.{and_right, eq-eqb, lt-leb, ne_eqb, not-true, or_from, or_parts}
use Rattle.std.proofs.lemmas.List.Folds.{list_any-append}
use Rattle.list_laws.proofs.Tests.{any_alike, any_filter}
use Rattle.rma_types.specs.declared.calls.Lock.{Lock}
use Rattle.call_rules.specs.Pieces.{numbers_from}
use Rattle.call_rules.specs.Ranks.{natural}
use Rattle.board_rules.specs.Entries.{Act}
use Rattle.board_rules.specs.Locks.{Held, are_free, do_clash, held_here, held_locks, is_given_back}
use Rattle.board_rules.specs.Locks.{locks_asked, locks_at, targets_of}
use Rattle.board_rules.specs.Questions.{Question}
use Rattle.lock_table.specs.HeldLocks.{HasSameLocks, WindowLocks, lock}
use Rattle.sync_board.specs.KeptLocks.{AllOn, KeepsLocks, asked_from, clashes, held_on, left_by, left_within, lock_in}
use Rattle.sync_board.specs.KeptLocks.{on_window, unlock_in}
use Rattle.sync_board.specs.Reaches.{Reaches}
use Rattle.entry_gains.specs.declared.deeds.Reach.{Reach}
use Rattle.sync_board.proofs.LockSteps.{held_elsewhere, held_with_lock, held_with_other, held_with_unlock}
use Rattle.sync_board.proofs.LockTests.{asked_more, free_at, left_reached, none_asked, same_more}

-- one lock more of those that are asked for
pub taken_more : (window rank : ℕ) (kind : Lock) (first target end : ℕ) (held before after : List Held) →
    first ≤ target → target < end →
    AllOn window held → clashes held (asked_from rank window kind first (end - first)) ≡ false →
    HasSameLocks before (held ++ asked_from rank window kind first (target - first)) →
    (AllOn window before → list_any (do_clash (lock window target kind rank)) before ≡ false →
    HasSameLocks after (before ++ lock window target kind rank ∷ [])) →
    HasSameLocks after (held ++ asked_from rank window kind first (target + 1 - first))
taken_more window rank kind first target end held before after low high on free same next test =
    let taken = asked_from rank window kind first (target - first) in
    let new = lock window target kind rank in
    let on_before : AllOn window before =
    same (λ (one : Held). not (eqb one.window window))
    ∙ (list_any-append (λ (one : Held). not (eqb one.window window)) held taken
    ∙ or_from _ _ on (none_asked (λ (one : Held). not (eqb one.window window)) rank window kind first (target - first)
    (λ k from below. ap not (eq-eqb window window refl)))) in
    let free_before : list_any (do_clash new) before ≡ false =
    same (do_clash new) ∙ (list_any-append (do_clash new) held taken
    ∙ or_from _ _ (free_at held rank window kind first (end - first) target low (omega arith) free)
    (none_asked (do_clash new) rank window kind first (target - first)
    (λ k from below. rw (ne_eqb target k (λ e. absurd (omega arith))) (apart (eqb window window) _)))) in
    next on_before free_before test
    ∙ (same_more before (held ++ taken) new same test
    ∙ ap (list_any test) (append_assoc held taken (new ∷ [])
    ∙ ap (λ xs. held ++ xs) (sym (asked_more rank window kind first target low))))
  where
    apart : (a c : Bool) → ((a && false) && c) ≡ false
    apart true c = refl
    apart false c = refl

-- ---- what is asked

clash_alike : (a b : List Held) → HasSameLocks a b → (asked : List Held) → clashes a asked ≡ clashes b asked
clash_alike a b same asked = any_alike (λ one. list_any (do_clash one) a) (λ one. list_any (do_clash one) b)
    (λ one. same (do_clash one)) asked

-- the ranks of a reach
pub numbers_reached : (ranks : ℕ) (target : Option ℤ) (reach : Reach) → Reaches ranks target reach →
    numbers_from reach.first (reach.end - reach.first) ≡ targets_of ranks target
numbers_reached ranks None reach is = rw (is.first, is.end)
    (let all : ranks - 0 ≡ ranks = omega arith in rw all refl)
numbers_reached ranks (Some target) reach is = rw (is.first, is.end)
    (let one : natural target + 1 - natural target ≡ 1 = omega arith in rw one refl)

pub in_order : (ranks : ℕ) (target : Option ℤ) (reach : Reach) → Reaches ranks target reach → reach.first ≤ reach.end
in_order ranks None reach is = let first : reach.first ≡ 0 = is.first in omega arith
in_order ranks (Some target) reach is =
    let first : reach.first ≡ natural target = is.first in
    let end : reach.end ≡ natural target + 1 = is.end in
    omega arith

pub asks_free : (q : Question) (kind : Lock) (target : Option ℤ) (reach : Reach) (table : WindowLocks) →
    Reaches q.ranks target reach → KeepsLocks q.ranks q.window q.entries table →
    clashes table.held (asked_from q.rank table.window kind reach.first (reach.end - reach.first)) ≡ clashes
    (held_here q) (locks_asked q kind target)
asks_free q kind target reach table is keeps =
    let count = reach.end - reach.first in
    clash_alike table.held (held_here q) keeps.held (asked_from q.rank table.window kind reach.first count)
    ∙ (ap (λ w. clashes (held_here q) (asked_from q.rank w kind reach.first count)) keeps.number
    ∙ ap (λ xs. clashes (held_here q) (locks_at q.rank q.window kind xs)) (numbers_reached q.ranks target reach is))

-- no lock is held, so none excludes
pub none_clash : (asked : List Held) → not (clashes [] asked) ≡ true
none_clash [] = refl
none_clash (one ∷ asked) = none_clash asked

-- ---- an entry comes

on_its_window : (window : ℕ) (held : List Held) → AllOn window (on_window window held)
on_its_window window held =
    any_filter (λ (one : Held). not (eqb one.window window)) (λ (one : Held). eqb one.window window) held
    ∙ (any_alike (λ (one : Held). eqb one.window window && not (eqb one.window window)) (λ _. false)
    (λ one. never (eqb one.window window)) held ∙ none held)
  where
    never : (b : Bool) → (b && not b) ≡ false
    never true = refl
    never false = refl

    none : (xs : List Held) → list_any (λ (_ : Held). false) xs ≡ false
    none [] = refl
    none (x ∷ xs) = none xs

all_on : (ranks window : ℕ) (entries : List Act) (table : WindowLocks) → KeepsLocks ranks window entries table →
    AllOn table.window table.held
all_on ranks window entries table keeps =
    let OnWindow : ℕ → Type 0 = λ w. AllOn w table.held in
    subst OnWindow (sym keeps.number) (keeps.held (λ (one : Held). not (eqb one.window window))
    ∙ on_its_window window (held_locks ranks entries))

pub keeps_with_lock : (q : Question) (act : Act) (rank : ℕ) (kind : Lock) (target : Option ℤ) (reach : Reach)
    (before after : WindowLocks) → Reaches q.ranks target reach →
    act.window ≡ q.window → act.row.rank ≡ rank → q.rank ≡ rank → lock_in act.row.call ≡ Some (kind, target) →
    are_free q (locks_asked q kind target) ≡ true →
    after.window ≡ before.window →
    (reach.first ≤ reach.end → AllOn before.window before.held →
    clashes before.held (asked_from rank before.window kind reach.first (reach.end - reach.first)) ≡ false →
    HasSameLocks after.held
    (before.held ++ asked_from rank before.window kind reach.first (reach.end - reach.first))) →
    KeepsLocks q.ranks q.window q.entries before → KeepsLocks q.ranks q.window (q.entries ++ act ∷ []) after
keeps_with_lock q act rank kind target reach before after reached here by asker is free same taken keeps =
    let count = reach.end - reach.first in
    let order = in_order q.ranks target reach reached in
    let targets = numbers_reached q.ranks target reach reached in
    let run : reach.end ≤ q.ranks = reached.run in
    let asked = asked_from rank before.window kind reach.first count in
    let brought = locks_at act.row.rank act.window kind (targets_of q.ranks target) in
    let held = held_on q.ranks q.window q.entries in
    let on = all_on q.ranks q.window q.entries before keeps in
    let Frees : ℕ → Type 0 = λ r. clashes before.held (asked_from r before.window kind reach.first count) ≡ false in
    let none : clashes before.held asked ≡ false =
    subst Frees asker (asks_free q kind target reach before reached keeps
    ∙ not-true (clashes (held_here q) (locks_asked q kind target)) free) in
    let grown : HasSameLocks after.held (before.held ++ asked) = taken order on none in
    let new : asked ≡ brought =
    ap (λ w. asked_from rank w kind reach.first count) (keeps.number ∙ sym here)
    ∙ (ap (λ r. asked_from r act.window kind reach.first count) (sym by)
    ∙ ap (locks_at act.row.rank act.window kind) targets) in
    let Grows : ℕ → Type 0 = λ w. held_on q.ranks w (q.entries ++ act ∷ []) ≡ held_on q.ranks w q.entries ++ brought in
    let whole : held_on q.ranks q.window (q.entries ++ act ∷ []) ≡ held ++ brought = subst Grows here
    (held_with_lock q.ranks q.entries act kind target is) in
    record {
      number = same ∙ keeps.number;
      held = λ test.
          grown test ∙ (list_any-append test before.held asked
          ∙ (ap (λ b. b || list_any test asked) (keeps.held test)
          ∙ (sym (list_any-append test held asked) ∙ ap (list_any test) (ap (λ xs. held ++ xs) new ∙ sym whole))));
      targets =
          grown (λ (one : Held). leb q.ranks one.target)
          ∙ (list_any-append (λ (one : Held). leb q.ranks one.target) before.held asked
          ∙ or_from _ _ keeps.targets (none_asked (λ (one : Held). leb q.ranks one.target) rank before.window kind
          reach.first count (λ k from below. lt-leb q.ranks k (omega arith))));
    }

any_less : (p r : Held → Bool) (held : List Held) → list_any r held ≡ false →
    list_any (λ one. p one && r one) held ≡ false
any_less p r [] none = refl
any_less p r (one ∷ held) none =
    let parts = or_parts (r one) (list_any r held) none in
    or_from (p one && r one) (list_any (λ one. p one && r one) held) (and_right (p one) (r one) parts.0)
    (any_less p r held parts.1)

pub keeps_with_unlock : (ranks window : ℕ) (entries : List Act) (act : Act) (rank : ℕ) (target : Option ℤ)
    (reach : Reach) (before after : WindowLocks) → Reaches ranks target reach →
    act.window ≡ window → act.row.rank ≡ rank → unlock_in act.row.call ≡ Some target → after.window ≡ before.window →
    (reach.first ≤ reach.end → HasSameLocks after.held
    (left_within rank before.window reach.first reach.end before.held)) →
    KeepsLocks ranks window entries before → KeepsLocks ranks window (entries ++ act ∷ []) after
keeps_with_unlock ranks window entries act rank target reach before after reached here by is same gone keeps =
    let held = held_on ranks window entries in
    let stays : Held → Bool = λ (one : Held). not (is_given_back act.row.rank act.window target one) in
    let left : HasSameLocks after.held (left_by rank before.window target before.held) =
    rw (← left_reached ranks rank before.window target reach before.held reached keeps.targets)
    (gone (in_order ranks target reach reached)) in
    let AtRank : ℕ → Type 0 = λ r. HasSameLocks after.held (left_by r act.window target before.held) in
    let AtWindow : ℕ → Type 0 = λ w. HasSameLocks after.held (left_by rank w target before.held) in
    let fewer : HasSameLocks after.held (left_by act.row.rank act.window target before.held) = subst AtRank (sym by)
    (subst AtWindow (keeps.number ∙ sym here) left) in
    let Falls : ℕ → Type 0 = λ w. held_on ranks w (entries ++ act ∷ []) ≡ left_by act.row.rank act.window target
    (held_on ranks w entries) in
    let whole : held_on ranks window (entries ++ act ∷ []) ≡ left_by act.row.rank act.window target held = subst Falls
    here (held_with_unlock ranks entries act target is) in
    record {
      number = same ∙ keeps.number;
      held = λ test.
          fewer test ∙ (any_filter test stays before.held ∙ (keeps.held (λ one. stays one && test one)
          ∙ (sym (any_filter test stays held) ∙ ap (list_any test) (sym whole))));
      targets =
          fewer (λ (one : Held). leb ranks one.target)
          ∙ (any_filter (λ (one : Held). leb ranks one.target) stays before.held
          ∙ any_less stays (λ (one : Held). leb ranks one.target) before.held keeps.targets);
    }

pub keeps_with_other : (ranks window : ℕ) (entries : List Act) (act : Act) (table : WindowLocks) →
    lock_in act.row.call ≡ None → unlock_in act.row.call ≡ None →
    KeepsLocks ranks window entries table → KeepsLocks ranks window (entries ++ act ∷ []) table
keeps_with_other ranks window entries act table e f keeps = record {
  number = keeps.number;
  held = λ test. keeps.held test ∙ ap (list_any test) (sym (held_with_other ranks window entries act e f));
  targets = keeps.targets;
}

pub keeps_elsewhere : (ranks window : ℕ) (entries : List Act) (act : Act) (table : WindowLocks) → act.window ≢ window →
    KeepsLocks ranks window entries table → KeepsLocks ranks window (entries ++ act ∷ []) table
keeps_elsewhere ranks window entries act table ne keeps = record {
  number = keeps.number;
  held = λ test. keeps.held test ∙ ap (list_any test) (sym (held_elsewhere ranks window entries act ne));
  targets = keeps.targets;
}

-- a table with no lock, before any entry
pub keeps_nothing : (ranks window : ℕ) (table : WindowLocks) → table.window ≡ window → table.held ≡ [] →
    KeepsLocks ranks window [] table
keeps_nothing ranks window table number none = record {
  number = number;
  held = λ test. ap (list_any test) none;
  targets = ap (list_any (λ (one : Held). leb ranks one.target)) none;
}
