-- What the board answers an entry after the entries before it: MPI 3.1, section 11.5, in this project's profile.
use Rattle.std.specs.Prelude.{ℕ, Bool, true, if◌then◌else◌, List, Option, Some, None, ℤ}
use Rattle.std.specs.List.{list_any}
use Rattle.rma_types.specs.declared.accesses.Step.{Step}
use Rattle.rma_types.specs.declared.accesses.Step.TheVariants.{Arrive, Leave, One}
use Rattle.rma_types.specs.declared.classes.Class.{Class}
use Rattle.rma_types.specs.declared.classes.Class.TheVariants.{Flavor as FlavorClass, Assert as AssertClass}
use Rattle.rma_types.specs.declared.classes.Class.TheVariants.{Sync as SyncClass, Range as RangeClass}
use Rattle.rma_types.specs.declared.actions.Action.{Action}
use Rattle.rma_types.specs.declared.actions.Action.TheVariants.{Creates, Frees, Attaches, Detaches, Synchronises, Meets}
use Rattle.rma_types.specs.declared.actions.Action.TheVariants.{Moves, EndsRequest}
use Rattle.rma_types.specs.declared.actions.Synchronisation.{Synchronisation}
use Rattle.rma_types.specs.declared.actions.Synchronisation.TheVariants.{Fences, Posts, Starts, Completes, Waits, Locks}
use Rattle.rma_types.specs.declared.actions.Synchronisation.TheVariants.{Unlocks, Flushes, Syncs}
use Rattle.rma_types.specs.Actions.{action_of}
use Rattle.call_rules.specs.Pieces.{numbers_from}
use Rattle.call_rules.specs.Ranks.{members_of, natural}
use Rattle.board_rules.specs.AttachedRanges.{reaches_unattached}
use Rattle.board_rules.specs.Entries.{Row}
use Rattle.board_rules.specs.Locks.{locks_asked, are_free, is_locked}
use Rattle.board_rules.specs.Posts.{start_has_posts, wait_has_completes, is_posted}
use Rattle.board_rules.specs.Questions.{Question, question}
use Rattle.board_rules.specs.Rounds.{all_arrived, has_other_flavor, has_other_asserts}

-- the answer to an entry: refused by a class, allowed, or not yet possible
pub data Decision : Type 0 where
  Refuse : Class → Decision
  Allow : Decision
  NotYet : Decision

abbrev pub refuse_if : Bool → Class → Option Class
refuse_if applies class = if applies then Some class else None

-- ---- refusals

-- the class with which an Arrive is refused, or none: an arrival of its round differs
abbrev pub fence_refusal : Question → Synchronisation → Option Class
fence_refusal q (Fences asserts) = refuse_if (has_other_asserts q asserts) AssertClass
fence_refusal q (Posts group asserts) = None
fence_refusal q (Starts group asserts) = None
fence_refusal q Completes = None
fence_refusal q (Waits tests) = None
fence_refusal q (Locks kind target asserts) = None
fence_refusal q (Unlocks target) = None
fence_refusal q (Flushes target local) = None
fence_refusal q Syncs = None

abbrev pub arrive_refusal : Question → Action → Option Class
arrive_refusal q (Creates creation) = refuse_if (has_other_flavor q creation.flavor) FlavorClass
arrive_refusal q (Frees win) = None
arrive_refusal q (Attaches win base bytes) = None
arrive_refusal q (Detaches win base) = None
arrive_refusal q (Synchronises win s) = fence_refusal q s
arrive_refusal q Meets = None
arrive_refusal q (Moves transfer) = None
arrive_refusal q (EndsRequest req) = None

-- a lock meets the post of its target, a lock_all that of any rank
abbrev pub meets_post : Question → Option ℤ → Bool
meets_post q None = list_any (is_posted q) (numbers_from 0 q.ranks)
meets_post q (Some target) = is_posted q (natural target)

abbrev pub synchronisation_refusal : Question → Synchronisation → Option Class
synchronisation_refusal q (Fences asserts) = None
synchronisation_refusal q (Posts group asserts) = refuse_if (is_locked q q.rank) SyncClass
synchronisation_refusal q (Starts group asserts) = None
synchronisation_refusal q Completes = None
synchronisation_refusal q (Waits tests) = None
synchronisation_refusal q (Locks kind target asserts) = refuse_if (meets_post q target) SyncClass
synchronisation_refusal q (Unlocks target) = None
synchronisation_refusal q (Flushes target local) = None
synchronisation_refusal q Syncs = None

-- the class with which an entry of step One is refused, or none; that of a transfer is its look-up
abbrev pub one_refusal : Question → Action → Option Class
one_refusal q (Creates creation) = None
one_refusal q (Frees win) = None
one_refusal q (Attaches win base bytes) = None
one_refusal q (Detaches win base) = None
one_refusal q (Synchronises win s) = synchronisation_refusal q s
one_refusal q Meets = None
one_refusal q (Moves transfer) = refuse_if (reaches_unattached q transfer) RangeClass
one_refusal q (EndsRequest req) = None

-- the class with which the entry is refused, or none
abbrev pub refusal : Question → Step → Option Class
refusal q Arrive = arrive_refusal q (action_of q.call)
refusal q Leave = None
refusal q One = one_refusal q (action_of q.call)

-- ---- what must have come before

abbrev pub may_synchronise_now : Question → Synchronisation → Bool
may_synchronise_now q (Fences asserts) = true
may_synchronise_now q (Posts group asserts) = true
may_synchronise_now q (Starts group asserts) = start_has_posts q (members_of group)
may_synchronise_now q Completes = true
may_synchronise_now q (Waits tests) = wait_has_completes q
may_synchronise_now q (Locks kind target asserts) = are_free q (locks_asked q kind target)
may_synchronise_now q (Unlocks target) = true
may_synchronise_now q (Flushes target local) = true
may_synchronise_now q Syncs = true

abbrev pub may_enter_now : Question → Action → Bool
may_enter_now q (Creates creation) = true
may_enter_now q (Frees win) = true
may_enter_now q (Attaches win base bytes) = true
may_enter_now q (Detaches win base) = true
may_enter_now q (Synchronises win s) = may_synchronise_now q s
may_enter_now q Meets = true
may_enter_now q (Moves transfer) = true
may_enter_now q (EndsRequest req) = true

-- the entry is allowed, where it is not refused
abbrev pub is_allowed_now : Question → Step → Bool
is_allowed_now q Arrive = true
is_allowed_now q Leave = all_arrived q
is_allowed_now q One = may_enter_now q (action_of q.call)

-- ---- the answers

abbrev pub decision_by : Option Class → Bool → Decision
decision_by (Some class) allowed = Refuse class
decision_by None allowed = if allowed then Allow else NotYet

-- a refusal is tested before the rest
abbrev pub decision : Question → Step → Decision
decision q step = decision_by (refusal q step) (is_allowed_now q step)

-- the board's answer to an entry after the entries before it
abbrev pub decide : ℕ → List Row → Row → Decision
decide ranks before row = decision (question ranks before row) row.step

-- the class with which the board refuses an entry, or none
abbrev pub shared_class : ℕ → List Row → Row → Option Class
shared_class ranks before row = refusal (question ranks before row) row.step
