-- The board's answer after kept entries is its answer after the entries themselves.
use Rattle.std.proofs.Common.{◌≡◌, ℕ, ◌==◌, not, List, [], ◌∷◌, length, take, reverse, refl, ap, ◌∙◌, Option}
use Rattle.std.proofs.Common.{Some, None, ℤ}
use Rattle.std.specs.List.{count_by, filter, flat_map, list_all, list_any}
use Rattle.std.specs.Option.{option_map_or}
use Rattle.std.specs.Prelude.{nat_le, nat_lt, slice_get, slice_index_or}
use Rattle.list_laws.proofs.Tests.{any_alike, all_alike}
use Rattle.rma_types.specs.declared.accesses.Step.{Step}
use Rattle.rma_types.specs.declared.accesses.Step.TheVariants.{Arrive, Leave, One}
use Rattle.rma_types.specs.declared.classes.Class.TheVariants.{Flavor as FlavorClass, Assert as AssertClass}
use Rattle.rma_types.specs.declared.classes.Class.TheVariants.{Sync as SyncClass, Range as RangeClass}
use Rattle.rma_types.specs.declared.actions.Action.{Action}
use Rattle.rma_types.specs.declared.actions.Synchronisation.{Synchronisation}
use Rattle.rma_types.specs.declared.actions.Action.TheVariants.{Creates, Synchronises, Moves}
use Rattle.rma_types.specs.declared.actions.Synchronisation.TheVariants.{Fences, Posts, Starts, Waits, Locks}
use Rattle.rma_types.specs.declared.actions.Transfer.{Transfer}
use Rattle.rma_types.specs.Actions.{action_of}
use Rattle.call_rules.specs.Pieces.{numbers_from}
use Rattle.call_rules.specs.Ranks.{members_of, natural}
use Rattle.call_rules.specs.Transfers.{rank_reached, bytes_of}
use Rattle.rank_rules.specs.Ranges.{covers}
use Rattle.board_rules.specs.AttachedRanges.{reaches_unattached}
use Rattle.board_rules.specs.Board.{arrive_refusal, decide, decision, decision_by, fence_refusal, is_allowed_now}
use Rattle.board_rules.specs.Board.{may_enter_now, may_synchronise_now, meets_post, one_refusal, refusal, refuse_if}
use Rattle.board_rules.specs.Board.{synchronisation_refusal}
use Rattle.board_rules.specs.Entries.{Row, arrivals, collective_of}
use Rattle.board_rules.specs.Locks.{Held, are_free, do_clash, held_here, is_locked, locks_asked}
use Rattle.board_rules.specs.Posts.{completed_groups, completes, group_of_post, group_of_start, is_complete, is_posted}
use Rattle.board_rules.specs.Posts.{is_wait, last_posted, made_by, naming, posts, start_has_posts, starts}
use Rattle.board_rules.specs.Posts.{wait_has_completes}
use Rattle.board_rules.specs.Questions.{Question, question}
use Rattle.board_rules.specs.Rounds.{all_arrived, arrivals_of, is_differing_creation, is_differing_fence}
use Rattle.board_rules.specs.Rounds.{round_arrivals, rounds_begun}
use Rattle.kept_rows.specs.KeptRowLaws.{kept_acts, kept_rows}
use Rattle.kept_rows.proofs.KeptActs.{acts_kept, arrivals_kept, held_kept, ranges_kept, synchronisations_kept}
use Rattle.kept_rows.proofs.KeptActs.{window_kept}

-- the question after kept entries
abbrev pub after_kept : Question → Question
after_kept q = record q { entries = kept_acts q.entries }

pub question_kept : (ranks : ℕ) (rows : List Row) (row : Row) →
    question ranks (kept_rows rows) row ≡ after_kept (question ranks rows row)
question_kept ranks rows row = rw (acts_kept rows, window_kept rows row) refl

-- ---- lists of ranks

flat_same : {X : Type 0} (f g : ℕ → List X) → ((k : ℕ) → f k ≡ g k) → (ks : List ℕ) → flat_map f ks ≡ flat_map g ks
flat_same f g same [] = refl
flat_same f g same (k ∷ ks) = rw (same k, flat_same f g same ks) refl

-- ---- what a rank has done

pub made_kept : (q : Question) (rank : ℕ) → made_by (after_kept q) rank ≡ made_by q rank
made_kept q rank = synchronisations_kept q.entries rank q.window

pub posts_kept : (q : Question) (rank : ℕ) → posts (after_kept q) rank ≡ posts q rank
posts_kept q rank = ap (flat_map group_of_post) (made_kept q rank)

pub starts_kept : (q : Question) (rank : ℕ) → starts (after_kept q) rank ≡ starts q rank
starts_kept q rank = ap (flat_map group_of_start) (made_kept q rank)

pub completes_kept : (q : Question) (rank : ℕ) → completes (after_kept q) rank ≡ completes q rank
completes_kept q rank = ap (count_by is_complete) (made_kept q rank)

pub completed_kept : (q : Question) (rank : ℕ) → completed_groups (after_kept q) rank ≡ completed_groups q rank
completed_kept q rank = ap (λ made. take (count_by is_complete made) (flat_map group_of_start made)) (made_kept q rank)

pub last_kept : (q : Question) → last_posted (after_kept q) ≡ last_posted q
last_kept q = ap (λ groups. slice_index_or (reverse groups) 0 []) (posts_kept q q.rank)

pub posted_kept : (q : Question) (rank : ℕ) → is_posted (after_kept q) rank ≡ is_posted q rank
posted_kept q rank = ap (λ made. nat_lt (count_by is_wait made) (length (flat_map group_of_post made)))
    (made_kept q rank)

pub arrived_kept : (q : Question) (rank : ℕ) → arrivals_of (after_kept q) rank ≡ arrivals_of q rank
arrived_kept q rank = at (collective_of q.call)
  where
    at : (o : _) → option_map_or (λ collective. arrivals (kept_acts q.entries) collective rank q.window) o []
        ≡ option_map_or (λ collective. arrivals q.entries collective rank q.window) o []
    at None = refl
    at (Some collective) = arrivals_kept q.entries collective rank q.window

pub begun_kept : (q : Question) → rounds_begun (after_kept q) ≡ rounds_begun q
begun_kept q = ap length (arrived_kept q q.rank)

pub here_kept : (q : Question) → held_here (after_kept q) ≡ held_here q
here_kept q = ap (filter (λ (one : Held). one.window == q.window)) (held_kept q.ranks q.entries)

-- ---- refusals

round_kept : (q : Question) → round_arrivals (after_kept q) ≡ round_arrivals q
round_kept q = flat_same
    (λ rank. option_map_or (λ call. call ∷ [])
    (slice_get (arrivals_of (after_kept q) rank) (rounds_begun (after_kept q))) [])
    (λ rank. option_map_or (λ call. call ∷ []) (slice_get (arrivals_of q rank) (rounds_begun q)) [])
    (λ rank. ap (λ calls. option_map_or (λ call. call ∷ []) (slice_get calls (rounds_begun (after_kept q))) [])
    (arrived_kept q rank)
    ∙ ap (λ n. option_map_or (λ call. call ∷ []) (slice_get (arrivals_of q rank) n) []) (begun_kept q))
    (numbers_from 0 q.ranks)

arrived_all_kept : (q : Question) → all_arrived (after_kept q) ≡ all_arrived q
arrived_all_kept q = all_alike
    (λ rank. nat_le (rounds_begun (after_kept q)) (length (arrivals_of (after_kept q) rank)))
    (λ rank. nat_le (rounds_begun q) (length (arrivals_of q rank)))
    (λ rank. ap (λ n. nat_le n (length (arrivals_of (after_kept q) rank))) (begun_kept q)
    ∙ ap (λ calls. nat_le (rounds_begun q) (length calls)) (arrived_kept q rank))
    (numbers_from 0 q.ranks)

meets_kept : (q : Question) (target : Option ℤ) → meets_post (after_kept q) target ≡ meets_post q target
meets_kept q None = any_alike (is_posted (after_kept q)) (is_posted q) (posted_kept q) (numbers_from 0 q.ranks)
meets_kept q (Some target) = posted_kept q (natural target)

locked_kept : (q : Question) (rank : ℕ) → is_locked (after_kept q) rank ≡ is_locked q rank
locked_kept q rank = ap (list_any (λ (one : Held). one.target == rank)) (here_kept q)

free_kept : (q : Question) (asked : List Held) → are_free (after_kept q) asked ≡ are_free q asked
free_kept q asked = ap (λ held. not (list_any (λ one. list_any (do_clash one) held) asked)) (here_kept q)

reach_kept : (q : Question) (t : Transfer) → reaches_unattached (after_kept q) t ≡ reaches_unattached q t
reach_kept q t = ap (λ ranges. not (covers ranges (natural t.disp) (bytes_of t)))
    (ranges_kept q.entries (rank_reached q.rank t.target) q.window)

has_posts_kept : (q : Question) (group : List ℕ) → start_has_posts (after_kept q) group ≡ start_has_posts q group
has_posts_kept q group = all_alike
    (λ member. nat_lt (naming member (starts (after_kept q) q.rank)) (naming q.rank (posts (after_kept q) member)))
    (λ member. nat_lt (naming member (starts q q.rank)) (naming q.rank (posts q member)))
    (λ member. ap (λ groups. nat_lt (naming member groups) (naming q.rank (posts (after_kept q) member)))
    (starts_kept q q.rank)
    ∙ ap (λ groups. nat_lt (naming member (starts q q.rank)) (naming q.rank groups)) (posts_kept q member)) group

has_completes_kept : (q : Question) → wait_has_completes (after_kept q) ≡ wait_has_completes q
has_completes_kept q =
    ap (list_all (λ member. naming q.rank (completed_groups (after_kept q) member) == naming member
    (posts (after_kept q) q.rank))) (last_kept q)
    ∙ all_alike
    (λ member. naming q.rank (completed_groups (after_kept q) member) == naming member (posts (after_kept q) q.rank))
    (λ member. naming q.rank (completed_groups q member) == naming member (posts q q.rank))
    (λ member. ap (λ groups. naming q.rank groups == naming member (posts (after_kept q) q.rank))
    (completed_kept q member)
    ∙ ap (λ groups. naming q.rank (completed_groups q member) == naming member groups) (posts_kept q q.rank))
    (last_posted q)

fence_kept : (q : Question) (s : Synchronisation) → fence_refusal (after_kept q) s ≡ fence_refusal q s
fence_kept q (Fences asserts) = ap (λ calls. refuse_if (list_any (is_differing_fence asserts) calls) AssertClass)
    (round_kept q)
fence_kept q s = refl

arrive_kept : (q : Question) (action : Action) → arrive_refusal (after_kept q) action ≡ arrive_refusal q action
arrive_kept q (Creates creation) =
    ap (λ calls. refuse_if (list_any (is_differing_creation creation.flavor) calls) FlavorClass) (round_kept q)
arrive_kept q (Synchronises win s) = fence_kept q s
arrive_kept q action = refl

synchronises_kept : (q : Question) (s : Synchronisation) →
    synchronisation_refusal (after_kept q) s ≡ synchronisation_refusal q s
synchronises_kept q (Posts group asserts) = ap (λ b. refuse_if b SyncClass) (locked_kept q q.rank)
synchronises_kept q (Locks kind target asserts) = ap (λ b. refuse_if b SyncClass) (meets_kept q target)
synchronises_kept q s = refl

one_kept : (q : Question) (action : Action) → one_refusal (after_kept q) action ≡ one_refusal q action
one_kept q (Synchronises win s) = synchronises_kept q s
one_kept q (Moves t) = ap (λ b. refuse_if b RangeClass) (reach_kept q t)
one_kept q action = refl

refusal_kept : (q : Question) (step : Step) → refusal (after_kept q) step ≡ refusal q step
refusal_kept q Arrive = arrive_kept q (action_of q.call)
refusal_kept q Leave = refl
refusal_kept q One = one_kept q (action_of q.call)

-- ---- what must have come before

may_synchronise_kept : (q : Question) (s : Synchronisation) →
    may_synchronise_now (after_kept q) s ≡ may_synchronise_now q s
may_synchronise_kept q (Starts group asserts) = has_posts_kept q (members_of group)
may_synchronise_kept q (Waits tests) = has_completes_kept q
may_synchronise_kept q (Locks kind target asserts) = free_kept q (locks_asked q kind target)
may_synchronise_kept q s = refl

may_enter_kept : (q : Question) (action : Action) → may_enter_now (after_kept q) action ≡ may_enter_now q action
may_enter_kept q (Synchronises win s) = may_synchronise_kept q s
may_enter_kept q action = refl

allowed_kept : (q : Question) (step : Step) → is_allowed_now (after_kept q) step ≡ is_allowed_now q step
allowed_kept q Arrive = refl
allowed_kept q Leave = arrived_all_kept q
allowed_kept q One = may_enter_kept q (action_of q.call)

decision_kept : (q : Question) (step : Step) → decision (after_kept q) step ≡ decision q step
decision_kept q step =
    ap (λ class. decision_by class (is_allowed_now (after_kept q) step)) (refusal_kept q step)
    ∙ ap (decision_by (refusal q step)) (allowed_kept q step)

pub decide_kept : (ranks : ℕ) (rows : List Row) (row : Row) → decide ranks (kept_rows rows) row ≡ decide ranks rows row
decide_kept ranks rows row = ap (λ q. decision q row.step) (question_kept ranks rows row)
    ∙ decision_kept (question ranks rows row) row.step
