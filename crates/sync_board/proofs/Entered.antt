-- What an entry of each kind adds to what its rank has done on its window.
use Rattle.std.proofs.Common.{◌≡◌, ℕ, ◌+◌, Bool, List, [], ◌∷◌, ◌++◌, refl, ap, ◌∙◌, append-nil}
use Rattle.std.proofs.Common.{arith, ℤ}
use Rattle.list_laws.proofs.Truths.{and_false}
use Rattle.rma_types.specs.declared.calls.Asserts.{Asserts}
use Rattle.rma_types.specs.declared.actions.Action.{Action}
use Rattle.rma_types.specs.declared.actions.Action.TheVariants.{Synchronises}
use Rattle.rma_types.specs.declared.actions.Synchronisation.TheVariants.{Posts, Starts, Completes, Waits}
use Rattle.rma_types.specs.Actions.{action_of}
use Rattle.call_rules.specs.Ranks.{members_of}
use Rattle.board_rules.specs.Entries.{Act, is_arrive}
use Rattle.sync_board.specs.Sides.{Done, done, with_post, with_start, with_complete, with_wait}
use Rattle.sync_board.proofs.OneMore.{done_more, with_entry}

step_by : (entries : List Act) (act : Act) (action : Action) → action_of act.row.call ≡ action →
    done (entries ++ act ∷ []) ≡ with_entry (done entries) act.row.step act.row.call action
step_by entries act action e = done_more entries act ∙ ap (λ a. with_entry (done entries) act.row.step act.row.call a) e

pub post_entered : (entries : List Act) (act : Act) (win : ℕ) (group : List ℤ) (asserts : Asserts) →
    action_of act.row.call ≡ Synchronises win (Posts group asserts) →
    done (entries ++ act ∷ []) ≡ with_post (done entries) (members_of group)
post_entered entries act win group asserts e = step_by entries act (Synchronises win (Posts group asserts)) e
    ∙ simp (and_false (is_arrive act.row.step), append-nil) (plain (done entries))
  where
    plain : (d : Done) → record {
      posts = d.posts ++ members_of group ∷ [];
      starts = d.starts;
      completes = d.completes +
          0;
      waits = d.waits + 0;
      creations = d.creations;
      frees = d.frees;
      fences = d.fences;
      ranges = d.ranges;
    } ≡
        with_post d (members_of group)
    plain d = let a : d.completes + 0 ≡ d.completes = omega arith in let b : d.waits + 0 ≡ d.waits = omega arith in rw
        (a, b) refl

pub start_entered : (entries : List Act) (act : Act) (win : ℕ) (group : List ℤ) (asserts : Asserts) →
    action_of act.row.call ≡ Synchronises win (Starts group asserts) →
    done (entries ++ act ∷ []) ≡ with_start (done entries) (members_of group)
start_entered entries act win group asserts e = step_by entries act (Synchronises win (Starts group asserts)) e
    ∙ simp (and_false (is_arrive act.row.step), append-nil) (plain (done entries))
  where
    plain : (d : Done) → record {
      posts = d.posts;
      starts = d.starts ++ members_of group
          ∷ [];
      completes = d.completes + 0;
      waits = d.waits + 0;
      creations = d.creations;
      frees = d.frees;
      fences =
          d.fences;
      ranges = d.ranges;
    } ≡ with_start d (members_of group)
    plain d = let a : d.completes + 0 ≡ d.completes = omega arith in let b : d.waits + 0 ≡ d.waits = omega arith in rw
        (a, b) refl

pub complete_entered : (entries : List Act) (act : Act) (win : ℕ) → action_of act.row.call ≡ Synchronises win Completes
    →
    done (entries ++ act ∷ []) ≡ with_complete (done entries)
complete_entered entries act win e = step_by entries act (Synchronises win Completes) e
    ∙ simp (and_false (is_arrive act.row.step), append-nil) (plain (done entries))
  where
    plain : (d : Done) → record {
      posts = d.posts;
      starts = d.starts;
      completes = d.completes + 1;
      waits = d.waits + 0;
      creations = d.creations;
      frees = d.frees;
      fences = d.fences;
      ranges = d.ranges;
    } ≡ with_complete d
    plain d = let b : d.waits + 0 ≡ d.waits = omega arith in rw b refl

pub wait_entered : (entries : List Act) (act : Act) (win : ℕ) (tests : Bool) → action_of act.row.call ≡ Synchronises win
    (Waits tests) →
    done (entries ++ act ∷ []) ≡ with_wait (done entries)
wait_entered entries act win tests e = step_by entries act (Synchronises win (Waits tests)) e
    ∙ simp (and_false (is_arrive act.row.step), append-nil) (plain (done entries))
  where
    plain : (d : Done) → record {
      posts = d.posts;
      starts = d.starts;
      completes = d.completes + 0;
      waits = d.waits + 1;
      creations = d.creations;
      frees = d.frees;
      fences = d.fences;
      ranges = d.ranges;
    } ≡ with_wait d
    plain d = let b : d.completes + 0 ≡ d.completes = omega arith in rw b refl
