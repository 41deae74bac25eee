-- What a rank has done on a window, with one entry of a kind more.
use Rattle.std.proofs.Common.{◌≡◌, ℕ, ◌+◌, ◌<◌, ◌≤◌, Bool, true, false, not, ◌&&◌, ◌||◌, eqb, ltb, List, [], ◌∷◌, ◌++◌}
use Rattle.std.proofs.Common.{refl, ap, sym, ◌∙◌, append-nil, arith, ℤ, pos, negsuc, ⊎_elim}
use Rattle.std.specs.List.{list_all}
use Rattle.std.proofs.lemmas.Bool.{eqb-true, ltb-true, or_cases, true≢false}
use Rattle.rma_types.specs.declared.accesses.Step.{Step}
use Rattle.rma_types.specs.declared.accesses.Step.TheVariants.{Arrive}
use Rattle.rma_types.specs.declared.calls.Asserts.{Asserts}
use Rattle.rma_types.specs.declared.actions.Creation.{Creation}
use Rattle.rma_types.specs.declared.actions.Action.TheVariants.{Creates, Frees, Synchronises}
use Rattle.rma_types.specs.declared.actions.Synchronisation.TheVariants.{Fences, Posts, Starts, Completes, Waits}
use Rattle.rma_types.specs.Actions.{action_of}
use Rattle.call_rules.specs.Ranks.{is_member, is_rank, members_of, names_twice}
use Rattle.rank_rules.specs.EpochTests.{is_wrong_group}
use Rattle.board_rules.specs.Questions.{Question}
use Rattle.rma_types.specs.KeptCalls.{kept_call}
use Rattle.sync_board.specs.Rounds.{with_creation, with_fence, with_free}
use Rattle.sync_board.specs.Sides.{AreRanks, Done, done, own, with_post, with_start, with_complete, with_wait}
use Rattle.sync_board.specs.Windows.{done_on, entered, entries_after}
use Rattle.sync_board.proofs.Entered.{post_entered, start_entered, complete_entered, wait_entered}
use Rattle.sync_board.proofs.WindowSteps.{done_entered, kept_action, own_entered}

pub post_at : (q : Question) (number : ℕ) (step : Step) (rank win : ℕ) (group : List ℤ) (asserts : Asserts) →
    q.rank ≡ rank → action_of q.call ≡ Synchronises win (Posts group asserts) →
    done_on (entries_after q number step) q.window rank ≡ with_post (done_on q.entries q.window rank) (members_of group)
post_at q number step rank win group asserts asker is =
    ap done (own_entered q number step rank asker)
    ∙ post_entered (own q.entries rank q.window) (entered q number step) win group asserts
    (kept_action q.call (Synchronises win (Posts group asserts)) is refl)

pub start_at : (q : Question) (number : ℕ) (step : Step) (rank win : ℕ) (group : List ℤ) (asserts : Asserts) →
    q.rank ≡ rank → action_of q.call ≡ Synchronises win (Starts group asserts) →
    done_on (entries_after q number step) q.window rank ≡ with_start (done_on q.entries q.window rank)
    (members_of group)
start_at q number step rank win group asserts asker is =
    ap done (own_entered q number step rank asker)
    ∙ start_entered (own q.entries rank q.window) (entered q number step) win group asserts
    (kept_action q.call (Synchronises win (Starts group asserts)) is refl)

pub complete_at : (q : Question) (number : ℕ) (step : Step) (rank win : ℕ) → q.rank ≡ rank →
    action_of q.call ≡ Synchronises win Completes →
    done_on (entries_after q number step) q.window rank ≡ with_complete (done_on q.entries q.window rank)
complete_at q number step rank win asker is =
    ap done (own_entered q number step rank asker)
    ∙ complete_entered (own q.entries rank q.window) (entered q number step) win
    (kept_action q.call (Synchronises win Completes) is refl)

pub wait_at : (q : Question) (number : ℕ) (step : Step) (rank win : ℕ) (tests : Bool) → q.rank ≡ rank →
    action_of q.call ≡ Synchronises win (Waits tests) →
    done_on (entries_after q number step) q.window rank ≡ with_wait (done_on q.entries q.window rank)
wait_at q number step rank win tests asker is =
    ap done (own_entered q number step rank asker)
    ∙ wait_entered (own q.entries rank q.window) (entered q number step) win tests
    (kept_action q.call (Synchronises win (Waits tests)) is refl)

-- what a fence, a free and a creation leave
plain : (d : Done) → record {
  posts = d.posts ++ [];
  starts = d.starts ++ [];
  completes = d.completes + 0;
  waits =
      d.waits + 0;
  creations = d.creations ++ [];
  frees = d.frees ++ [];
  fences = d.fences ++ [];
  ranges = d.ranges;
} ≡ d
plain d =
    let a : d.completes + 0 ≡ d.completes = omega arith in
    let b : d.waits + 0 ≡ d.waits = omega arith in
    rw (append-nil d.posts, append-nil d.starts, a, b, append-nil d.creations, append-nil d.frees, append-nil d.fences)
    refl

pub fence_at : (q : Question) (number rank win : ℕ) (asserts : Asserts) → q.rank ≡ rank →
    action_of q.call ≡ Synchronises win (Fences asserts) →
    done_on (entries_after q number Arrive) q.window rank ≡ with_fence (done_on q.entries q.window rank)
    (kept_call q.call)
fence_at q number rank win asserts asker is =
    done_entered q number Arrive rank (Synchronises win (Fences asserts)) asker is refl
    ∙ ap (λ (d : Done). record d { fences = (done_on q.entries q.window rank).fences ++ kept_call q.call ∷ [] })
    (plain (done_on q.entries q.window rank))

pub free_at : (q : Question) (number rank win : ℕ) → q.rank ≡ rank → action_of q.call ≡ Frees win →
    done_on (entries_after q number Arrive) q.window rank ≡ with_free (done_on q.entries q.window rank)
    (kept_call q.call)
free_at q number rank win asker is =
    done_entered q number Arrive rank (Frees win) asker is refl
    ∙ ap (λ (d : Done). record d { frees = (done_on q.entries q.window rank).frees ++ kept_call q.call ∷ [] })
    (plain (done_on q.entries q.window rank))

pub create_at : (q : Question) (number rank : ℕ) (creation : Creation) → q.rank ≡ rank →
    action_of q.call ≡ Creates creation →
    done_on (entries_after q number Arrive) q.window rank ≡ with_creation (done_on q.entries q.window rank)
    (kept_call q.call)
create_at q number rank creation asker is =
    done_entered q number Arrive rank (Creates creation) asker is refl
    ∙ ap (λ (d : Done). record d { creations = (done_on q.entries q.window rank).creations ++ kept_call q.call ∷ [] })
    (plain (done_on q.entries q.window rank))

-- a group that passed the rank's own tests names ranks
members_below : (ranks : ℕ) (group : List ℤ) (rank : ℕ) → list_all (is_rank ranks) group ≡ true →
    is_member rank (members_of group) ≡ true → rank < ranks
members_below ranks [] rank all member = absurd (true≢false (sym member))
members_below ranks (pos n ∷ group) rank all member = ⊎_elim
    (λ same. let e : n ≡ rank = eqb-true n rank same in let less : n < ranks = ltb-true n ranks
    (first (ltb n ranks) (list_all (is_rank ranks) group) all) in omega arith)
    (λ later. members_below ranks group rank (second (ltb n ranks) (list_all (is_rank ranks) group) all) later)
    (or_cases (eqb n rank) (is_member rank (members_of group)) member)
  where
    first : (a b : Bool) → (a && b) ≡ true → a ≡ true
    first true b e = refl
    first false b e = e

    second : (a b : Bool) → (a && b) ≡ true → b ≡ true
    second true b e = e
    second false b e = absurd (true≢false (sym e))
members_below ranks (negsuc n ∷ group) rank all member = absurd (true≢false (sym all))

pub group_below : (ranks : ℕ) (group : List ℤ) → ranks ≤ 16 → is_wrong_group ranks group ≡ false →
    AreRanks (members_of group)
group_below ranks group few right rank member =
    let below : rank < ranks = members_below ranks group rank
    (told (list_all (is_rank ranks) group) (names_twice group) right) member in
    omega arith
  where
    told : (a b : Bool) → (not a || b) ≡ false → a ≡ true
    told true b e = refl
    told false b e = absurd (true≢false e)
