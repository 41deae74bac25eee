-- The parts of what a rank has done that an entry leaves as they are.
use Rattle.std.proofs.Common.{◌≡◌, ℕ, ◌+◌, Bool, true, false, ◌&&◌, List, [], ◌++◌, reverse, get_or, refl, sym, ◌∙◌}
use Rattle.std.proofs.Common.{subst, append-nil, arith, Option, Some, None, ⊎_elim}
use Rattle.std.specs.Prelude.{slice_get}
use Rattle.std.specs.Option.{MatchOption}
use Rattle.std.proofs.lemmas.Bool.{cases_eq, true≢false}
use Rattle.rma_types.specs.declared.accesses.Step.{Step}
use Rattle.rma_types.specs.declared.accesses.Step.TheVariants.{Arrive, Leave, One}
use Rattle.rma_types.specs.declared.calls.Call.{Call}
use Rattle.rma_types.specs.declared.actions.Action.{Action}
use Rattle.rma_types.specs.declared.actions.Action.TheVariants.{Creates, Frees, Attaches, Detaches, Synchronises, Meets}
use Rattle.rma_types.specs.declared.actions.Action.TheVariants.{Moves, EndsRequest}
use Rattle.rma_types.specs.declared.actions.Synchronisation.{Synchronisation}
use Rattle.rma_types.specs.declared.actions.Synchronisation.TheVariants.{Fences, Posts, Starts, Completes, Waits, Locks}
use Rattle.rma_types.specs.declared.actions.Synchronisation.TheVariants.{Unlocks, Flushes, Syncs}
use Rattle.board_rules.specs.Entries.{is_arrive}
use Rattle.sync_board.specs.Rounds.{HasRounds}
use Rattle.sync_board.specs.Sides.{AreRanks, Done, Keeps}
use Rattle.sync_board.specs.Tables.{HasNoRounds, HasNoSide, IsSameFor, KeepsRounds, KeepsSides}
use Rattle.sync_board.specs.Windows.{PostsToRanks}
use Rattle.sync_board.specs.declared.rounds.Rounds.{Rounds}
use Rattle.sync_board.specs.declared.sides.Side.{Side}
use Rattle.sync_board.proofs.OneMore.{with_entry}

-- the same posts, starts, completes and waits
pub record SameSides (before after : Done) : Type 0 where
  pub posts : after.posts ≡ before.posts
  pub starts : after.starts ≡ before.starts
  pub completes : after.completes ≡ before.completes
  pub waits : after.waits ≡ before.waits

-- the same arrivals
pub record SameRounds (before after : Done) : Type 0 where
  pub creations : after.creations ≡ before.creations
  pub frees : after.frees ≡ before.frees
  pub fences : after.fences ≡ before.fences

-- a post, a start, a complete or a wait
abbrev pub has_side_in : Synchronisation → Bool
has_side_in (Fences asserts) = false
has_side_in (Posts group asserts) = true
has_side_in (Starts group asserts) = true
has_side_in Completes = true
has_side_in (Waits tests) = true
has_side_in (Locks kind target asserts) = false
has_side_in (Unlocks target) = false
has_side_in (Flushes target local) = false
has_side_in Syncs = false

abbrev pub has_side : Action → Bool
has_side (Creates creation) = false
has_side (Frees win) = false
has_side (Attaches win base bytes) = false
has_side (Detaches win base) = false
has_side (Synchronises win s) = has_side_in s
has_side Meets = false
has_side (Moves transfer) = false
has_side (EndsRequest req) = false

-- a creation, a free or a fence
abbrev pub has_round_in : Synchronisation → Bool
has_round_in (Fences asserts) = true
has_round_in (Posts group asserts) = false
has_round_in (Starts group asserts) = false
has_round_in Completes = false
has_round_in (Waits tests) = false
has_round_in (Locks kind target asserts) = false
has_round_in (Unlocks target) = false
has_round_in (Flushes target local) = false
has_round_in Syncs = false

abbrev pub has_round : Action → Bool
has_round (Creates creation) = true
has_round (Frees win) = true
has_round (Attaches win base bytes) = false
has_round (Detaches win base) = false
has_round (Synchronises win s) = has_round_in s
has_round Meets = false
has_round (Moves transfer) = false
has_round (EndsRequest req) = false

plain_sides : (posts starts : List (List ℕ)) (completes waits : ℕ) →
    (posts ++ [] ≡ posts) × (starts ++ [] ≡ starts) × (completes + 0 ≡ completes) × (waits + 0 ≡ waits)
plain_sides posts starts completes waits = (append-nil posts, append-nil starts, omega arith, omega arith)

pub sides_unless : (d : Done) (step : Step) (call : Call) (action : Action) → has_side action ≡ false →
    SameSides d (with_entry d step call action)
sides_unless d step call action none = by_action action none
  where
    plain : (p : (d.posts ++ [] ≡ d.posts) × (d.starts ++ [] ≡ d.starts) × (d.completes + 0 ≡ d.completes)
        × (d.waits + 0 ≡ d.waits)) (x : Done) →
        x.posts ≡ d.posts ++ [] → x.starts ≡ d.starts ++ [] → x.completes ≡ d.completes + 0 → x.waits ≡ d.waits + 0 →
        SameSides d x
    plain p x a b c e = record { posts = a ∙ p.0; starts = b ∙ p.1; completes = c ∙ p.2; waits = e ∙ p.3 }

    same : (action : Action) → (with_entry d step call action).posts ≡ d.posts ++ [] →
        (with_entry d step call action).starts ≡ d.starts ++ [] →
        (with_entry d step call action).completes ≡ d.completes + 0 → (with_entry d step call action).waits ≡ d.waits +
        0 → SameSides d (with_entry d step call action)
    same action a b c e = plain (plain_sides d.posts d.starts d.completes d.waits) (with_entry d step call action) a b c
        e

    by_call : (win : ℕ) (s : Synchronisation) → has_side_in s ≡ false →
        SameSides d (with_entry d step call (Synchronises win s))
    by_call win (Posts group asserts) e = absurd (true≢false e)
    by_call win (Starts group asserts) e = absurd (true≢false e)
    by_call win Completes e = absurd (true≢false e)
    by_call win (Waits tests) e = absurd (true≢false e)
    by_call win s e = same (Synchronises win s) refl refl refl refl

    by_action : (action : Action) → has_side action ≡ false → SameSides d (with_entry d step call action)
    by_action (Synchronises win s) e = by_call win s e
    by_action action e = same action refl refl refl refl

plain_rounds : (a b c : List Call) → (a ++ [] ≡ a) × (b ++ [] ≡ b) × (c ++ [] ≡ c)
plain_rounds a b c = (append-nil a, append-nil b, append-nil c)

pub rounds_unless : (d : Done) (step : Step) (call : Call) (action : Action) →
    (is_arrive step && has_round action) ≡ false → SameRounds d (with_entry d step call action)
rounds_unless d step call action none = by_step step action none
  where
    same : (step : Step) (action : Action) → (with_entry d step call action).creations ≡ d.creations ++ [] →
        (with_entry d step call action).frees ≡ d.frees ++ [] →
        (with_entry d step call action).fences ≡ d.fences ++ [] → SameRounds d (with_entry d step call action)
    same step action a b c =
        let p : (d.creations ++ [] ≡ d.creations) × (d.frees ++ [] ≡ d.frees)
        × (d.fences ++ [] ≡ d.fences) = plain_rounds d.creations d.frees d.fences in
        record { creations = a ∙ p.0; frees = b ∙ p.1; fences = c ∙ p.2 }

    by_call : (win : ℕ) (s : Synchronisation) → has_round_in s ≡ false →
        SameRounds d (with_entry d Arrive call (Synchronises win s))
    by_call win (Fences asserts) e = absurd (true≢false e)
    by_call win s e = same Arrive (Synchronises win s) refl refl refl

    by_action : (action : Action) → has_round action ≡ false → SameRounds d (with_entry d Arrive call action)
    by_action (Creates creation) e = absurd (true≢false e)
    by_action (Frees win) e = absurd (true≢false e)
    by_action (Synchronises win s) e = by_call win s e
    by_action action e = same Arrive action refl refl refl

    by_step : (step : Step) (action : Action) → (is_arrive step && has_round action) ≡ false →
        SameRounds d (with_entry d step call action)
    by_step Arrive action e = by_action action e
    by_step Leave action e = same Leave action refl refl refl
    by_step One action e = same One action refl refl refl

-- ---- what is kept stays right

at_weaker : {X : Type 0} (o : Option X) {P P' : Type 0} {Q Q' : X → Type 0} → (P → P') → ((x : X) → Q x → Q' x) →
    MatchOption o P Q → MatchOption o P' Q'
at_weaker None absent kind found = absent found
at_weaker (Some x) absent kind found = kind x found

keeps_side : (d e : Done) (side : Side) → SameSides d e → Keeps d side → Keeps e side
keeps_side d e side same kept = record {
  posts = rw same.posts kept.posts;
  waits = rw same.waits kept.waits;
  completes = rw same.completes kept.completes;
  posted_to = rw same.posts kept.posted_to;
  started_to = rw same.starts kept.started_to;
  completed_to = rw (same.completes, same.starts) kept.completed_to;
  last_post = rw same.posts kept.last_post;
  starts = rw same.starts kept.starts;
}

no_side : (d e : Done) → SameSides d e → HasNoSide d → HasNoSide e
no_side d e same none = record {
  posts = same.posts ∙ none.posts;
  starts = same.starts ∙ none.starts;
  completes = same.completes ∙ none.completes;
  waits = same.waits ∙ none.waits;
}

keeps_round : (d e : Done) (rounds : Rounds) → SameRounds d e → HasRounds d rounds → HasRounds e rounds
keeps_round d e rounds same kept = record {
  created = rw same.creations kept.created;
  freed = rw same.frees kept.freed;
  fences = rw same.fences kept.fences;
}

no_round : (d e : Done) → SameRounds d e → HasNoRounds d → HasNoRounds e
no_round d e same none = record {
  creations = same.creations ∙ none.creations;
  frees = same.frees ∙ none.frees;
  fences = same.fences ∙ none.fences;
}

pub sides_each : (before after : ℕ → Done) (sides : List Side) → ((rank : ℕ) → SameSides (before rank) (after rank)) →
    KeepsSides before sides → KeepsSides after sides
sides_each before after sides same kept rank =
    at_weaker (slice_get sides rank) (no_side (before rank) (after rank) (same rank))
    (λ side. keeps_side (before rank) (after rank) side (same rank)) (kept rank)

pub rounds_each : (before after : ℕ → Done) (rounds : List Rounds) →
    ((rank : ℕ) → SameRounds (before rank) (after rank)) → KeepsRounds before rounds → KeepsRounds after rounds
rounds_each before after rounds same kept rank =
    at_weaker (slice_get rounds rank) (no_round (before rank) (after rank) (same rank))
    (λ one. keeps_round (before rank) (after rank) one (same rank)) (kept rank)

pub members_each : (before after : ℕ → Done) → ((rank : ℕ) → (after rank).posts ≡ (before rank).posts) →
    PostsToRanks before → PostsToRanks after
members_each before after same kept rank = rw (same rank) (kept rank)

-- ---- with an entry of one rank

each_rank : (P : Done → Done → Type 0) → ((d : Done) → P d d) → (rank : ℕ) (before after : ℕ → Done) (new : Done) →
    IsSameFor rank before after → after rank ≡ new →
    P (before rank) new → (other : ℕ) → P (before other) (after other)
each_rank P reflexive rank before after new same is here other = ⊎_elim
    (λ e. let at : P (before rank) (after rank) = subst (λ d. P (before rank) d) (sym is) here in subst
    (λ k. P (before k) (after k)) (sym e) at)
    (λ apart. subst (λ d. P (before other) d) (sym (same other apart)) (reflexive (before other)))
    (cases_eq other rank)

pub sides_by : (rank : ℕ) (before after : ℕ → Done) (new : Done) (sides : List Side) → IsSameFor rank before after →
    after rank ≡ new →
    SameSides (before rank) new → KeepsSides before sides → KeepsSides after sides
sides_by rank before after new sides same is here =
    sides_each before after sides (each_rank SameSides
    (λ d. record { posts = refl; starts = refl; completes = refl; waits = refl }) rank before after new same is
    here)

pub rounds_by : (rank : ℕ) (before after : ℕ → Done) (new : Done) (rounds : List Rounds) → IsSameFor rank before after →
    after rank ≡ new →
    SameRounds (before rank) new → KeepsRounds before rounds → KeepsRounds after rounds
rounds_by rank before after new rounds same is here =
    rounds_each before after rounds
    (each_rank SameRounds (λ d. record { creations = refl; frees = refl; fences = refl }) rank before after new same
    is here)

pub members_by : (rank : ℕ) (before after : ℕ → Done) (new : Done) → IsSameFor rank before after → after rank ≡ new →
    new.posts ≡ (before rank).posts → PostsToRanks before → PostsToRanks after
members_by rank before after new same is here =
    members_each before after (each_rank (λ d e. e.posts ≡ d.posts) (λ d. refl) rank before after new same is here)

-- the last post is the one that came
pub members_posted : (rank : ℕ) (before after : ℕ → Done) (new : Done) (members : List ℕ) →
    IsSameFor rank before after → after rank ≡ new →
    get_or (reverse new.posts) 0 [] ≡ members → AreRanks members → PostsToRanks before → PostsToRanks after
members_posted rank before after new members same is last ranks kept other = ⊎_elim
    (λ e. let at : AreRanks (get_or (reverse (after rank).posts) 0 []) = rw (is, last) ranks in subst
    (λ k. AreRanks (get_or (reverse (after k).posts) 0 [])) (sym e) at)
    (λ apart. rw (same other apart) (kept other))
    (cases_eq other rank)
