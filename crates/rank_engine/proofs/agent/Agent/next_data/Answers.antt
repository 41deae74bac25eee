-- A step on memory is the definition's move, and a delivery after it.
use Rattle.std.proofs.Common.{◌≡◌, ◌≤◌, ℕ, true, false, Option, Some, None, refl, sym, ◌∙◌, ap, subst}
use Rattle.std.specs.Prelude.{IfSome, MatchBool}
use Rattle.cell_face.specs.Faces.{Rose}
use Rattle.rank_engine.proofs.Begun.{over_closed}
use Rattle.rank_engine.proofs.Progress.{gets_on_alone, gets_on_delivered}
use Rattle.rank_engine.proofs.KeptLogs.{keeps_on_err, keeps_same, keeps_then_same}
use Rattle.rank_engine.proofs.RefusedMoves.{delivery_alone, delivery_untouched, move_alone, move_keeps}
use Rattle.rank_engine.proofs.StepsMade.{room_after, steps_alone, steps_delivered}
use Rattle.rank_engine.proofs.WholeSteps.{whole_step_alone, whole_step_delivered}
use Rattle.rank_engine.proofs.agent.Agent.next_data.Goals as goal
use Rattle.rank_engine.specs.DataAnswers.{IsDelivered}
use Rattle.rank_engine.specs.Moves.{IsMove}
use Rattle.rank_engine.specs.RankStates.{RankState, own_move}
use Rattle.rank_engine.specs.Sound.{IsSound}

pub deliver-requires-clause-room : goal.deliver-requires-clause-room
deliver-requires-clause-room g c =
    let now : RankState = c.args.self.now in
    let sound : IsSound now = subst IsSound c.self.view_is c.self.invariant.0 in
    room_after now c.go_on.new.self (g.M.Memory.face c.args.mem.now) sound
    c.in_ok-go_on.ensures.moved c.requires.room

pub end-requires-clause-closed : goal.end-requires-clause-closed
end-requires-clause-closed g c =
    over_closed c.args.self.now (subst IsSound c.self.view_is c.self.invariant.0) (sym c.if-is_over.ensures)

pub deliver-requires-clause-first : goal.deliver-requires-clause-first
deliver-requires-clause-first g c = c.in-Some.ensures.first

pub deliver-requires-clause-alone : goal.deliver-requires-clause-alone
deliver-requires-clause-alone g c =
    subst (λ (o : Option ℕ). IfSome o (λ place. place ≡ c.in-Some.at)) c.in-Some.ensures.place refl

pub returns-then-branch-clause-answer : goal.returns-then-branch-clause-answer
returns-then-branch-clause-answer g c =
    let now : RankState = c.args.self.now in
    let sound : IsSound now = subst IsSound c.self.view_is c.self.invariant.0 in
    let free = ap (λ (s : RankState). s.free) c.self.view_is in
    let known = c.free_known.ensures in
    let low = c.if-free_known-lt-STEP_ROOM.false in
    let move : IsMove now c.go_on.new.self (own_move now) = c.in_ok-go_on.ensures.moved in
    let opens : c.go_on.new.self.opened ≡ Some c.in-Some.at = sym c.in-Some.ensures.place in
    let delivered = subst (λ b. IsDelivered (Some c.in-Some.at) c.go_on.new.self c.deliver.new.self b
    (g.M.Memory.face c.args.mem.now) (g.M.Memory.face c.deliver.new.mem) (g.M.Memory.knows c.deliver.new.mem))
    c.if-branch.true c.in_ok-deliver-in-Some.ensures.delivered in (
      subst (λ n. 300 ≤ n) (known ∙ free) low,
      sym c.if-is_over.ensures,
      steps_delivered now c.go_on.new.self c.deliver.new.self c.in-Some.at true (g.M.Memory.face c.args.mem.now)
          (g.M.Memory.face c.deliver.new.mem) (g.M.Memory.knows c.deliver.new.mem) sound c.deliver.ensures.sound move
          opens delivered
          c.deliver.ensures.few c.deliver.ensures.free,
      gets_on_delivered now c.go_on.new.self c.deliver.new.self c.in-Some.at (g.M.Memory.face c.args.mem.now)
          (g.M.Memory.face c.deliver.new.mem) (g.M.Memory.knows c.deliver.new.mem) c.deliver.ensures.sound move opens
          delivered,
      subst (λ b. MatchBool b ((g.M.Memory.face c.deliver.new.mem).moves ≡ (g.M.Memory.face c.args.mem.now).moves)
          (Rose (g.M.Memory.face c.args.mem.now).moves (g.M.Memory.face c.deliver.new.mem).moves)) c.if-branch.true
          c.in_ok-deliver-in-Some.ensures.moved,
    )

pub returns-then-branch-clause-told : goal.returns-then-branch-clause-told
returns-then-branch-clause-told g c =
    let now : RankState = c.args.self.now in
    let move : IsMove now c.go_on.new.self (own_move now) = c.in_ok-go_on.ensures.moved in
    let opens : c.go_on.new.self.opened ≡ Some c.in-Some.at = sym c.in-Some.ensures.place in
    let delivered = subst (λ b. IsDelivered (Some c.in-Some.at) c.go_on.new.self c.deliver.new.self b
    (g.M.Memory.face c.args.mem.now) (g.M.Memory.face c.deliver.new.mem) (g.M.Memory.knows c.deliver.new.mem))
    c.if-branch.true c.in_ok-deliver-in-Some.ensures.delivered in
    λ _. whole_step_delivered now c.go_on.new.self c.deliver.new.self c.in-Some.at (g.M.Memory.face c.args.mem.now)
    (g.M.Memory.face c.deliver.new.mem) (g.M.Memory.knows c.deliver.new.mem) c.deliver.ensures.sound move opens delivered
    c.in_ok-deliver-in-Some.ensures.whole

pub returns-in-None-clause-answer : goal.returns-in-None-clause-answer
returns-in-None-clause-answer g c =
    let now : RankState = c.args.self.now in
    let sound : IsSound now = subst IsSound c.self.view_is c.self.invariant.0 in
    let free = ap (λ (s : RankState). s.free) c.self.view_is in
    let known = c.free_known.ensures in
    let low = c.if-free_known-lt-STEP_ROOM.false in
    let move : IsMove now c.go_on.new.self (own_move now) = c.in_ok-go_on.ensures.moved in (
      subst (λ n. 300 ≤ n) (known ∙ free) low,
      sym c.if-is_over.ensures,
      steps_alone now c.go_on.new.self (g.M.Memory.face c.args.mem.now) (g.M.Memory.knows c.args.mem.now) sound move
          (sym c.in-None.ensures.place),
      gets_on_alone now c.go_on.new.self sound c.requires.needs (sym c.if-is_over.ensures) move
          (sym c.in-None.ensures.place),
      refl,
    )

pub returns-in-None-clause-told : goal.returns-in-None-clause-told
returns-in-None-clause-told g c =
    let now : RankState = c.args.self.now in
    let move : IsMove now c.go_on.new.self (own_move now) = c.in_ok-go_on.ensures.moved in
    λ _. whole_step_alone now c.go_on.new.self (g.M.Memory.face c.args.mem.now) move (sym c.in-None.ensures.place)

pub returns-else-branch-clause-answer : goal.returns-else-branch-clause-answer
returns-else-branch-clause-answer g c =
    let now : RankState = c.args.self.now in
    let sound : IsSound now = subst IsSound c.self.view_is c.self.invariant.0 in
    let free = ap (λ (s : RankState). s.free) c.self.view_is in
    let known = c.free_known.ensures in
    let low = c.if-free_known-lt-STEP_ROOM.false in
    let move : IsMove now c.go_on.new.self (own_move now) = c.in_ok-go_on.ensures.moved in
    let opens : c.go_on.new.self.opened ≡ Some c.in-Some.at = sym c.in-Some.ensures.place in
    let delivered = subst (λ b. IsDelivered (Some c.in-Some.at) c.go_on.new.self c.deliver.new.self b
    (g.M.Memory.face c.args.mem.now) (g.M.Memory.face c.deliver.new.mem) (g.M.Memory.knows c.deliver.new.mem))
    c.if-branch.false c.in_ok-deliver-in-Some.ensures.delivered in (
      subst (λ n. 300 ≤ n) (known ∙ free) low,
      sym c.if-is_over.ensures,
      steps_delivered now c.go_on.new.self c.deliver.new.self c.in-Some.at false (g.M.Memory.face c.args.mem.now)
          (g.M.Memory.face c.deliver.new.mem) (g.M.Memory.knows c.deliver.new.mem) sound c.deliver.ensures.sound move
          opens delivered
          c.deliver.ensures.few c.deliver.ensures.free,
      subst (λ b. MatchBool b ((g.M.Memory.face c.deliver.new.mem).moves ≡ (g.M.Memory.face c.args.mem.now).moves)
          (Rose (g.M.Memory.face c.args.mem.now).moves (g.M.Memory.face c.deliver.new.mem).moves)) c.if-branch.false
          c.in_ok-deliver-in-Some.ensures.moved,
    )

pub returns-then-branch-clause-refusal : goal.returns-then-branch-clause-refusal
returns-then-branch-clause-refusal g c =
    let now : RankState = c.args.self.now in
    let move : IsMove now c.go_on.new.self (own_move now) = c.in_ok-go_on.ensures.moved in
    let opens : c.go_on.new.self.opened ≡ Some c.in-Some.at = sym c.in-Some.ensures.place in
    let delivered = subst (λ b. IsDelivered (Some c.in-Some.at) c.go_on.new.self c.deliver.new.self b
    (g.M.Memory.face c.args.mem.now) (g.M.Memory.face c.deliver.new.mem) (g.M.Memory.knows c.deliver.new.mem))
    c.if-branch.true c.in_ok-deliver-in-Some.ensures.delivered in
    delivery_alone now c.go_on.new.self c.deliver.new.self c.in-Some.at true (g.M.Memory.face c.args.mem.now)
    (g.M.Memory.face c.deliver.new.mem) (g.M.Memory.knows c.deliver.new.mem) move opens delivered

pub returns-in-None-clause-refusal : goal.returns-in-None-clause-refusal
returns-in-None-clause-refusal g c =
    let now : RankState = c.args.self.now in
    move_alone now c.go_on.new.self c.in_ok-go_on.ensures.moved

pub returns-else-branch-clause-refusal : goal.returns-else-branch-clause-refusal
returns-else-branch-clause-refusal g c =
    let now : RankState = c.args.self.now in
    let move : IsMove now c.go_on.new.self (own_move now) = c.in_ok-go_on.ensures.moved in
    let opens : c.go_on.new.self.opened ≡ Some c.in-Some.at = sym c.in-Some.ensures.place in
    let delivered = subst (λ b. IsDelivered (Some c.in-Some.at) c.go_on.new.self c.deliver.new.self b
    (g.M.Memory.face c.args.mem.now) (g.M.Memory.face c.deliver.new.mem) (g.M.Memory.knows c.deliver.new.mem))
    c.if-branch.false c.in_ok-deliver-in-Some.ensures.delivered in
    delivery_alone now c.go_on.new.self c.deliver.new.self c.in-Some.at false (g.M.Memory.face c.args.mem.now)
    (g.M.Memory.face c.deliver.new.mem) (g.M.Memory.knows c.deliver.new.mem) move opens delivered

pub returns-then-branch-clause-untouched : goal.returns-then-branch-clause-untouched
returns-then-branch-clause-untouched g c =
    let now : RankState = c.args.self.now in
    let move : IsMove now c.go_on.new.self (own_move now) = c.in_ok-go_on.ensures.moved in
    let opens : c.go_on.new.self.opened ≡ Some c.in-Some.at = sym c.in-Some.ensures.place in
    let delivered = subst (λ b. IsDelivered (Some c.in-Some.at) c.go_on.new.self c.deliver.new.self b
    (g.M.Memory.face c.args.mem.now) (g.M.Memory.face c.deliver.new.mem) (g.M.Memory.knows c.deliver.new.mem))
    c.if-branch.true c.in_ok-deliver-in-Some.ensures.delivered in
    delivery_untouched now c.go_on.new.self c.deliver.new.self c.in-Some.at true (g.M.Memory.face c.args.mem.now)
    (g.M.Memory.face c.deliver.new.mem) (g.M.Memory.knows c.deliver.new.mem) move opens delivered

pub returns-else-branch-clause-untouched : goal.returns-else-branch-clause-untouched
returns-else-branch-clause-untouched g c =
    let now : RankState = c.args.self.now in
    let move : IsMove now c.go_on.new.self (own_move now) = c.in_ok-go_on.ensures.moved in
    let opens : c.go_on.new.self.opened ≡ Some c.in-Some.at = sym c.in-Some.ensures.place in
    let delivered = subst (λ b. IsDelivered (Some c.in-Some.at) c.go_on.new.self c.deliver.new.self b
    (g.M.Memory.face c.args.mem.now) (g.M.Memory.face c.deliver.new.mem) (g.M.Memory.knows c.deliver.new.mem))
    c.if-branch.false c.in_ok-deliver-in-Some.ensures.delivered in
    delivery_untouched now c.go_on.new.self c.deliver.new.self c.in-Some.at false (g.M.Memory.face c.args.mem.now)
    (g.M.Memory.face c.deliver.new.mem) (g.M.Memory.knows c.deliver.new.mem) move opens delivered

pub returns-in_err-go_on-clause-kept : goal.returns-in_err-go_on-clause-kept
returns-in_err-go_on-clause-kept g c =
    let now : RankState = c.args.self.now in
    keeps_on_err c.from_residual-in_err-go_on.result now.agent.log c.go_on.new.self.agent.log
    (keeps_same now.agent.log c.go_on.new.self.agent.log c.in_err-go_on.ensures.kept)

pub returns-in_err-deliver-in-Some-clause-kept : goal.returns-in_err-deliver-in-Some-clause-kept
returns-in_err-deliver-in-Some-clause-kept g c =
    let now : RankState = c.args.self.now in
    let between : RankState = c.go_on.new.self in
    let after : RankState = c.deliver.new.self in
    keeps_on_err c.from_residual-in_err-deliver-in-Some.result now.agent.log after.agent.log
    (keeps_then_same now.agent.log between.agent.log after.agent.log
    (move_keeps now between c.in_ok-go_on.ensures.moved)
    c.in_err-deliver-in-Some.ensures.kept)
