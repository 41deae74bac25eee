-- A delivery that is begun goes on, and an access that was looked up is issued.
use Rattle.std.proofs.Common.{◌≡◌, ℕ, inr, None, sym, ◌∙◌, ap, subst}
use Rattle.list_laws.proofs.Options.{none_there}
use Rattle.rank_engine.proofs.Begun.{begun_looks_up, first_pending, goes_on}
use Rattle.rank_engine.proofs.agent.Agent.go_on.Goals as goal
use Rattle.rank_engine.specs.RankStates.{RankState}
use Rattle.rank_engine.specs.Sound.{IsSound}

pub returns-then-is_begun-clause-moved : goal.returns-then-is_begun-clause-moved
returns-then-is_begun-clause-moved g c =
    goes_on c.args.self.now (subst IsSound c.self.view_is c.self.invariant.0) (sym c.if-is_begun.ensures)

pub begin_delivery-requires-clause-first : goal.begin_delivery-requires-clause-first
begin_delivery-requires-clause-first g c =
    first_pending c.args.self.now (sym c.in-None.ensures.call) c.requires.left

pub begin_delivery-requires-clause-closed : goal.begin_delivery-requires-clause-closed
begin_delivery-requires-clause-closed g c = none_there c.args.self.now.opened (sym c.if-is_begun.ensures)

pub issue-requires-clause-closed : goal.issue-requires-clause-closed
issue-requires-clause-closed g c = none_there c.args.self.now.opened (sym c.if-is_begun.ensures)

pub begin-requires-clause-closed : goal.begin-requires-clause-closed
begin-requires-clause-closed g c = none_there c.args.self.now.opened (sym c.if-is_begun.ensures)

pub issue-requires-clause-course : goal.issue-requires-clause-course
issue-requires-clause-course g c =
    let same = c.self.view_is in
    inr (begun_looks_up c.args.self.now c.in-Some.call.now (subst IsSound same c.self.invariant.0)
    (ap (λ (s : RankState). s.agent.entered) (sym same) ∙ c.if-self.true) (sym c.in-Some.ensures.call)
    (none_there c.args.self.now.opened (sym c.if-is_begun.ensures)) c.requires.needs)
