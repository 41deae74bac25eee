-- The access of a call that is issued lies in memory, and is pending from then on.
use Rattle.std.proofs.Common.{◌≡◌, None, sym, ◌∙◌, ap, subst}
use Rattle.rank_rules.specs.Knowledge.{own_class}
use Rattle.rank_engine.proofs.Issued.{Issues, small_if}
use Rattle.rank_engine.proofs.agent.Agent.issue.Goals as goal
use Rattle.rank_engine.specs.RankStates.{RankState, state_of}
use Rattle.rank_engine.proofs.IssueMoves.{issue_made}
use Rattle.rank_engine.proofs.TwoEntries.{if_ok_then}
use Rattle.rank_engine.specs.Moves.{IsIssued, IsMove}
use Rattle.rank_rules.specs.Courses.{access_of}
use Rattle.step_runs.specs.DataSteps.{issue}

pub access-requires-clause-small : goal.access-requires-clause-small
access-requires-clause-small g c =
    let at : RankState = state_of c.self.inside.script.now c.self.inside.layout.now c.self.inside.delay
    c.self.inside.rank (g.L.Keep.kept c.self.inside.log) c.self.inside.windows c.self.inside.epochs
    c.self.inside.queue c.self.inside.at c.self.inside.entered c.self.inside.drawn c.self.inside.draws
    c.self.inside.ended c.self.inside.opened (g.L.Keep.free c.self.inside.log) (g.L.Keep.home c.self.inside.log) in
    let same : at ≡ c.args.self.now = c.self.view_is in
    let passed : own_class at.agent.known c.args.call.now ≡ None =
    ap (λ (s : RankState). own_class s.agent.known c.args.call.now) same ∙ c.requires.passed in
    small_if at c.args.call.now c.self.invariant.0 c.requires.written passed
    (subst (λ (s : RankState). Issues s.agent.known c.args.call.now) (sym same) c.requires.course)

pub returns-in-Some-clause-moved : goal.returns-in-Some-clause-moved
returns-in-Some-clause-moved g c =
    let now : RankState = c.args.self.now in
    if_ok_then c.put_issue.result (λ _. IsIssued now c.put_issue.new.self c.args.call.now c.in-Some.access)
    (λ _. IsMove now c.put_issue.new.self (issue now.stage now.agent c.args.call.now))
    (λ _ made. issue_made now c.put_issue.new.self c.args.call.now c.in-Some.access
    (ap (λ (s : RankState). access_of s.agent.known.windows c.args.call.now) (sym c.self.view_is)
    ∙ sym c.in-Some.ensures) made)
    c.put_issue.ensures.issued
