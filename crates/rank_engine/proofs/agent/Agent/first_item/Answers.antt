-- A call that is not looked up has its access in memory.
use Rattle.std.proofs.Common.{sym, ◌∙◌, ap, subst}
use Rattle.rank_rules.specs.Courses.{course_of}
use Rattle.rank_engine.proofs.IssueMoves.{direct_lies}
use Rattle.rank_engine.proofs.agent.Agent.first_item.Goals as goal
use Rattle.rank_engine.specs.RankStates.{RankState}
use Rattle.rank_engine.specs.Sound.{IsSound}

pub issue-requires-clause-lies : goal.issue-requires-clause-lies
issue-requires-clause-lies g c =
    direct_lies c.args.self.now c.args.call.now (subst IsSound c.self.view_is c.self.invariant.0) c.requires.passed
    (ap (λ (s : RankState). course_of s.agent.known.windows c.args.call.now) (sym c.self.view_is)
    ∙ sym c.in-Issue.ensures)
