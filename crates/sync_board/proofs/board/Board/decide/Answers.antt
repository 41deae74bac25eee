use Rattle.std.proofs.Common.{◌≡◌, length, ap, sym, ◌∙◌, subst, refl, arith}
use Rattle.sync_board.specs.Asked.{decision_of, row_asked}
use Rattle.sync_board.specs.Boards.{BoardState, MayJudge}
use Rattle.sync_board.proofs.Asking.{answer_is, may_be_judged}
use Rattle.sync_board.proofs.BoardSteps.{givens_length}
use Rattle.sync_board.proofs.board.Board.decide.Goals as goal

pub judge-requires-clause-asked : goal.judge-requires-clause-asked
judge-requires-clause-asked g c = may_be_judged c.ask-asked.result c.self.inside.ranks
    (record { rank = c.args.rank; number = c.args.number; call = c.args.call.now; step = c.args.step })
    c.self.invariant.few c.ask-asked.ensures.ranks c.ask-asked.ensures.row
    (subst (λ (b : BoardState). MayJudge b.ranks c.args.rank c.args.call.now c.args.step) (sym c.self.view_is)
    c.requires.asked.entry)

pub enter-requires-clause-allowed : goal.enter-requires-clause-allowed
enter-requires-clause-allowed g c =
    sym (answer_is _ c.args.self.now c.self.inside.state c.ask-asked.result c.judge.result
    (row_asked c.ask-asked.result) c.self.view_is c.ask-asked.ensures.ranks refl c.self.invariant.done
    c.ask-asked.ensures.after c.judge.ensures)
    ∙ ap decision_of c.in-Allowed.is

pub returns-in-NotYet-clause-answer : goal.returns-in-NotYet-clause-answer
returns-in-NotYet-clause-answer g c = (
  sym (answer_is _ c.args.self.now c.self.inside.state c.ask-asked.result c.judge.result _ c.self.view_is
      c.ask-asked.ensures.ranks c.ask-asked.ensures.row c.self.invariant.done c.ask-asked.ensures.after
      c.judge.ensures)
      ∙ ap decision_of c.in-NotYet.is,
  refl,
  refl,
)

pub returns-in-Refused-clause-answer : goal.returns-in-Refused-clause-answer
returns-in-Refused-clause-answer g c =
    let seen : c.len-seen.result ≡ length c.self.inside.list.rows.items = omega arith in (
      sym (answer_is _ c.args.self.now c.self.inside.state c.ask-asked.result c.judge.result _ c.self.view_is
          c.ask-asked.ensures.ranks c.ask-asked.ensures.row c.self.invariant.done c.ask-asked.ensures.after
          c.judge.ensures)
          ∙ ap decision_of c.in-Refused.is,
      seen ∙ (sym (givens_length g.N.Token.front c.self.inside.list.rows.items c.self.inside.list.kept.items
          c.self.invariant.sizes) ∙ ap (λ (b : BoardState). length b.entries) c.self.view_is),
      refl,
      refl,
    )
