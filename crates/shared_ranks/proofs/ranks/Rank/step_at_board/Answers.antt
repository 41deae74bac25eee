use Rattle.std.proofs.Common.{sym, ap, ◌∙◌, subst}
use mathlib.Core.List.{IsPrefix}
use Rattle.rank_engine.specs.BoardAnswers.{AlwaysTells, AreTold}
use Rattle.rank_engine.specs.RankStates.{needs_entry}
use Rattle.shared_ranks.proofs.Looked.{all_tell, puts_own}
use Rattle.shared_ranks.proofs.Turns.{applied, board_asked, entries_own, its_number, knows_more, looked_stays, taken_at}
use Rattle.shared_ranks.proofs.ranks.Rank.step_at_board.Goals as goal
use Rattle.shared_ranks.specs.Ranks.{IsSameMemory}
use Rattle.step_runs.specs.BoardSteps.{board_step}
use Rattle.sync_board.specs.Boards.{rows_on}

pub next_board-turned-requires-clause-board : goal.next_board-turned-requires-clause-board
next_board-turned-requires-clause-board g c =
    let turn = ap (λ r. r.seat.turn) c.self.view_is ∙ c.requires.turn in
    board_asked g.M.Memory.face g.M.Memory.knows c.self.view_is c.requires.ready c.requires.going c.take-board.result
    (g.T.Turning.place c.take-board.new.seat)
    (taken_at (g.T.Turning.place c.self.inside.seat) (g.T.Turning.place c.take-board.new.seat)
    (g.T.Turning.round c.args.turn.now) c.take-board.result turn c.take-board.ensures.board c.take-board.ensures.same
    c.take-board.ensures.others)

pub give-requires-clause-own : goal.give-requires-clause-own
give-requires-clause-own g c =
    let put = (puts_own c.next_board-turned.result c.self.inside.agent c.next_board-turned.new.self
    (board_step c.self.inside.agent.stage c.self.inside.agent.agent (rows_on c.take-board.result)).rows
    c.take-board.result c.next_board-turned.new.board (g.M.Memory.face c.self.inside.memory)
    (g.M.Memory.face c.next_board-turned.new.notes) c.has_room.ensures c.next_board-turned.ensures.answer
    c.next_board-turned.ensures.entries c.next_board-turned.ensures.handed).0 in
    entries_own (g.T.Turning.round c.args.turn.now).first c.take-board.result c.next_board-turned.new.board
    (g.T.Turning.place c.take-board.new.seat).known c.self.inside.agent.agent.rank
    (g.T.Turning.place c.take-board.new.seat).number c.take-board.ensures.board put
    (its_number g.M.Memory.face g.M.Memory.knows c.self.view_is c.requires.ready c.requires.going
    ∙ sym c.take-board.ensures.same.1)

pub returns-clause-stays : goal.returns-clause-stays
returns-clause-stays g c =
    let turn = ap (λ r. r.seat.turn) c.self.view_is ∙ c.requires.turn in
    let face = g.M.Memory.face c.self.inside.memory in
    looked_stays g.M.Memory.face g.M.Memory.knows {middle = g.T.Turning.place c.take-board.new.seat}
    {board = c.take-board.result} {board_after = c.next_board-turned.new.board} {r = c.next_board-turned.result}
    c.self.view_is (record {
      going = ap (λ r. r.standing) c.self.view_is ∙ c.requires.going;
      taken = taken_at (g.T.Turning.place c.self.inside.seat) (g.T.Turning.place c.take-board.new.seat)
          (g.T.Turning.round c.args.turn.now) c.take-board.result turn c.take-board.ensures.board
          c.take-board.ensures.same c.take-board.ensures.others;
      free = c.has_room.ensures;
      needs = ap (λ r. needs_entry r.state) c.self.view_is ∙ c.requires.needs;
      tells = all_tell g.M.Note.Token.front c.requires.tells c.take-board.result.entries c.gifts_of_tokens.ensures;
      answer = c.next_board-turned.ensures.answer;
      told = applied (AlwaysTells g.M.Note.Token.front)
          (AreTold face c.take-board.result c.next_board-turned.new.board) c.next_board-turned.result c.requires.tells
          c.next_board-turned.ensures.gifts;
      keeps = c.next_board-turned.ensures.known;
      memory = (puts_own c.next_board-turned.result c.self.inside.agent c.next_board-turned.new.self
          (board_step c.self.inside.agent.stage c.self.inside.agent.agent (rows_on c.take-board.result)).rows
          c.take-board.result c.next_board-turned.new.board face
          (g.M.Memory.face c.next_board-turned.new.notes) c.has_room.ensures c.next_board-turned.ensures.answer
          c.next_board-turned.ensures.entries c.next_board-turned.ensures.handed).1;
      same = c.give.ensures.same;
      rests = c.give.ensures.rests;
      knows = c.give.ensures.knows;
      stands = c.after-self-inside.ensures;
    })

pub returns-clause-knows : goal.returns-clause-knows
returns-clause-knows g c =
    let put = (puts_own c.next_board-turned.result c.self.inside.agent c.next_board-turned.new.self
    (board_step c.self.inside.agent.stage c.self.inside.agent.agent (rows_on c.take-board.result)).rows
    c.take-board.result c.next_board-turned.new.board (g.M.Memory.face c.self.inside.memory)
    (g.M.Memory.face c.next_board-turned.new.notes) c.has_room.ensures c.next_board-turned.ensures.answer
    c.next_board-turned.ensures.entries c.next_board-turned.ensures.handed).0 in
    subst (λ r. IsPrefix r.seat.known (g.T.Turning.place c.give.new.seat).known) c.self.view_is
    (knows_more (g.T.Turning.place c.self.inside.seat) (g.T.Turning.place c.take-board.new.seat)
    (g.T.Turning.round c.args.turn.now).first c.take-board.result c.next_board-turned.new.board
    c.self.inside.agent.agent.rank c.take-board.ensures.others c.take-board.ensures.board put
    (g.T.Turning.place c.give.new.seat).known c.give.ensures.knows)

pub returns-clause-memory : goal.returns-clause-memory
returns-clause-memory g c =
    subst (λ r. IsSameMemory (g.M.Memory.face r.memory) (g.M.Memory.face c.next_board-turned.new.notes)) c.self.view_is
    (puts_own c.next_board-turned.result c.self.inside.agent c.next_board-turned.new.self
    (board_step c.self.inside.agent.stage c.self.inside.agent.agent (rows_on c.take-board.result)).rows
    c.take-board.result c.next_board-turned.new.board (g.M.Memory.face c.self.inside.memory)
    (g.M.Memory.face c.next_board-turned.new.notes) c.has_room.ensures c.next_board-turned.ensures.answer
    c.next_board-turned.ensures.entries c.next_board-turned.ensures.handed).1
