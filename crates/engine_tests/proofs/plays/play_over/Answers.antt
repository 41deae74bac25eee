use Rattle.std.proofs.Common.{◌∙◌, [], ap, arith, subst, sym}
use Rattle.cell_words.specs.Holders.{Seated, face_of}
use Rattle.rank_engine.specs.RankStates.{RankState}
use Rattle.engine_tests.specs.Seated.{IsSeated, first_board}
use Rattle.engine_tests.proofs.KeptSeats.{first_seat}
use Rattle.engine_tests.proofs.plays.play_over.Goals as goal

pub play-requires : goal.play-requires
play-requires c =
    let face = face_of c.new_board.new.memory in
    let unwritten = c.in_ok-board.ensures.memory in
    let count = unwritten.stays.cells in
    let enough = c.requires.cells in
    let first = first_seat c.args.script.now c.args.delay c.args.seed 0 (face_of c.args.memory).share 4294967295 []
    c.in_ok-board.board face c.requires.formed c.requires.room (omega (arith, count, enough)) unwritten.share
    (c.in_ok-board.ensures.board ∙ ap (first_board c.args.script.now) (sym unwritten.stays.name)) in
    record {
      seated = subst (λ (m : Seated). IsSeated c.new-player.result.agent c.in_ok-board.board (face_of m))
          (sym c.new-player.ensures.memory)
          (subst (λ (s : RankState). IsSeated s c.in_ok-board.board face)
          (sym (c.new-player.ensures.agent ∙ c.in_ok-agent.ensures)) first);
    }
