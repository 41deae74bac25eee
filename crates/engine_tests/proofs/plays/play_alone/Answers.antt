use Rattle.std.proofs.Common.{◌∙◌, ap, subst, sym}
use Rattle.cell_words.specs.Holders.{Passed}
use Rattle.rank_engine.specs.DataAnswers.{GivesRoom}
use Rattle.engine_tests.proofs.LastTwo.{first_of_two}
use Rattle.engine_tests.proofs.plays.play_alone.Goals as goal

pub play_over-requires-clause-room : goal.play_over-requires-clause-room
play_over-requires-clause-room c = subst (λ share. GivesRoom c.args.script.now 0 share)
    (sym (c.new_memory-memory.ensures.share ∙ ap (λ (pass : Passed). pass.view.share)
    (first_of_two _ _ _ _ _ (sym c.in_ok-cells.ensures.passes ∙ c.in_ok-pair.ensures)))) c.requires.room
