use Rattle.std.proofs.Common.{sym, ◌∙◌}
use Rattle.std.proofs.lemmas.Result.{on_ok_weaker}
use Rattle.engine_tests.proofs.KeptSeats.{still_seated}
use Rattle.engine_tests.proofs.plays.take_turns.Goals as goal

-- the second rank waits while the first plays
pub play-requires-2 : goal.play-requires-2
play-requires-2 c =
    record { seated = still_seated _ _ _ _ _ _ _ c.in_ok-play.ensures.goes_on c.requires.apart c.requires.second }

pub play-requires-3 : goal.play-requires-3
play-requires-3 c =
    let goes = c.in_ok-play.ensures.goes_on in
    record {
      seated = still_seated _ _ _ _ _ _ _ c.in_ok-play-2.ensures.goes_on
          (λ same. c.requires.apart (sym same ∙ goes.number)) goes.seated;
    }

pub returns-clause-second : goal.returns-clause-second
returns-clause-second c =
    let goes = c.in_ok-play.ensures.goes_on in
    let then = c.in_ok-play-2.ensures.goes_on in
    on_ok_weaker c.play-3.result (λ last. still_seated _ _ _ _ _ _ _ last
    (λ same. c.requires.apart (sym then.number ∙ same ∙ goes.number)) then.seated) c.play-3.ensures.goes_on
