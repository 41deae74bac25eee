-- The window that a creation makes has the parts that the entries brought.
use Rattle.std.proofs.Common.{◌∙◌, sym}
use Rattle.std.proofs.lemmas.Result.{on_ok_weaker}
use Rattle.rank_engine.proofs.Learnt.{made_after}
use Rattle.rank_engine.proofs.learning.learn_windows.Goals as goal

pub returns-in-Creates-clause-ok : goal.returns-in-Creates-clause-ok
returns-in-Creates-clause-ok c = on_ok_weaker c.make.result
    (λ is shapes parts. made_after shapes c.args.windows.now c.make.new.windows c.args.call.now _ c.args.made
    (sym c.action.ensures ∙ c.in-Creates.is) c.requires.shape parts is)
    c.make.ensures.ok
