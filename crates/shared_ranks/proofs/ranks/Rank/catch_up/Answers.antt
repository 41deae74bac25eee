use Rattle.std.proofs.Common.{length, refl, sym, ◌∙◌, ap, arith}
use Rattle.shared_ranks.proofs.Learnt.{caught_up, longer_with, same_with}
use Rattle.shared_ranks.specs.Standings.{standing_with}
use Rattle.shared_ranks.proofs.ranks.Rank.catch_up.Goals as goal
use Rattle.shared_ranks.proofs.ranks.Rank.catch_up.Goals.{then-self-other, else-self-other}

pub returns-clause-stays : goal.returns-clause-stays
returns-clause-stays g c =
    let mine = (g.T.Turning.place c.self.inside.seat).known in
    let theirs = (g.T.Turning.place c.other.inside.seat).known in
    let s = c.self.inside.standing in
    let here = c.self.invariant in
    let there = c.other.invariant in
    elim c.if-self-other.branch [
      | then-self-other w ↦
          let shorter = w.if-self-other.true in
          caught_up g.M.Memory.face g.M.Memory.knows c.self.view_is w.self-is refl refl c.catch_up.ensures.same
          c.catch_up.ensures.rests c.catch_up.ensures.others
          (w.tried_again-self-inside.ensures ∙ sym (longer_with mine theirs s (omega (arith, here, there, shorter)))
          ∙ ap (λ l. standing_with (length mine) (length l) s) (sym c.catch_up.ensures.knows))
      | else-self-other w ↦
          let longest = w.if-self-other.false in
          caught_up g.M.Memory.face g.M.Memory.knows c.self.view_is w.self-is refl refl c.catch_up.ensures.same
          c.catch_up.ensures.rests c.catch_up.ensures.others
          (sym (same_with mine theirs s (omega (arith, here, there, longest)))
          ∙ ap (λ l. standing_with (length mine) (length l) s) (sym c.catch_up.ensures.knows))
    ]
