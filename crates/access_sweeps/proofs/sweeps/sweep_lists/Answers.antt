-- All may stand beside each other, or one access more of the second list.
use Rattle.std.proofs.Common.{◌≡◌, inl, inr, subst, ◌∙◌, arith}
use Rattle.std.specs.Prelude.{slice_index}
use Rattle.std.proofs.lemmas.Bool.{cases_lt}
use Rattle.vector_clocks.specs.Marks.{before_in}
use Rattle.access_sweeps.specs.Places.{IsLeastOf}
use Rattle.access_sweeps.specs.Sweeps.{accesses_of}
use Rattle.access_sweeps.proofs.Partners.{standing_least}
use Rattle.access_sweeps.proofs.sweeps.sweep_lists.Goals as goal

pub returns-then-do_all_stand-clause-least : goal.returns-then-do_all_stand-clause-least
returns-then-do_all_stand-clause-least c model swept =
    standing_least model c.args.lists.now swept (c.do_all_stand.ensures c.if-do_all_stand.true) c.args.best.now

pub loop-at-preserved : goal.loop-at-preserved
loop-at-preserved c =
    let s = c.args.lists.now in
    let old = c.loop-at.invariant in
    let one = c.pass-front.ensures in record {
      long = one.long ∙ old.long;
      first = one.first;
      other = one.other;
      falls = λ b.
          let now = one.falls b in
          let before = old.falls b in
          omega (arith, now, before);
      front = λ model swept j order within.
          one.front model swept (old.front model swept) j (omega (arith, order)) within;
      partners = λ model swept are. one.partners model swept (old.front model swept) (old.partners model swept are);
      least = λ model swept j below. elim (cases_lt j c.loop-at.at) [
        | inl earlier ↦ λ k low less pair.
            let before = old.least model swept j earlier k low less pair in
            let now = one.falls (slice_index s.second.now j) in
            omega (arith, before, now)
        | inr later ↦
            let same : c.loop-at.at ≡ j = omega (arith, below, later) in
            subst (λ n. IsLeastOf model (before_in s.clocks.now) (accesses_of s) s.first.now
            (slice_index s.second.now n) c.pass-front.new.best) same (one.least model swept (old.front model swept))
      ];
    }
