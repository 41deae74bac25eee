-- The two listings may be swept, since their classes conflict.
use Rattle.std.proofs.Common.{List, ℕ, sym, subst, ◌∙◌}
use Rattle.vector_clocks.specs.Marks.{before_in}
use Rattle.access_sweeps.specs.Places.{AreLeastOf}
use Rattle.conflict_check.specs.Listings.{judged_of}
use Rattle.conflict_check.proofs.Leasts.{may_sweep_as}
use Rattle.conflict_check.proofs.partners.sweep_pair.Goals as goal

pub returns-then-do_conflict-clause-partners : goal.returns-then-do_conflict-clause-partners
returns-then-do_conflict-clause-partners c =
    let s = c.args.s.now in
    let a = c.args.a.now in
    let b = c.args.b.now in
    c.sweep_lists.ensures.partners s.model
    (may_sweep_as s.model s.clocks.now (judged_of s) c.requires.ascending c.args.region a.class b.class a.places b.places
    c.requires.first c.requires.second (sym c.do_conflict.ensures ∙ c.if-do_conflict.true) c.by_operation.result
    c.as_slice.result.now c.as_slice-then-do_conflict.result.now c.by_operation.ensures c.as_slice.ensures
    c.as_slice-then-do_conflict.ensures)

pub returns-then-do_conflict-clause-done : goal.returns-then-do_conflict-clause-done
returns-then-do_conflict-clause-done c conflict ranks =
    let s = c.args.s.now in
    let a = c.args.a.now in
    let b = c.args.b.now in
    subst (λ (l : List ℕ). AreLeastOf s.model (before_in s.clocks.now) (judged_of s) l b.places
    c.sweep_lists.new.best) c.as_slice.ensures
    (subst (λ (l : List ℕ). AreLeastOf s.model (before_in s.clocks.now) (judged_of s) c.as_slice.result.now l
    c.sweep_lists.new.best) c.as_slice-then-do_conflict.ensures
    (c.sweep_lists.ensures.least s.model
    (may_sweep_as s.model s.clocks.now (judged_of s) c.requires.ascending c.args.region a.class b.class a.places b.places
    c.requires.first c.requires.second conflict c.by_operation.result c.as_slice.result.now
    c.as_slice-then-do_conflict.result.now c.by_operation.ensures c.as_slice.ensures
    c.as_slice-then-do_conflict.ensures)))
