use Rattle.std.proofs.Common.{◌≡◌, ℕ, List, [], ap, sym, ◌∙◌, subst, sum, sum_by}
use Rattle.cell_words.specs.Views.{held}
use Rattle.cell_words.specs.Holders.{SharedCells, Passed, views_of}
use Rattle.cell_words.specs.Closings.{AreBitsOf, IsHistory}
use Rattle.cell_words.proofs.Ending.{ended, ended_empty}
use Rattle.cell_words.proofs.cells.Cells.shut.Goals as goal

pub returns-in-None-clause-histories : goal.returns-in-None-clause-histories
returns-in-None-clause-histories c finals are =
    let none : c.args.passes.items ≡ [] = c.in-None.ensures.none in
    let end = c.close.ensures.values.2 in
    let shares = ap (λ (is : SharedCells). is.shares) c.self.view_is in
    let init = ap (λ (is : SharedCells). is.init) c.self.view_is in
    let nothing = sym c.requires.whole ∙ ap (λ (passes : List Passed). sum_by held (views_of passes)) none in
    rw none (subst (λ (first : List ℕ). IsHistory first finals []) init
    (ended_empty _ _ end.0.words end.0.views end.1 (ap sum shares ∙ nothing) finals
    (subst (λ (ws : List ℕ). AreBitsOf ws finals) (sym end.2) are)))

pub returns-in-Some-clause-histories : goal.returns-in-Some-clause-histories
returns-in-Some-clause-histories c finals are =
    let seat = c.in-Some.seat in
    let end = c.close_with.ensures.values.2 in
    let shares = ap (λ (is : SharedCells). is.shares) c.self.view_is in
    let init = ap (λ (is : SharedCells). is.init) c.self.view_is in
    let passes = views_of c.args.passes.items in
    subst (λ (first : List ℕ). IsHistory first finals passes) init
    (ended _ _ end.0.words end.0.views end.1.0 seat.id seat.me.0 end.1.1 passes c.in-Some.ensures.view
    (c.requires.whole ∙ sym (ap sum shares)) finals
    (subst (λ (ws : List ℕ). AreBitsOf ws finals) (sym end.2) are))
