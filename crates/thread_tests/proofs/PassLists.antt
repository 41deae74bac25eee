-- Lists of passes that all hold as much.
use Rattle.std.proofs.Common.{◌≡◌, ℕ, ◌+◌, ◌*◌, List, [], ◌∷◌, length, refl, ◌∙◌, arith}
use Rattle.std.specs.Prelude.{All, sum_by}
use Rattle.std.proofs.lemmas.List.Elements.{All-head, All-tail}
use Rattle.std.proofs.lemmas.List.Sums.{sum_by-cons}
use Rattle.cell_words.specs.Views.{held}
use Rattle.cell_words.specs.Holders.{SharedCells, Passed, views_of}
use Rattle.thread_tests.specs.Ready.{IsReady}

pub held_by_all : (cells : SharedCells) (passes : List Passed) → All (IsReady cells 100000 0) passes → sum_by held (views_of passes) ≡ length passes * 100000
held_by_all cells [] ready = refl
held_by_all cells (pass ∷ passes) ready =
    let here : held pass.view ≡ 100000 = (All-head (IsReady cells 100000 0) pass passes ready).held_is in
    let rest = held_by_all cells passes (All-tail (IsReady cells 100000 0) pass passes ready) in
    let both : sum_by held (views_of (pass ∷ passes)) ≡ held pass.view + sum_by held (views_of passes) = sum_by-cons held pass.view (views_of passes) in
    omega (arith, here, rest, both)
