-- Whether two collective calls are of one kind.
use Rattle.std.proofs.Common.{◌≡◌, true, refl, sym}
use Rattle.std.proofs.lemmas.Bool.{true≢false}
use Rattle.board_rules.specs.Entries.{Collective, is_same_collective, Creation, Freeing, Fence, Barrier}

pub same_collective : (c d : Collective) → is_same_collective c d ≡ true → c ≡ d
same_collective Creation Creation e = refl
same_collective Freeing Freeing e = refl
same_collective Fence Fence e = refl
same_collective Barrier Barrier e = refl
same_collective c d e = absurd (true≢false (sym e))

pub collective_same : (c : Collective) → is_same_collective c c ≡ true
collective_same Creation = refl
collective_same Freeing = refl
collective_same Fence = refl
collective_same Barrier = refl
