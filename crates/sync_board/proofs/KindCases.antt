-- The kinds of collective calls on a window.
use Rattle.std.proofs.Common.{◌≡◌, true, is_some, Option, Some, None, refl}
use Rattle.std.specs.Option.{option_and_then}
use Rattle.board_rules.specs.Entries.{Collective, Creation, Freeing, Fence, Barrier}
use Rattle.sync_board.specs.Rounds.{collective_by, kind_by}
use Rattle.sync_board.specs.declared.rounds.Kind.{Kind}

pub of_kind : (o : Option Collective) (kind : Kind) → option_and_then kind_by o ≡ Some kind →
    o ≡ Some (collective_by kind)
of_kind None kind e = cc
of_kind (Some Creation) kind e = cc
of_kind (Some Freeing) kind e = cc
of_kind (Some Fence) kind e = cc
of_kind (Some Barrier) kind e = cc

-- a collective call on no window is a barrier
pub of_no_kind : (o : Option Collective) → option_and_then kind_by o ≡ None → is_some o ≡ true → o ≡ Some Barrier
of_no_kind (Some Barrier) e some = refl
of_no_kind o e some = cc
