-- What the value has when a turn ends, for each of its seats.
use Rattle.std.proofs.Common.{◌≡◌, ℕ, ◌<◌, true≢false, List, [], length, sym, ap, ◌∙◌, subst}
use Rattle.std.specs.Prelude.{Option, Some, None, All, is_some, unwrap_or}
use mathlib.Core.List.{IsPrefix}
use mathlib.Core.Option.{some}
use lib.ListN.{get_elem?}
use Rattle.atomic_table.specs.Table.{Me, Final, Seen}
use Rattle.turn_lock.specs.Lists.{of}
use Rattle.turn_lock.specs.Rules.{Kept}
use Rattle.turn_lock.specs.Seats.{number_of, given_by, known_by, gathered}
use Rattle.turn_lock.specs.declared.views.View.{View}
use Rattle.turn_lock.specs.declared.seats.TurnSeat.{TurnSeat}
use Rattle.turn_lock.proofs.Seating.{closes_at}
use Rattle.turn_lock.proofs.SeatLists.{gathered_out, gathered_known, gathered_gave}

module _ {V E O : Type 0} (list : V → List E) (owner : E → ℕ) (origin : V → O) (seats : ℕ) (from : O) where
  pub record EndsAs (all : List (TurnSeat V E O)) (x : V) : Type 0 where
    pub from_start : origin x ≡ from
    pub owned : All (λ (e : E). owner e < seats) (list x)
    pub gave : All (λ (s : TurnSeat V E O). of owner (number_of s) (list x) ≡ given_by s) all
    pub knew : All (λ (s : TurnSeat V E O). IsPrefix (known_by s) (list x)) all

  ends : (id : ℕ) (m : Me (Option V) (View E O)) (all : List (TurnSeat V E O)) (words : List ℕ) (slots : List (Option V)) (y : Option V)
      → m ≡ (gathered from all, []) → length all ≡ seats → Final (Seen (Kept list owner origin seats from) id m.0) words slots → get_elem? slots 0 ≡ some y
      → (x : V) × (y ≡ Some x) × EndsAs all x
  ends id m all words slots y e long final at =
      let out = gathered_out from all in
      let whole = subst (λ (z : Me (Option V) (View E O)). Final (Seen (Kept list owner origin seats from) id z.0) words slots) e final in
      let c = closes_at list owner origin seats from id (gathered from all) words slots y whole out.1 (out.2 ∙ long) at in (
        c.0,
        c.1,
        record {
          from_start = c.2.from_start;
          owned = c.2.owned;
          gave = gathered_gave from owner (list c.0) all c.2.gave;
          knew = gathered_known from (list c.0) all c.2.knew c.2.heard;
        },
      )

  pub ends_in : (id : ℕ) (m : Me (Option V) (View E O)) (all : List (TurnSeat V E O)) (words : List ℕ) (slots : List (Option V)) (y : Option V) (x : V)
      → m ≡ (gathered from all, []) → length all ≡ seats → Final (Seen (Kept list owner origin seats from) id m.0) words slots → get_elem? slots 0 ≡ some y
      → y ≡ Some x → EndsAs all x
  ends_in id m all words slots y x e long final at is =
      let c = ends id m all words slots y e long final at in
      subst (EndsAs all) (ap (λ (o : Option V). unwrap_or o x) (sym c.1 ∙ is)) c.2

  pub ends_not : (id : ℕ) (m : Me (Option V) (View E O)) (all : List (TurnSeat V E O)) (words : List ℕ) (slots : List (Option V)) (y : Option V)
      → m ≡ (gathered from all, []) → length all ≡ seats → Final (Seen (Kept list owner origin seats from) id m.0) words slots → get_elem? slots 0 ≡ some y
      → y ≡ None → ⊥
  ends_not id m all words slots y e long final at is =
      let c = ends id m all words slots y e long final at in true≢false (ap is_some (sym c.1 ∙ is))
