use Rattle.std.proofs.Common.{◌≡◌, ap, sym, ◌∙◌, arith, ℕ, List, length, get_or, subst, Some}
use Rattle.std.proofs.lemmas.List.{append-nil}
use Rattle.atomic_table.specs.Table.{Me}
use Rattle.atomic_table.specs.Seated.{TableId}
use Rattle.cell_face.specs.Faces.{Takes}
use Rattle.cell_face.proofs.GreaterFronts.{length-greater}
use Rattle.cell_words.specs.declared.views.View.{View}
use Rattle.cell_words.specs.Views.{bare, joined}
use Rattle.cell_words.specs.Holders.{Seated, face_of}
use Rattle.cell_words.proofs.SeatFaces.{seated, seat_takes}
use Rattle.cell_words.proofs.seats.CellSeatMemory.meet.Goals as goal

pub invariant_of-self : goal.invariant_of-self
invariant_of-self c =
    let mine = c.self.inside.seat.me.0 in
    let theirs = c.into_seat.ensures.view in
    let now : c.take_in.new.seat.me ≡ (joined mine (bare c.args.note.lows), c.self.inside.seat.me.1) =
    c.take_in.ensures.view ∙ (λ i. (joined mine (theirs i).0, c.self.inside.seat.me.1)) in
    let words = ap (λ (name : List ℕ). get_or name 0 0) c.requires in
    let same : length mine.lows ≡ length c.args.note.lows =
    omega (
      arith,
      c.self.invariant.0,
      c.into_seat.ensures.whole,
      words,
      ap (λ t. t.words) c.into_seat.ensures.table,
      ap (λ n. n.table.words) c.self.view_is,
    ) in
    let whole = length-greater mine.lows c.args.note.lows same in (
      omega (
        arith,
        whole,
        c.self.invariant.0,
        ap (λ t. t.words) c.take_in.ensures.table,
        ap (λ (m : Me (Unit {0}) View). length m.0.lows) now,
      ),
      omega (arith, c.self.invariant.1, ap (λ (m : Me (Unit {0}) View). m.0.share) now),
      ap (λ (m : Me (Unit {0}) View). m.0.deal) now ∙ (append-nil mine.deal ∙ c.self.invariant.2),
      ap (λ (m : Me (Unit {0}) View). m.1) now ∙ c.self.invariant.3,
      c.take_in.ensures.table ∙ c.self.invariant.4,
    )

pub returns-clause-takes : goal.returns-clause-takes
returns-clause-takes c =
    let was = c.self.inside.seat in
    let lows = c.args.note.lows in
    let theirs = c.into_seat.ensures.view in
    let now : c.take_in.new.seat.me.0 ≡ joined was.me.0 (bare lows) =
    ap (λ (m : Me (Unit {0}) View). m.0) c.take_in.ensures.view ∙ (λ i. joined was.me.0 (theirs i).0) in
    let words = ap (λ (name : List ℕ). get_or name 0 0) c.requires in
    let same : length was.me.0.lows ≡ length lows =
    omega (
      arith,
      c.self.invariant.0,
      c.into_seat.ensures.whole,
      words,
      ap (λ t. t.words) c.into_seat.ensures.table,
      ap (λ n. n.table.words) c.self.view_is,
    ) in
    let moves = c.self.inside.moves in
    let new = c.take_in.new.seat in
    subst (λ (s : Seated). Takes (face_of s) (face_of (seated new.table_id new.me.0 moves))
    (Some lows)) c.self.view_is
    (subst (λ (z : TableId × View). Takes (face_of (seated was.table_id was.me.0 moves))
    (face_of (seated z.0 z.1 moves)) (Some lows)) (λ i. (sym c.take_in.ensures.table i, sym now i))
    (seat_takes was.table_id was.me.0 lows moves same))
