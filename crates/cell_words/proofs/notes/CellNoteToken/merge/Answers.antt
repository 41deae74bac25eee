use Rattle.std.proofs.Common.{◌≡◌, ap, sym, ◌∙◌, arith, ℕ, List, [], length, get_or}
use Rattle.atomic_table.specs.Table.{Me}
use Rattle.cell_face.specs.Fronts.{greater}
use Rattle.cell_face.proofs.GreaterFronts.{length-greater}
use Rattle.cell_words.specs.declared.views.View.{View}
use Rattle.cell_words.specs.Views.{bare, joined}
use Rattle.cell_words.proofs.notes.CellNoteToken.merge.Goals as goal

pub invariant_of-self : goal.invariant_of-self
invariant_of-self c =
    let mine = c.self.invariant.1 in
    let theirs = c.into_seat.ensures.view in
    let now : c.take_in.new.seat.me ≡ (bare (greater c.self.inside.seat.me.0.lows c.args.other.lows), []) =
    c.take_in.ensures.view ∙ (λ i. (joined (mine i).0 (theirs i).0, (mine i).1)) in
    let words = ap (λ (name : List ℕ). get_or name 0 0) c.requires in
    let same : length c.self.inside.seat.me.0.lows ≡ length c.args.other.lows =
    omega (
      arith,
      c.self.invariant.0,
      c.into_seat.ensures.whole,
      words,
      ap (λ t. t.words) c.into_seat.ensures.table,
      ap (λ n. n.table.words) c.self.view_is,
    ) in
    let whole = length-greater c.self.inside.seat.me.0.lows c.args.other.lows same in (
      omega (
        arith,
        whole,
        c.self.invariant.0,
        ap (λ t. t.words) c.take_in.ensures.table,
        ap (λ (m : Me (Unit {0}) View). length m.0.lows) now,
      ),
      now ∙ sym (ap (λ (m : Me (Unit {0}) View). (bare m.0.lows, [])) now),
      c.take_in.ensures.table ∙ c.self.invariant.2,
    )
