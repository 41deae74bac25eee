use Rattle.std.proofs.Common.{◌≡◌, [], ◌∷◌, ap, sym, ◌∙◌, subst}
use Rattle.std.proofs.lemmas.List.{append-nil}
use Rattle.atomic_table.specs.Table.{Me}
use Rattle.cell_words.specs.declared.views.View.{View}
use Rattle.cell_words.specs.Views.{joined}
use Rattle.cell_words.specs.Holders.{views_of}
use Rattle.cell_words.specs.Closings.{Gathers}
use Rattle.cell_words.proofs.Ending.{gathers_one, gathers_more, own_rest, own_last, views_last}
use Rattle.cell_words.proofs.cells.Cells.gathered.Goals as goal

pub loop-pass-init : goal.loop-pass-init
loop-pass-init c =
    let table = c.args.self.now.table in
    let rest = c.pop.new.self.items in
    let pass = c.in_ok-pop.field-0 in
    let all = c.args.passes.items in
    let is = c.in_ok-pop.ensures.items in
    let seat = c.into_seat-all.ensures in record {
      table = seat.table ∙ own_last table rest pass all is c.requires;
      free = ap (λ (m : Me (Unit {0}) View). m.1) seat.view;
      own = own_rest table rest pass all is c.requires;
      view = (
        pass.view ∷ [],
        subst (Gathers (pass.view ∷ [])) (sym (ap (λ (m : Me (Unit {0}) View). m.0) seat.view))
            (gathers_one pass.view seat.deal),
        views_last table rest pass all is c.requires [] ∙ append-nil (views_of all),
      );
    }

pub loop-pass-preserved : goal.loop-pass-preserved
loop-pass-preserved c =
    let table = c.args.self.now.table in
    let rest = c.pop-in-loop-pass.new.self.items in
    let pass = c.in-Some.pass in
    let left = c.loop-pass.passes.items in
    let is = c.in-Some.ensures.items in
    let before = c.loop-pass.invariant in
    let done = before.view.0 in
    let all = c.loop-pass.all.me.0 in
    let seat = c.into_seat.ensures in
    let now : c.take_in.new.seat.me.0 ≡ joined all pass.view =
    ap (λ (m : Me (Unit {0}) View). m.0) c.take_in.ensures.view ∙ (λ i. joined all (seat.view i).0) in record {
      table = c.take_in.ensures.table ∙ before.table;
      free = ap (λ (m : Me (Unit {0}) View). m.1) c.take_in.ensures.view ∙ before.free;
      own = own_rest table rest pass left is before.own;
      view = (
        pass.view ∷ done,
        subst (Gathers (pass.view ∷ done)) (sym now) (gathers_more done all pass.view before.view.1 seat.deal),
        views_last table rest pass left is before.own done ∙ before.view.2,
      );
    }
