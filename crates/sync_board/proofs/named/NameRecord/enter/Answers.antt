use Rattle.std.proofs.Common.{ℕ, List, arith, sym, ◌∙◌, subst}
use Rattle.std.proofs.lemmas.Result.{on_err_weaker, on_ok_weaker}
use Rattle.rma_types.specs.declared.scripts.Layout.{Layout}
use Rattle.rank_rules.specs.Windows.{window_number}
use Rattle.board_rules.specs.Entries.{Act}
use Rattle.sync_board.specs.Named.{KeepsName}
use Rattle.sync_board.specs.Windows.{IsUntouched, KeepsWindow, entered, entries_after}
use Rattle.sync_board.specs.declared.window_record.WindowRecord.{WindowRecord}
use Rattle.sync_board.proofs.GrownSteps.{HasGrown, at_grown, at_item, at_set}
use Rattle.sync_board.proofs.OtherWindows.{one_round, untouched_elsewhere, window_elsewhere}
use Rattle.sync_board.proofs.named.NameRecord.enter.Goals as goal

abbrev idle : WindowRecord → Type 0
idle kept = (layout : Layout) (ranks window : ℕ) (entries : List Act) → IsUntouched ranks window entries →
    KeepsWindow layout ranks window entries kept

grown : (c : goal.After-self-1) (layout : Layout) (ranks name : ℕ) (entries : List Act) →
    KeepsName layout ranks name entries c.args.self.now.rounds.items →
    KeepsName layout ranks name entries c.grow_to.new.items.items
grown c layout ranks name entries kept =
    let has : HasGrown idle c.args.self.now.rounds.items c.grow_to.new.items.items = record {
      longer = c.grow_to.ensures.longer;
      same = c.grow_to.ensures.same;
      idle = c.grow_to.ensures.idle;
    } in
    at_grown idle c.args.self.now.rounds.items c.grow_to.new.items.items
    (λ round. IsUntouched ranks (window_number round name) entries)
    (λ round. KeepsWindow layout ranks (window_number round name) entries) has
    (λ round one fresh none. fresh layout ranks (window_number round name) entries none) kept

pub returns-clause-ok : goal.returns-clause-ok
returns-clause-ok c = on_ok_weaker c.enter.result
    (λ more q name is at allowed kept.
    let layout = c.args.layout.now in
    let now = grown c c.args.layout.now q.ranks name q.entries kept in
    let act = entered q c.args.asked.now.number c.args.asked.now.step in
    let after = entries_after q c.args.asked.now.number c.args.asked.now.step in
    let item : KeepsWindow c.args.layout.now q.ranks (window_number c.args.round name) q.entries
    c.index_mut-kept.result.now =
    rw c.index_mut-kept.ensures.value
    (at_item c.grow_to.new.items.items c.args.round _ _
    (KeepsWindow c.args.layout.now q.ranks (window_number c.args.round name) q.entries)
    (omega (arith, c.in_ok-grow_to.ensures.long)) (now c.args.round)) in
    at_set c.grow_to.new.items.items c.args.round c.enter.new.self
    (λ round. IsUntouched q.ranks (window_number round name) q.entries)
    (λ round. IsUntouched q.ranks (window_number round name) after)
    (λ round. KeepsWindow layout q.ranks (window_number round name) q.entries)
    (λ round. KeepsWindow layout q.ranks (window_number round name) after)
    (omega (arith, c.in_ok-grow_to.ensures.long)) now
    (λ round apart none. untouched_elsewhere q.ranks (window_number round name) q.entries act
    (λ e. apart (one_round round c.args.round name (sym e ∙ at))) none)
    (λ round one apart has. window_elsewhere layout q.ranks (window_number round name) q.entries act one
    (λ e. apart (one_round round c.args.round name (sym e ∙ at))) has)
    (subst (λ w. KeepsWindow c.args.layout.now q.ranks w (entries_after q c.args.asked.now.number c.args.asked.now.step)
    c.enter.new.self) at
    (more q is allowed (subst (λ w. KeepsWindow c.args.layout.now q.ranks w q.entries c.index_mut-kept.result.now)
    (sym at) item))))
    c.enter.ensures.ok

pub returns-clause-err : goal.returns-clause-err
returns-clause-err c = on_err_weaker c.enter.result
    (λ keeps q name is at kept.
    let layout = c.args.layout.now in
    let now = grown c c.args.layout.now q.ranks name q.entries kept in
    let item : KeepsWindow c.args.layout.now q.ranks (window_number c.args.round name) q.entries
    c.index_mut-kept.result.now =
    rw c.index_mut-kept.ensures.value
    (at_item c.grow_to.new.items.items c.args.round _ _
    (KeepsWindow c.args.layout.now q.ranks (window_number c.args.round name) q.entries)
    (omega (arith, c.in_ok-grow_to.ensures.long)) (now c.args.round)) in
    at_set c.grow_to.new.items.items c.args.round c.enter.new.self
    (λ round. IsUntouched q.ranks (window_number round name) q.entries)
    (λ round. IsUntouched q.ranks (window_number round name) q.entries)
    (λ round. KeepsWindow layout q.ranks (window_number round name) q.entries)
    (λ round. KeepsWindow layout q.ranks (window_number round name) q.entries)
    (omega (arith, c.in_ok-grow_to.ensures.long)) now
    (λ round apart none. none) (λ round one apart has. has)
    (subst (λ w. KeepsWindow c.args.layout.now q.ranks w q.entries c.enter.new.self) at
    (keeps q (subst (λ w. KeepsWindow c.args.layout.now q.ranks w q.entries c.index_mut-kept.result.now)
    (sym at) item))))
    c.enter.ensures.err
