use Rattle.std.proofs.Common.{ℕ, ◌<◌, List, arith, sym, ◌∙◌}
use Rattle.std.proofs.lemmas.Result.{on_err_weaker, on_ok_weaker}
use Rattle.rma_types.specs.declared.scripts.Layout.{Layout}
use Rattle.rank_rules.specs.Windows.{window_number}
use Rattle.board_rules.specs.Entries.{Act}
use Rattle.sync_board.specs.Named.{IsNameUntouched, KeepsName, KeepsWindows}
use Rattle.sync_board.specs.Windows.{entered, entries_after}
use Rattle.sync_board.specs.declared.named.NameRecord.{NameRecord}
use Rattle.sync_board.proofs.GrownSteps.{HasGrown, at_grown, at_item, at_set}
use Rattle.sync_board.proofs.OtherWindows.{name_elsewhere, one_name, untouched_elsewhere}
use Rattle.sync_board.proofs.named.Windows.enter.Goals as goal

abbrev idle : NameRecord → Type 0
idle one = (layout : Layout) (ranks name : ℕ) (entries : List Act) → IsNameUntouched ranks name entries →
    KeepsName layout ranks name entries one.rounds.items

grown : (old new : List NameRecord) (layout : Layout) (ranks : ℕ) (entries : List Act) → HasGrown idle old new →
    KeepsWindows layout ranks entries old → KeepsWindows layout ranks entries new
grown old new layout ranks entries has kept =
    at_grown idle old new (λ name. name < 32 → IsNameUntouched ranks name entries)
    (λ name (one : NameRecord). name < 32 → KeepsName layout ranks name entries one.rounds.items) has
    (λ name one fresh none below. fresh layout ranks name entries (none below)) kept

pub returns-in-Err-clause-err : goal.returns-in-Err-clause-err
returns-in-Err-clause-err c = λ q is at kept.
    grown c.args.self.now.names.items c.grow_to.new.items.items c.args.layout.now q.ranks q.entries
    (record { longer = c.grow_to.ensures.longer; same = c.grow_to.ensures.same; idle = c.grow_to.ensures.idle }) kept

pub returns-clause-ok : goal.returns-clause-ok
returns-clause-ok c = on_ok_weaker c.enter.result
    (λ more q is at allowed kept.
    let layout = c.args.layout.now in
    let now = grown c.args.self.now.names.items c.grow_to.new.items.items c.args.layout.now q.ranks q.entries
    (record { longer = c.grow_to.ensures.longer; same = c.grow_to.ensures.same; idle = c.grow_to.ensures.idle }) kept in
    let act = entered q c.args.asked.now.number c.args.asked.now.step in
    let after = entries_after q c.args.asked.now.number c.args.asked.now.step in
    let item : KeepsName c.args.layout.now q.ranks c.args.name q.entries c.index_mut-one.result.now.rounds.items =
    rw c.index_mut-one.ensures.value
    (at_item c.grow_to.new.items.items c.args.name _ _ (λ (one : NameRecord). c.args.name < 32 →
    KeepsName c.args.layout.now q.ranks c.args.name q.entries one.rounds.items)
    (omega (arith, c.in-Ok.ensures.long)) (now c.args.name) c.requires.name) in
    at_set c.grow_to.new.items.items c.args.name c.enter.new.self
    (λ name. name < 32 → IsNameUntouched q.ranks name q.entries)
    (λ name. name < 32 → IsNameUntouched q.ranks name after)
    (λ name (one : NameRecord). name < 32 → KeepsName layout q.ranks name q.entries one.rounds.items)
    (λ name (one : NameRecord). name < 32 → KeepsName layout q.ranks name after one.rounds.items)
    (omega (arith, c.in-Ok.ensures.long)) now
    (λ name apart none below round. untouched_elsewhere q.ranks (window_number round name) q.entries act
    (λ e. apart (one_name round c.args.round name c.args.name below c.requires.name (sym e ∙ at)))
    (none below round))
    (λ name one apart has below. name_elsewhere layout q.ranks name q.entries act one.rounds.items
    (λ round e. apart (one_name round c.args.round name c.args.name below c.requires.name (sym e ∙ at)))
    (has below))
    (λ below. more q c.args.name is at allowed item))
    c.enter.ensures.ok

pub returns-clause-err : goal.returns-clause-err
returns-clause-err c = on_err_weaker c.enter.result
    (λ keeps q is at kept.
    let layout = c.args.layout.now in
    let now = grown c.args.self.now.names.items c.grow_to.new.items.items c.args.layout.now q.ranks q.entries
    (record { longer = c.grow_to.ensures.longer; same = c.grow_to.ensures.same; idle = c.grow_to.ensures.idle }) kept in
    let item : KeepsName c.args.layout.now q.ranks c.args.name q.entries c.index_mut-one.result.now.rounds.items =
    rw c.index_mut-one.ensures.value
    (at_item c.grow_to.new.items.items c.args.name _ _ (λ (one : NameRecord). c.args.name < 32 →
    KeepsName c.args.layout.now q.ranks c.args.name q.entries one.rounds.items)
    (omega (arith, c.in-Ok.ensures.long)) (now c.args.name) c.requires.name) in
    at_set c.grow_to.new.items.items c.args.name c.enter.new.self
    (λ name. name < 32 → IsNameUntouched q.ranks name q.entries)
    (λ name. name < 32 → IsNameUntouched q.ranks name q.entries)
    (λ name (one : NameRecord). name < 32 → KeepsName layout q.ranks name q.entries one.rounds.items)
    (λ name (one : NameRecord). name < 32 → KeepsName layout q.ranks name q.entries one.rounds.items)
    (omega (arith, c.in-Ok.ensures.long)) now
    (λ name apart none. none) (λ name one apart has. has)
    (λ below. keeps q c.args.name is at item))
    c.enter.ensures.err
