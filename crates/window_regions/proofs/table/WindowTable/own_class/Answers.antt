-- A window that is dynamic.
use Rattle.std.proofs.Common.{◌∙◌, rules}
use Rattle.rank_rules.specs.Windows.{window_of_name}
use Rattle.window_regions.proofs.FoundWindows.{named, attached}
use Rattle.window_regions.proofs.table.WindowTable.own_class.Goals as goal

pub returns-then-is_dynamic : goal.returns-then-is_dynamic
returns-then-is_dynamic c =
    let known = c.args.self.now in
    let t = c.args.transfer.now in
    let there = attached known t (window_of_name known t.win) c.requires.own (search rules) (search rules)
    (c.is_dynamic.ensures.parts c.if-is_dynamic.true) (named t.win known.windows) in
    c.attached_class.ensures ∙ search (rules, there)
