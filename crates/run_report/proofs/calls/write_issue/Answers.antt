use Rattle.std.proofs.Common.{◌≡◌, ◌++◌, List, ℕ, subst, OnOk}
use Rattle.std.specs.String.{string_bytes}
use Rattle.run_report.proofs.Lines.{issue_says}
use Rattle.run_report.proofs.calls.write_issue.Goals as goal

pub returns-in-Some-fetched_type : goal.returns-in-Some-fetched_type
returns-in-Some-fetched_type c =
    let says = issue_says c.args.rank c.args.call c.args.index c.args.access.now c.in-Some-fetched_type.dtype
    c.args.calls.now
    c.in-Some.made.now c.args.items.now c.in-Some.ensures c.in-Some-fetched_type.ensures in
    let P : List ℕ → Type 0 = λ lines. OnOk c.write_value.result (string_bytes c.write_value.new.text
    ≡ string_bytes c.args.text.now ++ lines) in
    subst P says c.write_value.ensures
