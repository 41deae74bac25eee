-- The canonical text has three parts.
use Rattle.std.proofs.Common.{◌≡◌, ℕ, ◌++◌, List, subst}
use Rattle.std.specs.Prelude.{OnOk}
use Rattle.std.specs.String.{string_bytes}
use Rattle.rma_types.specs.declared.calls.Call.{Call}
use Rattle.script_language.specs.Canon.{canon, space_lines, rank_lines}
use Rattle.script_printer.proofs.Words.{parts_written}
use Rattle.script_printer.proofs.scripts.write_script.Goals as goal

pub returns : goal.returns
unfolding canon
returns c =
    let script = c.args.script.now in
    let first = string_bytes c.write_line.new.text in
    let second = string_bytes c.write_spaces.new.text in
    let third = string_bytes c.write_ranks.new.text in
    let spaces = subst (λ (xs : List ℕ). second ≡ first ++ space_lines 0 xs) c.as_slice.ensures
    c.in_ok-write_spaces.ensures in
    let ranks = subst (λ (lists : List (List Call)). OnOk c.write_ranks.result (third ≡ second ++ rank_lines 0 lists))
    c.as_slice-2.ensures c.write_ranks.ensures in
    parts_written c.write_ranks.result (string_bytes c.args.text.now) _ (space_lines 0 script.spaces)
    (rank_lines 0 script.calls) first second third c.in_ok-write_line.ensures spaces ranks
