use Rattle.run_report.proofs.Lines.{value_written}
use Rattle.run_report.proofs.calls.write_value.Goals as goal

pub returns : goal.returns
returns c =
    value_written _ _ _ _ c.args.rank c.args.call c.args.calls c.args.index c.args.access.now c.args.dtype
    c.args.items.now
    c.in_ok-write.ensures.bytes c.in_ok-write_numbers.ensures c.in_ok-push_str.ensures.bytes
