-- Each clause follows from how the call ends.
use Rattle.std.proofs.Common.{◌≡◌, arith}
use Rattle.rma_program.proofs.Ending as ending
use Rattle.rma_program.proofs.Points as points
use Rattle.rma_program.proofs.tops.step_main.Goals as goal

pub returns : goal.returns
returns g c =
    let options = c.args.options.now in
    let lb = g.S.Source.left c.args.source.now in
    let la = g.S.Source.left c.answer.new.source in
    let before = g.K.Sink.written c.args.sink.now in
    let after = g.K.Sink.written c.answer.new.sink in
    let outcome = c.answer.result in
    let case = ending.case_of options lb la before after outcome c.answer.ensures.ends in
    let read_fault = λ (e : outcome.status ≡ 4). ending.rises (g.S.Source.faults c.args.source.now)
    (g.S.Source.faults c.answer.new.source) c.requires.source_count (c.answer.ensures.read_failed e) in
    let write_fault = λ (e : outcome.status ≡ 5). ending.rises (g.K.Sink.faults c.args.sink.now)
    (g.K.Sink.faults c.answer.new.sink) c.requires.sink_count (c.answer.ensures.write_failed e) in
    record {
      reported = ending.reported options lb la before after outcome case;
      handed = ending.handed options lb la before after outcome case;
      updates_stand_once = points.updates_stand_once options lb la before after outcome case;
      touches_read_states = points.touches_read_states options lb la before after outcome case;
      refused_by_class = points.refused_by_class options lb la before after outcome case;
      refusals_change_nothing = points.refusals_change_nothing c.refused_calls_change_nothing.ensures options lb la
          before after outcome case;
      findings_printed = points.findings_printed options lb la before after outcome case;
      reads_ordered = points.reads_ordered options lb la before after outcome case;
      refused = ending.refused options lb la before after outcome case;
      unread = ending.unread options lb la before after outcome case;
      cut = ending.cut options lb la before after outcome case;
      no_memory = ending.no_memory options lb la before after outcome case;
      statuses = ending.statuses options lb la before after outcome case;
      read_fault = read_fault;
      no_read_fault = c.answer.ensures.no_read_fault;
      write_fault = write_fault;
      no_write_fault = c.answer.ensures.no_write_fault;
      no_late_read = c.answer.ensures.no_late_read;
      complete = λ text script is told same_source same_sink. ending.complete options lb la before after outcome case
          text script is told
          (λ e. let rise = read_fault e in omega arith) (λ e. let rise = write_fault e in omega arith);
      refuses = λ text none told same_source same_sink. ending.refuses options lb la before after outcome case text none
          told
          (λ e. let rise = read_fault e in omega arith) (λ e. let rise = write_fault e in omega arith);
    }
