-- Both lists have the label of the first access.
use Rattle.access_sweeps.proofs.Partners.{labelled_stand}
use Rattle.access_sweeps.proofs.sweeps.Sweep.do_all_stand.Goals as goal

pub returns-then-have_label : goal.returns-then-have_label
returns-then-have_label c both =
    labelled_stand c.args.self.now c.label_of-label.result (c.have_label.ensures c.if-have_label.true)
    (c.have_label-then-have_label.ensures both)
