use Rattle.script_reader.proofs.Adding.{ranks_ok}
use Rattle.script_reader.proofs.readers.Reader.add_ranks.Goals as goal

pub returns-clause-draft : goal.returns-clause-draft
returns-clause-draft c =
    (ranks_ok c.args.self.now.draft c.args.fields c.in_ok-spaces.spaces c.in_ok-lists.lists c.in_ok-spaces.ensures
    c.in_ok-lists.ensures).0

pub returns-clause-totals : goal.returns-clause-totals
returns-clause-totals c =
    (ranks_ok c.args.self.now.draft c.args.fields c.in_ok-spaces.spaces c.in_ok-lists.lists c.in_ok-spaces.ensures
    c.in_ok-lists.ensures).1
