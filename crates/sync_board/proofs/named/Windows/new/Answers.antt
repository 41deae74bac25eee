use Rattle.sync_board.proofs.named.Windows.new.Goals as goal

pub returns : goal.returns
returns c = λ layout ranks entries none name. rw c.new.ensures.items (λ below. none name)
