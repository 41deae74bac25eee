-- An accepted synchronisation names no wrong rank.
use Rattle.std.proofs.Common.{◌∙◌, sym, subst}
use Rattle.rma_types.specs.declared.actions.Action.{Action}
use Rattle.rank_epochs.specs.Accepted.{IsAccepted}
use Rattle.rank_epochs.proofs.AcceptedGroups.{ranks_of_accepted}
use Rattle.rank_epochs.proofs.state.EpochState.after.Goals as goal

pub synchronise-requires-clause-ranks : goal.synchronise-requires-clause-ranks
synchronise-requires-clause-ranks c =
    ranks_of_accepted c.args.self.now c.in-Synchronises.win c.in-Synchronises.synchronisation
    (subst (λ (action : Action). IsAccepted c.args.self.now action) (sym c.action.ensures ∙ c.in-Synchronises.is)
    c.requires.accepted)
