-- A call that the rank does not refuse for its arguments or its epochs.
use Rattle.std.specs.Prelude.{ℕ, ◌≡◌, ◌≤◌, List, None}
use Rattle.rma_types.specs.declared.actions.Action.{Action}
use Rattle.rank_rules.specs.Epochs.{Epochs}
use Rattle.rank_rules.specs.EpochTests.{epoch_class}

-- the tests of a call in a run of at most 16 ranks give none
pub record IsAccepted (epochs : List Epochs) (action : Action) : Type 0 where
  pub ranks : ℕ
  pub few : ranks ≤ 16
  pub passes : epoch_class ranks epochs action ≡ None
