-- A rank before its first call is sound.
use Rattle.std.proofs.Common.{◌≡◌, ℕ, ◌<◌, false, List, [], None, refl, sym, subst, arith}
use Rattle.std.specs.Prelude.{◌+◌, slice_index_or}
use Rattle.std.specs.List.{sum_by}
use Rattle.lawful_runs.specs.Logs.{calls_of}
use Rattle.rank_engine.specs.DataAnswers.{GivesRoom}
use Rattle.rank_engine.specs.Shares.{updates_ahead, updates_of}
use Rattle.rma_types.specs.declared.schedules.Delay.{Delay}
use Rattle.rma_types.specs.declared.scripts.Script.{Script}
use Rattle.call_rules.specs.WellFormed.{IsWellFormed}
use Rattle.step_laws.proofs.Memory.{space_has_memory}
use Rattle.rma_types.specs.declared.scripts.Layout.{Layout}
use Rattle.rma_record.specs.declared.items.Item.{Item}
use Rattle.call_rules.specs.Layout.{layout}
use Rattle.delivery_queue.specs.Queues.{Queue, no_accesses}
use Rattle.rank_rules.specs.Epochs.{Epochs, first_epochs}
use Rattle.rank_rules.specs.Windows.{RankWindows, no_windows}
use Rattle.step_runs.specs.Generator.{delivery_stream, first_state}
use Rattle.rank_engine.specs.RankStates.{new_state, state_of}
use Rattle.rank_engine.specs.Sound.{IsSound}

pub new_sound : (script : Script) (delay : Delay) (seed rank free : ℕ) (home : List ℕ) → IsWellFormed script →
    rank < script.ranks → IsSound (new_state script delay seed rank free home)
new_sound script delay seed rank free home formed inside = record {
  formed = formed;
  layout = refl;
  rank = inside;
  windows = record {
    whose = refl;
    ranks = refl;
    space = space_has_memory script rank (subst (λ n. rank < n) (sym formed.spaces) inside)
        (subst (λ n. rank < n) (sym formed.lists) inside);
    roomy = record { windows = tt; ranges = tt };
  };
  begun = λ e. absurd (cc e);
  queue = record { each = tt; first = tt; untouched = tt; alone = λ _. refl };
  numbers = λ win. refl;
}

-- so many updates are ahead of it
pub gives_room : (script : Script) (rank share : ℕ) → share ≡ sum_by updates_of (calls_of script rank) →
    GivesRoom script rank share
gives_room script rank share all delay seed free home face cells enough = record {
  cells = cells;
  share = let ahead : updates_ahead (new_state script delay seed rank free home)
      ≡ sum_by updates_of (calls_of script rank) + 0 = refl in omega arith;
}

-- what code begins with
pub new_is : (script : Script) (memory : Layout) (delay : Delay) (rank : ℕ) (log : List Item) (windows : RankWindows)
    (epochs : List Epochs) (queue : Queue) (draws seed free : ℕ) (home : List ℕ) →
    memory ≡ layout script → log ≡ [] →
    windows ≡ no_windows rank script.ranks (slice_index_or script.spaces rank 0) → epochs ≡ first_epochs →
    queue ≡ no_accesses → draws ≡ first_state seed (delivery_stream rank) →
    state_of script memory delay rank log windows epochs queue 0 false false draws false None free home ≡
    new_state script delay seed rank free home
new_is script memory delay rank log windows epochs queue draws seed free home l g w e q d =
    rw l (rw g (rw w (rw e (rw q (rw d refl)))))
