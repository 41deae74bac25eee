-- A rank that ends a call without an entry, or a call before its first entry, stays sound.
use Rattle.std.proofs.Common.{◌≡◌, ℕ, ◌+◌, Bool, false, List, [], ◌∷◌, ◌++◌, length, Option, sym, ◌∙◌, ap, subst, arith}
use Rattle.std.proofs.Common.{length-append}
use Rattle.std.specs.Prelude.{◌==◌}
use Rattle.std.specs.List.{count_by, flat_map}
use Rattle.std.proofs.lemmas.Grind.{flat_map-append}
use Rattle.std.proofs.lemmas.List.{append-nil}
use Rattle.rma_record.specs.declared.items.Item.{Item}
use Rattle.board_rules.specs.Entries.{creations}
use Rattle.lawful_runs.specs.Logs.{row_by}
use Rattle.lawful_runs.specs.Stages.{Stage, calls_at}
use Rattle.rank_rules.specs.declared.pending.PendingAccess.{PendingAccess}
use Rattle.rank_rules.specs.Epochs.{Epochs}
use Rattle.rank_rules.specs.Requests.{Requests}
use Rattle.step_laws.specs.Inside.{begun_names, names_so_far}
use Rattle.step_runs.specs.Agents.{Agent, next_call}
use Rattle.rank_engine.specs.RankStates.{RankState}
use Rattle.rank_engine.specs.Sound.{AreQueued, IsSound}

-- an item that is no entry adds no row
pub no_row : (stage : Stage) (rank : ℕ) (log after : List Item) (item : Item) → row_by stage.script rank item ≡ [] →
    after ≡ log ++ item ∷ [] →
    flat_map (row_by stage.script rank) after ≡ flat_map (row_by stage.script rank) log
no_row stage rank log after item none e =
    ap (flat_map (row_by stage.script rank)) e
    ∙ (flat_map-append (row_by stage.script rank) log (item ∷ [])
    ∙ (ap (λ rows. flat_map (row_by stage.script rank) log ++ (rows ++ [])) none
    ∙ append-nil (flat_map (row_by stage.script rank) log)))

-- no window is begun
pub none_begun : (stage : Stage) (agent : Agent) → agent.entered ≡ false →
    names_so_far stage agent ≡ agent.known.windows.created
none_begun stage agent new =
    ap (λ b. agent.known.windows.created ++ begun_names b (next_call stage agent)) new
    ∙ append-nil agent.known.windows.created

pub ended_sound : (s : RankState) (item : Item) (log : List Item) (epochs : List Epochs) (requests : Requests) (at : ℕ)
    (entered drawn : Bool) (draws : ℕ) (pending : List PendingAccess) (ended : Bool) (touched : List ℕ)
    (opened : Option ℕ) (free : ℕ) (home : List ℕ) →
    IsSound s → names_so_far s.stage s.agent ≡ s.agent.known.windows.created → entered ≡ false →
    row_by s.stage.script s.agent.rank item ≡ [] → log ≡ s.agent.log ++ item ∷ [] →
    AreQueued s.stage s.agent.rank pending touched opened →
    IsSound (record {
      stage = s.stage;
      agent = record {
        rank = s.agent.rank;
        log = log;
        known = record { windows = s.agent.known.windows; epochs = epochs; requests = requests };
        at = at;
        entered = entered;
        drawn = drawn;
        draws = draws;
        pending = pending;
        ended = ended;
      };
      touched = touched;
      opened = opened;
      free = free;
      home = home;
    })
ended_sound s item log epochs requests at entered drawn draws pending ended touched opened free home sound begun new none
    e waits = record {
      formed = sound.formed;
      layout = sound.layout;
      rank = sound.rank;
      windows = sound.windows;
      begun = λ is. absurd (cc (is, new));
      queue = waits;
      numbers = λ win. ap (λ rows. creations rows s.agent.rank win)
          (no_row s.stage s.agent.rank s.agent.log log item none e)
          ∙ (sound.numbers win
          ∙ ap (λ names. count_by (λ name. name == win) names) (begun ∙ sym (none_begun s.stage after new)));
    }
  where
    after : Agent
    after = record {
      rank = s.agent.rank;
      log = log;
      known = record { windows = s.agent.known.windows; epochs = epochs; requests = requests };
      at = at;
      entered = entered;
      drawn = drawn;
      draws = draws;
      pending = pending;
      ended = ended;
    }

-- with what is pending as it was
pub plain_sound : (s : RankState) (item : Item) (log : List Item) (epochs : List Epochs) (requests : Requests) (at : ℕ)
    (drawn : Bool) (draws : ℕ) (ended : Bool) (pending : List PendingAccess) (touched : List ℕ) (free : ℕ)
    (home : List ℕ) →
    IsSound s → s.agent.entered ≡ false → row_by s.stage.script s.agent.rank item ≡ [] →
    log ≡ s.agent.log ++ item ∷ [] → pending ≡ s.agent.pending → touched ≡ s.touched →
    IsSound (record {
      stage = s.stage;
      agent = record {
        rank = s.agent.rank;
        log = log;
        known = record { windows = s.agent.known.windows; epochs = epochs; requests = requests };
        at = at;
        entered = s.agent.entered;
        drawn = drawn;
        draws = draws;
        pending = pending;
        ended = ended;
      };
      touched = touched;
      opened = s.opened;
      free = free;
      home = home;
    })
plain_sound s item log epochs requests at drawn draws ended pending touched free home sound new none e waits touches =
    ended_sound s item log epochs requests at s.agent.entered drawn draws pending ended touched s.opened free home sound
    (none_begun s.stage s.agent new) new none e
    (subst (λ p. AreQueued s.stage s.agent.rank p touched s.opened) (sym waits)
    (subst (λ t. AreQueued s.stage s.agent.rank s.agent.pending t s.opened) (sym touches) sound.queue))

-- the number of items after one more
pub one_longer : (log after : List Item) (item : Item) (count : ℕ) → count ≡ length log → after ≡ log ++ item ∷ [] →
    count + 1 ≡ length after
one_longer log after item count e is =
    let long : length after ≡ length log + 1 = ap length is ∙ length-append log (item ∷ []) in omega arith
