-- A run that has ended is assembled: so it is lawful, and its touches keep its order.
use Rattle.std.proofs.Common.{◌≡◌, ℕ, zero, suc, ◌+◌, ◌<◌, Bool, List, [], ◌∷◌, length, map}
use Rattle.std.proofs.Common.{get_or, Some, refl, sym, ◌∙◌, ap, subst, arith}
use Rattle.std.specs.Prelude.{slice_get, sum_by}
use Rattle.std.specs.List.{count_by, flat_map, AllByRecursion}
use Rattle.list_laws.proofs.Each.{each_append, each_weaker}
use Rattle.list_laws.proofs.Lists.{some_within}
use Rattle.rma_types.specs.declared.schedules.Delay.{Delay}
use Rattle.rma_types.specs.declared.scripts.Script.{Script}
use Rattle.rma_record.specs.declared.items.Item.{Item}
use Rattle.rma_record.specs.declared.runs.Run.{Run}
use Rattle.call_rules.specs.Layout.{layout, cells_of}
use Rattle.call_rules.specs.Pieces.{numbers_from}
use Rattle.cell_face.specs.Faces.{Update}
use Rattle.cell_words.specs.Histories.{IsState, IsUpdate, cell_bits}
use Rattle.kept_rows.specs.Gifts.{Given}
use Rattle.lawful_runs.specs.Accesses.{Touching, touches_among, touches_of, all_touches}
use Rattle.lawful_runs.specs.Logs.{calls_of, log_of, named_in}
use Rattle.lawful_runs.specs.Stages.{stage_of}
use Rattle.rank_laws.specs.Assembled.{IsAssembled}
use Rattle.rank_laws.specs.Fronts.{Put}
use Rattle.step_histories.specs.LogTouches.{touches_at}
use Rattle.step_runs.specs.Agents.{Agent}
use Rattle.rank_histories.proofs.Closing.{counted_all, history_of, updates_all}
use Rattle.rank_histories.proofs.Restored.{IsOfScript, OwnIsOfScript, lived_own, lived_whole, whole_puts}
use Rattle.rank_histories.specs.Ends.{HasEnded, EndedRunsAreAssembled}
use Rattle.rank_histories.specs.Recorded.{IsFound, updates_by}

-- ---- lists

mapped_is : {X Y : Type 0} (f : X → Y) (xs : List X) (at : ℕ) (x : X) (other : Y) → slice_get xs at ≡ Some x →
    get_or (map f xs) at other ≡ f x
mapped_is f [] at x other e = absurd (cc e)
mapped_is f (y ∷ xs) zero x other e = let same : y ≡ x = cc e in ap f same
mapped_is f (y ∷ xs) (suc at) x other e = mapped_is f xs at x other e

-- a list is told by its elements
list_of : {X : Type 0} (f : ℕ → X) (xs : List X) (first : ℕ) →
    ((at : ℕ) → at < length xs → slice_get xs at ≡ Some (f (first + at))) → xs ≡ map f (numbers_from first (length xs))
list_of f [] first each = refl
list_of f (x ∷ xs) first each =
    let zeroth : first + 0 ≡ first = omega arith in
    let front : Some x ≡ Some (f (first + 0)) = each 0 (omega arith) in
    let here : x ≡ f first = (let is : x ≡ f (first + 0) = cc front in is) ∙ ap f zeroth in
    let rest = list_of f xs (first + 1) (λ at below.
    (let more : first + suc at ≡ first + 1 + at = omega arith in
    each (suc at) (omega (arith, below)) ∙ ap (λ n. Some (f n)) more)) in
    λ i. here i ∷ rest i

each_joined : {X : Type 0} (P : X → Type 0) (f : ℕ → List X) (first count : ℕ) →
    ((n : ℕ) → n < first + count → AllByRecursion P (f n)) →
    AllByRecursion P (flat_map f (numbers_from first count))
each_joined P f first zero each = tt
each_joined P f first (suc count) each = each_append P (f first) (flat_map f (numbers_from (first + 1) count))
    (each first (omega arith)) (each_joined P f (first + 1) count (λ n below. each n (omega (arith, below))))

-- ---- the run

module _ (script : Script) (delay : Delay) (seed : ℕ) (run : Run)
    (is : HasEnded script delay seed run) where
  abbrev cells : ℕ
  cells = cells_of (layout script)

  there : (rank : ℕ) → rank < script.ranks → (agent : Agent) × (slice_get is.agents rank ≡ Some agent)
  there rank below = some_within is.agents rank (subst (λ n. rank < n) (sym is.ranks) below)

  -- each entry is one of its rank, and so of the script
  of_script : AllByRecursion (IsOfScript (stage_of script delay)) is.entries
  of_script = each_own is.entries is.owners (λ rank below.
      (let agent = there rank below in lived_own (stage_of script delay) seed rank is.entries agent.0
      (is.lives rank agent.0 agent.1)))
    where
      each_own : (entries : List Given) → AllByRecursion (λ (one : Given). one.row.rank < script.ranks) entries →
          ((rank : ℕ) → rank < script.ranks → AllByRecursion (OwnIsOfScript (stage_of script delay) rank) entries) →
          AllByRecursion (IsOfScript (stage_of script delay)) entries
      each_own [] owners own = tt
      each_own (one ∷ entries) owners own = (
        (own one.row.rank owners.0).0 refl,
        each_own entries owners.1 (λ rank below. (own rank below).1),
      )

  owned : (entries : List Given) → AllByRecursion (λ (one : Given). one.row.rank < script.ranks) entries →
      AllByRecursion (λ (put : Put). put.row.rank < script.ranks) (whole_puts (stage_of script delay) entries)
  owned [] owners = tt
  owned (one ∷ entries) owners = (owners.0, owned entries owners.1)

  -- the touches of a rank are those of its agent
  touches_are : (rank : ℕ) (agent : Agent) → slice_get is.agents rank ≡ Some agent →
      touches_of script run rank ≡ touches_at (stage_of script delay) rank agent
  touches_are rank agent at =
      let log : log_of run rank ≡ agent.log =
      ap (λ (logs : List (List Item)). get_or logs rank []) is.logs
      ∙ mapped_is (λ (a : Agent). a.log) is.agents rank agent [] at in
      ap (λ (l : List Item). touches_among (layout script) (calls_of script rank) l (named_in rank l)) log

  made_are : is.made ≡ map (λ rank. updates_by (touches_of script run rank)) (numbers_from 0 script.ranks)
  made_are =
      list_of (λ rank. updates_by (touches_of script run rank)) is.made 0 (λ rank below.
      (let inside : rank < script.ranks = subst (λ n. rank < n) is.count below in
      let agent = there rank inside in
      let zeroth : rank ≡ 0 + rank = omega arith in
      is.updates rank agent.0 agent.1
      ∙ ap (λ (l : List Touching). Some (updates_by l)) (sym (touches_are rank agent.0 agent.1))
      ∙ ap (λ n. Some (updates_by (touches_of script run n))) zeroth))
      ∙ ap (λ n. map (λ rank. updates_by (touches_of script run rank)) (numbers_from 0 n)) is.count

  founds : AllByRecursion (IsFound cells (IsState is.closed.init is.closed.left)) (all_touches script run)
  founds = each_joined (IsFound cells (IsState is.closed.init is.closed.left)) (touches_of script run) 0 script.ranks
      (λ rank below. (let inside : rank < script.ranks = omega (arith, below) in
      let agent = there rank inside in
      subst (AllByRecursion (IsFound cells (IsState is.closed.init is.closed.left)))
      (sym (touches_are rank agent.0 agent.1))
      (is.touches rank agent.0 agent.1)))

  updates : AllByRecursion (IsUpdate is.closed.init is.closed.left) (updates_by (all_touches script run))
  updates = updates_all (IsUpdate is.closed.init is.closed.left) (touches_of script run) 0 script.ranks
      (subst (AllByRecursion (λ (us : List Update). AllByRecursion (IsUpdate is.closed.init is.closed.left) us))
      made_are is.closed.updates)

  sums : (counts : Update → Bool) → count_by counts (updates_by (all_touches script run))
      ≡ sum_by (λ (us : List Update). count_by counts us) is.made
  sums counts = counted_all counts (touches_of script run) 0 script.ranks
      ∙ ap (sum_by (λ (us : List Update). count_by counts us)) (sym made_are)

  pub assembly : IsAssembled script delay seed run
  assembly = record {
    puts = whole_puts (stage_of script delay) is.entries;
    agents = is.agents;
    ranks = is.ranks;
    owners = owned is.entries is.owners;
    lives = λ rank agent at. lived_whole (stage_of script delay) seed rank is.entries agent of_script
        (is.lives rank agent at);
    logs = is.logs;
    ended = is.ended;
    memory = is.closed.count;
    inside = each_weaker (IsFound cells (IsState is.closed.init is.closed.left))
        (λ (touch : Touching). touch.cell < cells_of (layout script)) (λ touch one. one.0) (all_touches script run)
        founds;
    values = λ cell. cell_bits is.closed.init is.closed.left cell;
    histories = λ cell below. history_of (cells_of (layout script)) run.memory is.made (all_touches script run)
        is.closed sums updates founds cell below;
  }

pub ended_is_assembled : EndedRunsAreAssembled
ended_is_assembled script delay seed run is = assembly script delay seed run is
