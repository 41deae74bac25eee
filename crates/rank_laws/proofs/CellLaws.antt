-- The cells of an assembled run are lawful.
use Rattle.std.proofs.Common.{◌≡◌, ℕ, zero, suc, ◌<◌, ◌≤◌, inl, inr, Bool, true, false, cond, List, [], ◌∷◌, length}
use Rattle.std.proofs.Common.{Option, Some, None, refl, sym, ◌∙◌, ap, subst, arith, append-nil}
use Rattle.std.specs.Prelude.{nat_lt, map}
use Rattle.std.specs.List.{AllByRecursion, filter, find, count_by}
use Rattle.std.specs.Option.{option_map_or}
use Rattle.std.proofs.lemmas.Bool.{ltb-false}
use Rattle.std.proofs.lemmas.Bool.Decides.{eqb_tells}
use Rattle.std.proofs.lemmas.List.Sums.{length-filter}
use Rattle.list_laws.proofs.Each.{each_kept, found_has, each_weaker, each_with}
use Rattle.rma_types.specs.declared.schedules.Delay.{Delay}
use Rattle.rma_types.specs.declared.scripts.Script.{Script}
use Rattle.rma_record.specs.declared.items.Item.{Item}
use Rattle.rma_record.specs.declared.runs.Run.{Run}
use Rattle.call_rules.specs.Pieces.{numbers_from}
use Rattle.lawful_runs.specs.Accesses.{Touching, EachPair, touches_of, touches_among, on_cell, updates_in, is_update}
use Rattle.lawful_runs.specs.Accesses.{all_touches}
use Rattle.lawful_runs.specs.Cells.{IsHistory, ReadsState, KeepsOrder, state, bits_after, has_place}
use Rattle.lawful_runs.specs.Logs.{named_in}
use Rattle.lawful_runs.specs.Stages.{stage_of, calls_at}
use Rattle.rank_laws.proofs.CellOrder.{KeepsOnCell, AreInOrder, SeenInOrder, KeepsOrderOfCells, order_kept}
use Rattle.rank_laws.proofs.Inductions.{lived_holds, lived_rank}
use Rattle.rank_laws.proofs.Runs.{rank_there, each_number, each_image}
use Rattle.rank_laws.proofs.TouchLaws.{new_touches}
use Rattle.rank_laws.specs.Assembled.{IsAssembled}
use Rattle.rank_laws.specs.CellHistories.{IsHistoryOf, ReadsValue, LeavesNext}
use Rattle.rank_laws.specs.Lawful.{AssembledRunsHaveLawfulCells}

-- ---- lists

-- where nothing is found nothing passes
nothing_found : {X : Type 0} (test : X → Bool) (xs : List X) → find test xs ≡ None → filter test xs ≡ []
nothing_found test [] e = refl
nothing_found {X} test (y ∷ ys) e =
    elim (test y) as (λ b. cond b (Some y) (find test ys) ≡ None →
    cond b (y ∷ filter test ys) (filter test ys) ≡ []) [
      | true ↦ λ k. absurd (cc k)
      | false ↦ λ k. nothing_found test ys k
    ] e

-- ---- the order on a cell

each_there : (cell : ℕ) (a : Touching) (touches : List Touching) → a.cell ≡ cell →
    AllByRecursion (KeepsOnCell a) touches → AllByRecursion (KeepsOrder a) (on_cell cell touches)
each_there cell a [] e h = tt
each_there cell a (b ∷ rest) e h = elim (eqb_tells b.cell cell) [
  | inl same ↦ rw same.0 (h.0 (e ∙ sym same.1), each_there cell a rest e h.1)
  | inr other ↦ rw other.0 (each_there cell a rest e h.1)
]

pairs_there : (cell : ℕ) (touches : List Touching) → EachPair KeepsOnCell touches →
    EachPair KeepsOrder (on_cell cell touches)
pairs_there cell [] h = tt
pairs_there cell (a ∷ rest) h = elim (eqb_tells a.cell cell) [
  | inl same ↦ rw same.0 (each_there cell a rest same.1 h.0, pairs_there cell rest h.1)
  | inr other ↦ rw other.0 (pairs_there cell rest h.1)
]

-- the touches of a rank keep the order of each cell
rank_in_order : (script : Script) (delay : Delay) (seed : ℕ) (run : Run) (is : IsAssembled script delay seed run)
    (cell rank : ℕ) → rank < script.ranks → EachPair KeepsOrder (on_cell cell (touches_of script run rank))
rank_in_order script delay seed run is cell rank inside =
    let stage = stage_of script delay in
    let there = rank_there script delay seed run is rank inside in
    let mine = lived_rank stage seed rank is.puts there.agent there.lived in
    let kept = (lived_holds stage seed rank (KeepsOrderOfCells stage) (order_kept stage)
    (record { touches = new_touches stage seed rank; seen = λ name more. record { order = tt; passed = tt } }) is.puts
    there.agent there.lived).0 in
    let seen : SeenInOrder stage rank rank there.agent.log there.lived.last = subst
    (λ r. SeenInOrder stage r rank there.agent.log there.lived.last) mine (kept.seen rank) in
    let last : AreInOrder there.lived.last (touches_among stage.layout (calls_at stage rank) there.agent.log
    (named_in rank there.agent.log)) =
    subst (λ (log : List Item). AreInOrder there.lived.last (touches_among stage.layout (calls_at stage rank) log
    (named_in rank there.agent.log))) (append-nil there.agent.log) (seen []) in
    subst (λ (log : List Item). EachPair KeepsOrder (on_cell cell
    (touches_among stage.layout (calls_at stage rank) log (named_in rank log)))) (sym there.log)
    (pairs_there cell _ last.order)

-- ---- the states of a cell

-- the state after some updates is the value in the history
state_is : (values : ℕ → ℕ) (touches : List Touching) (final : ℕ) → IsHistoryOf values touches final → (k : ℕ) →
    k ≤ length (updates_in touches) → state (updates_in touches) k ≡ values k
state_is values touches final history zero h = sym history.first
state_is values touches final history (suc k) h =
    elim (find (has_place k) updates) as (λ (o : Option Touching). find (has_place k) updates ≡ o →
    option_map_or (λ (update : Touching). bits_after (state updates k) update.change) o (state updates k) ≡ values
    (suc k)) [
      | None ↦ λ e. let none = sym (length-filter (has_place k) updates)
          ∙ ap length (nothing_found (has_place k) updates e) in absurd (cc (sym none ∙ one))
      | Some update ↦ λ e.
          let both : AllByRecursion (λ (u : Touching). LeavesNext values u × ReadsValue values
          (length updates) u) updates =
          each_with (LeavesNext values) (ReadsValue values (length updates))
          (λ (u : Touching). LeavesNext values u × ReadsValue values (length updates) u)
          (λ u a b. (a, b)) updates history.changes
          (each_kept (ReadsValue values (length updates)) is_update touches history.reads) in
          let found = found_has (λ (u : Touching). LeavesNext values u × ReadsValue values (length updates) u)
          (has_place k) updates update both e in
          let at = place_is update found.1 in
          let old = state_is values touches final history k (omega arith) in
          let read : update.bits ≡ values k = found.0.1.reads ∙ ap values at in
          ap (λ bits. bits_after bits update.change) (old ∙ sym read) ∙ sym found.0.0 ∙ ap (λ n. values (suc n)) at
    ] refl
  where
    updates : List Touching
    updates = updates_in touches

    within : (b : Bool) → nat_lt k (length updates) ≡ b → cond {A = ℕ} b 1 0 ≡ 1
    within true e = refl
    within false e = let past = ltb-false k (length updates) e in absurd (omega arith)

    one : count_by (has_place k) updates ≡ 1
    one = history.places k ∙ within (nat_lt k (length updates)) refl

    place_is : (update : Touching) → has_place k update ≡ true → update.place ≡ k
    place_is update e = elim (eqb_tells update.place k) [ inl same ↦ same.1 | inr not ↦ absurd (cc (sym not.0 ∙ e)) ]

-- the history of a cell of an assembled run
cell_history : (script : Script) (delay : Delay) (seed : ℕ) (run : Run) (is : IsAssembled script delay seed run)
    (cell : ℕ) (final : ℕ) →
    IsHistoryOf (is.values cell) (on_cell cell (all_touches script run)) final →
    IsHistory (on_cell cell (all_touches script run)) (map (λ rank. on_cell cell (touches_of script run rank))
    (numbers_from 0 script.ranks)) final
cell_history script delay seed run is cell final history =
    let touches = on_cell cell (all_touches script run) in
    record {
      places = history.places;
      states = each_weaker (ReadsValue (is.values cell) (length (updates_in touches)))
          (ReadsState (updates_in touches))
          (λ touch reads. record {
            within = reads.within;
            reads = reads.reads
                ∙ sym (state_is (is.values cell) touches final history touch.place reads.within);
          }) touches
          history.reads;
      last = history.last ∙ sym (state_is (is.values cell) touches final history (length (updates_in touches))
          (omega arith));
      order = each_image (EachPair KeepsOrder) (λ rank. on_cell cell (touches_of script run rank))
          (numbers_from 0 script.ranks)
          (each_number (λ rank. EachPair KeepsOrder (on_cell cell (touches_of script run rank))) script.ranks
          (rank_in_order script delay seed run is cell));
    }

pub cells_are_lawful : AssembledRunsHaveLawfulCells
cells_are_lawful script delay seed run is = record {
  memory = is.memory;
  inside = is.inside;
  histories = λ cell inside. cell_history script delay seed run is cell _ (is.histories cell inside);
}
