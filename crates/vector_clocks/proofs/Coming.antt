-- Each entry of a lawful run may come next.
use Rattle.std.proofs.Common.{◌≡◌, ℕ, zero, suc, ◌+◌, ◌<◌, ◌≤◌, false, List, [], ◌∷◌, length, Some, None, refl, sym}
use Rattle.std.proofs.Common.{subst, ap, ◌∙◌, arith}
use Rattle.std.specs.Prelude.{map, not, slice_get, slice_index_or}
use Rattle.std.specs.List.{AllByRecursion}
use Rattle.std.specs.Option.{option_map_or}
use Rattle.std.proofs.lemmas.List.{length-map}
use Rattle.std.proofs.lemmas.Option.{slice_get_within}
use Rattle.list_laws.proofs.Members.{each_in, from_in, In, in_filter}
use Rattle.rma_types.specs.declared.calls.Call.{Call}
use Rattle.rma_types.specs.declared.schedules.Delay.TheVariants.{Seeded}
use Rattle.rma_types.specs.declared.scripts.Script.{Script}
use Rattle.rma_record.specs.declared.items.Item.TheVariants.{Entry}
use Rattle.rma_record.specs.declared.runs.Run.{Run}
use Rattle.rma_types.specs.Actions.{action_of, synchronisation_in, synchronisation_of}
use Rattle.call_rules.specs.WellFormed.{IsWellFormed, IsWrittenCall}
use Rattle.rank_rules.specs.EpochTests.{names_wrong_rank}
use Rattle.rank_rules.specs.Knowledge.{own_class}
use Rattle.rank_rules.proofs.KnowledgeLaws.{epochs_allow}
use Rattle.lawful_runs.proofs.LogLaws.{IsEntryOf}
use Rattle.kept_rows.specs.Gifts.{Given}
use Rattle.entry_gains.specs.ByPlace.{IsComing}
use Rattle.lawful_runs.specs.CallItems.{other_items}
use Rattle.lawful_runs.specs.Items.{is_touch}
use Rattle.lawful_runs.specs.LawfulRun.{IsLawful, rank_in}
use Rattle.lawful_runs.specs.Logs.{calls_of, entries_of, log_of}
use Rattle.lawful_runs.specs.Stages.{known_at}
use Rattle.order_laws.proofs.Events.{entries_placed, get_in}
use Rattle.rank_records.specs.Kept.{IsRecorded}
use Rattle.rank_records.specs.declared.kept.RunRecord.{RunRecord}
use Rattle.vector_clocks.specs.Places.{placed_item}
use Rattle.vector_clocks.specs.Rows.{row_placed}
use Rattle.vector_clocks.specs.declared.places.Placed.{Placed}
use Rattle.vector_clocks.proofs.Asks.{names_ranks, ranks_stay}
use Rattle.vector_clocks.proofs.FewEntries.{entries_few}
use Rattle.vector_clocks.proofs.Judged.{each_judged}
use Rattle.vector_clocks.proofs.Placings.{entry_at_place}

at_index : {X : Type 0} (P : X → Type 0) (xs : List X) (k : ℕ) (d : X) → AllByRecursion P xs → P d →
    P (slice_index_or xs k d)
at_index P [] k d all other = other
at_index P (x ∷ xs) zero d all other = all.0
at_index P (x ∷ xs) (suc k) d all other = at_index P xs k d all.1 other

-- of an entry of the run
module _ (script : Script) (run : Run) (formed : IsWellFormed script) (lawful : IsLawful script Seeded run)
    (one : Placed) (member : In (placed_item one) (entries_of run)) where
  entry : (k : ℕ) × IsEntryOf script run k (placed_item one)
  entry =
      let at = from_in (IsEntryOf script run) 0 (entries_of run)
      (entries_placed script run lawful.ranks lawful.board.entries) member in
      (0 + at.0, at.1)

  rank_within : one.id.rank < script.ranks
  rank_within = entry.1.within

  number_is : entry.1.number ≡ one.call
  number_is = let is = entry.1.is in sym (cc is)

  call_there : slice_get (calls_of script one.id.rank) one.call ≡ Some entry.1.call
  call_there = ap (slice_get (calls_of script one.id.rank)) (sym number_is) ∙ entry.1.of_rank

  number_within : one.call < length (calls_of script one.id.rank)
  number_within = slice_get_within (calls_of script one.id.rank) one.call entry.1.call call_there

  named_right : (call : Call) → slice_get (calls_of script one.id.rank) one.call ≡ Some call →
      option_map_or (names_wrong_rank script.ranks) (synchronisation_of call) false ≡ false
  named_right call got =
      let whole : In (Entry one.call one.place one.step) (log_of run one.id.rank) = get_in
      (log_of run one.id.rank) one.id.index (Entry one.call one.place one.step) entry.1.logged in
      let untouched : In (Entry one.call one.place one.step) (other_items (log_of run one.id.rank)) =
      in_filter (λ item. not (is_touch item)) whole refl in
      let judged = each_judged (rank_in script Seeded run one.id.rank) (other_items (log_of run one.id.rank))
      (lawful.logs one.id.rank entry.1.within).calls one.call one.place one.step untouched in
      let known = known_at (rank_in script Seeded run one.id.rank) judged.before in
      let same : judged.call ≡ call = same_call judged.call (sym judged.of_rank ∙ got) in
      let own : own_class (known_at (rank_in script Seeded run one.id.rank) judged.before) call ≡ None =
      subst (λ k. own_class (known_at (rank_in script Seeded run one.id.rank) judged.before) k ≡ None) same judged.own
      in
      subst (λ ranks. option_map_or (names_wrong_rank ranks) (synchronisation_in (action_of call)) false ≡ false)
      (ranks_stay (rank_in script Seeded run one.id.rank) judged.before)
      (names_ranks (known_at (rank_in script Seeded run one.id.rank) judged.before).windows.ranks
      (known_at (rank_in script Seeded run one.id.rank) judged.before).epochs (action_of call)
      (epochs_allow (known_at (rank_in script Seeded run one.id.rank) judged.before) call own))
    where
      same_call : (other : Call) → Some other ≡ Some call → other ≡ call
      same_call other e = cc e

-- a call of a rank is one that a line can say
pub written_call : (script : Script) → IsWellFormed script → (rank number : ℕ) (call : Call) →
    slice_get (calls_of script rank) number ≡ Some call → IsWrittenCall call
written_call script formed rank number call got =
    each_in IsWrittenCall (calls_of script rank)
    (at_index (AllByRecursion IsWrittenCall) script.calls rank [] formed.calls tt)
    (get_in (calls_of script rank) number call got)

-- of the entry at a place
module _ (recorded : RunRecord) (is : IsRecorded recorded) (order : List Placed)
    (placed : map placed_item order ≡ entries_of recorded.run.now) (k : ℕ) (d : Placed) (within : k < length order)
  where
    member_at : In (placed_item (slice_index_or order k d)) (entries_of recorded.run.now)
    member_at = get_in (entries_of recorded.run.now) k (placed_item (slice_index_or order k d))
        (entry_at_place recorded.run.now order placed k d within)

    pub rank_at : (slice_index_or order k d).id.rank < 16
    rank_at =
        let below = rank_within recorded.script.now recorded.run.now is.formed is.lawful (slice_index_or order k d)
        member_at in
        let few = is.formed.few_ranks in
        omega (arith, below, few)

    pub number_at : (slice_index_or order k d).call
        < length (calls_of recorded.script.now (slice_index_or order k d).id.rank)
    number_at = number_within recorded.script.now recorded.run.now is.formed is.lawful (slice_index_or order k d)
        member_at

    pub coming_at : (call : Call) →
        slice_get (calls_of recorded.script.now (slice_index_or order k d).id.rank) (slice_index_or order k d).call
        ≡ Some call → (entries : List Given) → length entries ≡ k →
        IsComing recorded.script.now.ranks entries (row_placed (slice_index_or order k d) call)
    coming_at call got entries long = record {
      rank = rank_within recorded.script.now recorded.run.now is.formed is.lawful (slice_index_or order k d) member_at;
      named = named_right recorded.script.now recorded.run.now is.formed is.lawful (slice_index_or order k d) member_at
          call got;
      short =
          let all = length-map order placed_item in
          let few = entries_few recorded.script.now recorded.run.now is.formed is.lawful in
          let same : length (map placed_item order) ≡ length (entries_of recorded.run.now) = ap length placed in
          omega (arith, all, few, same, long, within);
    }
