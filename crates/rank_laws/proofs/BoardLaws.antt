-- The board of an assembled run is lawful.
use Rattle.std.proofs.Common.{◌≡◌, ℕ, zero, suc, ◌<◌, Bool, true, false, cond, List, [], ◌∷◌, length, Option, Some}
use Rattle.std.proofs.Common.{None, refl, sym, ◌∙◌, ap, subst, arith}
use Rattle.std.specs.Prelude.{slice_get, nat_lt}
use Rattle.std.specs.List.{AllByRecursion, count_by, flat_map}
use Rattle.std.proofs.lemmas.Bool.{ltb-true, ltb-false}
use Rattle.std.proofs.lemmas.List.{length-map}
use Rattle.std.proofs.lemmas.List.Sums.{length-filter}
use Rattle.std.proofs.lemmas.Option.{slice_get_within}
use Rattle.list_laws.proofs.Lists.{get_or_there}
use Rattle.rma_types.specs.declared.schedules.Delay.{Delay}
use Rattle.rma_types.specs.declared.scripts.Script.{Script}
use Rattle.rma_record.specs.declared.items.Item.{Item}
use Rattle.rma_record.specs.declared.items.Item.TheVariants.{Entry}
use Rattle.rma_record.specs.declared.runs.Run.{Run}
use Rattle.board_rules.specs.Entries.{Row}
use Rattle.call_rules.specs.Pieces.{numbers_from}
use Rattle.lawful_runs.specs.BoardLaw.{HasEntries, HasLawfulLooks, AreAllowed}
use Rattle.lawful_runs.specs.Logs.{log_of, calls_of, named_items, is_named_entry_at, is_some_entry, row_of, entry_at}
use Rattle.lawful_runs.specs.Logs.{rows_of}
use Rattle.lawful_runs.specs.Stages.{stage_of}
use Rattle.rank_laws.proofs.BoardFits.{FitsBoard, IsOfCall, entries_for, nothing_fits}
use Rattle.rank_laws.proofs.BoardMoves.{FitsAt, fits_kept}
use Rattle.rank_laws.proofs.EntriesOfRun.{OneThere, none_in_logs, one_in_logs, amount_in_logs, row_there, rows_by_place}
use Rattle.rank_laws.proofs.EntriesOfRun.{call_of_row, allowed_by_owners, names_in_logs}
use Rattle.rank_laws.proofs.Inductions.{lived_holds, lived_rank}
use Rattle.rank_laws.proofs.Runs.{rank_there}
use Rattle.rank_laws.specs.Assembled.{IsAssembled}
use Rattle.rank_laws.specs.Fronts.{Put, rows_put}
use Rattle.rank_laws.specs.Lawful.{AssembledRunsHaveLawfulBoards}
use Rattle.step_runs.specs.Agents.{Agent}

-- the log of a rank fits all entries
pub fit_there : (script : Script) (delay : Delay) (seed : ℕ) (run : Run) (is : IsAssembled script delay seed run)
    (rank : ℕ) → rank < script.ranks →
    FitsBoard script.ranks (calls_of script rank) rank (rows_put is.puts) (log_of run rank)
fit_there script delay seed run is rank inside =
    let stage = stage_of script delay in
    let there = rank_there script delay seed run is rank inside in
    let kept = (lived_holds stage seed rank (FitsAt stage) (fits_kept stage)
    (nothing_fits script.ranks (calls_of script rank) rank) is.puts there.agent there.lived).0 in
    subst (FitsBoard script.ranks (calls_of script rank) rank (rows_put is.puts)) (sym there.log)
    (subst (λ r. FitsBoard script.ranks (calls_of script r) r (rows_put is.puts) there.agent.log)
    (lived_rank stage seed rank is.puts there.agent there.lived) kept)

-- ---- the logs of the run

pub logs_of_ranks : (script : Script) (delay : Delay) (seed : ℕ) (run : Run) → IsAssembled script delay seed run →
    length run.logs ≡ script.ranks
logs_of_ranks script delay seed run is = ap length is.logs ∙ length-map is.agents (λ (agent : Agent). agent.log)
    ∙ is.ranks

-- a log among those of the run is a rank's
fits_at : (script : Script) (delay : Delay) (seed : ℕ) (run : Run) (is : IsAssembled script delay seed run) (at : ℕ)
    (log : List Item) → slice_get run.logs at ≡ Some log →
    FitsBoard script.ranks (calls_of script at) at (rows_put is.puts) log
fits_at script delay seed run is at log e =
    let inside = slice_get_within run.logs at log e in
    let many = logs_of_ranks script delay seed run is in
    subst (FitsBoard script.ranks (calls_of script at) at (rows_put is.puts)) (get_or_there run.logs at log [] e)
    (fit_there script delay seed run is at (omega arith))

owners_of : (ranks : ℕ) (puts : List Put) → AllByRecursion (λ (put : Put). put.row.rank < ranks) puts →
    AllByRecursion (λ (row : Row). row.rank < ranks) (rows_put puts)
owners_of ranks [] h = tt
owners_of ranks (put ∷ puts) h = (h.0, owners_of ranks puts h.1)

owner_at : (ranks : ℕ) (rows : List Row) (at : ℕ) (row : Row) → AllByRecursion (λ (r : Row). r.rank < ranks) rows →
    slice_get rows at ≡ Some row → row.rank < ranks
owner_at ranks [] at row h e = absurd (cc e)
owner_at ranks (r ∷ rows) zero row h e = let same : r ≡ row = cc e in subst (λ (x : Row). x.rank < ranks) same h.0
owner_at ranks (r ∷ rows) (suc at) row h e = owner_at ranks rows at row h.1 e

some_there : {X : Type 0} (xs : List X) (at : ℕ) → at < length xs → slice_get xs at ≡ None → ⊥
some_there [] at h e = omega arith
some_there (x ∷ xs) zero h e = cc e
some_there (x ∷ xs) (suc at) h e = some_there xs at (omega arith) e

-- ---- entries

amount : (script : Script) (delay : Delay) (seed : ℕ) (run : Run) (is : IsAssembled script delay seed run) →
    count_by is_some_entry (named_items run) ≡ length (rows_put is.puts)
amount script delay seed run is =
    sym (length-filter is_some_entry (named_items run))
    ∙ amount_in_logs run.logs (rows_put is.puts)
    (subst (λ n. AllByRecursion (λ (row : Row). row.rank < n) (rows_put is.puts))
    (sym (logs_of_ranks script delay seed run is)) (owners_of script.ranks is.puts is.owners))
    (λ at log e. (fits_at script delay seed run is at log e).amount)

-- the one entry at a place that has a row
entry_there : (script : Script) (delay : Delay) (seed : ℕ) (run : Run) (is : IsAssembled script delay seed run)
    (place : ℕ) (row : Row) → slice_get (rows_put is.puts) place ≡ Some row →
    OneThere place (named_items run) (Entry row.number place row.step) row.rank
entry_there script delay seed run is place row e =
    let owner = owner_at script.ranks (rows_put is.puts) place row (owners_of script.ranks is.puts is.owners) e in
    let many = logs_of_ranks script delay seed run is in
    one_in_logs place 0 row run.logs (omega arith) (omega arith)
    (λ at log there. (fits_at script delay seed run is at log there).entries place ∙ ap (entries_for at place) e
    ∙ ap (λ n. entries_for n place (Some row)) (omega arith))

place_counted : (script : Script) (delay : Delay) (seed : ℕ) (run : Run) (is : IsAssembled script delay seed run)
    (place : ℕ) (o : Option Row) → slice_get (rows_put is.puts) place ≡ o →
    count_by (is_named_entry_at place) (named_items run) ≡ cond {A = ℕ} (nat_lt place (length (rows_put is.puts))) 1 0
place_counted script delay seed run is place None e =
    let none = none_in_logs place 0 run.logs
    (λ at log there. (fits_at script delay seed run is at log there).entries place ∙ ap (entries_for at place) e) in
    sym (length-filter (is_named_entry_at place) (named_items run)) ∙ ap length none
    ∙ beyond (nat_lt place (length (rows_put is.puts))) refl
  where
    beyond : (b : Bool) → nat_lt place (length (rows_put is.puts)) ≡ b → 0 ≡ cond {A = ℕ} b 1 0
    beyond true t = absurd (some_there (rows_put is.puts) place (ltb-true place (length (rows_put is.puts)) t) e)
    beyond false t = refl
place_counted script delay seed run is place (Some row) e =
    let there = entry_there script delay seed run is place row e in
    let inside = slice_get_within (rows_put is.puts) place row e in
    sym (length-filter (is_named_entry_at place) (named_items run)) ∙ ap length there.alone
    ∙ within (nat_lt place (length (rows_put is.puts))) refl inside
  where
    within : (b : Bool) → nat_lt place (length (rows_put is.puts)) ≡ b → place < length (rows_put is.puts) →
        1 ≡ cond {A = ℕ} b 1 0
    within true t less = refl
    within false t less = let past = ltb-false place (length (rows_put is.puts)) t in absurd (omega arith)

entries : (script : Script) (delay : Delay) (seed : ℕ) (run : Run) → IsAssembled script delay seed run →
    HasEntries script run
entries script delay seed run is = record {
  calls = names_in_logs script 0 run.logs
      (λ at log e. subst (λ n. AllByRecursion (IsOfCall (calls_of script n)) log) (omega arith)
      (fits_at script delay seed run is at log e).named);
  places = λ place. place_counted script delay seed run is place (slice_get (rows_put is.puts) place) refl
      ∙ ap (λ n. cond {A = ℕ} (nat_lt place n) 1 0) (sym (amount script delay seed run is));
}

-- the board's rows are those that were put
pub rows_are : (script : Script) (delay : Delay) (seed : ℕ) (run : Run) (is : IsAssembled script delay seed run) →
    rows_of script run ≡ rows_put is.puts
rows_are script delay seed run is =
    ap (λ n. flat_map (row_of script) (flat_map (entry_at (named_items run)) (numbers_from 0 n)))
    (amount script delay seed run is)
    ∙ rows_by_place script (named_items run) 0 (rows_put is.puts)
    (λ at row e.
    ap (λ n. flat_map (row_of script) (entry_at (named_items run) n)) (omega arith)
    ∙ row_there script (named_items run) at row (entry_there script delay seed run is at row e)
    (call_of_row script.ranks (calls_of script row.rank) row.rank [] (rows_put is.puts)
    (fit_there script delay seed run is row.rank (owner_at script.ranks (rows_put is.puts) at row
    (owners_of script.ranks is.puts is.owners) e)).allowed at row e refl))

-- ---- the law

pub board_is_lawful : AssembledRunsHaveLawfulBoards
board_is_lawful script delay seed run is = record {
  entries = entries script delay seed run is;
  allowed = subst (AreAllowed script.ranks []) (sym (rows_are script delay seed run is))
      (allowed_by_owners script [] (rows_put is.puts) (owners_of script.ranks is.puts is.owners)
      (λ rank inside. (fit_there script delay seed run is rank inside).allowed));
  looks = λ rank inside.
      let fits = fit_there script delay seed run is rank inside in
      subst (λ (rows : List Row). HasLawfulLooks script rows rank (log_of run rank))
      (sym (rows_are script delay seed run is))
      (record { looks = fits.looks; moments = fits.moments; within = fits.within });
}
