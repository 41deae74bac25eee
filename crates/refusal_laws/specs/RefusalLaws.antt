-- Laws of refused calls: MPI 3.1, sections 8.4, 11.5 and 11.6, in this project's profile.
use Rattle.std.specs.Prelude.{ℕ, zero, suc, ◌≡◌, ◌<◌, Contains, List, [], ◌∷◌, ◌++◌, take, slice_get, Some, None}
use Rattle.std.specs.List.{filter}
use Rattle.rma_types.specs.declared.calls.Call.{Call}
use Rattle.rma_types.specs.declared.classes.Class.{Class}
use Rattle.rma_types.specs.declared.schedules.Delay.{Delay}
use Rattle.rma_types.specs.declared.scripts.Script.{Script}
use Rattle.rma_record.specs.declared.items.Item.{Item}
use Rattle.rma_record.specs.declared.items.Item.TheVariants.{Refused}
use Rattle.rma_record.specs.declared.runs.Run.{Run}
use Rattle.rank_rules.specs.Knowledge.{own_class}
use Rattle.board_rules.specs.Board.{shared_class}
use Rattle.lawful_runs.specs.BoardLaw.{first_row}
use Rattle.lawful_runs.specs.CallItems.{AreFinished, other_items}
use Rattle.lawful_runs.specs.Items.{belongs_to}
use Rattle.lawful_runs.specs.LawfulRun.{IsLawful, rank_in}
use Rattle.lawful_runs.specs.Logs.{log_of}
use Rattle.lawful_runs.specs.Stages.{RankOfRun, calls_here, known_at}

-- The class that refuses a call after these items of its rank's log: its rank's own, where no entry was seen; or, where
-- its rank gives none, the board's after the first entries, as many as were seen.
abbrev pub IsNamedClass : RankOfRun → List Item → ℕ → Call → Class → (seen : ℕ) → Type 0
IsNamedClass here before number call class zero = own_class (known_at here before) call ≡ Some class
IsNamedClass here before number call class (suc earlier) =
    (own_class (known_at here before) call ≡ None)
    × (shared_class here.stage.script.ranks (take (suc earlier) here.rows) (first_row here.rank number call)
    ≡ Some class)

-- The call of this number is refused by its named class, after the items of the calls before it. It has no other item,
-- so no entry and no access, and its rank knows after it what it knew before.
pub record ChangesNothing (here : RankOfRun) (log : List Item) (number : ℕ) (class : Class) (seen : ℕ) : Type 0 where
  pub call : Call
  pub is_call : slice_get (calls_here here) number ≡ Some call
  pub before : List Item
  pub after : List Item
  pub stands : other_items log ≡ before ++ Refused number class seen ∷ after
  pub calls_before : AreFinished here number before
  pub named : IsNamedClass here before number call class seen
  pub alone : filter (belongs_to number) log ≡ Refused number class seen ∷ []
  pub unchanged : known_at here (before ++ Refused number class seen ∷ []) ≡ known_at here before

-- each refused call of a log does so
abbrev pub RefusalsChangeNothing : RankOfRun → List Item → Type 0
RefusalsChangeNothing here log = (number : ℕ) (class : Class) (seen : ℕ) →
    Contains log (Refused number class seen) → ChangesNothing here log number class seen

-- so it is in lawful runs
abbrev pub RefusedCallsChangeNothing : Type 0
RefusedCallsChangeNothing = (script : Script) (delay : Delay) (run : Run) → IsLawful script delay run →
    (rank : ℕ) → rank < script.ranks → RefusalsChangeNothing (rank_in script delay run rank) (log_of run rank)
