-- The place of a later event of a log.
use Rattle.std.proofs.Common.{List, ℕ, ◌≡◌, Some, ◌<◌, ◌++◌, ◌∷◌, length, [], ◌+◌, ap, arith}
use Rattle.std.specs.Prelude.{slice_get}
use Rattle.list_laws.proofs.Each.{AllFrom}
use Rattle.list_laws.proofs.Members.{In, from_in}
use Rattle.rma_types.specs.declared.scripts.Script.{Script}
use Rattle.rma_record.specs.declared.items.Item.TheVariants.{Entry}
use Rattle.rma_record.specs.declared.runs.Run.{Run}
use Rattle.board_rules.specs.Board.{decide, Allow}
use Rattle.board_rules.specs.Edges.{Event}
use Rattle.board_rules.specs.Entries.{Row}
use Rattle.board_rules.specs.Questions.{question}
use Rattle.lawful_runs.specs.Logs.{log_of, rows_of}
use Rattle.order_rules.specs.Before.{NamedEvent}

-- the event at a place of the board
pub record IsEventAt (script : Script) (run : Run) (rows : List Row) (place : ℕ) (x : NamedEvent) : Type 0 where
  pub number : ℕ
  pub logged : slice_get (log_of run x.id.rank) x.id.index ≡ Some (Entry number place x.event.step)
  pub within : x.id.rank < script.ranks
  pub before : List Row
  pub row : Row
  pub rest : List Row
  pub rank : row.rank ≡ x.id.rank
  pub split : rows ≡ before ++ row ∷ rest
  pub long : length before ≡ place
  pub event : x.event ≡ record { place = place; step = row.step; asked = question script.ranks before row }
  pub allowed : decide script.ranks before row ≡ Allow

pub later_place : (script : Script) (run : Run) (at : ℕ) (xs : List NamedEvent) (y : NamedEvent) (ys : List NamedEvent)
    (z : NamedEvent) →
    AllFrom (IsEventAt script run (rows_of script run)) at (xs ++ y ∷ ys) → In z ys → y.event.place < z.event.place
unfolding AllFrom
later_place script run at [] y ys z all m =
    let one = from_in (IsEventAt script run (rows_of script run)) (at + 1) ys all.1 m in
    let first : y.event.place ≡ at = ap (λ (e : Event). e.place) all.0.event in
    let second : z.event.place ≡ at + 1 + one.0 = ap (λ (e : Event). e.place) one.1.event in
    omega arith
later_place script run at (x ∷ xs) y ys z all m = later_place script run (at + 1) xs y ys z all.1 m
