-- The accesses of a log, and their touches with what each makes of its cell: this project's record of MPI 3.1, section
-- 11.7.
use Rattle.std.specs.Prelude.{ℕ, ◌+◌, Bool, ◌==◌, List, [], ◌∷◌, ◌++◌, slice_get, Option, Some, None, is_some}
use Rattle.std.specs.List.{filter, flat_map, AllByRecursion}
use Rattle.std.specs.Option.{option_map_or}
use Rattle.rma_types.specs.declared.accesses.Id.{Id}
use Rattle.rma_types.specs.declared.calls.Call.{Call}
use Rattle.rma_types.specs.declared.scripts.Layout.{Layout}
use Rattle.rma_types.specs.declared.scripts.Script.{Script}
use Rattle.rma_record.specs.declared.items.Item.{Item}
use Rattle.rma_record.specs.declared.items.Item.TheVariants.{Issue, Touch}
use Rattle.rma_record.specs.declared.runs.Run.{Run}
use Rattle.call_rules.specs.declared.elements.Change.{Change}
use Rattle.call_rules.specs.declared.elements.Piece.{Piece}
use Rattle.rma_types.specs.declared.actions.Transfer.{Transfer}
use Rattle.rma_types.specs.Actions.{transfer_of}
use Rattle.call_rules.specs.Layout.{layout}
use Rattle.call_rules.specs.Pieces.{pieces, numbers_from}
use Rattle.call_rules.specs.Transfers.{change_of}
use Rattle.lawful_runs.specs.Logs.{Named, named_in, log_of, calls_of}
use Rattle.rank_rules.specs.declared.pending.PendingAccess.{PendingAccess}

-- the transfer that the call of this number makes
abbrev pub transfer_at : List Call → ℕ → Option Transfer
transfer_at calls number = option_map_or transfer_of (slice_get calls number) None

-- the access that an item issues, where the item has this index in a log with these calls
abbrev pub issued_by : List Call → ℕ → Item → Option PendingAccess
issued_by calls index (Issue number access) = option_map_or
    (λ (t : Transfer). Some (record { index = index; number = number; access = access; fetches = t.fetches }))
    (transfer_at calls number) None
issued_by calls index item = None

-- the access whose Issue stands at the index of the log
abbrev pub issued_at : List Call → List Item → ℕ → Option PendingAccess
issued_at calls log index = option_map_or (issued_by calls index) (slice_get log index) None

-- the accesses of some items of a log, the first of which has this index
abbrev pub issued_from : List Call → ℕ → List Item → List PendingAccess
issued_from calls index [] = []
issued_from calls index (item ∷ items) =
    option_map_or (λ one. one ∷ []) (issued_by calls index item) [] ++ issued_from calls (index + 1) items

-- where the elements of an access lie, the first element first
abbrev pub pieces_of : Layout → List Call → PendingAccess → List Piece
pieces_of memory calls one =
    option_map_or (λ (t : Transfer). pieces memory one.access t.dtype) (transfer_at calls one.number) []

-- ---- touches

-- a touch: its name, the index of its access's Issue in its log, its element, its cell, its place, its bits, and the
-- change that it makes, if it is an update
pub record Touching : Type 0 where
  pub id : Id
  pub issue : ℕ
  pub element : ℕ
  pub cell : ℕ
  pub place : ℕ
  pub bits : ℕ
  pub change : Option Change

-- the change that an element's touch makes: the one that its call, its element and its piece give
abbrev pub change_made : Layout → List Call → PendingAccess → ℕ → Option Change
change_made memory calls one element = option_map_or
    (λ (t : Transfer). option_map_or (λ (piece : Piece). change_of t element piece.first_byte)
    (slice_get (pieces memory one.access t.dtype) element) None)
    (transfer_at calls one.number) None

-- the touch of this name that an item is, in a log with these calls
abbrev pub touching_by : Layout → List Call → List Item → Id → Item → List Touching
touching_by memory calls log id (Touch issue element cell place bits) = record {
  id = id;
  issue = issue;
  element = element;
  cell = cell;
  place = place;
  bits = bits;
  change = option_map_or (λ one. change_made memory calls one element) (issued_at calls log issue) None;
} ∷ []
touching_by memory calls log id item = []

-- the touches among some items of the log, in order
abbrev pub touches_among : Layout → List Call → List Item → List Named → List Touching
touches_among memory calls log items = flat_map (λ (one : Named). touching_by memory calls log one.id one.item) items

-- the touches of the log of a rank
abbrev pub touches_of : Script → Run → ℕ → List Touching
touches_of script run rank =
    let log = log_of run rank in touches_among (layout script) (calls_of script rank) log (named_in rank log)

-- the touches of all logs, by rank
abbrev pub all_touches : Script → Run → List Touching
all_touches script run = flat_map (touches_of script run) (numbers_from 0 script.ranks)

abbrev pub is_on_cell : ℕ → Touching → Bool
is_on_cell cell touch = touch.cell == cell

-- an update: its access is a put, a store, a cas, or an accumulate other than no_op
abbrev pub is_update : Touching → Bool
is_update touch = is_some touch.change

abbrev pub on_cell : ℕ → List Touching → List Touching
on_cell cell touches = filter (is_on_cell cell) touches

abbrev pub updates_in : List Touching → List Touching
updates_in touches = filter is_update touches

-- the relation holds of each element and each one after it
abbrev pub EachPair : {X : Type 0} → (X → X → Type 0) → List X → Type 0
EachPair R [] = Unit {0}
EachPair R (x ∷ xs) = AllByRecursion (R x) xs × EachPair R xs
