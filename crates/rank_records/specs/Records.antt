-- What the code keeps of an item, and what an item teaches, by the tables of its rank: this project's record of a run.
use Rattle.std.specs.Prelude.{ℕ, Bool, true, false, not, if◌then◌else◌, List, [], ◌∷◌, Option, Some, None}
use Rattle.std.specs.Option.{option_map, option_map_or}
use Rattle.rma_types.specs.declared.accesses.Access.{Access}
use Rattle.rma_types.specs.declared.accesses.Id.{Id}
use Rattle.rma_types.specs.declared.accesses.Step.{Step}
use Rattle.rma_types.specs.declared.accesses.Step.TheVariants.{Arrive, Leave, One}
use Rattle.rma_types.specs.declared.calls.Call.{Call}
use Rattle.rma_record.specs.declared.items.Item.{Item}
use Rattle.rma_record.specs.declared.items.Item.TheVariants.{Issue, Null, Touch, Flush, Request, Entry, Tested, Refused}
use Rattle.rma_record.specs.declared.items.Item.TheVariants.{Ended}
use Rattle.order_rules.specs.CallSteps.{step_by}
use Rattle.rank_records.specs.Deeds.{deed_at, is_transfer, moved_in}
use Rattle.rank_records.specs.Tables.{epoch_in, kind_in, maker_in, number_in, taught}
use Rattle.rank_records.specs.declared.deeds.Deed.{Deed}
use Rattle.rank_records.specs.declared.kept.KeptAccess.{KeptAccess}
use Rattle.rank_records.specs.declared.kept.KeptStep.{KeptStep}
use Rattle.rank_records.specs.declared.records.Lesson.{Lesson}
use Rattle.rank_records.specs.declared.tables.Known.{Known}

-- the element, if there is one, as a list
abbrev pub in_list : {X : Type 0} → Option X → List X
in_list o = option_map_or (λ x. x ∷ []) o []

-- ---- what an item teaches

-- an entry ends its call, unless it is an Arrive or the look-up of an RMA call
abbrev pub ends_by : Step → Deed → Bool
ends_by Arrive d = false
ends_by Leave d = true
ends_by One d = not (is_transfer d)

abbrev pub lesson_if : Bool → ℕ → Deed → Option Lesson
lesson_if ends number d = if ends then Some (record { call = number; deed = d }) else None

-- the call of this number, where there is one, and the step ends it
abbrev pub lesson_at : List Call → ℕ → Step → Option Lesson
lesson_at calls number step = option_map_or (λ d. lesson_if (ends_by step d) number d) (deed_at calls number) None

-- the accepted call that an item ends
abbrev pub lesson_by : List Call → Item → Option Lesson
lesson_by calls (Issue number access) = lesson_at calls number Leave
lesson_by calls (Null number) = lesson_at calls number Leave
lesson_by calls (Touch issue element cell place bits) = None
lesson_by calls (Flush number) = lesson_at calls number Leave
lesson_by calls (Request number) = lesson_at calls number Leave
lesson_by calls (Entry number place step) = lesson_at calls number step
lesson_by calls (Tested number seen) = None
lesson_by calls (Refused number class seen) = None
lesson_by calls Ended = None

abbrev pub taught_if : Known → Option Lesson → Known
taught_if tables lesson = option_map_or (λ (one : Lesson). taught tables one.call one.deed) lesson tables

-- the tables after one more item of the log
abbrev pub taught_by : Known → List Call → Item → Known
taught_by tables calls item = taught_if tables (lesson_by calls item)

-- ---- what is kept of an item

-- the place of an item that is an entry of the board
abbrev pub place_by : Item → Option ℕ
place_by (Issue number access) = None
place_by (Null number) = None
place_by (Touch issue element cell place bits) = None
place_by (Flush number) = None
place_by (Request number) = None
place_by (Entry number place step) = Some place
place_by (Tested number seen) = None
place_by (Refused number class seen) = None
place_by Ended = None

abbrev pub step_with : Known → Id → Option ℕ → ℕ → Step → Deed → KeptStep
step_with tables id place number step d = record {
  id = id;
  call = number;
  step = step;
  place = place;
  window = number_in tables d;
  maker = maker_in tables d;
}

abbrev pub step_of_call : Known → List Call → Id → Option ℕ → (ℕ × Step) → Option KeptStep
step_of_call tables calls id place (number, step) =
    option_map (step_with tables id place number step) (deed_at calls number)

-- the step that an item is
abbrev pub step_kept : Known → List Call → Id → Item → Option KeptStep
step_kept tables calls id item = option_map_or (step_of_call tables calls id (place_by item)) (step_by item) None

-- the window on which the call of this number moves data
abbrev pub moved_at : List Call → ℕ → Option ℕ
moved_at calls number = option_map_or moved_in (deed_at calls number) None

abbrev pub access_with : Known → Id → ℕ → Access → ℕ → KeptAccess
access_with tables id number access win =
    record { id = id; call = number; access = access; epoch = kind_in (epoch_in tables win) }

-- the access that an item issues
abbrev pub access_kept : Known → List Call → Id → Item → Option KeptAccess
access_kept tables calls id (Issue number access) =
    option_map (access_with tables id number access) (moved_at calls number)
access_kept tables calls id (Null number) = None
access_kept tables calls id (Touch issue element cell place bits) = None
access_kept tables calls id (Flush number) = None
access_kept tables calls id (Request number) = None
access_kept tables calls id (Entry number place step) = None
access_kept tables calls id (Tested number seen) = None
access_kept tables calls id (Refused number class seen) = None
access_kept tables calls id Ended = None
