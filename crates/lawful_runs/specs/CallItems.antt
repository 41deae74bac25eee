-- The items of the calls of a rank, in their order, up to its end or to the call at which it stands: MPI 3.1, section
-- 11.5, in this project's profile.
use Rattle.std.specs.Prelude.{ℕ, zero, suc, ◌≡◌, ◌⊎◌, Bool, true, false, not, List, [], ◌∷◌, ◌++◌, length, slice_get}
use Rattle.std.specs.Prelude.{Option, Some, None, IsTrue, IsSomeAnd}
use Rattle.std.specs.List.{filter}
use Rattle.rma_types.specs.declared.accesses.Step.TheVariants.{Arrive, Leave, One}
use Rattle.rma_types.specs.declared.classes.Class.{Class}
use Rattle.rma_types.specs.declared.calls.Call.{Call}
use Rattle.rma_record.specs.declared.items.Item.{Item}
use Rattle.rma_record.specs.declared.items.Item.TheVariants.{Issue, Null, Flush, Request, Entry, Tested, Refused, Ended}
use Rattle.board_rules.specs.Board.{NotYet, decide}
use Rattle.board_rules.specs.Entries.{Row}
use Rattle.lawful_runs.specs.BoardLaw.{first_row}
use Rattle.lawful_runs.specs.Items.{is_touch}
use Rattle.lawful_runs.specs.Stages.{RankOfRun, calls_here, known_at}
use Rattle.rank_rules.specs.Courses.{Course, OneNull, OneIssue, LookUpAndIssue, OneFlush, OneRequest, ArriveAndLeave}
use Rattle.rank_rules.specs.Courses.{EntryOrTested, OneEntry, course_of, has_entry, access_of}
use Rattle.rank_rules.specs.Knowledge.{Knowledge, own_class}

-- the items other than touches
abbrev pub other_items : List Item → List Item
other_items log = filter (λ item. not (is_touch item)) log

-- the item is the Issue of the call of this number
abbrev pub IsIssueOf : Knowledge → ℕ → Call → Item → Type 0
IsIssueOf known number call item = IsSomeAnd (access_of known.windows call) (λ access. item ≡ Issue number access)

-- the items of an accepted call
abbrev pub AreItemsOfCourse : Course → Knowledge → ℕ → Call → List Item → Type 0
AreItemsOfCourse OneNull known number call items = items ≡ Null number ∷ []
AreItemsOfCourse OneIssue known number call items =
    (item : Item) × IsIssueOf known number call item × (items ≡ item ∷ [])
AreItemsOfCourse LookUpAndIssue known number call items =
    (place : ℕ) × (item : Item) × IsIssueOf known number call item × (items ≡ Entry number place One ∷ item ∷ [])
AreItemsOfCourse OneFlush known number call items = items ≡ Flush number ∷ []
AreItemsOfCourse OneRequest known number call items = items ≡ Request number ∷ []
AreItemsOfCourse ArriveAndLeave known number call items =
    (arrived left : ℕ) × (items ≡ Entry number arrived Arrive ∷ Entry number left Leave ∷ [])
AreItemsOfCourse EntryOrTested known number call items =
    ((place : ℕ) × (items ≡ Entry number place One ∷ [])) ⊎ ((seen : ℕ) × (items ≡ Tested number seen ∷ []))
AreItemsOfCourse OneEntry known number call items = (place : ℕ) × (items ≡ Entry number place One ∷ [])

-- the board refused the call after at least one entry; the law of the board says by which class
abbrev pub IsBoardRefusal : Course → ℕ → List Item → Type 0
IsBoardRefusal course number items =
    IsTrue (has_entry course) × (class : Class) × (before : ℕ) × (items ≡ Refused number class (suc before) ∷ [])

-- the rank refuses the call by its own class; or it gives none, and the board refuses the call or it is accepted
abbrev pub AreItemsBy : Option Class → Knowledge → ℕ → Call → List Item → Type 0
AreItemsBy (Some class) known number call items = items ≡ Refused number class 0 ∷ []
AreItemsBy None known number call items =
    let course = course_of known.windows call in
    IsBoardRefusal course number items ⊎ AreItemsOfCourse course known number call items

-- the items are those of the call of this number, after these items of the log
abbrev pub AreItemsOf : RankOfRun → List Item → ℕ → List Item → Type 0
AreItemsOf here before number items = IsSomeAnd (slice_get (calls_here here) number)
    (λ call. let known = known_at here before in AreItemsBy (own_class known call) known number call items)

-- the items are those of the calls with the numbers below the count, in their order, with none skipped
abbrev pub AreFinished : RankOfRun → ℕ → List Item → Type 0
AreFinished here zero items = items ≡ []
AreFinished here (suc number) items =
    (before : List Item) × (last : List Item) × (items ≡ before ++ last) × AreFinished here number before
    × AreItemsOf here before number last

-- after all entries of the run, the rank's next entry is neither allowed nor refused
abbrev pub IsWaiting : RankOfRun → Row → Type 0
IsWaiting here row = decide here.stage.script.ranks here.rows row ≡ NotYet

abbrev pub leave_row : ℕ → ℕ → Call → Row
leave_row rank number call = record { rank = rank; number = number; call = call; step = Leave }

-- a rank never stands at a testwin, which is false where it is not yet possible
abbrev pub may_stand : Course → Bool
may_stand OneNull = false
may_stand OneIssue = false
may_stand LookUpAndIssue = true
may_stand OneFlush = false
may_stand OneRequest = false
may_stand ArriveAndLeave = true
may_stand EntryOrTested = false
may_stand OneEntry = true

-- the rank stands at the call: no item of it is there, or the Arrive of a collective
abbrev pub StandsAt : RankOfRun → List Item → ℕ → Call → List Item → Type 0
StandsAt here before number call rest =
    let known = known_at here before in
    (own_class known call ≡ None)
    × (((rest ≡ []) × IsTrue (may_stand (course_of known.windows call))
    × IsWaiting here (first_row here.rank number call))
    ⊎ ((place : ℕ) × (rest ≡ Entry number place Arrive ∷ []) × (course_of known.windows call ≡ ArriveAndLeave)
    × IsWaiting here (leave_row here.rank number call)))

-- all calls have their items and the rank has ended, or it stands at the call of this number
abbrev pub EndsOrStands : RankOfRun → List Item → ℕ → List Item → Type 0
EndsOrStands here before number rest =
    ((number ≡ length (calls_here here)) × (rest ≡ Ended ∷ []))
    ⊎ IsSomeAnd (slice_get (calls_here here) number) (λ call. StandsAt here before number call rest)

-- the items, without touches, are those of the calls in their order, up to the end or to where the rank stands
abbrev pub HasItemsOfCalls : RankOfRun → List Item → Type 0
HasItemsOfCalls here items =
    (number : ℕ) × (before : List Item) × (rest : List Item) × (items ≡ before ++ rest)
    × AreFinished here number before × EndsOrStands here before number rest
