-- Every move of a rank that makes steps keeps that touches are made when they are due, where the delay is end.
use Rattle.std.proofs.Common.{◌≡◌, ℕ, suc, ◌+◌, ◌<◌, ◌≤◌, ◌⊎◌, inl, inr, Bool, true, false, not, ◌&&◌, ◌||◌, List, []}
use Rattle.std.proofs.Common.{◌∷◌, ◌++◌, Option, Some, None, refl, sym, ◌∙◌, ap, subst, arith}
use Rattle.std.specs.Prelude.{slice_get, ◌==◌, IfSome}
use Rattle.std.specs.List.{AllByRecursion, list_any}
use Rattle.std.specs.Option.{option_map_or}
use Rattle.std.proofs.lemmas.Bool.{ne_eqb}
use Rattle.list_laws.proofs.Each.{each_weaker, each_append}
use Rattle.rma_types.specs.declared.accesses.Access.{Access}
use Rattle.rma_types.specs.declared.accesses.Step.{Step}
use Rattle.rma_types.specs.declared.accesses.Step.TheVariants.{Arrive, Leave, One}
use Rattle.rma_types.specs.declared.calls.Call.{Call}
use Rattle.rma_types.specs.declared.classes.Class.{Class}
use Rattle.rma_types.specs.declared.scripts.Part.{Part}
use Rattle.rma_record.specs.declared.items.Item.{Item}
use Rattle.rma_record.specs.declared.items.Item.TheVariants.{Issue, Null, Touch, Flush, Request, Entry, Tested, Refused}
use Rattle.rma_record.specs.declared.items.Item.TheVariants.{Ended}
use Rattle.assembled_laws.proofs.Due.{AreDue, ForCall, ForEnd, AreOwed, Pays, due_push, owed_push}
use Rattle.assembled_laws.proofs.Unfinished.{HasElements}
use Rattle.call_laws.proofs.KnownMoves.{KnowsLog}
use Rattle.rma_types.specs.declared.actions.Transfer.{Transfer}
use Rattle.lawful_runs.specs.Items.{is_touch, is_ended, is_own_refusal, number_in, belongs_to}
use Rattle.lawful_runs.specs.Stages.{Stage, calls_at, calls_here, known_at}
use Rattle.lawful_runs.specs.TouchLaw.{begins_awaiting}
use Rattle.rank_laws.proofs.Awaiting.{rank_of}
use Rattle.rank_laws.proofs.AwaitMoves.{KeepsAwaited}
use Rattle.rank_laws.proofs.Moves.{Point, course_at, Begins, Entering, OnlyEntry, LookUp, Arriving, Leaving}
use Rattle.rank_laws.proofs.Moves.{IsPlainItem, Issuing}
use Rattle.rank_laws.proofs.Touching.{IsTouchOf}
use Rattle.rank_rules.specs.Courses.{Course, OneNull, OneIssue, LookUpAndIssue, OneFlush, OneRequest, ArriveAndLeave}
use Rattle.rank_rules.specs.Courses.{EntryOrTested, OneEntry}
use Rattle.rank_rules.specs.Knowledge.{Knowledge, own_class}
use Rattle.rank_rules.specs.Pending.{must_wait}
use Rattle.rank_rules.specs.Requests.{Requests}
use Rattle.step_runs.specs.Agents.{Agent, next_call, keep_item, end_call, enter_call}

-- ---- ranks

-- the item belongs to no call from this number on
abbrev pub IsBefore : ℕ → Item → Type 0
IsBefore number item = IfSome (number_in item) (λ n. n < number)

-- the items of a rank by the numbers of their calls, and its touches where they are due or owed
pub record HasDue (stage : Stage) (agent : Agent) : Type 0 where
  pub begun : AllByRecursion (IsBefore (agent.at + 1)) agent.log
  pub unbegun : agent.entered ≡ false → AllByRecursion (IsBefore agent.at) agent.log
  pub elements : AllByRecursion (HasElements stage.layout (calls_at stage agent.rank)) agent.pending
  pub due : AreDue stage agent.rank agent.log
  pub owed : AreOwed stage agent.rank agent.log (next_call stage agent) agent.entered agent.known

pub record KeepsDue (stage : Stage) (p : Point) : Type 0 where
  pub known : KnowsLog stage p
  pub awaited : KeepsAwaited stage p.agent
  pub has : HasDue stage p.agent

-- ---- numbers

before_later : (few many : ℕ) → few ≤ many → (item : Item) → IsBefore few item → IsBefore many item
before_later few many h item before = by (number_in item) before
  where
    by : (o : Option ℕ) → IfSome o (λ n. n < few) → IfSome o (λ n. n < many)
    by None k = tt
    by (Some n) k = omega arith

pub all_later : (few many : ℕ) → few ≤ many → (log : List Item) → AllByRecursion (IsBefore few) log →
    AllByRecursion (IsBefore many) log
all_later few many h log all = each_weaker (IsBefore few) (IsBefore many) (before_later few many h) log all

-- an item of the call
its_number : (number : ℕ) (item : Item) → number_in item ≡ Some number → IsBefore (number + 1) item
its_number number item e = subst (λ (o : Option ℕ). IfSome o (λ n. n < number + 1)) (sym e) (omega arith)

pub begun_push : (number : ℕ) (log : List Item) (item : Item) → AllByRecursion (IsBefore (number + 1)) log →
    number_in item ≡ Some number → AllByRecursion (IsBefore (number + 1)) (log ++ item ∷ [])
begun_push number log item all e = each_append (IsBefore (number + 1)) log (item ∷ []) all
    (its_number number item e, tt)

touch_is_before : (number issue : ℕ) (item : Item) → IsTouchOf issue item → IsBefore number item
touch_is_before number issue (Touch of element cell place bits) is = tt
touch_is_before number issue (Issue n access) is = absurd is
touch_is_before number issue (Null n) is = absurd is
touch_is_before number issue (Flush n) is = absurd is
touch_is_before number issue (Request n) is = absurd is
touch_is_before number issue (Entry n place step) is = absurd is
touch_is_before number issue (Tested n seen) is = absurd is
touch_is_before number issue (Refused n class seen) is = absurd is
touch_is_before number issue Ended is = absurd is

pub begun_touches : (number issue : ℕ) (log items : List Item) → AllByRecursion (IsTouchOf issue) items →
    AllByRecursion (IsBefore number) log → AllByRecursion (IsBefore number) (log ++ items)
begun_touches number issue log items own all = each_append (IsBefore number) log items all
    (each_weaker (IsTouchOf issue) (IsBefore number) (touch_is_before number issue) items own)

none_belongs : (number : ℕ) (log : List Item) → AllByRecursion (IsBefore number) log →
    list_any (belongs_to number) log ≡ false
none_belongs number [] all = refl
none_belongs number (item ∷ log) all =
    ap (λ b. b || list_any (belongs_to number) log) (by (number_in item) all.0) ∙ none_belongs number log all.1
  where
    by : (o : Option ℕ) → IfSome o (λ n. n < number) → option_map_or (λ n. n == number) o false ≡ false
    by None k = refl
    by (Some n) k = ne_eqb n number (λ e. omega arith)

-- ---- items that pay

-- the first item of a call that begins
pub first_pays : (stage : Stage) (agent : Agent) (call : Call) (item : Item) → KeepsAwaited stage agent →
    HasDue stage agent → Begins stage agent call → is_ended item ≡ false → number_in item ≡ Some agent.at →
    is_own_refusal item ≡ false →
    Pays stage agent.rank agent.log (next_call stage agent) agent.entered agent.known item
first_pays stage agent call item awaited h begins ended number alone rows one (ForEnd none) =
    let here = begins.here in absurd (cc (sym none ∙ here))
first_pays stage agent call item awaited h begins ended number alone rows one (ForCall other there new passes must) =
    let here = rank_of stage agent.rank rows in
    let same : call ≡ other = let now = begins.here in cc (now, there) in
    ap (λ b. b || option_map_or (begins_awaiting here agent.log item one) (number_in item) false) ended
    ∙ ap (λ (o : Option ℕ). option_map_or (begins_awaiting here agent.log item one) o false) number
    ∙ ap (λ b. not b && not (list_any (belongs_to agent.at) agent.log)
    && option_map_or (λ c. must_wait (known_at here agent.log).requests c one) (slice_get (calls_here here) agent.at)
    false) alone
    ∙ ap (λ b. not b && option_map_or (λ c. must_wait (known_at here agent.log).requests c one)
    (slice_get (calls_here here) agent.at) false) (none_belongs agent.at agent.log (h.unbegun new))
    ∙ ap (λ (o : Option Call). option_map_or (λ c. must_wait (known_at here agent.log).requests c one) o false) there
    ∙ ap (λ (r : Requests). must_wait r other one) (awaited.requests rows)
    ∙ must

-- before a second item of a call nothing is owed
second_pays : (stage : Stage) (agent : Agent) (call : Call) (item : Item) → next_call stage agent ≡ Some call →
    agent.entered ≡ true → Pays stage agent.rank agent.log (next_call stage agent) agent.entered agent.known item
second_pays stage agent call item here inside rows one (ForEnd none) = absurd (cc (sym none ∙ here))
second_pays stage agent call item here inside rows one (ForCall other there new passes must) =
    absurd (cc (sym new ∙ inside))

-- nor before a refusal by the rank itself
pub alone_pays : (stage : Stage) (agent : Agent) (call : Call) (class : Class) (item : Item) →
    next_call stage agent ≡ Some call → own_class agent.known call ≡ Some class →
    Pays stage agent.rank agent.log (next_call stage agent) agent.entered agent.known item
alone_pays stage agent call class item here refuses rows one (ForEnd none) = absurd (cc (sym none ∙ here))
alone_pays stage agent call class item here refuses rows one (ForCall other there new passes must) =
    let same : call ≡ other = cc (here, there) in
    absurd (cc (sym passes ∙ ap (own_class agent.known) (sym same) ∙ refuses))

pub issue_pays : (stage : Stage) (agent : Agent) (call : Call) (t : Transfer) (access : Access) →
    KeepsAwaited stage agent → HasDue stage agent → Issuing stage agent call t access →
    Pays stage agent.rank agent.log (next_call stage agent) agent.entered agent.known (Issue agent.at access)
issue_pays stage agent call t access awaited h issuing = by issuing.begun
  where
    by : (Begins stage agent call × (course_at agent call ≡ OneIssue)) ⊎ (agent.entered ≡ true) →
        Pays stage agent.rank agent.log (next_call stage agent) agent.entered agent.known (Issue agent.at access)
    by (inl begins) = first_pays stage agent call (Issue agent.at access) awaited h begins.0 refl refl refl
    by (inr inside) = second_pays stage agent call (Issue agent.at access) issuing.here inside

-- ---- one item more

pub pushed : (stage : Stage) (agent : Agent) (item : Item) (next : Option Call) (entered : Bool) (known : Knowledge) →
    KeepsAwaited stage agent → HasDue stage agent → is_touch item ≡ false →
    Pays stage agent.rank agent.log (next_call stage agent) agent.entered agent.known item →
    AreDue stage agent.rank (agent.log ++ item ∷ [])
    × AreOwed stage agent.rank (agent.log ++ item ∷ []) next entered known
pushed stage agent item next entered known awaited h plain pays = (
  due_push stage agent.rank agent.log item (next_call stage agent) agent.entered agent.known plain
      awaited.touches.has.below h.due h.owed pays,
  owed_push stage agent.rank agent.log item next entered known plain,
)

-- the item ends its call
pub ending : (stage : Stage) (agent : Agent) (shapes : ℕ → List Part) (item : Item) → KeepsAwaited stage agent →
    HasDue stage agent → is_touch item ≡ false → number_in item ≡ Some agent.at →
    Pays stage agent.rank agent.log (next_call stage agent) agent.entered agent.known item →
    HasDue stage (end_call (keep_item shapes stage agent item))
ending stage agent shapes item awaited h plain number pays =
    let next = end_call (keep_item shapes stage agent item) in
    let all = begun_push agent.at agent.log item h.begun number in
    let more = pushed stage agent item (next_call stage next) next.entered next.known awaited h plain pays in record {
      begun = all_later (agent.at + 1) (agent.at + 1 + 1) (omega arith) (agent.log ++ item ∷ []) all;
      unbegun = λ new. all;
      elements = h.elements;
      due = more.0;
      owed = more.1;
    }

-- the first item of a call that has two
opening : (stage : Stage) (agent : Agent) (shapes : ℕ → List Part) (item : Item) → KeepsAwaited stage agent →
    HasDue stage agent → is_touch item ≡ false → number_in item ≡ Some agent.at →
    Pays stage agent.rank agent.log (next_call stage agent) agent.entered agent.known item →
    HasDue stage (enter_call (keep_item shapes stage agent item))
opening stage agent shapes item awaited h plain number pays =
    let next = enter_call (keep_item shapes stage agent item) in
    let more = pushed stage agent item (next_call stage next) next.entered next.known awaited h plain pays in record {
      begun = begun_push agent.at agent.log item h.begun number;
      unbegun = λ new. absurd (cc new);
      elements = h.elements;
      due = more.0;
      owed = more.1;
    }

pub plain_named : (course : Course) (number : ℕ) (item : Item) → IsPlainItem course number item →
    (is_ended item ≡ false) × (number_in item ≡ Some number) × (is_own_refusal item ≡ false)
plain_named OneNull number item e = (ap is_ended e, ap number_in e, ap is_own_refusal e)
plain_named OneIssue number item e = absurd e
plain_named LookUpAndIssue number item e = absurd e
plain_named OneFlush number item e = (ap is_ended e, ap number_in e, ap is_own_refusal e)
plain_named OneRequest number item e = (ap is_ended e, ap number_in e, ap is_own_refusal e)
plain_named ArriveAndLeave number item e = absurd e
plain_named EntryOrTested number item e = absurd e
plain_named OneEntry number item e = absurd e

pub refused_later : (number : ℕ) (class : Class) (entries before : ℕ) → entries ≡ suc before →
    is_own_refusal (Refused number class entries) ≡ false
refused_later number class entries before e = ap (λ n. is_own_refusal (Refused number class n)) e

pub entering : (stage : Stage) (agent : Agent) (call : Call) (step : Step) (after : Agent → Agent)
    (shapes : ℕ → List Part)
    (place : ℕ) → Entering stage agent call step after → KeepsAwaited stage agent → HasDue stage agent →
    HasDue stage (after (keep_item shapes stage agent (Entry agent.at place step)))
entering stage agent call _ _ shapes place (OnlyEntry begins course) awaited h =
    ending stage agent shapes (Entry agent.at place One) awaited h refl refl
    (first_pays stage agent call (Entry agent.at place One) awaited h begins refl refl refl)
entering stage agent call _ _ shapes place (LookUp begins course) awaited h =
    opening stage agent shapes (Entry agent.at place One) awaited h refl refl
    (first_pays stage agent call (Entry agent.at place One) awaited h begins refl refl refl)
entering stage agent call _ _ shapes place (Arriving begins course) awaited h =
    opening stage agent shapes (Entry agent.at place Arrive) awaited h refl refl
    (first_pays stage agent call (Entry agent.at place Arrive) awaited h begins refl refl refl)
entering stage agent call _ _ shapes place (Leaving here inside moves) awaited h =
    ending stage agent shapes (Entry agent.at place Leave) awaited h refl refl
    (second_pays stage agent call (Entry agent.at place Leave) here inside)
