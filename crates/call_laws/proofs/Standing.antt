-- Where a rank stands in its calls: its items without touches are those of the calls that it has finished, and the
-- first of the call in which it is.
use Rattle.std.proofs.Common.{◌≡◌, ℕ, zero, suc, ◌+◌, ◌≤◌, ◌⊎◌, Bool, true, false, cond, List, [], ◌∷◌, ◌++◌, length}
use Rattle.std.proofs.Common.{Option, Some, None, refl, sym, ◌∙◌, ap, subst, arith, add-one, append-nil, append_assoc}
use Rattle.std.specs.Prelude.{slice_get, not, IsSomeAnd}
use Rattle.std.specs.List.{fold, AllByRecursion}
use Rattle.std.proofs.lemmas.List.Elements.{filter-append}
use Rattle.std.proofs.lemmas.Option.{slice_get_past, slice_get_within}
use Rattle.rma_types.specs.declared.accesses.Step.TheVariants.{Arrive, One}
use Rattle.rma_types.specs.declared.calls.Call.{Call}
use Rattle.rma_types.specs.declared.classes.Class.{Class}
use Rattle.rma_types.specs.declared.scripts.Part.{Part}
use Rattle.rma_record.specs.declared.items.Item.{Item}
use Rattle.rma_record.specs.declared.items.Item.TheVariants.{Issue, Null, Touch, Flush, Request, Entry, Tested, Refused}
use Rattle.rma_record.specs.declared.items.Item.TheVariants.{Ended}
use Rattle.board_rules.specs.Entries.{Row}
use Rattle.call_laws.proofs.KnownMoves.{KnowsAlways, knows_longer}
use Rattle.lawful_runs.specs.CallItems.{other_items, AreItemsOfCourse, IsBoardRefusal, AreItemsBy, AreItemsOf}
use Rattle.lawful_runs.specs.CallItems.{AreFinished}
use Rattle.lawful_runs.specs.Items.{is_touch}
use Rattle.lawful_runs.specs.Stages.{Stage, RankOfRun, calls_at, calls_here, first_knowledge, known_at, shapes_in}
use Rattle.rank_laws.proofs.Awaiting.{rank_of}
use Rattle.rank_laws.proofs.Touching.{IsTouchOf}
use Rattle.rank_rules.specs.Courses.{Course, OneNull, OneIssue, LookUpAndIssue, OneFlush, OneRequest, ArriveAndLeave}
use Rattle.rank_rules.specs.Courses.{EntryOrTested, OneEntry, course_of}
use Rattle.rank_rules.specs.Knowledge.{Knowledge, own_class, learn}
use Rattle.step_runs.specs.Agents.{Agent}

-- ---- items without touches

pub touch_is_touch : (issue : ℕ) (item : Item) → IsTouchOf issue item → is_touch item ≡ true
touch_is_touch issue (Touch of element cell place bits) is = refl
touch_is_touch issue (Issue number access) is = absurd is
touch_is_touch issue (Null number) is = absurd is
touch_is_touch issue (Flush number) is = absurd is
touch_is_touch issue (Request number) is = absurd is
touch_is_touch issue (Entry number place step) is = absurd is
touch_is_touch issue (Tested number seen) is = absurd is
touch_is_touch issue (Refused number class seen) is = absurd is
touch_is_touch issue Ended is = absurd is

pub untouched_push : (log : List Item) (item : Item) → is_touch item ≡ false →
    other_items (log ++ item ∷ []) ≡ other_items log ++ item ∷ []
untouched_push log item e = filter-append (λ i. not (is_touch i)) log (item ∷ [])
    ∙ ap (λ b. other_items log ++ cond (not b) (item ∷ []) []) e

none_untouched : (issue : ℕ) (items : List Item) → AllByRecursion (IsTouchOf issue) items → other_items items ≡ []
none_untouched issue [] own = refl
none_untouched issue (item ∷ items) own =
    ap (λ b. cond (not b) (item ∷ other_items items) (other_items items)) (touch_is_touch issue item own.0)
    ∙ none_untouched issue items own.1

pub untouched_touches : (issue : ℕ) (log items : List Item) → AllByRecursion (IsTouchOf issue) items →
    other_items (log ++ items) ≡ other_items log
untouched_touches issue log items own = filter-append (λ i. not (is_touch i)) log items
    ∙ ap (λ (rest : List Item). other_items log ++ rest) (none_untouched issue items own) ∙ append-nil (other_items log)

-- touches teach nothing
fold_untouched : (shapes : ℕ → List Part) (calls : List Call) (known : Knowledge) (log : List Item) →
    fold (learn shapes calls) known (other_items log) ≡ fold (learn shapes calls) known log
fold_untouched shapes calls known [] = refl
fold_untouched shapes calls known (Touch of element cell place bits ∷ log) = fold_untouched shapes calls known log
fold_untouched shapes calls known (Issue number access ∷ log) =
    fold_untouched shapes calls (learn shapes calls known (Issue number access)) log
fold_untouched shapes calls known (Null number ∷ log) =
    fold_untouched shapes calls (learn shapes calls known (Null number)) log
fold_untouched shapes calls known (Flush number ∷ log) =
    fold_untouched shapes calls (learn shapes calls known (Flush number)) log
fold_untouched shapes calls known (Request number ∷ log) =
    fold_untouched shapes calls (learn shapes calls known (Request number)) log
fold_untouched shapes calls known (Entry number place step ∷ log) =
    fold_untouched shapes calls (learn shapes calls known (Entry number place step)) log
fold_untouched shapes calls known (Tested number seen ∷ log) = fold_untouched shapes calls known log
fold_untouched shapes calls known (Refused number class seen ∷ log) = fold_untouched shapes calls known log
fold_untouched shapes calls known (Ended ∷ log) = fold_untouched shapes calls known log

pub knows_untouched : (stage : Stage) (rank : ℕ) (rows : List Row) (log : List Item) (known : Knowledge) →
    KnowsAlways stage rank rows log known → KnowsAlways stage rank rows (other_items log) known
knows_untouched stage rank rows log known h more =
    fold_untouched (shapes_in stage (rows ++ more)) (calls_at stage rank) (first_knowledge stage rank) log ∙ h more

-- ---- where a rank stands

-- what matters of a rank: its items without touches, what it knows, its call, and whether it is in it or past all
pub record View : Type 0 where
  pub items : List Item
  pub known : Knowledge
  pub at : ℕ
  pub entered : Bool
  pub ended : Bool

abbrev pub view_of : Agent → View
view_of agent = record {
  items = other_items agent.log;
  known = agent.known;
  at = agent.at;
  entered = agent.entered;
  ended = agent.ended;
}

-- the first item of a call that has two
abbrev pub OpensCall : Course → ℕ → Item → Type 0
OpensCall OneNull number item = ⊥
OpensCall OneIssue number item = ⊥
OpensCall LookUpAndIssue number item = (place : ℕ) × (item ≡ Entry number place One)
OpensCall OneFlush number item = ⊥
OpensCall OneRequest number item = ⊥
OpensCall ArriveAndLeave number item = (place : ℕ) × (item ≡ Entry number place Arrive)
OpensCall EntryOrTested number item = ⊥
OpensCall OneEntry number item = ⊥

-- the items are those of finished calls, whatever entries follow
abbrev pub FinishedAlways : Stage → ℕ → List Row → ℕ → List Item → Type 0
FinishedAlways stage rank rows number items = (more : List Row) →
    AreFinished (rank_of stage rank (rows ++ more)) number items

-- between two calls
pub record Outside (stage : Stage) (rank : ℕ) (rows : List Row) (view : View) : Type 0 where
  pub new : view.entered ≡ false
  pub going : view.ended ≡ false
  pub done : FinishedAlways stage rank rows view.at view.items

-- in a call whose first entry is put
pub record Inside (stage : Stage) (rank : ℕ) (rows : List Row) (view : View) : Type 0 where
  pub entered : view.entered ≡ true
  pub going : view.ended ≡ false
  pub call : Call
  pub here : slice_get (calls_at stage rank) view.at ≡ Some call
  pub before : List Item
  pub item : Item
  pub split : view.items ≡ before ++ item ∷ []
  pub done : FinishedAlways stage rank rows view.at before
  pub passes : own_class view.known call ≡ None
  pub opens : OpensCall (course_of view.known.windows call) view.at item
  pub same : KnowsAlways stage rank rows before view.known

-- past all calls
pub record Past (stage : Stage) (rank : ℕ) (rows : List Row) (view : View) : Type 0 where
  pub ended : view.ended ≡ true
  pub number : view.at ≡ length (calls_at stage rank)
  pub before : List Item
  pub split : view.items ≡ before ++ Ended ∷ []
  pub done : FinishedAlways stage rank rows view.at before

pub data Standing (stage : Stage) (rank : ℕ) (rows : List Row) (view : View) : Type 0 where
  IsOutside : Outside stage rank rows view → Standing stage rank rows view
  IsInside : Inside stage rank rows view → Standing stage rank rows view
  IsPast : Past stage rank rows view → Standing stage rank rows view

-- ---- more entries

finished_longer : (stage : Stage) (rank : ℕ) (rows new : List Row) (number : ℕ) (items : List Item) →
    FinishedAlways stage rank rows number items → FinishedAlways stage rank (rows ++ new) number items
finished_longer stage rank rows new number items h more =
    subst (λ (all : List Row). AreFinished (rank_of stage rank all) number items) (sym (append_assoc rows new more))
    (h (new ++ more))

pub standing_longer : (stage : Stage) (rank : ℕ) (rows new : List Row) (view : View) →
    Standing stage rank rows view → Standing stage rank (rows ++ new) view
standing_longer stage rank rows new view (IsOutside o) = IsOutside (record {
  new = o.new;
  going = o.going;
  done = finished_longer stage rank rows new view.at view.items o.done;
})
standing_longer stage rank rows new view (IsInside i) = IsInside (record {
  entered = i.entered;
  going = i.going;
  call = i.call;
  here = i.here;
  before = i.before;
  item = i.item;
  split = i.split;
  done = finished_longer stage rank rows new view.at i.before i.done;
  passes = i.passes;
  opens = i.opens;
  same = knows_longer stage rank rows new i.before view.known i.same;
})
standing_longer stage rank rows new view (IsPast p) = IsPast (record {
  ended = p.ended;
  number = p.number;
  before = p.before;
  split = p.split;
  done = finished_longer stage rank rows new view.at p.before p.done;
})

-- ---- ranks at a call

pub past_has_none : (stage : Stage) (rank : ℕ) (rows : List Row) (view : View) (call : Call) →
    Past stage rank rows view →
    slice_get (calls_at stage rank) view.at ≡ Some call → ⊥
past_has_none stage rank rows view call p here =
    let at = p.number in
    let none = slice_get_past (calls_at stage rank) view.at (omega arith) in cc (sym none ∙ here)

pub outside_of : (stage : Stage) (rank : ℕ) (rows : List Row) (view : View) (call : Call) →
    Standing stage rank rows view → slice_get (calls_at stage rank) view.at ≡ Some call → view.entered ≡ false →
    Outside stage rank rows view
outside_of stage rank rows view call (IsOutside o) here new = o
outside_of stage rank rows view call (IsInside i) here new = let entered = i.entered in absurd (cc (sym new ∙ entered))
outside_of stage rank rows view call (IsPast p) here new = absurd (past_has_none stage rank rows view call p here)

pub inside_of : (stage : Stage) (rank : ℕ) (rows : List Row) (view : View) (call : Call) →
    Standing stage rank rows view → slice_get (calls_at stage rank) view.at ≡ Some call → view.entered ≡ true →
    Inside stage rank rows view
inside_of stage rank rows view call (IsOutside o) here entered = let new = o.new in absurd (cc (sym new ∙ entered))
inside_of stage rank rows view call (IsInside i) here entered = i
inside_of stage rank rows view call (IsPast p) here entered = absurd (past_has_none stage rank rows view call p here)

-- ---- one more call is finished

finished_next : (stage : Stage) (rank : ℕ) (rows : List Row) (number : ℕ) (items before last : List Item) →
    items ≡ before ++ last → FinishedAlways stage rank rows number before →
    ((more : List Row) → AreItemsOf (rank_of stage rank (rows ++ more)) before number last) →
    FinishedAlways stage rank rows (number + 1) items
finished_next stage rank rows number items before last split done is more =
    let next : AreFinished (rank_of stage rank (rows ++ more)) (suc number) items =
    (before, last, split, done more, is more) in
    subst (λ n. AreFinished (rank_of stage rank (rows ++ more)) n items) (sym (add-one number)) next

-- the items of a call of which a rank knows what its log says
items_by : (stage : Stage) (rank : ℕ) (rows : List Row) (before : List Item) (known : Knowledge) (number : ℕ)
    (call : Call) (last : List Item) → KnowsAlways stage rank rows before known →
    slice_get (calls_at stage rank) number ≡ Some call →
    AreItemsBy (own_class known call) known number call last → (more : List Row) →
    AreItemsOf (rank_of stage rank (rows ++ more)) before number last
items_by stage rank rows before known number call last knows here is more =
    let at = rank_of stage rank (rows ++ more) in
    subst (λ (o : Option Call). IsSomeAnd o (λ c. AreItemsBy (own_class (known_at at before) c) (known_at at before)
    number c last)) (sym here)
    (subst (λ (k : Knowledge). AreItemsBy (own_class k call) k number call last) (sym (knows more)) is)

-- the rank does not refuse the call
pub accepted : (known : Knowledge) (number : ℕ) (call : Call) (items : List Item) (course : Course) →
    own_class known call ≡ None → course_of known.windows call ≡ course →
    IsBoardRefusal course number items ⊎ AreItemsOfCourse course known number call items →
    AreItemsBy (own_class known call) known number call items
accepted known number call items course passes is items_are =
    subst (λ (o : Option Class). AreItemsBy o known number call items) (sym passes)
    (subst (λ (c : Course). IsBoardRefusal c number items ⊎ AreItemsOfCourse c known number call items) (sym is)
    items_are)

-- the view after an item that ends its call
abbrev pub view_after : View → List Item → Knowledge → View
view_after view items known =
    record { items = items; known = known; at = view.at + 1; entered = false; ended = view.ended }

-- the one item of a call
pub one_item : (stage : Stage) (rank : ℕ) (rows : List Row) (view : View) (call : Call) (item : Item)
    (items : List Item) (known : Knowledge) → Outside stage rank rows view →
    KnowsAlways stage rank rows view.items view.known → slice_get (calls_at stage rank) view.at ≡ Some call →
    items ≡ view.items ++ item ∷ [] → AreItemsBy (own_class view.known call) view.known view.at call (item ∷ []) →
    Standing stage rank rows (view_after view items known)
one_item stage rank rows view call item items known o knows here push is = IsOutside (record {
  new = refl;
  going = o.going;
  done = finished_next stage rank rows view.at items view.items (item ∷ []) push o.done
      (items_by stage rank rows view.items view.known view.at call (item ∷ []) knows here is);
})

-- the second item of a call
pub second_item : (stage : Stage) (rank : ℕ) (rows : List Row) (view : View) (item : Item) (items : List Item)
    (known : Knowledge) (i : Inside stage rank rows view) → items ≡ view.items ++ item ∷ [] →
    AreItemsBy (own_class view.known i.call) view.known view.at i.call (i.item ∷ item ∷ []) →
    Standing stage rank rows (view_after view items known)
second_item stage rank rows view item items known i push is = IsOutside (record {
  new = refl;
  going = i.going;
  done = finished_next stage rank rows view.at items i.before (i.item ∷ item ∷ [])
      (push ∙ ap (λ (front : List Item). front ++ item ∷ []) i.split ∙ append_assoc i.before (i.item ∷ []) (item ∷ []))
      i.done
      (items_by stage rank rows i.before view.known view.at i.call (i.item ∷ item ∷ []) i.same i.here is);
})

-- the first item of a call that has two
pub first_item : (stage : Stage) (rank : ℕ) (rows : List Row) (view : View) (call : Call) (item : Item)
    (items : List Item) (known : Knowledge) → Outside stage rank rows view →
    KnowsAlways stage rank rows view.items view.known → slice_get (calls_at stage rank) view.at ≡ Some call →
    items ≡ view.items ++ item ∷ [] → own_class view.known call ≡ None →
    OpensCall (course_of view.known.windows call) view.at item → known ≡ view.known →
    Standing stage rank rows
    (record { items = items; known = known; at = view.at; entered = true; ended = view.ended })
first_item stage rank rows view call item items known o knows here push passes opens same =
    subst (λ (k : Knowledge). Standing stage rank rows
    (record { items = items; known = k; at = view.at; entered = true; ended = view.ended })) (sym same)
    (IsInside (record {
      entered = refl;
      going = o.going;
      call = call;
      here = here;
      before = view.items;
      item = item;
      split = push;
      done = o.done;
      passes = passes;
      opens = opens;
      same = knows;
    }))

-- ---- the end of the calls

some_within : {X : Type 0} (xs : List X) (at : ℕ) (P : X → Type 0) → IsSomeAnd (slice_get xs at) P → suc at ≤ length xs
some_within {X} xs at P h = by (slice_get xs at) refl
  where
    by : (o : Option X) → slice_get xs at ≡ o → suc at ≤ length xs
    by None e = absurd (subst (λ (o : Option X). IsSomeAnd o P) e h)
    by (Some x) e = let less = slice_get_within xs at x e in omega arith

-- as many calls are finished as there are, at most
finished_within : (here : RankOfRun) (number : ℕ) (items : List Item) → AreFinished here number items →
    number ≤ length (calls_here here)
finished_within here zero items f = omega arith
finished_within here (suc number) items f = some_within (calls_here here) number
    (λ call. AreItemsBy (own_class (known_at here f.0) call) (known_at here f.0) number call f.1) f.4

none_past : {X : Type 0} (xs : List X) (at : ℕ) → slice_get xs at ≡ None → length xs ≤ at
none_past [] at e = omega arith
none_past (x ∷ xs) zero e = absurd (cc e)
none_past (x ∷ xs) (suc at) e = let h = none_past xs at e in omega arith

pub past_all : (stage : Stage) (rank : ℕ) (rows : List Row) (view : View) (items : List Item) →
    Standing stage rank rows view → slice_get (calls_at stage rank) view.at ≡ None → view.ended ≡ false →
    items ≡ view.items ++ Ended ∷ [] →
    Standing stage rank rows (record view { items = items; ended = true })
past_all stage rank rows view items (IsOutside o) none going push =
    let least = finished_within (rank_of stage rank (rows ++ [])) view.at view.items (o.done []) in
    let most = none_past (calls_at stage rank) view.at none in
    IsPast (record { ended = refl; number = omega arith; before = view.items; split = push; done = o.done })
past_all stage rank rows view items (IsInside i) none going push = let here = i.here in absurd (cc (sym none ∙ here))
past_all stage rank rows view items (IsPast p) none going push = let ended = p.ended in absurd (cc (sym going ∙ ended))
