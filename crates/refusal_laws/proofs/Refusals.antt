-- In a lawful log a refused call has one item, and teaches nothing.
use Rattle.std.proofs.Common.{◌≡◌, ℕ, zero, suc, ◌+◌, ◌<◌, ◌≤◌, ◌⊎◌, inl, inr, true, cond, List, [], ◌∷◌}
use Rattle.std.proofs.Common.{◌++◌, Option, Some, None, refl, sym, ◌∙◌, ap, subst, arith, append-nil}
use Rattle.std.proofs.Common.{append_assoc}
use Rattle.std.specs.Prelude.{IsSomeAnd, ◌==◌, not, slice_get, take}
use Rattle.std.specs.List.{filter, AllByRecursion}
use Rattle.std.proofs.lemmas.List.Elements.{filter-append}
use Rattle.std.proofs.lemmas.List.Sums.{fold_push}
use Rattle.std.proofs.lemmas.Bool.{eq-eqb, ne_eqb}
use Rattle.list_laws.proofs.Members.{In, append_in, contains_in, in_filter, each_in}
use Rattle.rma_types.specs.declared.accesses.Step.TheVariants.{Arrive}
use Rattle.rma_types.specs.declared.calls.Call.{Call}
use Rattle.rma_types.specs.declared.classes.Class.{Class}
use Rattle.rma_types.specs.declared.schedules.Delay.{Delay}
use Rattle.rma_types.specs.declared.scripts.Script.{Script}
use Rattle.rma_record.specs.declared.items.Item.{Item}
use Rattle.rma_record.specs.declared.items.Item.TheVariants.{Issue, Null, Touch, Flush, Request, Entry, Tested, Refused}
use Rattle.rma_record.specs.declared.items.Item.TheVariants.{Ended}
use Rattle.rma_record.specs.declared.runs.Run.{Run}
use Rattle.rank_rules.specs.Knowledge.{own_class, learn}
use Rattle.board_rules.specs.Board.{shared_class}
use Rattle.lawful_runs.specs.BoardLaw.{IsLook, first_row}
use Rattle.lawful_runs.specs.CallItems.{AreItemsBy, AreFinished, StandsAt, EndsOrStands, HasItemsOfCalls, other_items}
use Rattle.lawful_runs.specs.Items.{is_touch, belongs_to}
use Rattle.lawful_runs.specs.LawfulRun.{IsLawful, rank_in}
use Rattle.lawful_runs.specs.Logs.{log_of}
use Rattle.lawful_runs.specs.Stages.{RankOfRun, calls_here, first_knowledge, known_at, shapes_in}
use Rattle.refusal_laws.proofs.CallItems.{Belongs, in_call, one_refusal}
use Rattle.refusal_laws.proofs.Members.{single}
use Rattle.refusal_laws.specs.RefusalLaws.{ChangesNothing, IsNamedClass, RefusalsChangeNothing}

-- ---- items of other calls

same_number : (m : ℕ) → (m == m) ≡ true
same_number m = eq-eqb m m refl

kept_none : (m k : ℕ) (item : Item) (rest : List Item) → Belongs k item → (k ≡ m → ⊥) →
    filter (belongs_to m) rest ≡ [] → filter (belongs_to m) (item ∷ rest) ≡ []
unfolding Belongs
kept_none m k item rest of other none = rw of (rw (ne_eqb k m other) none)

none_of : (m k : ℕ) (items : List Item) → AllByRecursion (Belongs k) items → (k ≡ m → ⊥) →
    filter (belongs_to m) items ≡ []
none_of m k [] all other = refl
none_of m k (item ∷ items) all other = kept_none m k item items all.0 other (none_of m k items all.1 other)

-- ---- the refused call among finished ones

-- the refusal among these items, which are those of the first calls
record IsAmong (here : RankOfRun) (n : ℕ) (items : List Item) (number : ℕ) (class : Class) (seen : ℕ) : Type 0 where
  call : Call
  is_call : slice_get (calls_here here) number ≡ Some call
  before : List Item
  after : List Item
  stands : items ≡ before ++ Refused number class seen ∷ after
  calls_before : AreFinished here number before
  by : ((own_class (known_at here before) call ≡ Some class) × (seen ≡ 0))
      ⊎ ((own_class (known_at here before) call ≡ None) × (earlier : ℕ) × (seen ≡ suc earlier))
  alone : filter (belongs_to number) items ≡ Refused number class seen ∷ []
  below : number < n

-- the items of a call belong to it
of_call : (here : RankOfRun) (n : ℕ) (o : Option Call) (before items : List Item) →
    IsSomeAnd o (λ call. let known = known_at here before in AreItemsBy (own_class known call) known n call items) →
    AllByRecursion (Belongs n) items
of_call here n None before items is = absurd is
of_call here n (Some call) before items is =
    in_call (own_class (known_at here before) call) (known_at here before) n call items is

none_before : (here : RankOfRun) (n m : ℕ) (items : List Item) → AreFinished here n items → n ≤ m →
    filter (belongs_to m) items ≡ []
none_before here zero m items is low = ap (filter (belongs_to m)) is
none_before here (suc n) m items is low =
    ap (filter (belongs_to m)) is.2 ∙ filter-append (belongs_to m) is.0 is.1
    ∙ ap (λ xs. xs ++ filter (belongs_to m) is.1) (none_before here n m is.0 is.3 (omega (arith, low)))
    ∙ none_of m n is.1 (of_call here n (slice_get (calls_here here) n) is.0 is.1 is.4)
    (λ same. omega (arith, low, same))

-- the last of some calls
last_call : (here : RankOfRun) (n : ℕ) (o : Option Call) (before items all : List Item) →
    slice_get (calls_here here) n ≡ o → all ≡ before ++ items → AreFinished here n before →
    IsSomeAnd o (λ call. let known = known_at here before in AreItemsBy (own_class known call) known n call items) →
    (number : ℕ) (class : Class) (seen : ℕ) → In (Refused number class seen) items →
    IsAmong here (suc n) all number class seen
last_call here n None before items all got joined finished is number class seen m = absurd is
last_call here n (Some call) before items all got joined finished is number class seen m =
    let known = known_at here before in
    let one = one_refusal (own_class known call) known n call items is number class seen m in
    let here_number = sym one.number_is in
    record {
      call = call;
      is_call = ap (slice_get (calls_here here)) one.number_is ∙ got;
      before = before;
      after = [];
      stands = joined ∙ ap (λ xs. before ++ xs) one.alone;
      calls_before = subst (λ k. AreFinished here k before) here_number finished;
      by = one.by;
      alone =
          ap (filter (belongs_to number)) (joined ∙ ap (λ xs. before ++ xs) one.alone)
          ∙ filter-append (belongs_to number) before (Refused number class seen ∷ [])
          ∙ ap (λ xs. xs ++ filter (belongs_to number) (Refused number class seen ∷ []))
          (none_before here n number before finished (omega (arith, one.number_is)))
          ∙ ap (λ b. cond b (Refused number class seen ∷ []) []) (same_number number);
      below = omega (arith, one.number_is);
    }

-- an earlier one of some calls
earlier_call : (here : RankOfRun) (n : ℕ) (before items all : List Item) → all ≡ before ++ items →
    AllByRecursion (Belongs n) items → (number : ℕ) (class : Class) (seen : ℕ) →
    IsAmong here n before number class seen → IsAmong here (suc n) all number class seen
earlier_call here n before items all joined last number class seen among = record {
  call = among.call;
  is_call = among.is_call;
  before = among.before;
  after = among.after ++ items;
  stands =
      joined ∙ ap (λ xs. xs ++ items) among.stands
      ∙ append_assoc among.before (Refused number class seen ∷ among.after) items;
  calls_before = among.calls_before;
  by = among.by;
  alone =
      ap (filter (belongs_to number)) joined ∙ filter-append (belongs_to number) before items
      ∙ ap (λ xs. filter (belongs_to number) before ++ xs)
      (none_of number n items last (λ same. let low = among.below in omega (arith, low, same)))
      ∙ append-nil (filter (belongs_to number) before) ∙ among.alone;
  below = let low = among.below in omega (arith, low);
}

finished_call : (here : RankOfRun) (n : ℕ) (items : List Item) → AreFinished here n items →
    (number : ℕ) (class : Class) (seen : ℕ) → In (Refused number class seen) items →
    IsAmong here n items number class seen
finished_call here zero items is number class seen m =
    let none : In (Refused number class seen) [] = subst (In (Refused number class seen)) is m in elim none [ ]
finished_call here (suc n) items is number class seen m =
    elim (append_in is.0 (subst (In (Refused number class seen)) is.2 m)) [
      | inl earlier ↦ earlier_call here n is.0 is.1 items is.2
          (of_call here n (slice_get (calls_here here) n) is.0 is.1 is.4) number class seen
          (finished_call here n is.0 is.3 number class seen earlier)
      | inr last ↦ last_call here n (slice_get (calls_here here) n) is.0 is.1 items refl is.2 is.3 is.4 number class
          seen last
    ]

-- ---- what follows the finished calls

-- no refusal is there, and nothing of the earlier calls
record IsQuiet (n : ℕ) (rest : List Item) : Type 0 where
  refuses : (number : ℕ) (class : Class) (seen : ℕ) → In (Refused number class seen) rest → ⊥
  later : (m : ℕ) → m < n → filter (belongs_to m) rest ≡ []

quiet_nil : (n : ℕ) (rest : List Item) → rest ≡ [] → IsQuiet n rest
quiet_nil n rest is = record {
  refuses = λ number class seen m. let none : In (Refused number class seen) [] =
      subst (In (Refused number class seen)) is m in elim none [ ];
  later = λ m low. ap (filter (belongs_to m)) is;
}

entry_belongs : (n place : ℕ) → Belongs n (Entry n place Arrive)
unfolding Belongs
entry_belongs n place = refl

quiet_standing : (here : RankOfRun) (before : List Item) (n : ℕ) (o : Option Call) (rest : List Item) →
    IsSomeAnd o (λ call. StandsAt here before n call rest) → IsQuiet n rest
quiet_standing here before n None rest is = absurd is
quiet_standing here before n (Some call) rest is = elim is.1 [
  | inl nothing ↦ quiet_nil n rest nothing.0
  | inr arrived ↦ record {
    refuses = λ number class seen m. let other : Refused number class seen ≡ Entry n arrived.0 Arrive =
        single (subst (In (Refused number class seen)) arrived.1 m) in cc other;
    later = λ m low. none_of m n rest
        (subst (AllByRecursion (Belongs n)) (sym arrived.1) (entry_belongs n arrived.0, tt))
        (λ same. omega (arith, low, same));
  }
]

quiet : (here : RankOfRun) (before : List Item) (n : ℕ) (rest : List Item) → EndsOrStands here before n rest →
    IsQuiet n rest
quiet here before n rest (inl ended) = record {
  refuses = λ number class seen m. let other : Refused number class seen ≡ Ended =
      single (subst (In (Refused number class seen)) ended.1 m) in cc other;
  later = λ m low. ap (filter (belongs_to m)) ended.1;
}
quiet here before n rest (inr stands) = quiet_standing here before n (slice_get (calls_here here) n) rest stands

-- ---- the whole log

-- touches belong to no call
without_touches : (m : ℕ) (log : List Item) → filter (belongs_to m) (other_items log) ≡ filter (belongs_to m) log
without_touches m [] = refl
without_touches m (Touch of element cell place bits ∷ log) = without_touches m log
without_touches m (Issue number access ∷ log) = ap (λ xs. cond (number == m) (Issue number access ∷ xs) xs)
    (without_touches m log)
without_touches m (Null number ∷ log) = ap (λ xs. cond (number == m) (Null number ∷ xs) xs) (without_touches m log)
without_touches m (Flush number ∷ log) = ap (λ xs. cond (number == m) (Flush number ∷ xs) xs) (without_touches m log)
without_touches m (Request number ∷ log) = ap (λ xs. cond (number == m) (Request number ∷ xs) xs)
    (without_touches m log)
without_touches m (Entry number place step ∷ log) = ap (λ xs. cond (number == m) (Entry number place step ∷ xs) xs)
    (without_touches m log)
without_touches m (Tested number seen ∷ log) = ap (λ xs. cond (number == m) (Tested number seen ∷ xs) xs)
    (without_touches m log)
without_touches m (Refused number class seen ∷ log) =
    ap (λ xs. cond (number == m) (Refused number class seen ∷ xs) xs) (without_touches m log)
without_touches m (Ended ∷ log) = without_touches m log

-- a refusal teaches nothing
unchanged : (here : RankOfRun) (before : List Item) (number : ℕ) (class : Class) (seen : ℕ) →
    known_at here (before ++ Refused number class seen ∷ []) ≡ known_at here before
unchanged here before number class seen =
    fold_push (learn (shapes_in here.stage here.rows) (calls_here here)) (first_knowledge here.stage here.rank) before
    (Refused number class seen)

-- the board's class, where the refusal saw entries
board_class : (here : RankOfRun) (o : Option Call) (call : Call) (number : ℕ) (class : Class) (earlier : ℕ) →
    o ≡ Some call →
    IsSomeAnd o (λ one.
    shared_class here.stage.script.ranks (take (suc earlier) here.rows) (first_row here.rank number one)
    ≡ Some class) →
    shared_class here.stage.script.ranks (take (suc earlier) here.rows) (first_row here.rank number call) ≡ Some class
board_class here None call number class earlier got is = absurd is
board_class here (Some one) call number class earlier got is =
    let same : one ≡ call = cc got in
    subst (λ c. shared_class here.stage.script.ranks (take (suc earlier) here.rows) (first_row here.rank number c)
    ≡ Some class) same is

named_by : (here : RankOfRun) (log before : List Item) (number : ℕ) (call : Call) (class : Class) (seen : ℕ) →
    AllByRecursion (IsLook here.stage.script.ranks here.rows here.rank (calls_here here)) log →
    In (Refused number class seen) log → slice_get (calls_here here) number ≡ Some call →
    ((own_class (known_at here before) call ≡ Some class) × (seen ≡ 0))
    ⊎ ((own_class (known_at here before) call ≡ None) × (earlier : ℕ) × (seen ≡ suc earlier)) →
    IsNamedClass here before number call class seen
named_by here log before number call class zero looks m got (inl own) = own.0
named_by here log before number call class zero looks m got (inr board) = absurd (omega (arith, board.2))
named_by here log before number call class (suc earlier) looks m got (inl own) = absurd (omega (arith, own.1))
named_by here log before number call class (suc earlier) looks m got (inr board) = (
  board.0,
  board_class here (slice_get (calls_here here) number) call number class earlier got
      (each_in (IsLook here.stage.script.ranks here.rows here.rank (calls_here here)) log looks m),
)

with_all : (here : RankOfRun) (log : List Item) (has : HasItemsOfCalls here (other_items log)) →
    AllByRecursion (IsLook here.stage.script.ranks here.rows here.rank (calls_here here)) log →
    (number : ℕ) (class : Class) (seen : ℕ) → In (Refused number class seen) log →
    IsAmong here has.0 has.1 number class seen → ChangesNothing here log number class seen
with_all here log has looks number class seen m among =
    let quiet_rest = quiet here has.1 has.0 has.2 has.5 in
    record {
      call = among.call;
      is_call = among.is_call;
      before = among.before;
      after = among.after ++ has.2;
      stands =
          has.3 ∙ ap (λ xs. xs ++ has.2) among.stands
          ∙ append_assoc among.before (Refused number class seen ∷ among.after) has.2;
      calls_before = among.calls_before;
      named = named_by here log among.before number among.call class seen looks m among.is_call among.by;
      alone =
          sym (without_touches number log) ∙ ap (filter (belongs_to number)) has.3
          ∙ filter-append (belongs_to number) has.1 has.2
          ∙ ap (λ xs. filter (belongs_to number) has.1 ++ xs) (quiet_rest.later number among.below)
          ∙ append-nil (filter (belongs_to number) has.1) ∙ among.alone;
      unchanged = unchanged here among.before number class seen;
    }

of_log : (here : RankOfRun) (log : List Item) → HasItemsOfCalls here (other_items log) →
    AllByRecursion (IsLook here.stage.script.ranks here.rows here.rank (calls_here here)) log →
    RefusalsChangeNothing here log
of_log here log has looks number class seen among =
    let m = contains_in log (Refused number class seen) among in
    let left = in_filter (λ item. not (is_touch item)) m refl in
    elim (append_in has.1 (subst (In (Refused number class seen)) has.3 left)) [
      | inl finished ↦ with_all here log has looks number class seen m
          (finished_call here has.0 has.1 has.4 number class seen finished)
      | inr rest ↦ absurd ((quiet here has.1 has.0 has.2 has.5).refuses number class seen rest)
    ]

pub change_nothing : (script : Script) (delay : Delay) (run : Run) → IsLawful script delay run →
    (rank : ℕ) → rank < script.ranks → RefusalsChangeNothing (rank_in script delay run rank) (log_of run rank)
change_nothing script delay run lawful rank low =
    of_log (rank_in script delay run rank) (log_of run rank) (lawful.logs rank low).calls
    (lawful.board.looks rank low).looks
