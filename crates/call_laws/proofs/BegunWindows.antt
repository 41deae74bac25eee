-- The windows that a rank has begun to make by its entries are those that it knows, and the one that it is making.
use Rattle.std.proofs.Common.{◌≡◌, ℕ, ◌+◌, ◌-◌, ◌≤◌, Bool, true, false, cond, List, [], ◌∷◌, ◌++◌, length, Option, Some}
use Rattle.std.proofs.Common.{None, refl, sym, ◌∙◌, ap, subst, arith, length-append}
use Rattle.std.specs.Prelude.{◌&&◌, ◌==◌, ◌≢◌, is_some, map}
use Rattle.std.specs.List.{count_by, filter, AllByRecursion}
use Rattle.std.specs.Option.{option_map_or}
use Rattle.std.proofs.lemmas.Bool.{ne_eqb, eq-eqb}
use Rattle.std.proofs.lemmas.List.{append-nil, map-append}
use Rattle.std.proofs.lemmas.List.Elements.{filter-append}
use Rattle.std.proofs.lemmas.List.Sums.{sum_by-append, sum_by-cons}
use Rattle.list_laws.proofs.Truths.{false_inside, and_three}
use Rattle.rma_types.specs.declared.accesses.Step.TheVariants.{Arrive, Leave, One}
use Rattle.rma_types.specs.declared.calls.Call.{Call}
use Rattle.rma_types.specs.declared.scripts.Part.{Part}
use Rattle.rma_types.proofs.ActionLaws.{creates_it, name_made, none_made, transfer_makes_none}
use Rattle.rma_record.specs.declared.items.Item.{Item}
use Rattle.rma_record.specs.declared.items.Item.TheVariants.{Entry}
use Rattle.rank_rules.proofs.WindowLaws.{created_grows}
use Rattle.board_rules.specs.Entries.{Row, Act, acts, acts_after, window_of, round_of, is_arrive, is_creation}
use Rattle.board_rules.specs.Entries.{names_window, begins_window, creations, Collective}
use Rattle.board_rules.specs.Entries.{Creation as CreationRound, is_collective, arrivals}
use Rattle.rma_types.specs.declared.actions.Creation.{Creation}
use Rattle.rma_types.specs.Actions.{creation_of, window_in_action}
use Rattle.board_rules.proofs.EntryLaws.{begins_by, names_it, is_arrival, new_number}
use Rattle.call_laws.proofs.Teaching.{learns_call, IsPlain, plain_created}
use Rattle.call_laws.proofs.Teaching.{arrive_is_plain, look_up_is_plain, leave_ends, look_up_moves}
use Rattle.lawful_runs.specs.Stages.{Stage, calls_at}
use Rattle.rank_laws.proofs.Moves.{course_at, Begins}
use Rattle.rank_laws.proofs.Shapes.{acts_joined, creation_is_collective}
use Rattle.rank_rules.specs.Courses.{LookUpAndIssue}
use Rattle.rank_rules.specs.Knowledge.{Knowledge, learn}
use Rattle.rank_rules.specs.Windows.{window_number, next_number}
use Rattle.step_runs.specs.Agents.{Agent, next_call, keep_item, end_call, enter_call}
use Rattle.step_runs.specs.BoardSteps.{next_row}

-- ---- the creations of a rank

abbrev pub is_named : ℕ → ℕ → Bool
is_named win name = name == win

creations_joined : (rows more : List Row) (rank win : ℕ) →
    creations (rows ++ more) rank win ≡ creations rows rank win + creations more rank win
creations_joined rows more rank win = sum_by-append (λ (row : Row). cond {A = ℕ} (begins_by rank win row) 1 0) rows more

creations_cons : (row : Row) (rows : List Row) (rank win : ℕ) →
    creations (row ∷ rows) rank win ≡ cond {A = ℕ} (begins_by rank win row) 1 0 + creations rows rank win
creations_cons row rows rank win = sum_by-cons (λ (r : Row). cond {A = ℕ} (begins_by rank win r) 1 0) row rows

plus_none : (a b c : ℕ) → a ≡ b + c → c ≡ 0 → a ≡ b
plus_none a b c e none = omega arith

both_none : (a b c : ℕ) → a ≡ b + c → b ≡ 0 → c ≡ 0 → a ≡ 0
both_none a b c e f g = omega arith

none_of_others : (rank win : ℕ) (rows : List Row) → AllByRecursion (λ (row : Row). row.rank ≢ rank) rows →
    creations rows rank win ≡ 0
none_of_others rank win [] h = refl
none_of_others rank win (row ∷ rows) h =
    both_none (creations (row ∷ rows) rank win) (cond {A = ℕ} (begins_by rank win row) 1 0) (creations rows rank win)
    (creations_cons row rows rank win)
    (ap (λ b. cond {A = ℕ} (b && begins_window row && names_window win row.call) 1 0) (ne_eqb row.rank rank h.0))
    (none_of_others rank win rows h.1)

-- others create nothing for the rank
pub others_create_none : (rank win : ℕ) (rows more : List Row) →
    AllByRecursion (λ (row : Row). row.rank ≢ rank) more → creations (rows ++ more) rank win ≡ creations rows rank win
others_create_none rank win rows more h = plus_none (creations (rows ++ more) rank win) (creations rows rank win)
    (creations more rank win) (creations_joined rows more rank win) (none_of_others rank win more h)

creations_push : (rows : List Row) (row : Row) (rank win : ℕ) →
    creations (rows ++ row ∷ []) rank win ≡ creations rows rank win + cond {A = ℕ} (begins_by rank win row) 1 0
creations_push rows row rank win = sums (creations (rows ++ row ∷ []) rank win) (creations rows rank win)
    (creations (row ∷ []) rank win) (cond {A = ℕ} (begins_by rank win row) 1 0)
    (creations_joined rows (row ∷ []) rank win) (creations_cons row [] rank win)
  where
    sums : (a b c d : ℕ) → a ≡ b + c → c ≡ d + 0 → a ≡ b + d
    sums a b c d e g = omega arith

-- an entry that is no Arrive creates nothing
pub later_creates_none : (rows : List Row) (row : Row) (rank win : ℕ) → is_arrive row.step ≡ false →
    creations (rows ++ row ∷ []) rank win ≡ creations rows rank win
later_creates_none rows row rank win e =
    plus_none (creations (rows ++ row ∷ []) rank win) (creations rows rank win)
    (cond {A = ℕ} (begins_by rank win row) 1 0) (creations_push rows row rank win)
    (ap (λ b. cond {A = ℕ} (row.rank == rank && (b && is_creation row.call) && names_window win row.call) 1 0) e
    ∙ ap (λ b. cond {A = ℕ} b 1 0) (false_inside (row.rank == rank) (is_creation row.call) (names_window win row.call)))

-- ---- names

count_names : (win : ℕ) (xs ys : List ℕ) →
    count_by (is_named win) (xs ++ ys) ≡ count_by (is_named win) xs + count_by (is_named win) ys
count_names win xs ys = sum_by-append (λ name. cond {A = ℕ} (name == win) 1 0) xs ys

-- a call that begins to make a window of the name counts once
count_made : (call : Call) (mine : Bool) (win : ℕ) → mine ≡ true →
    cond {A = ℕ} (mine && is_creation call && names_window win call) 1 0 ≡ count_by (is_named win) (name_made call)
count_made call false win e = absurd (cc e)
count_made call true win e = by_creation (creation_of call) refl
  where
    sums : (a b : ℕ) → b ≡ a + 0 → a ≡ b
    sums a b k = omega arith

    one : (creation : Creation) → cond {A = ℕ} (creation.win == win) 1 0 ≡ count_by (is_named win) (creation.win ∷ [])
    one creation = sums (cond {A = ℕ} (creation.win == win) 1 0) (count_by (is_named win) (creation.win ∷ []))
        (sum_by-cons (λ name. cond {A = ℕ} (name == win) 1 0) creation.win [])

    by_creation : (o : Option Creation) → creation_of call ≡ o →
        cond {A = ℕ} (true && is_some o && names_window win call) 1 0 ≡ count_by (is_named win)
        (option_map_or (λ (creation : Creation). creation.win ∷ []) o [])
    by_creation None none = refl
    by_creation (Some creation) makes = ap (λ b. cond {A = ℕ} b 1 0) (names_it call creation win makes) ∙ one creation

-- ---- arrivals

arrivals_joined : (rows more : List Row) (collective : Collective) (rank window : ℕ) →
    arrivals (acts (rows ++ more)) collective rank window ≡
    arrivals (acts rows) collective rank window ++ arrivals (acts_after rows more) collective rank window
arrivals_joined rows more collective rank window =
    ap (λ (entries : List Act). arrivals entries collective rank window) (acts_joined rows more)
    ∙ ap (map (λ (act : Act). act.row.call))
    (filter-append (is_arrival collective rank window) (acts rows) (acts_after rows more))
    ∙ map-append (λ (act : Act). act.row.call) (filter (is_arrival collective rank window) (acts rows))
    (filter (is_arrival collective rank window) (acts_after rows more))

-- arrivals stay
pub arrivals_stay : (rows more : List Row) (collective : Collective) (rank window : ℕ) →
    1 ≤ length (arrivals (acts rows) collective rank window) →
    1 ≤ length (arrivals (acts (rows ++ more)) collective rank window)
arrivals_stay rows more collective rank window h =
    sums (length (arrivals (acts rows) collective rank window))
    (length (arrivals (acts_after rows more) collective rank window)) _
    (ap length (arrivals_joined rows more collective rank window)
    ∙ length-append (arrivals (acts rows) collective rank window)
    (arrivals (acts_after rows more) collective rank window)) h
  where
    sums : (a b c : ℕ) → c ≡ a + b → 1 ≤ a → 1 ≤ c
    sums a b c e k = omega arith

-- an entry that passes is a new arrival
arrival_new : (rows : List Row) (row : Row) (collective : Collective) (rank window : ℕ) →
    is_arrival collective rank window (record { row = row; window = window_of rows row }) ≡ true →
    1 ≤ length (arrivals (acts (rows ++ row ∷ [])) collective rank window)
arrival_new rows row collective rank window passes =
    sums (length (arrivals (acts rows) collective rank window)) _
    (ap length (arrivals_joined rows (row ∷ []) collective rank window)
    ∙ length-append (arrivals (acts rows) collective rank window)
    (arrivals (acts_after rows (row ∷ [])) collective rank window)
    ∙ ap (λ (n : ℕ). length (arrivals (acts rows) collective rank window) + n)
    (ap (λ b. length (map (λ (act : Act). act.row.call) (cond b
    ((let act : Act = record { row = row; window = window_of rows row } in act) ∷ []) []))) passes))
  where
    sums : (a c : ℕ) → c ≡ a + 1 → 1 ≤ c
    sums a c e = omega arith

-- ---- ranks

-- a rank that has arrived at the creation of a window, if its call is one
pub record IsOpen (rows : List Row) (rank : ℕ) (created : List ℕ) (call : Call) : Type 0 where
  pub numbers : (win : ℕ) → creations rows rank win ≡ count_by (is_named win) (created ++ name_made call)
  pub arrived : (creation : Creation) → creation_of call ≡ Some creation →
      1 ≤ length (arrivals (acts rows) CreationRound rank (next_number created creation.win))

-- the creations among the entries of a rank are those that it knows, and one more inside one
pub record HasBegunWindows (stage : Stage) (agent : Agent) (rows : List Row) : Type 0 where
  pub outside : agent.entered ≡ false → (win : ℕ) →
      creations rows agent.rank win ≡ count_by (is_named win) agent.known.windows.created
  pub inside : agent.entered ≡ true → (call : Call) → next_call stage agent ≡ Some call →
      IsOpen rows agent.rank agent.known.windows.created call

-- others put entries
pub begun_by_others : (stage : Stage) (agent : Agent) (rows more : List Row) →
    AllByRecursion (λ (row : Row). row.rank ≢ agent.rank) more → HasBegunWindows stage agent rows →
    HasBegunWindows stage agent (rows ++ more)
begun_by_others stage agent rows more others h = record {
  outside = λ new win. others_create_none agent.rank win rows more others ∙ h.outside new win;
  inside = λ entered call here. let open_ = h.inside entered call here in record {
    numbers = λ win. others_create_none agent.rank win rows more others ∙ open_.numbers win;
    arrived = λ creation makes. arrivals_stay rows more CreationRound agent.rank
        (next_number agent.known.windows.created creation.win) (open_.arrived creation makes);
  };
}

-- at a call that makes no window
pub numbers_at : (stage : Stage) (agent : Agent) (rows : List Row) (call : Call) → HasBegunWindows stage agent rows →
    next_call stage agent ≡ Some call → creation_of call ≡ None → (win : ℕ) →
    creations rows agent.rank win ≡ count_by (is_named win) agent.known.windows.created
numbers_at stage agent rows call h here none win = by agent.entered refl
  where
    by : (b : Bool) → agent.entered ≡ b →
        creations rows agent.rank win ≡ count_by (is_named win) agent.known.windows.created
    by false new = h.outside new win
    by true entered = (h.inside entered call here).numbers win
        ∙ ap (λ (names : List ℕ). count_by (is_named win) (agent.known.windows.created ++ names)) (none_made call none)
        ∙ ap (count_by (is_named win)) (append-nil agent.known.windows.created)

-- an item that makes no window ends the call
pub begun_ending : (stage : Stage) (agent : Agent) (rows : List Row) (shapes : ℕ → List Part) (item : Item) →
    IsPlain (calls_at stage agent.rank) item →
    ((win : ℕ) → creations rows agent.rank win ≡ count_by (is_named win) agent.known.windows.created) →
    HasBegunWindows stage (end_call (keep_item shapes stage agent item)) rows
begun_ending stage agent rows shapes item plain numbers = record {
  outside = λ new win. numbers win ∙ ap (count_by (is_named win))
      (sym (plain_created shapes (calls_at stage agent.rank) agent.known item plain));
  inside = λ entered. absurd (cc entered);
}

-- the Leave ends the call
pub begun_leaving : (stage : Stage) (agent : Agent) (rows : List Row) (call : Call) (shapes : ℕ → List Part)
    (place : ℕ) → next_call stage agent ≡ Some call → IsOpen rows agent.rank agent.known.windows.created call →
    HasBegunWindows stage (end_call (keep_item shapes stage agent (Entry agent.at place Leave)))
    (rows ++ next_row agent call Leave ∷ [])
begun_leaving stage agent rows call shapes place here open_ = record {
  outside = λ new win. later_creates_none rows (next_row agent call Leave) agent.rank win refl
      ∙ open_.numbers win
      ∙ ap (count_by (is_named win)) (sym (created_grows shapes agent.known.windows call))
      ∙ ap (λ (k : Knowledge). count_by (is_named win) k.windows.created)
      (sym (learns_call shapes (calls_at stage agent.rank) agent.known (Entry agent.at place Leave) agent.at call
      (leave_ends stage agent call place here) here));
  inside = λ entered. absurd (cc entered);
}

-- the first of two entries is put
opened_begun : (stage : Stage) (agent : Agent) (rows : List Row) (call : Call) (shapes : ℕ → List Part) (item : Item) →
    next_call stage agent ≡ Some call → IsPlain (calls_at stage agent.rank) item →
    IsOpen rows agent.rank agent.known.windows.created call →
    HasBegunWindows stage (enter_call (keep_item shapes stage agent item)) rows
opened_begun stage agent rows call shapes item here plain open_ = record {
  outside = λ new. absurd (cc new);
  inside = λ entered other there.
      let same : call ≡ other = cc (here, there) in
      subst (IsOpen rows agent.rank (learn shapes (calls_at stage agent.rank) agent.known item).windows.created) same
      (subst (λ (names : List ℕ). IsOpen rows agent.rank names call)
      (sym (plain_created shapes (calls_at stage agent.rank) agent.known item plain)) open_);
}

pub begun_looking_up : (stage : Stage) (agent : Agent) (rows : List Row) (call : Call) (shapes : ℕ → List Part)
    (place : ℕ) → Begins stage agent call → course_at agent call ≡ LookUpAndIssue → HasBegunWindows stage agent rows →
    HasBegunWindows stage (enter_call (keep_item shapes stage agent (Entry agent.at place One)))
    (rows ++ next_row agent call One ∷ [])
begun_looking_up stage agent rows call shapes place begins course h =
    opened_begun stage agent (rows ++ next_row agent call One ∷ []) call shapes (Entry agent.at place One) begins.here
    (look_up_is_plain stage agent call place begins.here course) (record {
      numbers = λ win. later_creates_none rows (next_row agent call One) agent.rank win refl
          ∙ h.outside begins.new win
          ∙ ap (count_by (is_named win)) (sym (append-nil agent.known.windows.created))
          ∙ ap (λ (names : List ℕ). count_by (is_named win) (agent.known.windows.created ++ names))
          (sym (none_made call none));
      arrived = λ creation makes. absurd (cc (sym none ∙ makes));
    })
  where
    none : creation_of call ≡ None
    none = let moves = look_up_moves agent.known.windows call course in transfer_makes_none call moves.0 moves.1

pub begun_arriving : (stage : Stage) (agent : Agent) (rows : List Row) (call : Call) (shapes : ℕ → List Part)
    (place : ℕ) → Begins stage agent call → HasBegunWindows stage agent rows →
    HasBegunWindows stage (enter_call (keep_item shapes stage agent (Entry agent.at place Arrive)))
    (rows ++ next_row agent call Arrive ∷ [])
begun_arriving stage agent rows call shapes place begins h =
    opened_begun stage agent (rows ++ row ∷ []) call shapes (Entry agent.at place Arrive) begins.here
    (arrive_is_plain stage agent call place begins.here) (record {
      numbers = λ win. creations_push rows row agent.rank win
          ∙ sums (creations rows agent.rank win) (count_by (is_named win) agent.known.windows.created)
          (cond {A = ℕ} (begins_by agent.rank win row) 1 0) (count_by (is_named win) (name_made call))
          (h.outside begins.new win) (count_made call (agent.rank == agent.rank) win
          (eq-eqb agent.rank agent.rank refl))
          ∙ sym (count_names win agent.known.windows.created (name_made call));
      arrived = λ creation makes. arrival_new rows row CreationRound agent.rank
          (next_number agent.known.windows.created creation.win) (is_there creation makes);
    })
  where
    row : Row
    row = next_row agent call Arrive

    sums : (a b c d : ℕ) → a ≡ b → c ≡ d → a + c ≡ b + d
    sums a b c d e f = omega arith

    is_there : (creation : Creation) → creation_of call ≡ Some creation →
        is_arrival CreationRound agent.rank (next_number agent.known.windows.created creation.win)
        (record { row = next_row agent call Arrive; window = window_of rows (next_row agent call Arrive) }) ≡ true
    is_there creation makes =
        let number = next_number agent.known.windows.created creation.win in
        and_three (agent.rank == agent.rank && window_of rows row == number) true (is_collective CreationRound call)
        (ap (λ b. b && window_of rows row == number) (eq-eqb agent.rank agent.rank refl)
        ∙ eq-eqb (window_of rows row) number (new_number rows row creation (ap is_some makes) makes
        ∙ ap (λ n. window_number n creation.win) (h.outside begins.new creation.win)))
        refl (creation_is_collective call ∙ ap is_some makes)

-- ---- the Leave of a creation

one_name : (call : Call) (creation : Creation) → creation_of call ≡ Some creation →
    count_by (is_named creation.win) (name_made call) ≡ 1
one_name call creation makes =
    sym (count_made call true creation.win refl)
    ∙ ap (λ b. cond {A = ℕ} b 1 0) (and_three true (is_creation call) (names_window creation.win call) refl
    (ap is_some makes) (names_it call creation creation.win makes ∙ eq-eqb creation.win creation.win refl))

-- a rank leaves the creation of the window that it makes
pub leaving_number : (rows : List Row) (agent : Agent) (call : Call) (creation : Creation) →
    IsOpen rows agent.rank agent.known.windows.created call → creation_of call ≡ Some creation →
    window_of rows (next_row agent call Leave) ≡ next_number agent.known.windows.created creation.win
leaving_number rows agent call creation open_ makes =
    ap (λ a. option_map_or (λ win. window_number (round_of rows (next_row agent call Leave) win) win)
    (window_in_action a) 0) (creates_it call creation makes)
    ∙ ap (λ n. window_number n creation.win)
    (one_less (creations rows agent.rank creation.win)
    (count_by (is_named creation.win) agent.known.windows.created)
    (count_by (is_named creation.win) (name_made call))
    (open_.numbers creation.win ∙ count_names creation.win agent.known.windows.created (name_made call))
    (one_name call creation makes))
  where
    one_less : (a b c : ℕ) → a ≡ b + c → c ≡ 1 → a - 1 ≡ b
    one_less a b c e one = omega arith
