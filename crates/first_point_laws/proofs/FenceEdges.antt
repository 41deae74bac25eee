-- The edge that leads from the Arrive of a fence to the Leave of the same rank: both are on one window and of one
-- round.
use Rattle.std.proofs.Common.{◌≡◌, ℕ, ◌+◌, ◌-◌, Bool, true, false, cond, List, [], ◌∷◌, ◌++◌, length, Option, Some}
use Rattle.std.proofs.Common.{None, refl, ap, sym, ◌∙◌, arith, append_assoc, append-nil}
use Rattle.std.specs.Prelude.{◌&&◌, ◌||◌, ◌==◌, map, is_some, if◌then◌else◌}
use Rattle.std.specs.List.{filter}
use Rattle.std.specs.Option.{option_map_or}
use Rattle.std.proofs.lemmas.Bool.{and_from, or_left, eq-eqb, ne_eqb}
use Rattle.list_laws.proofs.Members.{In, here, there}
use Rattle.list_laws.proofs.Options.{some_of}
use Rattle.rma_types.specs.declared.accesses.Step.TheVariants.{Arrive, Leave}
use Rattle.rma_types.specs.declared.calls.Call.{Call}
use Rattle.rma_types.specs.declared.actions.Action.{Action}
use Rattle.rma_types.specs.declared.actions.Action.TheVariants.{Creates, Frees, Attaches, Detaches, Synchronises, Meets}
use Rattle.rma_types.specs.declared.actions.Action.TheVariants.{Moves, EndsRequest}
use Rattle.rma_types.specs.Actions.{action_of, creation_in, window_of_call}
use Rattle.board_rules.specs.Edges.{Event, are_on_one_window, is_arrive_to_leave, are_of_one_round, is_matched_one}
use Rattle.board_rules.specs.Edges.{is_edge}
use Rattle.board_rules.specs.Entries.{Row, Act, acts, window_of, round_of, is_creation, is_by_on, is_arrive}
use Rattle.board_rules.specs.Entries.{begins_window, names_window, creations, arrivals, Collective, Creation, Freeing}
use Rattle.board_rules.specs.Entries.{Fence, Barrier, is_same_collective, collective_in, collective_of, is_collective}
use Rattle.board_rules.specs.Questions.{question}
use Rattle.board_rules.specs.Rounds.{rounds_begun}
use Rattle.rank_rules.specs.Windows.{window_number}
use Rattle.board_rules.proofs.EntryLaws.{begins_by}
use Rattle.step_laws.proofs.EntryNumbers.{act_after, acts_push, creations_push}

-- ---- fences

is_fence : (c : Collective) → is_same_collective Fence c ≡ true → c ≡ Fence
is_fence Creation h = absurd (cc h)
is_fence Freeing h = absurd (cc h)
is_fence Fence h = refl
is_fence Barrier h = absurd (cc h)

fence_is : (call : Call) → is_collective Fence call ≡ true → collective_of call ≡ Some Fence
fence_is call h =
    let c = some_of (is_same_collective Fence) (collective_of call) h in c.1 ∙ ap Some (is_fence c.0 c.2)

no_creation : (a : Action) → collective_in a ≡ Some Fence → is_some (creation_in a) ≡ false
no_creation (Creates creation) h = absurd (cc h)
no_creation (Frees win) h = refl
no_creation (Attaches win base bytes) h = refl
no_creation (Detaches win base) h = refl
no_creation (Synchronises win s) h = refl
no_creation Meets h = refl
no_creation (Moves transfer) h = refl
no_creation (EndsRequest req) h = refl

-- ---- one entry more

-- the entry is the rank's arrival at a fence on the window
abbrev arrives_by : ℕ → ℕ → Act → Bool
arrives_by rank window act =
    is_by_on rank window act && is_arrive act.row.step && is_collective Fence act.row.call

-- these arrivals
abbrev arriving : ℕ → ℕ → List Act → List Act
arriving rank window entries = filter (arrives_by rank window) entries

-- how often the rank arrived at a fence on the window
abbrev arrived_at : List Row → ℕ → ℕ → ℕ
arrived_at rows rank window = length (arrivals (acts rows) Fence rank window)

one_arrival : (rank window : ℕ) (entries : List Act) (last : Act) →
    length (arrivals (entries ++ last ∷ []) Fence rank window)
    ≡ length (arrivals entries Fence rank window) + cond (arrives_by rank window last) 1 0
one_arrival rank window [] last = by_test (arrives_by rank window last)
  where
    by_test : (b : Bool) →
        length (map (λ (act : Act). act.row.call) (cond b (last ∷ []) [])) ≡ 0 + cond b 1 0
    by_test true = refl
    by_test false = refl
one_arrival rank window (x ∷ entries) last =
    by_test (arrives_by rank window x) (one_arrival rank window entries last)
  where
    by_test : (b : Bool) →
        length (map (λ (act : Act). act.row.call) (arriving rank window (entries ++ last ∷ [])))
        ≡ length (map (λ (act : Act). act.row.call) (arriving rank window entries))
        + cond (arrives_by rank window last) 1 0 →
        length (map (λ (act : Act). act.row.call)
        (cond b (x ∷ arriving rank window (entries ++ last ∷ [])) (arriving rank window (entries ++ last ∷ []))))
        ≡ length (map (λ (act : Act). act.row.call)
        (cond b (x ∷ arriving rank window entries) (arriving rank window entries)))
        + cond (arrives_by rank window last) 1 0
    by_test true rest = omega (arith, rest)
    by_test false rest = rest

arrival_push : (rows : List Row) (row : Row) (rank window : ℕ) →
    arrived_at (rows ++ row ∷ []) rank window
    ≡ arrived_at rows rank window + cond (arrives_by rank window (act_after rows row)) 1 0
arrival_push rows row rank window =
    ap (λ entries. length (arrivals entries Fence rank window)) (acts_push rows row)
    ∙ one_arrival rank window (acts rows) (act_after rows row)

-- ---- entries of other ranks

abbrev pub AreOfOthers : ℕ → List Row → Type 0
AreOfOthers rank rows = (row : Row) → In row rows → row.rank ≡ rank → ⊥

other_begins : (rank win : ℕ) (row : Row) → (row.rank ≡ rank → ⊥) → begins_by rank win row ≡ false
other_begins rank win row other =
    ap (λ b. b && begins_window row && names_window win row.call) (ne_eqb row.rank rank other)

creations_still : (before rows : List Row) (rank win : ℕ) → AreOfOthers rank rows →
    creations (before ++ rows) rank win ≡ creations before rank win
creations_still before [] rank win others = ap (λ l. creations l rank win) (append-nil before)
creations_still before (row ∷ rows) rank win others =
    let grown = ap (λ l. creations l rank win) (append_assoc before (row ∷ []) rows) in
    let rest = creations_still (before ++ row ∷ []) rows rank win (λ r m. others r (there m)) in
    let one = creations_push before row rank win in
    let none = ap (λ b. cond b 1 0) (other_begins rank win row (others row here)) in
    sums _ _ _ _ _ grown rest one none
  where
    sums : (a b c d e : ℕ) → a ≡ b → a ≡ c → c ≡ d + e → e ≡ 0 → b ≡ d
    sums a b c d e f g h k = omega arith

other_arrives : (rank window : ℕ) (act : Act) → (act.row.rank ≡ rank → ⊥) → arrives_by rank window act ≡ false
other_arrives rank window act other =
    ap (λ b. (b && act.window == window) && is_arrive act.row.step && is_collective Fence act.row.call)
    (ne_eqb act.row.rank rank other)

arrivals_still : (before rows : List Row) (rank window : ℕ) → AreOfOthers rank rows →
    arrived_at (before ++ rows) rank window ≡ arrived_at before rank window
arrivals_still before [] rank window others = ap (λ l. arrived_at l rank window) (append-nil before)
arrivals_still before (row ∷ rows) rank window others =
    let grown = ap (λ l. arrived_at l rank window) (append_assoc before (row ∷ []) rows) in
    let rest = arrivals_still (before ++ row ∷ []) rows rank window (λ r m. others r (there m)) in
    let one = arrival_push before row rank window in
    let none = ap (λ b. cond b 1 0) (other_arrives rank window (act_after before row) (others row here)) in
    sums _ _ _ _ _ grown rest one none
  where
    sums : (a b c d e : ℕ) → a ≡ b → a ≡ c → c ≡ d + e → e ≡ 0 → b ≡ d
    sums a b c d e f g h k = omega arith

-- ---- the Arrive and the Leave

module _ (ranks rank number : ℕ) (call : Call) (before between : List Row) (fence : is_collective Fence call ≡ true)
    (others : AreOfOthers rank between) where
  abbrev arrive_row : Row
  arrive_row = record { rank = rank; number = number; call = call; step = Arrive }

  abbrev leave_row : Row
  leave_row = record { rank = rank; number = number; call = call; step = Leave }

  abbrev until_leave : List Row
  until_leave = before ++ arrive_row ∷ between

  plain : is_creation call ≡ false
  plain = no_creation (action_of call) (fence_is call fence)

  pushed : before ++ arrive_row ∷ between ≡ (before ++ arrive_row ∷ []) ++ between
  pushed = sym (append_assoc before (arrive_row ∷ []) between)

  same_creations : (win : ℕ) → creations until_leave rank win ≡ creations before rank win
  same_creations win =
      let grown = ap (λ l. creations l rank win) pushed in
      let rest = creations_still (before ++ arrive_row ∷ []) between rank win others in
      let one = creations_push before arrive_row rank win in
      let begins : begins_by rank win arrive_row ≡ false =
      ap (λ b. (rank == rank) && b && names_window win call) plain ∙ fails (rank == rank) in
      let none = ap (λ b. cond b 1 0) begins in
      sums _ _ _ _ _ grown rest one none
    where
      fails : (b : Bool) → (b && false && names_window win call) ≡ false
      fails true = refl
      fails false = refl

      sums : (a b c d e : ℕ) → a ≡ b → b ≡ c → c ≡ d + e → e ≡ 0 → a ≡ d
      sums a b c d e f g h k = omega arith

  same_window : window_of before arrive_row ≡ window_of until_leave leave_row
  same_window = by_name (window_of_call call)
    where
      by_name : (o : Option ℕ) →
          option_map_or (λ win. window_number (round_of before arrive_row win) win) o 0
          ≡ option_map_or (λ win. window_number (round_of until_leave leave_row win) win) o 0
      by_name None = refl
      by_name (Some win) =
          ap (λ b. window_number (if b then creations before rank win else creations before rank win - 1) win) plain
          ∙ ap (λ n. window_number (n - 1) win) (sym (same_creations win))

  own_arrival : arrives_by rank (window_of before arrive_row) (act_after before arrive_row) ≡ true
  own_arrival =
      let window = window_of before arrive_row in
      and_from (((rank == rank) && (window == window)) && true) (is_collective Fence call)
      (and_from ((rank == rank) && (window == window)) true
      (and_from (rank == rank) (window == window) (eq-eqb rank rank refl) (eq-eqb window window refl)) refl) fence

  begun_before : rounds_begun (question ranks before arrive_row)
      ≡ arrived_at before rank (window_of before arrive_row)
  begun_before = ap (λ o. length (option_map_or (λ collective.
      arrivals (acts before) collective rank (window_of before arrive_row)) o [])) (fence_is call fence)

  begun_after : rounds_begun (question ranks until_leave leave_row)
      ≡ arrived_at before rank (window_of before arrive_row) + 1
  begun_after =
      let window = window_of before arrive_row in
      let of_fence = ap (λ o. length (option_map_or (λ collective.
      arrivals (acts until_leave) collective rank (window_of until_leave leave_row)) o [])) (fence_is call fence) in
      let on_window = ap (λ w. arrived_at until_leave rank w) (sym same_window) in
      let grown = ap (λ l. arrived_at l rank window) pushed in
      let rest = arrivals_still (before ++ arrive_row ∷ []) between rank window others in
      let one = arrival_push before arrive_row rank window in
      let own = ap (λ b. cond b 1 0) own_arrival in
      of_fence ∙ on_window ∙ grown ∙ rest ∙ one ∙ ap (λ n. arrived_at before rank window + n) own

  abbrev arrive_event : ℕ → Event
  arrive_event place = record { place = place; step = Arrive; asked = question ranks before arrive_row }

  abbrev leave_event : ℕ → Event
  leave_event place = record { place = place; step = Leave; asked = question ranks until_leave leave_row }

  pub own_edge : (arrived left : ℕ) → is_edge (arrive_event arrived) (leave_event left) ≡ true
  own_edge arrived left =
      let a = arrive_event arrived in
      let b = leave_event left in
      let on_one : are_on_one_window a b ≡ true = eq-eqb (window_of before arrive_row)
      (window_of until_leave leave_row) same_window in
      let same_kind : option_map_or (λ collective. is_collective collective call) (collective_of call) false ≡ true =
      ap (λ o. option_map_or (λ collective. is_collective collective call) o false) (fence_is call fence) ∙ fence in
      let next : (rounds_begun a.asked + 1 == rounds_begun b.asked) ≡ true =
      eq-eqb (rounds_begun a.asked + 1) (rounds_begun b.asked)
      (ap (λ n. n + 1) begun_before ∙ sym begun_after) in
      let round : are_of_one_round a b ≡ true =
      and_from (are_on_one_window a b
      && option_map_or (λ collective. is_collective collective call) (collective_of call) false)
      (rounds_begun a.asked + 1 == rounds_begun b.asked)
      (and_from (are_on_one_window a b)
      (option_map_or (λ collective. is_collective collective call) (collective_of call) false) on_one same_kind)
      next in
      and_from (are_on_one_window a b)
      ((is_arrive_to_leave Arrive Leave && are_of_one_round a b) || is_matched_one a b Arrive Leave) on_one
      (or_left (is_arrive_to_leave Arrive Leave && are_of_one_round a b) (is_matched_one a b Arrive Leave) round)
