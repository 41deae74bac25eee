-- The order of a lawful run: edges lead to greater places, and the order agrees with each log.
use Rattle.std.proofs.Common.{◌≡◌, ◌+◌, ◌<◌, ◌≤◌, ◌⊎◌, inl, inr, true, List, [], ◌∷◌, ◌++◌, length, Some, refl, ap, sym}
use Rattle.std.proofs.Common.{subst, ◌∙◌, arith}
use Rattle.std.specs.Prelude.{◌==◌, slice_get}
use Rattle.std.specs.List.{list_any}
use Rattle.std.proofs.lemmas.Bool.{and_parts, and_from, cases_lt, eqb-true, eq-eqb}
use Rattle.list_laws.proofs.Each.{AllFrom}
use Rattle.list_laws.proofs.Members.{from_in, In, any_in, in_any, in_filter, filter_in, contains_in}
use Rattle.rma_types.specs.declared.accesses.Id.{Id}
use Rattle.rma_types.specs.declared.schedules.Delay.{Delay}
use Rattle.rma_types.specs.declared.scripts.Script.{Script}
use Rattle.rma_record.specs.declared.items.Item.TheVariants.{Entry}
use Rattle.rma_record.specs.declared.runs.Run.{Run}
use Rattle.board_rules.specs.Edges.{Event, is_edge}
use Rattle.board_rules.specs.Entries.{Row, Act, acts, acts_after, window_of}
use Rattle.board_rules.specs.Questions.{question}
use Rattle.lawful_runs.specs.BoardLaw.{HasLawfulBoard}
use Rattle.lawful_runs.specs.LawfulRun.{IsLawful}
use Rattle.lawful_runs.specs.Logs.{log_of, rows_of}
use Rattle.order_rules.specs.Before.{NamedEvent, events_in, is_same_id, events_named, is_edge_between, leads_to, Before}
use Rattle.order_rules.specs.Before.{Same, InLog, Across}
use Rattle.order_rules.proofs.EventLaws.{IsEventAt}
use Rattle.order_laws.specs.OrderLaws.{IsTransitive, AgreesWithLogs, EdgesAscend}
use Rattle.order_laws.proofs.Edges.{no_edge_back}
use Rattle.order_laws.proofs.Events.{events_on_board, places_ascend}

-- ---- transitive

pub transitive : IsTransitive
transitive script run a b c first Same = first
transitive script run a b c first (InLog rest stands) = InLog (transitive script run a b _ first rest) stands
transitive script run a b c first (Across rest edge) = Across (transitive script run a b _ first rest) edge

-- ---- names

pub same_id : (a b : Id) → a.rank ≡ b.rank → a.index ≡ b.index → a ≡ b
same_id a b rank index = λ k. record { rank = rank k; index = index k }

pub same_from : (a b : Id) → is_same_id a b ≡ true → a ≡ b
same_from a b h =
    let two = and_parts (a.rank == b.rank) (a.index == b.index) h in
    same_id a b (eqb-true a.rank b.rank two.0) (eqb-true a.index b.index two.1)

pub is_same : (a : Id) → is_same_id a a ≡ true
is_same a = and_from (a.rank == a.rank) (a.index == a.index) (eq-eqb a.rank a.rank refl) (eq-eqb a.index a.index refl)

-- an edge is one between two entries of these names
pub edge_between : (events : List NamedEvent) (a b : Id) → leads_to events a b ≡ true →
    (x y : NamedEvent) × In x events × In y events × (x.id ≡ a) × (y.id ≡ b) × (is_edge_between x y ≡ true)
edge_between events a b h =
    let first = any_in (λ first. list_any (is_edge_between first) (events_named events b)) (events_named events a) h in
    let second = any_in (is_edge_between first.0) (events_named events b) first.2 in
    let one = filter_in (λ (x : NamedEvent). is_same_id x.id a) events first.1 in
    let two = filter_in (λ (x : NamedEvent). is_same_id x.id b) events second.1 in
    (first.0, second.0, one.0, two.0, same_from first.0.id a one.1, same_from second.0.id b two.1, second.2)

pub edge_from : (events : List NamedEvent) (x y : NamedEvent) → In x events → In y events → is_edge_between x y ≡ true →
    leads_to events x.id y.id ≡ true
edge_from events x y of_x of_y h =
    in_any (λ first. list_any (is_edge_between first) (events_named events y.id))
    (in_filter (λ (z : NamedEvent). is_same_id z.id x.id) of_x (is_same x.id))
    (in_any (is_edge_between x) (in_filter (λ (z : NamedEvent). is_same_id z.id y.id) of_y (is_same y.id)) h)

-- ---- edges ascend

prefix : {X : Type 0} (front : List X) (x : X) (back front' : List X) (x' : X) (back' : List X) → front ++ x
    ∷ back ≡ front' ++ x' ∷ back' → length front' ≤ length front → (more : List X) × (front ≡ front' ++ more)
prefix front x back [] x' back' e long = (front, refl)
prefix [] x back (y ∷ front') x' back' e long = absurd (omega (arith, long))
prefix (z ∷ front) x back (y ∷ front') x' back' e long =
    let same : z ≡ y = cc e in
    let rest = prefix front x back front' x' back' (cc e) (omega (arith, long)) in
    (rest.0, λ k. same k ∷ rest.1 k)

acts_more : (before xs ys : List Row) → (more : List Act)
    × (acts_after before (xs ++ ys) ≡ acts_after before xs ++ more)
acts_more before [] ys = (acts_after before ys, refl)
acts_more before (x ∷ xs) ys =
    let rest = acts_more (before ++ x ∷ []) xs ys in
    (rest.0, ap (λ l. record { row = x; window = window_of before x } ∷ l) rest.1)

module _ (script : Script) (run : Run) (ranks : length run.logs ≡ script.ranks) (board : HasLawfulBoard script run)
  where
    placed : AllFrom (IsEventAt script run (rows_of script run)) 0 (events_in script run)
    placed = events_on_board script run ranks board

    -- an entry with its place
    pub event_on_board : (x : NamedEvent) → In x (events_in script run) →
        IsEventAt script run (rows_of script run) x.event.place x
    event_on_board x m =
        let one = from_in (IsEventAt script run (rows_of script run)) 0 (events_in script run) placed m in
        let same : 0 + one.0 ≡ x.event.place = sym (ap (λ (e : Event). e.place) one.1.event) in
        subst (λ p. IsEventAt script run (rows_of script run) p x) same one.1

    -- two entries of one place are one
    pub same_on_board : (x y : NamedEvent) → In x (events_in script run) → In y (events_in script run) →
        x.event.place ≡ y.event.place → x ≡ y
    same_on_board x y of_x of_y same =
        let one = from_in (IsEventAt script run (rows_of script run)) 0 (events_in script run) placed of_x in
        let two = from_in (IsEventAt script run (rows_of script run)) 0 (events_in script run) placed of_y in
        let first : x.event.place ≡ 0 + one.0 = ap (λ (e : Event). e.place) one.1.event in
        let second : y.event.place ≡ 0 + two.0 = ap (λ (e : Event). e.place) two.1.event in
        let at : one.0 ≡ two.0 = omega (arith, first, second, same) in
        let got : Some x ≡ Some y = sym one.2 ∙ ap (slice_get (events_in script run)) at ∙ two.2 in
        cc got

    pub edge_ascends_on_board : (a b : NamedEvent) → In a (events_in script run) → In b (events_in script run) →
        is_edge_between a b ≡ true → a.event.place < b.event.place
    edge_ascends_on_board a b of_a of_b h =
        let x = event_on_board a of_a in
        let y = event_on_board b of_b in
        elim (cases_lt a.event.place b.event.place) [
          | inl below ↦ below
          | inr late ↦
              let more = prefix x.before x.row x.rest y.before y.row y.rest (sym x.split ∙ y.split)
              (omega (arith, late, x.long, y.long)) in
              let grown = acts_more [] y.before more.0 in
              let entries : acts x.before ≡ acts y.before ++ grown.0 = ap acts more.1 ∙ grown.1 in
              let edge : is_edge (record {
                place = a.event.place;
                step = x.row.step;
                asked = question script.ranks
                    x.before x.row;
              }) (record {
                place = b.event.place;
                step = y.row.step;
                asked = question script.ranks
                    y.before y.row;
              }) ≡ true =
              sym (λ k. is_edge (x.event k) (y.event k)) ∙ h in
              absurd (no_edge_back (question script.ranks x.before x.row) (question script.ranks y.before y.row) grown.0
              a.event.place b.event.place x.row.step y.row.step
              entries (omega (arith, x.rank, x.within)) late y.allowed edge)
        ]

module _ (script : Script) (delay : Delay) (run : Run) (lawful : IsLawful script delay run) where
  -- an entry with its place
  pub event_at : (x : NamedEvent) → In x (events_in script run) →
      IsEventAt script run (rows_of script run) x.event.place x
  event_at x m = event_on_board script run lawful.ranks lawful.board x m

  -- two entries of one place are one
  pub same_event : (x y : NamedEvent) → In x (events_in script run) → In y (events_in script run) →
      x.event.place ≡ y.event.place → x ≡ y
  same_event x y of_x of_y same = same_on_board script run lawful.ranks lawful.board x y of_x of_y same

  pub edge_ascends : (a b : NamedEvent) → In a (events_in script run) → In b (events_in script run) →
      is_edge_between a b ≡ true → a.event.place < b.event.place
  edge_ascends a b of_a of_b h = edge_ascends_on_board script run lawful.ranks lawful.board a b of_a of_b h

  -- in one log places ascend
  pub log_ascends : (a b : NamedEvent) → In a (events_in script run) → In b (events_in script run) →
      a.id.rank ≡ b.id.rank → a.id.index < b.id.index → a.event.place < b.event.place
  log_ascends a b of_a of_b rank before =
      let x = event_at a of_a in
      let y = event_at b of_b in
      let looks = lawful.board.looks b.id.rank y.within in
      let first : slice_get (log_of run b.id.rank) a.id.index ≡ Some (Entry x.number a.event.place a.event.step) =
      subst (λ r. slice_get (log_of run r) a.id.index ≡ Some (Entry x.number a.event.place a.event.step)) rank x.logged
      in
      places_ascend (log_of run b.id.rank) a.id.index b.id.index x.number y.number a.event.place b.event.place
      a.event.step b.event.step
      looks.moments first y.logged before

  -- two entries of one name have one place
  pub same_place : (a b : NamedEvent) → In a (events_in script run) → In b (events_in script run) →
      a.id.rank ≡ b.id.rank → a.id.index ≡ b.id.index → a.event.place ≡ b.event.place
  same_place a b of_a of_b rank index =
      let x = event_at a of_a in
      let y = event_at b of_b in
      let first : slice_get (log_of run b.id.rank) b.id.index ≡ Some (Entry x.number a.event.place a.event.step) =
      subst (λ i. slice_get (log_of run b.id.rank) i ≡ Some (Entry x.number a.event.place a.event.step)) index
      (subst (λ r. slice_get (log_of run r) a.id.index ≡ Some (Entry x.number a.event.place a.event.step)) rank
      x.logged) in
      let both : Some (Entry x.number a.event.place a.event.step) ≡ Some (Entry y.number b.event.place b.event.step) =
      sym first ∙ y.logged in
      cc both

  -- ---- the order agrees with each log

  -- b is a, or stands after it; or an entry after a has a smaller place than one before b
  Reached : Id → Id → Type 0
  Reached a b =
      ((a.rank ≡ b.rank) × (a.index ≤ b.index))
      ⊎ ((x y : NamedEvent) × In x (events_in script run) × In y (events_in script run)
      × (x.id.rank ≡ a.rank) × (a.index ≤ x.id.index) × (y.id.rank ≡ b.rank) × (y.id.index ≤ b.index)
      × (x.event.place < y.event.place))

  reached : (a b : Id) → Before script run a b → Reached a b
  unfolding Reached
  reached a b Same = inl (refl, omega arith)
  reached a c (InLog {b} rest stands) = elim (reached a b rest) [
    | inl near ↦ inl (near.0 ∙ stands.0, omega (arith, near.1, stands.1))
    | inr far ↦ inr (far.0, far.1, far.2, far.3, far.4, far.5, far.6 ∙ stands.0, omega (arith, far.7, stands.1), far.8)
  ]
  reached a c (Across {b} rest edge) =
      let ends = edge_between (events_in script run) b c edge in
      let up = edge_ascends ends.0 ends.1 ends.2 ends.3 ends.6 in
      let first_rank : ends.0.id.rank ≡ b.rank = ap (λ (i : Id). i.rank) ends.4 in
      let first_index : ends.0.id.index ≡ b.index = ap (λ (i : Id). i.index) ends.4 in
      let last_rank : ends.1.id.rank ≡ c.rank = ap (λ (i : Id). i.rank) ends.5 in
      let last_index : ends.1.id.index ≡ c.index = ap (λ (i : Id). i.index) ends.5 in
      elim (reached a b rest) [
        | inl near ↦ inr (
          ends.0,
          ends.1,
          ends.2,
          ends.3,
          first_rank ∙ sym near.0,
          omega (arith, near.1, first_index),
          last_rank,
          omega (arith, last_index),
          up,
        )
        | inr far ↦
            let along : far.1.event.place ≤ ends.0.event.place = elim (cases_lt far.1.id.index ends.0.id.index) [
              | inl earlier ↦
                  let step = log_ascends far.1 ends.0 far.3 ends.2 (far.6 ∙ sym first_rank) earlier in omega
                  (arith, step)
              | inr later ↦
                  let at : far.1.id.index ≡ ends.0.id.index = omega (arith, later, far.7, first_index) in
                  let one : far.1.event.place ≡ ends.0.event.place = same_place far.1 ends.0 far.3 ends.2
                  (far.6 ∙ sym first_rank) at in
                  omega (arith, one)
            ] in
            inr (
              far.0,
              ends.1,
              far.2,
              ends.3,
              far.4,
              far.5,
              last_rank,
              omega (arith, last_index),
              omega
                  (arith, far.8, along, up),
            )
      ]

  -- an item that stands later in a log is after
  pub log_before : (a b : Id) → a.rank ≡ b.rank → a.index ≤ b.index → Before script run a b
  log_before a b rank below = elim (cases_lt a.index b.index) [
    | inl earlier ↦ InLog Same (rank, earlier)
    | inr later ↦ subst (Before script run a) (same_id a b rank (omega (arith, below, later))) Same
  ]

  log_order : (a b : Id) → a.rank ≡ b.rank → Before script run a b → a.index ≤ b.index
  unfolding Reached
  log_order a b rank order = elim (reached a b order) [
    | inl near ↦ near.1
    | inr far ↦ elim (cases_lt far.0.id.index far.1.id.index) [
      | inl below ↦ omega (arith, far.5, far.7, below)
      | inr above ↦ elim (cases_lt far.1.id.index far.0.id.index) [
        | inl strictly ↦
            let down = log_ascends far.1 far.0 far.3 far.2 (far.6 ∙ sym (far.4 ∙ rank)) strictly in absurd
            (omega (arith, down, far.8))
        | inr no_more ↦
            let one = same_place far.0 far.1 far.2 far.3 (far.4 ∙ rank ∙ sym far.6) (omega (arith, above, no_more)) in
            absurd (omega (arith, one, far.8))
      ]
    ]
  ]

-- ---- the theorems

pub edges_ascend : EdgesAscend
edges_ascend script delay run lawful a b of_a of_b h =
    edge_ascends script delay run lawful a b (contains_in (events_in script run) a of_a)
    (contains_in (events_in script run) b of_b) h

pub agrees : AgreesWithLogs
agrees script delay run lawful a b rank =
    (log_order script delay run lawful a b rank, log_before script delay run lawful a b rank)
