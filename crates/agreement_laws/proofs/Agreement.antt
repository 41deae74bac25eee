-- The touches of an assembled run keep its order: fronts grow along it.
use Rattle.std.proofs.Common.{◌≡◌, ℕ, ◌<◌, ◌≤◌, ◌⊎◌, inl, inr, true, List, [], ◌∷◌, ◌++◌, length, Some, None, refl, ap}
use Rattle.std.proofs.Common.{sym, ◌∙◌, subst, arith, append-nil}
use Rattle.std.specs.Prelude.{◌≢◌, slice_get}
use Rattle.std.specs.Option.{option_map_or}
use Rattle.std.proofs.lemmas.Bool.{cases_lt}
use Rattle.std.proofs.lemmas.List.{length-map}
use Rattle.list_laws.proofs.Each.{each_at}
use Rattle.list_laws.proofs.Members.{In, contains_in}
use Rattle.rma_types.specs.declared.accesses.Id.{Id}
use Rattle.rma_types.specs.declared.schedules.Delay.{Delay}
use Rattle.rma_types.specs.declared.scripts.Script.{Script}
use Rattle.rma_record.specs.declared.items.Item.{Item}
use Rattle.rma_record.specs.declared.items.Item.TheVariants.{Touch, Entry}
use Rattle.rma_record.specs.declared.runs.Run.{Run}
use Rattle.board_rules.specs.Edges.{is_edge}
use Rattle.board_rules.specs.Questions.{question}
use Rattle.call_rules.specs.Layout.{layout}
use Rattle.lawful_runs.specs.Accesses.{Touching, all_touches, change_made, issued_at}
use Rattle.lawful_runs.specs.BoardLaw.{HasLawfulBoard}
use Rattle.lawful_runs.specs.Cells.{KeepsOrder}
use Rattle.lawful_runs.specs.Logs.{log_of, calls_of, rows_of}
use Rattle.lawful_runs.specs.Stages.{stage_of, calls_at}
use Rattle.order_rules.specs.Before.{NamedEvent, Before, Same, InLog, Across, events_in, is_edge_between}
use Rattle.order_laws.proofs.Order.{edge_between, event_on_board, same_on_board, edge_ascends_on_board}
use Rattle.rank_laws.proofs.BoardLaws.{board_is_lawful, rows_are}
use Rattle.rank_laws.proofs.Histories.{most_join, rows_joined}
use Rattle.rank_laws.proofs.Inductions.{lived_rank}
use Rattle.rank_laws.proofs.Runs.{rank_there}
use Rattle.rank_laws.specs.Assembled.{IsAssembled}
use Rattle.rank_laws.specs.Deliveries.{place_after}
use Rattle.rank_laws.specs.Fronts.{Lows, AreAtMost, Put, rows_put, event_after, AreMetFrom}
use Rattle.read_laws.proofs.Touches.{IsTouch, touch_is}
use Rattle.agreement_laws.proofs.Marks.{Mark, AreRising, Marking, IsRightItem, IsRight, AreMarked}
use Rattle.agreement_laws.proofs.MarkedLives.{lived_marked}
use Rattle.agreement_laws.proofs.MarkMoves.{marking_of}
use Rattle.agreement_laws.proofs.OneEdge.{no_two_edges}
use Rattle.agreement_laws.specs.AgreementLaws.{AssembledRunsAgree}
use Rattle.agreement_laws.proofs.Splits.{pair_got, mapped_got, one_split, later_split, met_at, keeps_by}

module _ (script : Script) (delay : Delay) (seed : ℕ) (run : Run) (is : IsAssembled script delay seed run) where
  board : HasLawfulBoard script run
  board = board_is_lawful script delay seed run is

  ranks : length run.logs ≡ script.ranks
  ranks = ap length is.logs ∙ length-map is.agents (λ agent. agent.log) ∙ is.ranks

  -- ---- marks

  abbrev marking : ℕ → Marking
  marking rank = record {
    memory = layout script;
    ranks = script.ranks;
    calls = calls_of script rank;
    log = log_of run rank;
    puts = is.puts;
  }

  marked : (rank : ℕ) → rank < script.ranks → (lows : Lows) × AreMarked (marking rank) lows
  marked rank within =
      let stage = stage_of script delay in
      let there = rank_there script delay seed run is rank within in
      let mine = lived_rank stage seed rank is.puts there.agent there.lived in
      let marks = lived_marked stage seed rank is.puts there.agent there.lived in
      let of_rank = subst (λ (r : ℕ). AreMarked
      (record (marking_of stage there.agent is.puts) { calls = calls_at stage r }) there.lived.last) mine marks in (
        there.lived.last,
        subst (λ l. AreMarked (record (marking rank) { log = l }) there.lived.last) (sym there.log) of_rank,
      )

  abbrev marks_of : (rank : ℕ) → rank < script.ranks → List Mark
  marks_of rank within = (marked rank within).1.marks

  -- the mark of an item
  record HasMark (rank : ℕ) (within : rank < script.ranks) (k : ℕ) (item : Item) : Type 0 where
    mark : Mark
    at : slice_get (marks_of rank within) k ≡ Some mark
    right : IsRightItem (marking rank) item mark.low mark.out

  mark_at : (rank : ℕ) (within : rank < script.ranks) (k : ℕ) (item : Item) →
      slice_get (log_of run rank) k ≡ Some item → HasMark rank within k item
  mark_at rank within k item e =
      let m = (marked rank within).1 in
      let one = mapped_got (λ (mark : Mark). mark.item) m.marks k item (ap (λ l. slice_get l k) (sym m.items) ∙ e) in
      record {
        mark = one.0;
        at = one.1;
        right = subst (λ i. IsRightItem (marking rank) i one.0.low one.0.out) one.2
            (each_at (IsRight (marking rank)) m.marks k one.0 m.right one.1);
      }

  rising : (rank : ℕ) (within : rank < script.ranks) (i j : ℕ) (a b : Item) (x : HasMark rank within i a)
      (y : HasMark rank within j b) → i < j →
      AreAtMost x.mark.out y.mark.low
  rising rank within i j a b x y below =
      pair_got AreRising (marks_of rank within) i j x.mark y.mark (marked rank within).1.rising x.at y.at below

  -- ---- entries

  -- an entry, with its mark and what it put
  record HasPut (f : NamedEvent) (rank : ℕ) (within : rank < script.ranks) : Type 0 where
    number : ℕ
    logged : slice_get (log_of run rank) f.id.index ≡ Some (Entry number f.event.place f.event.step)
    mark : HasMark rank within f.id.index (Entry number f.event.place f.event.step)
    event_is : f.event ≡ event_after script.ranks (rows_put mark.right.before) mark.right.put.row

  put_of : (f : NamedEvent) (rank : ℕ) (within : rank < script.ranks) → In f (events_in script run) →
      f.id.rank ≡ rank → HasPut f rank within
  put_of f rank within m of_rank =
      let e = event_on_board script run ranks board f m in
      let logged : slice_get (log_of run rank) f.id.index ≡ Some (Entry e.number f.event.place f.event.step) =
      subst (λ r. slice_get (log_of run r) f.id.index ≡ Some (Entry e.number f.event.place f.event.step)) of_rank
      e.logged in
      let mark = mark_at rank within f.id.index (Entry e.number f.event.place f.event.step) logged in
      let entry = mark.right in
      let rows : rows_of script run ≡ rows_put entry.before ++ entry.put.row ∷ rows_put entry.rest =
      rows_are script delay seed run is ∙ ap rows_put entry.split ∙ rows_joined entry.before (entry.put ∷ entry.rest) in
      let long : length e.before ≡ length (rows_put entry.before) =
      e.long ∙ sym entry.long ∙ sym (length-map entry.before (λ (put : Put). put.row)) in
      let same = one_split e.before (rows_put entry.before) e.row entry.put.row e.rest (rows_put entry.rest)
      (sym e.split ∙ rows) long in
      let place : f.event.place ≡ length (rows_put entry.before) = sym e.long ∙ long in
      record {
        number = e.number;
        logged = logged;
        mark = mark;
        event_is = e.event ∙ (λ i. record {
          place = place i;
          step = (same.1 i).step;
          asked = question script.ranks (same.0 i) (same.1 i);
        });
      }

  -- the front of an entry
  abbrev front_of : (f : NamedEvent) (rank : ℕ) (within : rank < script.ranks) → HasPut f rank within → Lows
  front_of f rank within put = put.mark.right.put.front

  -- the lows at an entry with an edge are at or below its front
  front_above : (f e : NamedEvent) (rank : ℕ) (within : rank < script.ranks) (put : HasPut f rank within) →
      is_edge_between f e ≡ true → AreAtMost put.mark.mark.low (front_of f rank within put)
  front_above f e rank within put edge =
      put.mark.right.above e.event (sym (λ i. is_edge (put.event_is i) e.event) ∙ edge)

  -- an entry has one put
  one_put : (f : NamedEvent) (r s : ℕ) (within : r < script.ranks) (inside : s < script.ranks) (p : HasPut f r within)
      (q : HasPut f s inside) →
      p.mark.right.put ≡ q.mark.right.put
  one_put f r s within inside p q =
      (one_split p.mark.right.before q.mark.right.before p.mark.right.put q.mark.right.put p.mark.right.rest
      q.mark.right.rest
      (sym p.mark.right.split ∙ q.mark.right.split) (p.mark.right.long ∙ sym q.mark.right.long)).1

  -- the front of an entry with an edge is met
  met : (f e : NamedEvent) (r s : ℕ) (within : r < script.ranks) (inside : s < script.ranks) →
      In f (events_in script run) → In e (events_in script run) →
      is_edge_between f e ≡ true → (pf : HasPut f r within) (pe : HasPut e s inside) →
      AreAtMost (front_of f r within pf) pe.mark.mark.out
  met f e r s within inside of_f of_e edge pf pe =
      let up = edge_ascends_on_board script run ranks board f e of_f of_e edge in
      let before_f = pf.mark.right.long in
      let before_e = pe.mark.right.long in
      let split = later_split pf.mark.right.before pe.mark.right.before pf.mark.right.put pe.mark.right.put
      pf.mark.right.rest pe.mark.right.rest
      (sym pf.mark.right.split ∙ pe.mark.right.split) (omega (arith, up, before_f, before_e)) in
      let meets : AreMetFrom script.ranks [] (pf.mark.right.before ++ pf.mark.right.put ∷ split.0)
      (event_after script.ranks (rows_put pe.mark.right.before) pe.mark.right.put.row) pe.mark.mark.out =
      subst (λ l. AreMetFrom script.ranks [] l
      (event_after script.ranks (rows_put pe.mark.right.before) pe.mark.right.put.row) pe.mark.mark.out)
      split.1 pe.mark.right.meets in
      met_at script.ranks [] pf.mark.right.before pf.mark.right.put split.0
      (event_after script.ranks (rows_put pe.mark.right.before) pe.mark.right.put.row) pe.mark.mark.out meets
      (sym (λ i. is_edge (pf.event_is i) (pe.event_is i)) ∙ edge)

  -- ---- the order

  module _ (x : Touching) (touch : IsTouch script run x) where
    own : HasMark x.id.rank touch.within x.id.index (Touch x.issue x.element x.cell x.place x.bits)
    own = mark_at x.id.rank touch.within x.id.index (Touch x.issue x.element x.cell x.place x.bits) touch.item.logged

    -- an edge leads to an entry of the log, up to the item, from an entry whose front passed the touch
    record IsFar (b : Id) : Type 0 where
      f : NamedEvent
      e : NamedEvent
      of_f : In f (events_in script run)
      of_e : In e (events_in script run)
      edge : is_edge_between f e ≡ true
      rank : e.id.rank ≡ b.rank
      index : e.id.index ≤ b.index
      within : f.id.rank < script.ranks
      put : HasPut f f.id.rank within
      passed : AreAtMost own.mark.out (front_of f f.id.rank within put)

    Reaches : Id → Type 0
    Reaches b = (x.id ≡ b) ⊎ (((x.id.rank ≡ b.rank) × (x.id.index < b.index)) ⊎ IsFar b)

    -- from an entry that is reached, across an edge
    across : (b c : Id) (f e : NamedEvent) → In f (events_in script run) → In e (events_in script run) → f.id ≡ b →
        e.id ≡ c → is_edge_between f e ≡ true →
        ((within : f.id.rank < script.ranks) (put : HasPut f f.id.rank within) →
        AreAtMost own.mark.out (front_of f f.id.rank within put)) → Reaches c
    unfolding Reaches
    across b c f e of_f of_e is_b is_c edge passed =
        let within = (event_on_board script run ranks board f of_f).within in
        let put = put_of f f.id.rank within of_f refl in
        let index = ap (λ (i : Id). i.index) is_c in
        inr (inr (record {
          f = f;
          e = e;
          of_f = of_f;
          of_e = of_e;
          edge = edge;
          rank = ap (λ (i : Id). i.rank) is_c;
          index = omega (arith, index);
          within = within;
          put = put;
          passed = passed within put;
        }))

    -- the touch is no entry
    not_entry : (f : NamedEvent) → In f (events_in script run) → x.id ≡ f.id → ⊥
    not_entry f of_f same =
        let e = event_on_board script run ranks board f of_f in
        let both : Some (Touch x.issue x.element x.cell x.place x.bits) ≡ Some
        (Entry e.number f.event.place f.event.step) =
        sym touch.item.logged ∙ ap (λ (i : Id). slice_get (log_of run i.rank) i.index) same ∙ e.logged in
        cc both

    -- an entry after the touch in its log
    near_front : (f e : NamedEvent) (within : f.id.rank < script.ranks) (put : HasPut f f.id.rank within) →
        In f (events_in script run) → is_edge_between f e ≡ true →
        x.id.rank ≡ f.id.rank → x.id.index < f.id.index → AreAtMost own.mark.out (front_of f f.id.rank within put)
    near_front f e within put of_f edge rank below =
        let here = put_of f x.id.rank touch.within of_f (sym rank) in
        let up = rising x.id.rank touch.within x.id.index f.id.index (Touch x.issue x.element x.cell x.place x.bits)
        (Entry here.number f.event.place f.event.step) own here.mark below in
        subst (λ (p : Put). AreAtMost own.mark.out p.front) (one_put f x.id.rank f.id.rank touch.within within here put)
        (most_join own.mark.out here.mark.mark.low here.mark.right.put.front up
        (front_above f e x.id.rank touch.within here edge))

    -- an entry after one to which an edge leads from a front that passed the touch
    far_front : (b : Id) (f e : NamedEvent) (within : f.id.rank < script.ranks) (put : HasPut f f.id.rank within) →
        In f (events_in script run) →
        f.id ≡ b → is_edge_between f e ≡ true → IsFar b → AreAtMost own.mark.out (front_of f f.id.rank within put)
    far_front b f e within put of_f is_b edge far =
        let rank : far.e.id.rank ≡ f.id.rank = far.rank ∙ sym (ap (λ (i : Id). i.rank) is_b) in
        let index : f.id.index ≡ b.index = ap (λ (i : Id). i.index) is_b in
        let there = put_of far.e f.id.rank within far.of_e rank in
        let meets = met far.f far.e far.f.id.rank f.id.rank far.within within far.of_f far.of_e far.edge far.put there
        in
        elim (cases_lt far.e.id.index f.id.index) [
          | inl below ↦
              let up = rising f.id.rank within far.e.id.index f.id.index
              (Entry there.number far.e.event.place far.e.event.step)
              (Entry put.number f.event.place f.event.step) there.mark put.mark below in
              most_join own.mark.out (front_of far.f far.f.id.rank far.within far.put)
              (front_of f f.id.rank within put) far.passed
              (most_join (front_of far.f far.f.id.rank far.within far.put) there.mark.mark.out
              (front_of f f.id.rank within put) meets
              (most_join there.mark.mark.out put.mark.mark.low
              (front_of f f.id.rank within put) up (front_above f e f.id.rank within put edge)))
          | inr late ↦
              let last = far.index in
              let at : far.e.id.index ≡ f.id.index = omega (arith, late, last, index) in
              let both : Some (Entry there.number far.e.event.place far.e.event.step) ≡ Some
              (Entry put.number f.event.place f.event.step) =
              sym there.logged ∙ ap (slice_get (log_of run f.id.rank)) at ∙ put.logged in
              let place : far.e.event.place ≡ f.event.place = cc both in
              let same = same_on_board script run ranks board far.e f far.of_e of_f place in
              absurd (no_two_edges far.f.event f.event e.event
              (subst (λ (g : NamedEvent). is_edge far.f.event g.event ≡ true) same far.edge) edge)
        ]

    -- what the touch is before
    reaches : (b : Id) → Before script run x.id b → Reaches b
    unfolding Reaches
    reaches b Same = inl refl
    reaches c (InLog {b} rest stands) = elim (reaches b rest) [
      | inl same ↦
          let index = ap (λ (i : Id). i.index) same in
          inr (inl (ap (λ (i : Id). i.rank) same ∙ stands.0, omega (arith, stands.1, index)))
      | inr (inl near) ↦ inr (inl (near.0 ∙ stands.0, omega (arith, near.1, stands.1)))
      | inr (inr far) ↦
          let last = far.index in
          inr (inr (record {
            f = far.f;
            e = far.e;
            of_f = far.of_f;
            of_e = far.of_e;
            edge = far.edge;
            rank = far.rank ∙ stands.0;
            index = omega (arith, last, stands.1);
            within = far.within;
            put = far.put;
            passed = far.passed;
          }))
    ]
    reaches c (Across {b} rest edge) =
        let ends = edge_between (events_in script run) b c edge in
        across b c ends.0 ends.1 ends.2 ends.3 ends.4 ends.5 ends.6 (λ within put.
        elim (reaches b rest) [
          | inl same ↦ absurd (not_entry ends.0 ends.2 (same ∙ sym ends.4))
          | inr (inl near) ↦
              let index = ap (λ (i : Id). i.index) ends.4 in
              near_front ends.0 ends.1 within put ends.2 ends.6 (near.0 ∙ sym (ap (λ (i : Id). i.rank) ends.4))
              (omega (arith, near.1, index))
          | inr (inr far) ↦ far_front b ends.0 ends.1 within put ends.2 ends.4 ends.6 far
        ])

    -- ---- the touches

    low_above : (y : Touching) (other : IsTouch script run y) (rank : ℕ) (within : rank < script.ranks) →
        y.id.rank ≡ rank →
        HasMark rank within y.id.index (Touch y.issue y.element y.cell y.place y.bits)
    low_above y other rank within of_rank = mark_at rank within y.id.index
        (Touch y.issue y.element y.cell y.place y.bits)
        (subst (λ r. slice_get (log_of run r) y.id.index ≡ Some (Touch y.issue y.element y.cell y.place y.bits))
        of_rank other.item.logged)

    -- the touch is passed where another is made that it is before
    passes : (y : Touching) (other : IsTouch script run y) → x.id ≢ y.id → Reaches y.id → own.mark.out y.cell ≤ y.place
    unfolding Reaches
    passes y other apart (inl same) = absurd (apart same)
    passes y other apart (inr (inl near)) =
        let mark = low_above y other x.id.rank touch.within (sym near.0) in
        let up = rising x.id.rank touch.within x.id.index y.id.index (Touch x.issue x.element x.cell x.place x.bits)
        (Touch y.issue y.element y.cell y.place y.bits) own mark near.1 y.cell in
        let above = mark.right.above in omega (arith, up, above)
    passes y other apart (inr (inr far)) =
        let mark = low_above y other y.id.rank other.within refl in
        let there = put_of far.e y.id.rank other.within far.of_e far.rank in
        let meets = met far.f far.e far.f.id.rank y.id.rank far.within other.within far.of_f far.of_e far.edge far.put
        there y.cell in
        let past = far.passed y.cell in
        let last = far.index in
        let above = mark.right.above in
        elim (cases_lt far.e.id.index y.id.index) [
          | inl below ↦
              let up = rising y.id.rank other.within far.e.id.index y.id.index
              (Entry there.number far.e.event.place far.e.event.step)
              (Touch y.issue y.element y.cell y.place y.bits) there.mark mark below y.cell in
              omega (arith, up, above, meets, past)
          | inr late ↦
              let at : far.e.id.index ≡ y.id.index = omega (arith, late, last) in
              let both : Some (Entry there.number far.e.event.place far.e.event.step) ≡ Some
              (Touch y.issue y.element y.cell y.place y.bits) =
              sym there.logged ∙ ap (slice_get (log_of run y.id.rank)) at ∙ other.item.logged in
              absurd (cc both)
        ]

    agrees : (y : Touching) (other : IsTouch script run y) → x.cell ≡ y.cell → x.id ≢ y.id →
        Before script run x.id y.id → KeepsOrder x y
    agrees y other cell apart order =
        let passed = passes y other apart (reaches y.id order) in
        let own_passed : place_after x.place x.change ≤ own.mark.out x.cell =
        subst (λ c. place_after x.place c ≤ own.mark.out x.cell) (sym touch.item.change)
        (subst (λ l. place_after x.place
        (option_map_or (λ one. change_made (layout script) (calls_of script x.id.rank) one x.element)
        (issued_at (calls_of script x.id.rank) l x.issue) None) ≤ own.mark.out x.cell)
        (append-nil (log_of run x.id.rank)) (own.right.passed [])) in
        let same : own.mark.out x.cell ≡ own.mark.out y.cell = ap own.mark.out cell in
        keeps_by x y x.change refl (omega (arith, passed, own_passed, same))

pub agree : AssembledRunsAgree
agree script delay seed run is x y of_x of_y cell apart order =
    agrees script delay seed run is x (touch_is script run (contains_in (all_touches script run) x of_x)) y
    (touch_is script run (contains_in (all_touches script run) y of_y)) cell apart order
