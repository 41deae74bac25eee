-- The entries of a lawful run at their places: each with its item, its call, its event and the board's answer, and what
-- the entries of its own rank before it are.
use Rattle.std.proofs.Common.{◌≡◌, ℕ, suc, ◌+◌, ◌<◌, List, [], ◌∷◌}
use Rattle.std.proofs.Common.{◌++◌, length, Some, refl, ap, sym, ◌∙◌, subst, arith, append_assoc}
use Rattle.std.specs.Prelude.{slice_get, map}
use Rattle.std.specs.List.{flat_map, zip}
use Rattle.std.specs.Option.{option_map_or}
use Rattle.std.proofs.lemmas.List.{append-nil}
use Rattle.list_laws.proofs.Each.{AllFrom}
use Rattle.list_laws.proofs.Members.{In, here, there}
use Rattle.rma_types.specs.declared.accesses.Id.{Id}
use Rattle.rma_types.specs.declared.schedules.Delay.{Delay}
use Rattle.rma_types.specs.declared.scripts.Script.{Script}
use Rattle.rma_record.specs.declared.items.Item.TheVariants.{Entry}
use Rattle.rma_record.specs.declared.runs.Run.{Run}
use Rattle.board_rules.specs.Board.{Allow, decide}
use Rattle.board_rules.specs.Edges.{events_after}
use Rattle.board_rules.specs.Entries.{Row}
use Rattle.board_rules.specs.Questions.{question}
use Rattle.lawful_runs.specs.BoardLaw.{AreAllowed}
use Rattle.lawful_runs.specs.LawfulRun.{IsLawful}
use Rattle.lawful_runs.specs.Logs.{Named, log_of, calls_of, entries_of, row_by, row_of, rows_of}
use Rattle.lawful_runs.proofs.LogLaws.{IsEntryOf}
use Rattle.order_rules.specs.Before.{NamedEvent, named_event, events_in}
use Rattle.order_laws.proofs.Events.{entries_placed}

-- ---- events

module _ (script : Script) (run : Run) where
  row_is : (place : ℕ) (x : Named) (e : IsEntryOf script run place x) →
      row_of script x ≡ record { rank = x.id.rank; number = e.number; call = e.call; step = e.step } ∷ []
  row_is place x e = ap (row_by script x.id.rank) e.is
      ∙ ap (λ o. option_map_or
      (λ call. record { rank = x.id.rank; number = e.number; call = call; step = e.step } ∷ []) o []) e.of_rank

  -- the entry of a row, among entries
  record IsEntryOfRow (at : ℕ) (es : List Named) (b : List Row) (row : Row) : Type 0 where
    before : List Named
    entry : Named
    after : List Named
    split : es ≡ before ++ entry ∷ after
    rows : flat_map (row_of script) before ≡ b
    row_is : row_of script entry ≡ row ∷ []
    is : IsEntryOf script run (at + length before) entry
    long : length b ≡ length before

  entry_of_row : (at : ℕ) (es : List Named) (b : List Row) (row : Row) (rest : List Row) →
      AllFrom (IsEntryOf script run) at es → flat_map (row_of script) es ≡ b ++ row ∷ rest → IsEntryOfRow at es b row
  unfolding AllFrom
  entry_of_row at [] [] row rest all e = absurd (cc e)
  entry_of_row at [] (c ∷ b) row rest all e = absurd (cc e)
  entry_of_row at (y ∷ es) [] row rest all e =
      let one = row_is at y all.0 in
      let whole = sym (ap (λ l. l ++ flat_map (row_of script) es) one) ∙ e in
      let same = at_head whole in
      let plus : at ≡ at + 0 = omega arith in
      record {
        before = [];
        entry = y;
        after = es;
        split = refl;
        rows = refl;
        row_is = one ∙ ap (λ r. r ∷ []) same;
        is = subst (λ n. IsEntryOf script run n y) plus all.0;
        long = refl;
      }
    where
      at_head : {r : Row} {rs : List Row} → r ∷ rs ≡ row ∷ rest → r ≡ row
      at_head e = cc e
  entry_of_row at (y ∷ es) (c ∷ b) row rest all e =
      let one = row_is at y all.0 in
      let whole = sym (ap (λ l. l ++ flat_map (row_of script) es) one) ∙ e in
      let later = entry_of_row (at + 1) es b row rest all.1 (at_tail whole) in
      let plus : at + 1 + length later.before ≡ at + suc (length later.before) = omega arith in
      record {
        before = y ∷ later.before;
        entry = later.entry;
        after = later.after;
        split = ap (λ l. y ∷ l) later.split;
        rows = ap (λ l. l ++ flat_map (row_of script) later.before) one
            ∙ (λ i. at_head whole i ∷ later.rows i);
        row_is = later.row_is;
        is = subst (λ n. IsEntryOf script run n later.entry) plus later.is;
        long = ap suc later.long;
      }
    where
      at_head : {r d : Row} {rs ds : List Row} → r ∷ rs ≡ d ∷ ds → r ≡ d
      at_head e = cc e

      at_tail : {r d : Row} {rs ds : List Row} → r ∷ rs ≡ d ∷ ds → rs ≡ ds
      at_tail e = cc e

  -- its event
  event_among : (at : ℕ) (acc : List Row) (es rest : List Named) (x : Named) (row : Row) →
      AllFrom (IsEntryOf script run) at (es ++ x ∷ rest) → row_of script x ≡ row ∷ [] →
      In (record {
        id = x.id;
        event = record {
          place = at + length es;
          step = row.step;
          asked = question script.ranks (acc ++ flat_map (row_of script) es) row;
        };
      }) (map named_event (zip (es ++ x ∷ rest)
      (events_after script.ranks at acc (flat_map (row_of script) (es ++ x ∷ rest)))))
  unfolding AllFrom
  event_among at acc [] rest x row all is =
      let plus : at ≡ at + 0 = omega arith in
      subst (λ rs. In (record {
        id = x.id;
        event = record {
          place = at + 0;
          step = row.step;
          asked = question script.ranks (acc ++ []) row;
        };
      }) (map named_event (zip (x ∷ rest) (events_after script.ranks at acc (rs ++ flat_map (row_of script) rest)))))
      (sym is)
      (subst (λ (e : NamedEvent). In e (map named_event (zip (x ∷ rest)
      (events_after script.ranks at acc (row ∷ flat_map (row_of script) rest)))))
      (λ i. record {
        id = x.id;
        event = record {
          place = plus i;
          step = row.step;
          asked = question script.ranks (sym (append-nil acc) i) row;
        };
      }) here)
  event_among at acc (y ∷ es) rest x row all is =
      let one = row_is at y all.0 in
      let r : Row = record { rank = y.id.rank; number = all.0.number; call = all.0.call; step = all.0.step } in
      let plus : at + 1 + length es ≡ at + suc (length es) = omega arith in
      let later = event_among (at + 1) (acc ++ r ∷ []) es rest x row all.1 is in
      subst (λ rs. In (record {
        id = x.id;
        event = record {
          place = at + suc (length es);
          step = row.step;
          asked = question script.ranks (acc ++ (rs ++ flat_map (row_of script) es)) row;
        };
      }) (map named_event (zip (y ∷ (es ++ x ∷ rest))
      (events_after script.ranks at acc (rs ++ flat_map (row_of script) (es ++ x ∷ rest)))))) (sym one)
      (there (subst (λ (e : NamedEvent). In e (map named_event (zip (es ++ x ∷ rest)
      (events_after script.ranks (at + 1) (acc ++ r ∷ []) (flat_map (row_of script) (es ++ x ∷ rest))))))
      (λ i. record {
        id = x.id;
        event = record {
          place = plus i;
          step = row.step;
          asked = question script.ranks (append_assoc acc (r ∷ []) (flat_map (row_of script) es) i) row;
        };
      }) later))

allowed_at : (ranks : ℕ) (before front rest : List Row) (row : Row) → AreAllowed ranks before (front ++ row ∷ rest) →
    decide ranks (before ++ front) row ≡ Allow
allowed_at ranks before [] rest row allowed = subst (λ l. decide ranks l row ≡ Allow) (sym (append-nil before))
    allowed.0
allowed_at ranks before (x ∷ front) rest row allowed =
    subst (λ l. decide ranks l row ≡ Allow) (append_assoc before (x ∷ []) front)
    (allowed_at ranks (before ++ x ∷ []) front rest row allowed.1)

-- ---- the entry of a row

-- the entry of a row of the board, at its place
pub record IsPlaced (script : Script) (run : Run) (earlier : List Row) (row : Row) (later : List Row) (id : Id) :
    Type 0 where
  pub rank_is : row.rank ≡ id.rank
  pub split : rows_of script run ≡ earlier ++ row ∷ later
  pub logged : slice_get (log_of run id.rank) id.index ≡ Some (Entry row.number (length earlier) row.step)
  pub of_rank : slice_get (calls_of script id.rank) row.number ≡ Some row.call
  pub within : id.rank < script.ranks
  pub event : In (record {
    id = id;
    event = record {
      place = length earlier;
      step = row.step;
      asked = question
          script.ranks earlier row;
    };
  }) (events_in script run)
  pub allowed : decide script.ranks earlier row ≡ Allow

pub placed_row : (script : Script) (delay : Delay) (run : Run) → IsLawful script delay run →
    (earlier : List Row) (row : Row) (later : List Row) → rows_of script run ≡ earlier ++ row ∷ later →
    (id : Id) × IsPlaced script run earlier row later id
placed_row script delay run lawful earlier row later split =
    let all = entries_placed script run lawful.ranks lawful.board.entries in
    let one = entry_of_row script run 0 (entries_of run) earlier row later all split in
    let is = one.is in
    let place : 0 + length one.before ≡ length earlier = omega (arith, one.long) in
    let same : row ∷ [] ≡ record {
      rank = one.entry.id.rank;
      number = is.number;
      call = is.call;
      step = is.step;
    } ∷ [] = sym one.row_is ∙ row_is script run (0 + length one.before) one.entry is in
    let row_same = head_of same in
    let row_back = sym row_same in
    let event = event_among script run 0 [] one.before one.after one.entry row
    (subst (AllFrom (IsEntryOf script run) 0) one.split all) one.row_is in (
      one.entry.id,
      record {
        rank_is = ap (λ (r : Row). r.rank) row_same;
        split = split;
        logged = is.logged ∙ ap Some (is.is ∙ (λ i. Entry (row_back i).number (place i) (row_back i).step));
        of_rank = ap (slice_get (calls_of script one.entry.id.rank)) (ap (λ (r : Row). r.number) row_same) ∙ is.of_rank
            ∙ ap Some (sym (ap (λ (r : Row). r.call) row_same));
        within = is.within;
        event = subst (λ (e : NamedEvent). In e (events_in script run))
            (λ i. record {
              id = one.entry.id;
              event = record {
                place = place i;
                step = row.step;
                asked = question script.ranks (one.rows i) row;
              };
            })
            (subst (λ l. In (record {
              id = one.entry.id;
              event = record {
                place = 0 + length one.before;
                step = row.step;
                asked = question script.ranks (flat_map (row_of script) one.before) row;
              };
            }) (map named_event (zip l (events_after script.ranks 0 [] (flat_map (row_of script) l)))))
            (sym one.split) event);
        allowed = allowed_at script.ranks [] earlier later row
            (subst (AreAllowed script.ranks []) split lawful.board.allowed);
      },
    )
  where
    head_of : {r d : Row} → ◌≡◌ {A = List Row} (r ∷ []) (d ∷ []) → r ≡ d
    head_of e = cc e
