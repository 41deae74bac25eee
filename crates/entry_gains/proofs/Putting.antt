-- What is kept after one entry more, and that a next entry gains what it should.
use Rattle.std.proofs.Common.{◌≡◌, ℕ, zero, suc, ◌+◌, ◌<◌, ◌≤◌, Bool, false, cond, List, [], ◌∷◌, ◌++◌, length, refl}
use Rattle.std.proofs.Common.{ap, sym, subst, ◌∙◌, arith, append-nil, append_assoc, Option, Some, None}
use Rattle.std.proofs.lemmas.List.{length-append, length-map}
use Rattle.std.specs.List.{AllByRecursion, fold, list_any}
use Rattle.std.specs.Option.{option_map, option_map_or}
use Rattle.rma_types.specs.declared.calls.Call.{Call}
use Rattle.rma_types.specs.declared.calls.Call.TheVariants.{Put, Acc, GetAcc, Store}
use Rattle.rma_types.specs.Actions.{action_of, synchronisation_of}
use Rattle.call_rules.specs.Pieces.{numbers_from}
use Rattle.rank_rules.specs.EpochTests.{names_wrong_rank}
use Rattle.board_rules.specs.Entries.{Act, Row, acts, acts_after, synchronisations, window_of}
use Rattle.board_rules.specs.Questions.{question}
use Rattle.kept_rows.specs.Gifts.{Front, Given, gained_by, next_event, rows_given}
use Rattle.rma_types.specs.KeptCalls.{kept_call}
use Rattle.kept_rows.specs.KeptCalls.{kept_row}
use Rattle.kept_rows.proofs.KeptActs.{synchronisation_kept, window_of_kept}
use Rattle.kept_rows.proofs.GiftLaws.{rows_more}
use Rattle.entry_gains.specs.Deeds.{IsDeed}
use Rattle.entry_gains.specs.Gains.{IsNext, Keeps, one_more}
use Rattle.entry_gains.specs.Given.{fills, given_slot, is_slot, meeting_of, read_slot}
use Rattle.entry_gains.specs.Tables.{lock_key}
use Rattle.std.specs.Map.{lookup}
use Rattle.std.specs.Prelude.{slice_index}
use Rattle.entry_gains.specs.Kept.{filled_with, gained_at, gained_from, has_slot_below, kept_at}
use Rattle.entry_gains.specs.Ledgers.{Adds, HasTables, IsSide, Stays, round_key, side_key, start_key, step_given}
use Rattle.entry_gains.specs.Ledgers.{step_read}
use Rattle.entry_gains.specs.Plans.{plan_slot}
use Rattle.entry_gains.specs.Slots.{front_at, joined, slot_eq}
use Rattle.entry_gains.specs.declared.deeds.Deed.{Deed}
use Rattle.entry_gains.specs.declared.gains.Gains.{Gains}
use Rattle.entry_gains.specs.declared.ledger.Ledger.{Ledger}
use Rattle.entry_gains.specs.declared.plans.Plan.{Plan}
use Rattle.entry_gains.specs.declared.slots.Slot.{Slot}
use Rattle.entry_gains.proofs.Adding.{tables_more}
use Rattle.entry_gains.proofs.LedgerSlots.{given_slots, read_slots}
use Rattle.entry_gains.proofs.MeetEdges.{right_of}
use Rattle.entry_gains.proofs.MoreEntries.{gained_is, kept_more}

-- ---- rows

acts_to : (before rows : List Row) (row : Row) →
    acts_after before (rows ++ row ∷ []) ≡ acts_after before rows ++ record {
      row = row;
      window =
          window_of (before ++ rows) row;
    } ∷ []
acts_to before [] row = ap (λ rows. record { row = row; window = window_of rows row } ∷ []) (sym (append-nil before))
acts_to before (first ∷ rows) row =
    ap (λ acts. record { row = first; window = window_of before first } ∷ acts)
    (acts_to (before ++ first ∷ []) rows row
    ∙ ap (λ all. acts_after (before ++ first ∷ []) rows ++ record {
      row = row;
      window =
          window_of all row;
    } ∷ []) (append_assoc before (first ∷ []) rows))

acts_more : (rows : List Row) (row : Row) → acts (rows ++ row ∷ []) ≡ acts rows ++ record {
  row = row;
  window =
      window_of rows row;
} ∷ []
acts_more rows row = acts_to [] rows row

length_acts : (before rows : List Row) → length (acts_after before rows) ≡ length rows
length_acts before [] = refl
length_acts before (row ∷ rows) = ap suc (length_acts (before ++ row ∷ []) rows)

all_more : (P : Row → Type 0) (rows : List Row) (row : Row) → AllByRecursion P rows → P row →
    AllByRecursion P (rows ++ row ∷ [])
all_more P [] row all is = (is, tt)
all_more P (first ∷ rows) row all is = (all.0, all_more P rows row all.1 is)

deed_kept : (ranks : ℕ) (call : Call) (deed : Deed) → IsDeed ranks (action_of call) deed →
    IsDeed ranks (action_of (kept_call call)) deed
deed_kept ranks (Put req win target disp dtype values) deed is = is
deed_kept ranks (Acc req win target disp dtype op values) deed is = is
deed_kept ranks (GetAcc req win target disp dtype op values) deed is = is
deed_kept ranks (Store win disp dtype values) deed is = is
deed_kept ranks call deed is = is

-- ---- plans

any_alike_to : (p q : ℕ → Bool) (first count : ℕ) → ((k : ℕ) → k < first + count → p k ≡ q k) →
    list_any p (numbers_from first count) ≡ list_any q (numbers_from first count)
any_alike_to p q first zero same = refl
any_alike_to p q first (suc count) same =
    let here : p first ≡ q first = same first (omega arith) in
    let later : list_any p (numbers_from (first + 1) count) ≡ list_any q (numbers_from (first + 1) count) =
    any_alike_to p q (first + 1) count (λ k high. same k (omega arith)) in
    rw (here, later) refl

fold_alike_to : (f g : ℕ → Option Front) (first count : ℕ) → ((k : ℕ) → k < first + count → f k ≡ g k) →
    (start : Option Front) →
    fold (λ all k. joined all (f k)) start (numbers_from first count)
    ≡ fold (λ all k. joined all (g k)) start (numbers_from first count)
fold_alike_to f g first zero same start = refl
fold_alike_to f g first (suc count) same start =
    let here : f first ≡ g first = same first (omega arith) in
    ap (λ front. fold (λ all k. joined all (f k)) (joined start front) (numbers_from (first + 1) count)) here
    ∙ fold_alike_to f g (first + 1) count (λ k high. same k (omega arith)) (joined start (g first))

fills_same : (plan : Plan) (ranks : ℕ) (rows : List Row) (row : Row) (slot : Slot) →
    ((at : ℕ) → at < 32 → plan_slot plan at ≡ given_slot (question ranks rows row) row.step at) →
    has_slot_below 32 plan slot ≡ fills (next_event ranks rows row) slot
unfolding has_slot_below fills
fills_same plan ranks rows row slot same =
    any_alike_to (λ at. is_slot slot (plan_slot plan at))
    (λ at. is_slot slot (given_slot (question ranks rows row) row.step at)) 0 32
    (λ at high. ap (is_slot slot) (same at (omega arith)))

gained_same : (f g : Slot → Option Front) (plan : Plan) (slots : ℕ → Option Slot) → ((slot : Slot) → f slot ≡ g slot) →
    ((at : ℕ) → at < 32 → plan_slot plan at ≡ slots at) → gained_from f (plan_slot plan) ≡ gained_from g slots
unfolding gained_from
gained_same f g plan slots kept same =
    fold_alike_to (λ at. gained_at f (plan_slot plan at)) (λ at. gained_at g (slots at)) 0 32
    (λ at high. ap (gained_at f) (same at (omega arith)) ∙ one (slots at)) None
  where
    one : (o : Option Slot) → gained_at f o ≡ gained_at g o
    one None = refl
    one (Some slot) = kept slot

-- the tables, where each says the same
tables_stay : (ranks : ℕ) (entries : List Act) (before after : Ledger) → Stays before after →
    HasTables ranks entries before → HasTables ranks entries after
tables_stay ranks entries before after stays were = record {
  rounds = λ window collective rank. stays.rounds (round_key window (meeting_of collective) rank)
      ∙ were.rounds window collective rank;
  sides = λ window rank. subst (IsSide (synchronisations entries rank window))
      (sym (stays.sides (side_key window rank))) (were.sides window rank);
  started = λ window rank number to below. ap (λ numbers. slice_index numbers to)
      (stays.started (start_key window rank number)) ∙ were.started window rank number to below;
  held = λ window rank target below. stays.held (lock_key (side_key window rank) target)
      ∙ were.held window rank target below;
}

-- ---- one entry more

module _ {N : Type 0} (front : N → Front) where
  pub put_keeps : (before after : Gains N) (ranks window : ℕ) (entries : List Given) (row : Row) (gift : Option Front)
      (plan : Plan) (deed : Deed) →
      IsNext ranks entries row window → Keeps front ranks entries before → before.count < 4294967295 →
      IsDeed before.ranks (action_of row.call) deed →
      ((at : ℕ) → at < 32 → plan_slot plan at ≡ step_given before.ledger window row.rank row.step deed at) →
      ((slot : Slot) → front_at front after.tokens slot
      ≡ joined (front_at front before.tokens slot) (filled_with (has_slot_below 32 plan slot) gift)) →
      Adds before.ledger after.ledger window row.rank row.step deed → after.ranks ≡ before.ranks →
      after.count ≡ before.count + 1 →
      Keeps front ranks (one_more entries row gift) after
  put_keeps before after ranks window entries row gift plan deed next keeps room deed_is plans filled adds same_ranks
      count =
      let rows : List Row = rows_given entries in
      let here : window ≡ window_of (rows_given entries) (kept_row row) =
      next.is_on ∙ sym (window_of_kept (rows_given entries) row) in
      let is : IsDeed ranks (action_of (kept_call row.call)) deed =
      deed_kept ranks row.call deed (subst (λ n. IsDeed n (action_of row.call) deed) keeps.size deed_is) in
      let rows_long : length (rows_given entries) ≡ length entries = length-map entries (λ (one : Given). one.row) in
      let acts_long : length (acts (rows_given entries)) ≡ length (rows_given entries) =
      length_acts [] (rows_given entries) in
      let counted : before.count ≡ length entries = keeps.count in
      let few : length (acts (rows_given entries)) < 4294967295 = omega arith in
      let right : right_of ranks (synchronisation_of (kept_call row.call)) ≡ false =
      ap (λ o. option_map_or (names_wrong_rank ranks) o false) (synchronisation_kept row.call) ∙ next.named in
      let slots : (at : ℕ) → at < 32 → plan_slot plan at
      ≡ given_slot (question ranks (rows_given entries) (kept_row row)) row.step at =
      λ at below. plans at below ∙ (ap (λ w. step_given before.ledger w row.rank row.step deed at) here
      ∙ given_slots (question ranks (rows_given entries)
      (kept_row row)) before.ledger deed row.step keeps.tables keeps.few few right is at below) in
      record {
        size = same_ranks ∙ keeps.size;
        few = keeps.few;
        count = count ∙ (ap (λ n. n + 1) counted ∙ sym (length-append entries (record {
          row = kept_row row;
          gift =
              gift;
        } ∷ [])));
        tables = subst (λ all. HasTables ranks (acts all) after.ledger) (sym (rows_more entries (record {
          row =
              kept_row row;
          gift = gift;
        })))
            (subst (λ all. HasTables ranks all after.ledger) (sym (acts_more (rows_given entries) (kept_row row)))
            (tables_more ranks before.ledger after.ledger (acts (rows_given entries)) (record {
              row =
                  kept_row row;
              window = window_of (rows_given entries) (kept_row row);
            }) deed few keeps.few is
            (subst (λ w. Adds before.ledger after.ledger w row.rank row.step deed) here adds) keeps.tables));
        tokens = λ slot. filled slot
            ∙ (ap (λ x. joined x (filled_with (has_slot_below 32 plan slot) gift)) (keeps.tokens slot)
            ∙ (ap (λ b. joined (kept_at ranks entries slot) (cond b gift None))
            (fills_same plan ranks (rows_given entries) (kept_row row) slot slots)
            ∙ sym (kept_more ranks entries (record { row = kept_row row; gift = gift }) slot)));
        inside = subst (AllByRecursion (λ (row : Row). row.rank < 16)) (sym (rows_more entries (record {
          row =
              kept_row row;
          gift = gift;
        })))
            (all_more (λ (row : Row). row.rank < 16) (rows_given entries)
            (kept_row row) keeps.inside (let below : row.rank < ranks = next.rank in let most : ranks ≤ 16 =
            keeps.few in omega arith));
      }

  pub gained_right : (gains : Gains N) (ranks window : ℕ) (entries : List Given) (row : Row) (result : Option Front)
      (plan : Plan) (deed : Deed) →
      IsNext ranks entries row window → Keeps front ranks entries gains → IsDeed gains.ranks (action_of row.call) deed →
      ((at : ℕ) → at < 32 → plan_slot plan at ≡ step_read gains.ledger window row.rank row.step deed at) →
      result ≡ gained_from (front_at front gains.tokens) (plan_slot plan) → result ≡ gained_by ranks entries row
  gained_right gains ranks window entries row result plan deed next keeps deed_is plans is =
      let most : ranks ≤ 16 = keeps.few in
      let below : row.rank < ranks = next.rank in
      is ∙ (gained_same (front_at front gains.tokens)
      (kept_at ranks entries) plan (read_slot (question ranks (rows_given entries) row) row.step) keeps.tokens
      (λ at low. plans at low ∙ (ap (λ w. step_read gains.ledger w row.rank row.step deed at) next.is_on
      ∙ read_slots (question ranks (rows_given entries) row) gains.ledger deed row.step keeps.tables keeps.few
      next.named (subst (λ n. IsDeed n (action_of row.call) deed) keeps.size deed_is) at low))
      ∙ sym (gained_is ranks entries row keeps.few (omega arith) next.named keeps.inside))

  -- what is kept, where the tables and the slots say the same
  pub keeps_stay : (before after : Gains N) (ranks : ℕ) (entries : List Given) → Keeps front ranks entries before →
      after.ranks ≡ before.ranks → after.count ≡ before.count → Stays before.ledger after.ledger →
      ((slot : Slot) → front_at front after.tokens slot ≡ front_at front before.tokens slot) →
      Keeps front ranks entries after
  keeps_stay before after ranks entries keeps same_ranks same_count stays same = record {
    size = same_ranks ∙ keeps.size;
    few = keeps.few;
    count = same_count ∙ keeps.count;
    tables = tables_stay ranks (acts (rows_given entries)) before.ledger after.ledger stays keeps.tables;
    tokens = λ slot. same slot ∙ keeps.tokens slot;
    inside = keeps.inside;
  }

  -- no entry
  pub keeps_none : (gains : Gains N) (ranks : ℕ) → gains.ranks ≡ ranks → ranks ≤ 16 → gains.count ≡ 0 →
      HasTables ranks [] gains.ledger → gains.tokens.entries ≡ [] → Keeps front ranks [] gains
  unfolding kept_at
  keeps_none gains ranks same few none tables empty = record {
    size = same;
    few = few;
    count = none;
    tables = tables;
    tokens = λ slot. ap (λ es. option_map front (lookup (slot_eq slot) es)) empty;
    inside = tt;
  }
