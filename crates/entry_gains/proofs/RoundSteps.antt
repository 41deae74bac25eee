-- What one entry more does to the table of rounds.
use Rattle.std.proofs.Common.{◌≡◌, ℕ, ◌+◌, ◌<◌, ◌≤◌, ◌==◌, Bool, true, false, ◌&&◌, cond, List, [], ◌∷◌, ◌++◌, length}
use Rattle.std.proofs.Common.{map, refl, ap, sym, ◌∙◌, arith, Some}
use Rattle.std.proofs.lemmas.Bool.{eqb-true}
use Rattle.std.proofs.lemmas.List.{length-append, map-append}
use Rattle.std.proofs.lemmas.List.Elements.{filter-append}
use Rattle.std.specs.List.{filter}
use Rattle.std.specs.Option.{option_map_or}
use Rattle.std.proofs.Math.Dec.{eqb}
use Rattle.list_laws.proofs.Truths.{both_left, both_right, same_truth}
use Rattle.board_rules.specs.Entries.{Act, Collective, Creation, Freeing, Fence, Barrier, arrivals, collective_of}
use Rattle.board_rules.specs.Entries.{is_arrive, is_by_on, is_collective, is_same_collective}
use Rattle.board_rules.proofs.EntryLaws.{is_arrival}
use Rattle.entry_gains.specs.Given.{meeting_of}
use Rattle.entry_gains.specs.Ledgers.{HasSameRounds, round_key}
use Rattle.entry_gains.specs.Slots.{meeting_eq}
use Rattle.entry_gains.specs.Tables.{begun_at, counted, round_eq}
use Rattle.entry_gains.specs.declared.ledger.Ledger.{Ledger}
use Rattle.entry_gains.specs.declared.slots.Meeting.{Meeting}
use Rattle.entry_gains.specs.declared.tables.RoundKey.{RoundKey}
use Rattle.entry_gains.proofs.LedgerSlots.{counted_is, few_arrivals}
use Rattle.entry_gains.proofs.SlotLaws.{and_both, meeting_to}

-- ---- rounds

abbrev pub RoundsAre : Ledger → List Act → Type 0
RoundsAre ledger entries = (window : ℕ) (collective : Collective) (rank : ℕ) →
    begun_at ledger.rounds (round_key window (meeting_of collective) rank)
    ≡ length (arrivals entries collective rank window)

arrivals_more : (entries : List Act) (act : Act) (collective : Collective) (rank window : ℕ) (b : Bool) →
    is_arrival collective rank window act ≡ b →
    length (arrivals (entries ++ act ∷ []) collective rank window)
    ≡ length (arrivals entries collective rank window) + cond b 1 0
arrivals_more entries act collective rank window b is =
    ap (λ acts. length (map (λ (act : Act). act.row.call) acts))
    (filter-append (is_arrival collective rank window) entries (act ∷ []))
    ∙ (ap length (map-append (λ (act : Act). act.row.call) (filter (is_arrival collective rank window) entries)
    (filter (is_arrival collective rank window) (act ∷ [])))
    ∙ (length-append (arrivals entries collective rank window)
    (map (λ (act : Act). act.row.call) (filter (is_arrival collective rank window) (act ∷ [])))
    ∙ ap (λ n. length (arrivals entries collective rank window) + n)
    (ap (λ b. length (map (λ (act : Act). act.row.call) (cond b (act ∷ []) []))) is ∙ of b)))
  where
    of : (b : Bool) → length (map (λ (act : Act). act.row.call) (cond b (act ∷ []) [])) ≡ cond b 1 0
    of true = refl
    of false = refl

pub rounds_kept : (before after : Ledger) (entries : List Act) (act : Act) → HasSameRounds before after →
    ((collective : Collective) → (is_arrive act.row.step && is_collective collective act.row.call) ≡ false) →
    RoundsAre before entries → RoundsAre after (entries ++ act ∷ [])
rounds_kept before after entries act same none were window collective rank =
    let plain : length (arrivals entries collective rank window)
    ≡ length (arrivals entries collective rank window) + 0 = omega arith in
    same (round_key window (meeting_of collective) rank)
    ∙ (were window collective rank
    ∙ (plain ∙ sym (arrivals_more entries act collective rank window false (of (is_by_on rank window act)
    (is_arrive act.row.step) (is_collective collective act.row.call) (none collective)))))
  where
    of : (a b c : Bool) → (b && c) ≡ false → (a && b && c) ≡ false
    of false b c e = refl
    of true b c e = e

meeting_from : (c d : Collective) → meeting_eq (meeting_of c) (meeting_of d) ≡ is_same_collective d c
meeting_from Creation Creation = refl
meeting_from Creation d = refl
meeting_from Freeing Creation = refl
meeting_from Freeing d = refl
meeting_from Fence Creation = refl
meeting_from Fence d = refl
meeting_from Barrier Creation = refl
meeting_from Barrier d = refl

round_to : (w v : ℕ) (m k : Meeting) (r t : ℕ) → round_eq (round_key w m r) (round_key v k t) ≡ true →
    round_key w m r ≡ round_key v k t
round_to w v m k r t e =
    let window : w ≡ v = eqb-true w v (both_left _ _ e) in
    let meeting : m ≡ k = meeting_to m k (both_left (meeting_eq m k) (eqb r t) (both_right (eqb w v) _ e)) in
    let rank : r ≡ t = eqb-true r t (both_right (meeting_eq m k) (eqb r t) (both_right (eqb w v) _ e)) in
    ap (λ w. round_key w m r) window ∙ (ap (λ m. round_key v m r) meeting ∙ ap (round_key v k) rank)

arrival_is : (act : Act) (own collective : Collective) (rank window : ℕ) → collective_of act.row.call ≡ Some own →
    is_arrive act.row.step ≡ true →
    round_eq (round_key act.window (meeting_of own) act.row.rank) (round_key window (meeting_of collective) rank)
    ≡ is_arrival collective rank window act
arrival_is act own collective rank window is arrives = same_truth
    (round_eq (round_key act.window (meeting_of own) act.row.rank) (round_key window (meeting_of collective) rank))
    (is_arrival collective rank window act) to from
  where
    same : is_collective collective act.row.call ≡ meeting_eq (meeting_of own) (meeting_of collective)
    same = ap (λ o. option_map_or (is_same_collective collective) o false) is ∙ sym (meeting_from own collective)

    to : round_eq (round_key act.window (meeting_of own) act.row.rank) (round_key window (meeting_of collective) rank)
        ≡ true → is_arrival collective rank window act ≡ true
    to e =
        let w : eqb act.window window ≡ true =
        both_left (eqb act.window window)
        (meeting_eq (meeting_of own) (meeting_of collective) && eqb act.row.rank rank) e in
        let rest : (meeting_eq (meeting_of own) (meeting_of collective) && eqb act.row.rank rank) ≡ true =
        both_right (eqb act.window window)
        (meeting_eq (meeting_of own) (meeting_of collective) && eqb act.row.rank rank) e in
        let m : meeting_eq (meeting_of own) (meeting_of collective) ≡ true =
        both_left (meeting_eq (meeting_of own) (meeting_of collective)) (eqb act.row.rank rank) rest in
        let r : eqb act.row.rank rank ≡ true =
        both_right (meeting_eq (meeting_of own) (meeting_of collective)) (eqb act.row.rank rank) rest in
        and_both (is_by_on rank window act && is_arrive act.row.step) (is_collective collective act.row.call)
        (and_both (is_by_on rank window act) (is_arrive act.row.step)
        (and_both (act.row.rank == rank) (act.window == window) r w) arrives) (same ∙ m)

    from : is_arrival collective rank window act ≡ true →
        round_eq (round_key act.window (meeting_of own) act.row.rank) (round_key window (meeting_of collective) rank)
        ≡ true
    from e =
        let by : is_by_on rank window act ≡ true =
        both_left (is_by_on rank window act) (is_arrive act.row.step)
        (both_left (is_by_on rank window act && is_arrive act.row.step) (is_collective collective act.row.call) e) in
        let m : meeting_eq (meeting_of own) (meeting_of collective) ≡ true =
        sym same ∙ both_right (is_by_on rank window act && is_arrive act.row.step)
        (is_collective collective act.row.call) e in
        and_both (eqb act.window window) (meeting_eq (meeting_of own) (meeting_of collective) && eqb act.row.rank rank)
        (both_right (act.row.rank == rank) (act.window == window) by)
        (and_both (meeting_eq (meeting_of own) (meeting_of collective))
        (eqb act.row.rank rank) m (both_left (act.row.rank == rank) (act.window == window) by))

pub rounds_set : (before after : Ledger) (entries : List Act) (act : Act) (own : Collective) →
    collective_of act.row.call ≡ Some own → is_arrive act.row.step ≡ true → length entries < 4294967295 →
    ((other : RoundKey) → begun_at after.rounds other
    ≡ cond (round_eq (round_key act.window (meeting_of own) act.row.rank) other)
    (counted (begun_at before.rounds (round_key act.window (meeting_of own) act.row.rank)))
    (begun_at before.rounds other)) →
    RoundsAre before entries → RoundsAre after (entries ++ act ∷ [])
rounds_set before after entries act own is arrives few set were window collective rank =
    set (round_key window (meeting_of collective) rank)
    ∙ of (round_eq (round_key act.window (meeting_of own) act.row.rank)
    (round_key window (meeting_of collective) rank)) refl
  where
    of : (b : Bool) → round_eq (round_key act.window (meeting_of own) act.row.rank)
        (round_key window (meeting_of collective) rank) ≡ b →
        cond (round_eq (round_key act.window (meeting_of own) act.row.rank)
        (round_key window (meeting_of collective) rank))
        (counted (begun_at before.rounds (round_key act.window (meeting_of own) act.row.rank)))
        (begun_at before.rounds (round_key window (meeting_of collective) rank))
        ≡ length (arrivals (entries ++ act ∷ []) collective rank window)
    of true here =
        let small : length (arrivals entries collective rank window) ≤ length entries =
        few_arrivals entries collective rank window in
        ap (λ b. cond b (counted (begun_at before.rounds (round_key act.window (meeting_of own) act.row.rank)))
        (begun_at before.rounds (round_key window (meeting_of collective) rank))) here
        ∙ (ap (λ key. counted (begun_at before.rounds key))
        (round_to act.window window (meeting_of own) (meeting_of collective) act.row.rank rank here)
        ∙ (ap counted (were window collective rank)
        ∙ (counted_is (length (arrivals entries collective rank window)) (omega arith)
        ∙ sym (arrivals_more entries act collective rank window true
        (sym (arrival_is act own collective rank window is arrives) ∙ here)))))
    of false apart =
        let plain : length (arrivals entries collective rank window)
        ≡ length (arrivals entries collective rank window) + 0 = omega arith in
        ap (λ b. cond b (counted (begun_at before.rounds (round_key act.window (meeting_of own) act.row.rank)))
        (begun_at before.rounds (round_key window (meeting_of collective) rank))) apart
        ∙ (were window collective rank ∙ (plain
        ∙ sym (arrivals_more entries act collective rank window false
        (sym (arrival_is act own collective rank window is arrives) ∙ apart))))
