-- Barriers: who has met whom, and where they stand.
use Rattle.std.proofs.Common.{◌≡◌, ◌≢◌, ℕ, ◌+◌, Bool, true, false, ◌&&◌, cond, eqb, leb, List, [], ◌∷◌, ◌++◌, length}
use Rattle.std.proofs.Common.{map, refl, ap, sym, ◌∙◌, arith, None}
use Rattle.std.specs.List.{filter, list_all}
use Rattle.std.specs.Option.{option_map_or}
use Rattle.std.proofs.lemmas.Bool.{eq-eqb, ne_eqb, true≢false}
use Rattle.std.proofs.lemmas.List.{length-append, map-append}
use Rattle.std.proofs.lemmas.List.Elements.{filter-append}
use Rattle.list_laws.proofs.Tests.{all_alike}
use Rattle.rma_types.specs.declared.calls.Call.{Call}
use Rattle.rma_types.specs.declared.actions.Action.{Action}
use Rattle.rma_types.specs.declared.actions.Action.TheVariants.{Synchronises, Meets}
use Rattle.rma_types.specs.declared.actions.Synchronisation.TheVariants.{Fences}
use Rattle.rma_types.specs.Actions.{action_of, window_in_action}
use Rattle.call_rules.specs.Pieces.{numbers_from}
use Rattle.rank_rules.specs.Windows.{window_number}
use Rattle.board_rules.specs.Entries.{Act, Barrier, Row, acts, arrivals, collective_in, is_arrive, is_by_on}
use Rattle.board_rules.specs.Entries.{is_collective, is_same_collective, round_of, window_of}
use Rattle.board_rules.specs.Questions.{Question}
use Rattle.board_rules.specs.Rounds.{all_arrived, arrivals_of}
use Rattle.rma_types.specs.KeptCalls.{kept_call}
use Rattle.kept_rows.proofs.KeptActs.{collective_kept}

-- a barrier is on no window
no_window : (action : Action) → option_map_or (is_same_collective Barrier) (collective_in action) false ≡ true →
    window_in_action action ≡ None
no_window Meets e = refl
no_window (Synchronises win (Fences asserts)) e = cc
no_window action e = cc

pub window_zero : (rows : List Row) (row : Row) → is_collective Barrier row.call ≡ true → window_of rows row ≡ 0
window_zero rows row e = ap (λ o. option_map_or (λ win. window_number (round_of rows row win) win) o 0)
    (no_window (action_of row.call) e)

met_at : (q : Question) (rows : List Row) (k : ℕ) → action_of q.call ≡ Meets → q.window ≡ 0 → q.entries ≡ acts rows →
    arrivals_of q k ≡ arrivals (acts rows) Barrier k 0
met_at q rows k call window entries = rw (call, window, entries) refl

pub all_met : (q : Question) (rows : List Row) (rank ranks : ℕ) → q.rank ≡ rank → q.ranks ≡ ranks →
    action_of q.call ≡ Meets → q.window ≡ 0 → q.entries ≡ acts rows →
    all_arrived q ≡ list_all (λ k. leb (length (arrivals (acts rows) Barrier rank 0))
    (length (arrivals (acts rows) Barrier k 0))) (numbers_from 0 ranks)
all_met q rows rank ranks asker all call window entries =
    all_alike (λ k. leb (length (arrivals_of q q.rank)) (length (arrivals_of q k)))
    (λ k. leb (length (arrivals (acts rows) Barrier rank 0)) (length (arrivals (acts rows) Barrier k 0)))
    (λ k. rw (met_at q rows q.rank call window entries, met_at q rows k call window entries, asker) refl)
    (numbers_from 0 q.ranks)
    ∙ ap (λ n. list_all (λ k. leb (length (arrivals (acts rows) Barrier rank 0))
    (length (arrivals (acts rows) Barrier k 0))) (numbers_from 0 n)) all

-- one entry more
chosen : ℕ → Act → Bool
chosen rank act = is_by_on rank 0 act && is_arrive act.row.step && is_collective Barrier act.row.call

met_more : (entries : List Act) (act : Act) (rank : ℕ) → length (arrivals (entries ++ act ∷ []) Barrier rank 0)
    ≡ length (arrivals entries Barrier rank 0) + cond
    (is_by_on rank 0 act && is_arrive act.row.step && is_collective Barrier act.row.call) 1 0
unfolding chosen
met_more entries act rank =
    ap (λ xs. length (map (λ (act : Act). act.row.call) xs)) (filter-append (chosen rank) entries (act ∷ []))
    ∙ (ap length (map-append (λ (act : Act). act.row.call) (filter (chosen rank) entries)
    (filter (chosen rank) (act ∷ [])))
    ∙ (length-append (map (λ (act : Act). act.row.call) (filter (chosen rank) entries))
    (map (λ (act : Act). act.row.call) (filter (chosen rank) (act ∷ [])))
    ∙ ap (λ n. length (arrivals entries Barrier rank 0) + n) (last (chosen rank act))))
  where
    last : (b : Bool) → length (map (λ (act : Act). act.row.call) (cond b (act ∷ []) [])) ≡ cond b 1 0
    last true = refl
    last false = refl

pub met_same : (entries : List Act) (act : Act) (rank : ℕ) → rank ≢ act.row.rank →
    length (arrivals (entries ++ act ∷ []) Barrier rank 0) ≡ length (arrivals entries Barrier rank 0)
met_same entries act rank apart =
    met_more entries act rank
    ∙ (ap (λ b. length (arrivals entries Barrier rank 0) + cond
    ((b && eqb act.window 0) && is_arrive act.row.step && is_collective Barrier act.row.call) 1 0)
    (ne_eqb act.row.rank rank (λ e. apart (sym e)))
    ∙ zero_more (length (arrivals entries Barrier rank 0)))
  where
    zero_more : (n : ℕ) → n + 0 ≡ n
    zero_more n = omega arith

pub met_here : (entries : List Act) (act : Act) (rank : ℕ) (call : Call) (more : Bool) → rank ≡ act.row.rank →
    act.row.call ≡ kept_call call → more ≡ (is_arrive act.row.step && is_collective Barrier call) →
    (is_collective Barrier call ≡ true → act.window ≡ 0) →
    length (arrivals (entries ++ act ∷ []) Barrier rank 0) ≡ length (arrivals entries Barrier rank 0) + cond more 1 0
met_here entries act rank call more by kept is zero =
    met_more entries act rank ∙ ap (λ b. length (arrivals entries Barrier rank 0) + cond b 1 0) (test ∙ sym is)
  where
    same : is_collective Barrier act.row.call ≡ is_collective Barrier call
    same = ap (is_collective Barrier) kept ∙ ap (λ o. option_map_or (is_same_collective Barrier) o false)
        (collective_kept call)

    split : (a w s c : Bool) → a ≡ true → (c ≡ true → w ≡ true) → ((a && w) && s && c) ≡ (s && c)
    split true true s c e f = refl
    split true false s true e f = absurd (true≢false (sym (f refl)))
    split true false true false e f = refl
    split true false false false e f = refl
    split false w s c e f = absurd (true≢false (sym e))

    test : (is_by_on rank 0 act && is_arrive act.row.step && is_collective Barrier act.row.call) ≡
        (is_arrive act.row.step && is_collective Barrier call)
    test = ap (λ c. is_by_on rank 0 act && is_arrive act.row.step && c) same
        ∙ split (eqb act.row.rank rank) (eqb act.window 0) (is_arrive act.row.step) (is_collective Barrier call)
        (eq-eqb act.row.rank rank (sym by)) (λ e. eq-eqb act.window 0 (zero e))
