-- A rank that puts one entry more has numbered its windows as the board does.
use Rattle.std.proofs.Common.{◌≡◌, ℕ, ◌+◌, ◌-◌, Bool, true, false, cond, List, [], ◌∷◌, ◌++◌, Option, Some, None, refl}
use Rattle.std.proofs.Common.{sym, ◌∙◌, ap, subst, arith}
use Rattle.std.specs.Prelude.{◌==◌, ◌&&◌, is_some, map}
use Rattle.std.specs.List.{count_by, flat_map}
use Rattle.std.specs.Option.{option_map_or}
use Rattle.std.proofs.Math.Path.{fun_ext}
use Rattle.std.proofs.lemmas.Bool.{eq-eqb}
use Rattle.std.proofs.lemmas.List.Sums.{sum_by-append, sum_by-cons}
use Rattle.list_laws.proofs.Tests.{found_joined}
use Rattle.list_laws.proofs.Truths.{false_inside}
use Rattle.rma_types.specs.declared.accesses.Step.{Step}
use Rattle.rma_types.specs.declared.accesses.Step.TheVariants.{Arrive, Leave, One}
use Rattle.rma_types.specs.declared.calls.Call.{Call}
use Rattle.rma_types.specs.declared.scripts.Layout.{Layout}
use Rattle.rma_types.specs.declared.scripts.Part.{Part}
use Rattle.rma_types.proofs.ActionLaws.{none_made, transfer_makes_none, creates_it, name_made}
use Rattle.rma_record.specs.declared.items.Item.{Item}
use Rattle.rma_record.specs.declared.items.Item.TheVariants.{Entry}
use Rattle.board_rules.specs.Entries.{Act, Row, acts, begins_window, creations, is_arrive, is_by_on, is_creation}
use Rattle.board_rules.specs.Entries.{names_window, window_of}
use Rattle.board_rules.specs.Shapes.{part_brought, part_in, parts_of}
use Rattle.rma_types.specs.declared.actions.Creation.{Creation}
use Rattle.rma_types.specs.Actions.{creation_of, window_in_action}
use Rattle.call_rules.specs.Pieces.{numbers_from}
use Rattle.board_rules.proofs.EntryLaws.{begins_by, names_it}
use Rattle.lawful_runs.specs.Logs.{row_by}
use Rattle.lawful_runs.specs.Stages.{Stage}
use Rattle.rank_rules.specs.Courses.{LookUpAndIssue, course_of}
use Rattle.rank_rules.specs.Windows.{RankWindows, next_number, no_part, window_number}
use Rattle.step_laws.proofs.EntryNumbers.{act_after, acts_push, creations_push}
use Rattle.step_laws.proofs.OwnTests.{HasIssue, transfer_with_issue}
use Rattle.step_laws.proofs.Sound.{no_more_creations}
use Rattle.step_laws.specs.Inside.{begun_names, names_so_far}
use Rattle.step_runs.specs.Agents.{Agent, next_call}
use Rattle.step_runs.specs.BoardSteps.{next_row}
use Rattle.step_laws.proofs.SoundEntries.{entered_names}
use Rattle.rank_engine.proofs.Ended.{none_begun}
use Rattle.rank_engine.proofs.EntryRows.{creations_agree, own_grows}
use Rattle.rank_engine.specs.Entering.{IsOpening}
use Rattle.rank_engine.specs.RankStates.{AreOwnRows, own_rows}
use Rattle.rank_engine.specs.Sound.{AreNumbered}

abbrev count : ℕ → List ℕ → ℕ
count win names = count_by (λ name. name == win) names

count_names : (win : ℕ) (xs ys : List ℕ) → count win (xs ++ ys) ≡ count win xs + count win ys
count_names win xs ys = sum_by-append (λ name. cond (name == win) 1 0) xs ys

count_one : (win name : ℕ) → count win (name ∷ []) ≡ cond (name == win) 1 0
count_one win name =
    let split = sum_by-cons (λ (n : ℕ). cond (n == win) 1 0) name [] in sums (cond (name == win) 1 0) _ split
  where
    sums : (a b : ℕ) → b ≡ a + 0 → b ≡ a
    sums a b e = omega arith

-- a call that begins to make a window of the name counts once
count_made : (call : Call) (mine : Bool) (win : ℕ) → mine ≡ true →
    cond (mine && is_creation call && names_window win call) 1 0 ≡ count win (name_made call)
count_made call false win e = absurd (cc e)
count_made call true win e = by_creation (creation_of call) refl
  where
    by_creation : (o : Option Creation) → creation_of call ≡ o →
        cond (true && is_some o && names_window win call) 1 0
        ≡ count win (option_map_or (λ (creation : Creation). creation.win ∷ []) o [])
    by_creation None none = refl
    by_creation (Some creation) makes =
        ap (λ b. cond b 1 0) (names_it call creation win makes) ∙ sym (count_one win creation.win)

-- ---- the first entry of two

look_up_makes_none : (known : RankWindows) (call : Call) → course_of known call ≡ LookUpAndIssue →
    creation_of call ≡ None
look_up_makes_none known call is =
    let t = transfer_with_issue known call (subst HasIssue (sym is) tt) in transfer_makes_none call t.0 t.1

begins_made : (known : RankWindows) (agent : Agent) (call : Call) (step : Step) (win : ℕ) →
    IsOpening step (course_of known call) →
    cond (begins_by agent.rank win (next_row agent call step)) 1 0 ≡ count win (name_made call)
begins_made known agent call Arrive win opens =
    count_made call (agent.rank == agent.rank) win (eq-eqb agent.rank agent.rank refl)
begins_made known agent call Leave win opens = absurd opens
begins_made known agent call One win opens =
    ap (λ b. cond b 1 0) (false_inside (agent.rank == agent.rank) (is_creation call) (names_window win call))
    ∙ ap (count win) (sym (none_made call (look_up_makes_none known call opens)))

pub opened_numbers : (stage : Stage) (agent : Agent) (call : Call) (step : Step) (place : ℕ) (log : List Item) →
    AreNumbered stage agent → agent.entered ≡ false → next_call stage agent ≡ Some call →
    log ≡ agent.log ++ Entry agent.at place step ∷ [] → IsOpening step (course_of agent.known.windows call) →
    AreNumbered stage (record agent { log = log; entered = true })
opened_numbers stage agent call step place log numbers new here is opens win =
    let created = agent.known.windows.created in
    ap (λ rows. creations rows agent.rank win) (own_grows stage agent call step place log here is)
    ∙ (creations_push (own_rows stage agent) (next_row agent call step) agent.rank win
    ∙ (sums (creations (own_rows stage agent) agent.rank win) (count win created)
    (cond (begins_by agent.rank win (next_row agent call step)) 1 0) (count win (name_made call))
    (numbers win ∙ ap (count win) (none_begun stage agent new))
    (begins_made agent.known.windows agent call step win opens)
    ∙ (sym (count_names win created (name_made call))
    ∙ ap (λ o. count win (created ++ begun_names true o)) (sym here))))
  where
    sums : (a b c d : ℕ) → a ≡ b → c ≡ d → a + c ≡ b + d
    sums a b c d e f = omega arith

-- ---- the entry that ends a call

pub plain_names : (stage : Stage) (agent : Agent) (call : Call) → agent.entered ≡ false → creation_of call ≡ None →
    names_so_far stage agent ≡ agent.known.windows.created ++ name_made call
plain_names stage agent call new none =
    ap (λ b. agent.known.windows.created ++ begun_names b (next_call stage agent)) new
    ∙ ap (λ l. agent.known.windows.created ++ l) (sym (none_made call none))

pub closed_numbers : (stage : Stage) (agent next : Agent) (call : Call) (step : Step) (place : ℕ) →
    AreNumbered stage agent → next_call stage agent ≡ Some call → next.rank ≡ agent.rank → next.entered ≡ false →
    next.log ≡ agent.log ++ Entry agent.at place step ∷ [] → is_arrive step ≡ false →
    names_so_far stage agent ≡ agent.known.windows.created ++ name_made call →
    next.known.windows.created ≡ agent.known.windows.created ++ name_made call → AreNumbered stage next
closed_numbers stage agent next call step place numbers here same closed is no_arrive names grows win =
    ap (λ rank. creations (flat_map (row_by stage.script rank) next.log) rank win) same
    ∙ (ap (λ rows. creations rows agent.rank win) (own_grows stage agent call step place next.log here is)
    ∙ (no_more_creations (own_rows stage agent) (next_row agent call step) agent.rank win
    (ap (λ b. agent.rank == agent.rank && (b && is_creation call) && names_window win call) no_arrive
    ∙ false_inside (agent.rank == agent.rank) (is_creation call) (names_window win call))
    ∙ (numbers win ∙ ap (count win) (names ∙ (sym grows ∙ sym (none_begun stage next closed))))))

-- ---- the number of the window that a Leave makes

-- a Leave of a creation is on the rank's next window
pub leaves_next : (stage : Stage) (agent : Agent) (call : Call) (creation : Creation) (rows : List Row) →
    AreNumbered stage agent → agent.entered ≡ true → next_call stage agent ≡ Some call →
    creation_of call ≡ Some creation → AreOwnRows stage agent rows →
    window_of rows (next_row agent call Leave) ≡ next_number agent.known.windows.created creation.win
leaves_next stage agent call creation rows numbers begun here makes own =
    ap (λ a. option_map_or (λ win. window_number (creations rows agent.rank win - 1) win) (window_in_action a) 0)
    (creates_it call creation makes)
    ∙ ap (λ n. window_number n creation.win)
    (one_less (creations rows agent.rank creation.win) (count creation.win created) all)
  where
    created : List ℕ
    created = agent.known.windows.created

    one_less : (a b : ℕ) → a ≡ b + 1 → a - 1 ≡ b
    one_less a b e = omega arith

    once : count creation.win (name_made call) ≡ 1
    once =
        ap (λ o. count creation.win (option_map_or (λ (c : Creation). c.win ∷ []) o [])) makes
        ∙ (count_one creation.win creation.win
        ∙ ap (λ b. cond b 1 0) (eq-eqb creation.win creation.win refl))

    all : creations rows agent.rank creation.win ≡ count creation.win created + 1
    all =
        creations_agree stage agent rows creation.win own
        ∙ (numbers creation.win
        ∙ (ap (count creation.win) (entered_names stage agent call begun here)
        ∙ (count_names creation.win created (name_made call) ∙ ap (λ n. count creation.win created + n) once)))

-- ---- the parts of the window

-- an entry that is no Arrive brings no part
pub parts_stay : (layout : Layout) (ranks : ℕ) (rows : List Row) (row : Row) (window : ℕ) → is_arrive row.step ≡ false →
    parts_of layout ranks (acts (rows ++ row ∷ [])) window ≡ parts_of layout ranks (acts rows) window
parts_stay layout ranks rows row window no_arrive =
    ap (λ entries. parts_of layout ranks entries window) (acts_push rows row)
    ∙ ap (λ (f : ℕ → Part). map_parts f) (fun_ext same)
  where
    map_parts : (ℕ → Part) → List Part
    map_parts f = map f (numbers_from 0 ranks)

    not_begins : (b : Bool) → (b && (is_arrive row.step && is_creation row.call)) ≡ false
    not_begins b = ap (λ a. b && (a && is_creation row.call)) no_arrive ∙ no_more b
      where
        no_more : (b : Bool) → (b && false) ≡ false
        no_more true = refl
        no_more false = refl

    same : (rank : ℕ) → part_in layout (acts rows ++ act_after rows row ∷ []) window rank
        ≡ part_in layout (acts rows) window rank
    same rank = ap (λ o. option_map_or (part_brought layout) o no_part)
        (found_joined (λ (act : Act). is_by_on rank window act && begins_window act.row) (acts rows)
        (act_after rows row)
        (not_begins (is_by_on rank window (act_after rows row))))
