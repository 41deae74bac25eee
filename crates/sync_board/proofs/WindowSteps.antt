-- What one entry more does to what is kept of a window.
use Rattle.std.proofs.Common.{◌≡◌, ◌≢◌, ℕ, Bool, true, false, ◌&&◌, cond, eqb, List, [], ◌∷◌, ◌++◌, refl, ap, sym, ◌∙◌}
use Rattle.std.proofs.Common.{append-nil}
use Rattle.std.proofs.lemmas.Bool.{ne_eqb, eq-eqb, and_right}
use Rattle.std.proofs.lemmas.List.Elements.{filter-append}
use Rattle.rma_types.specs.declared.accesses.Step.{Step}
use Rattle.rma_types.specs.declared.calls.Call.{Call}
use Rattle.rma_types.specs.declared.calls.Call.TheVariants.{Put, Acc, GetAcc, Store}
use Rattle.rma_types.specs.declared.actions.Action.{Action}
use Rattle.rma_types.specs.declared.actions.Action.TheVariants.{Creates, Frees, Attaches, Detaches, Synchronises, Meets}
use Rattle.rma_types.specs.declared.actions.Action.TheVariants.{Moves, EndsRequest}
use Rattle.rma_types.specs.Actions.{action_of}
use Rattle.board_rules.specs.Entries.{Act, is_by_on}
use Rattle.board_rules.specs.Questions.{Question}
use Rattle.rma_types.specs.KeptCalls.{kept_call}
use Rattle.sync_board.specs.Sides.{done, own}
use Rattle.sync_board.specs.Tables.{IsSameFor}
use Rattle.sync_board.specs.Windows.{done_on, entered, entries_after}
use Rattle.sync_board.proofs.OneMore.{done_more, with_entry}

-- ---- the entries of a rank on a window

pub own_more : (entries : List Act) (act : Act) (rank window : ℕ) → act.row.rank ≡ rank → act.window ≡ window →
    own (entries ++ act ∷ []) rank window ≡ own entries rank window ++ act ∷ []
own_more entries act rank window r w =
    let test : is_by_on rank window act ≡ true = rw (r, w, eq-eqb rank rank refl, eq-eqb window window refl) refl in
    filter-append (is_by_on rank window) entries (act ∷ []) ∙ ap (λ b. own entries rank window ++ cond b (act ∷ []) [])
    test

pub own_same : (entries : List Act) (act : Act) (rank window : ℕ) → is_by_on rank window act ≡ false →
    own (entries ++ act ∷ []) rank window ≡ own entries rank window
own_same entries act rank window off =
    filter-append (is_by_on rank window) entries (act ∷ [])
    ∙ (ap (λ b. own entries rank window ++ cond b (act ∷ []) []) off ∙ append-nil (own entries rank window))

pub other_rank : (entries : List Act) (act : Act) (window other : ℕ) → other ≢ act.row.rank →
    done_on (entries ++ act ∷ []) window other ≡ done_on entries window other
other_rank entries act window other apart =
    let test : eqb act.row.rank other ≡ false = ne_eqb act.row.rank other (λ e. apart (sym e)) in
    ap done (own_same entries act other window (ap (λ b. b && eqb act.window window) test))

pub other_window : (entries : List Act) (act : Act) (window rank : ℕ) → act.window ≢ window →
    done_on (entries ++ act ∷ []) window rank ≡ done_on entries window rank
other_window entries act window rank apart =
    ap done (own_same entries act rank window
    (and_right (eqb act.row.rank rank) (eqb act.window window) (ne_eqb act.window window apart)))

-- ---- the entry that a question becomes

-- the action moves data
abbrev pub is_move : Action → Bool
is_move (Creates creation) = false
is_move (Frees win) = false
is_move (Attaches win base bytes) = false
is_move (Detaches win base) = false
is_move (Synchronises win s) = false
is_move Meets = false
is_move (Moves transfer) = true
is_move (EndsRequest req) = false

whole : (call : Call) → is_move (action_of call) ≡ false → action_of (kept_call call) ≡ action_of call
whole (Put req win target disp dtype values) stays = cc
whole (Acc req win target disp dtype op values) stays = cc
whole (GetAcc req win target disp dtype op values) stays = cc
whole (Store win disp dtype values) stays = cc
whole call stays = refl

pub kept_action : (call : Call) (action : Action) → action_of call ≡ action → is_move action ≡ false →
    action_of (kept_call call) ≡ action
kept_action call action e stays = whole call (ap is_move e ∙ stays) ∙ e

pub same_for : (q : Question) (number : ℕ) (step : Step) (rank : ℕ) → q.rank ≡ rank →
    IsSameFor rank (done_on q.entries q.window) (done_on (entries_after q number step) q.window)
same_for q number step rank asker other apart =
    other_rank q.entries (entered q number step) q.window other (λ e. apart (e ∙ asker))

pub own_entered : (q : Question) (number : ℕ) (step : Step) (rank : ℕ) → q.rank ≡ rank →
    own (entries_after q number step) rank q.window ≡ own q.entries rank q.window ++ entered q number step ∷ []
own_entered q number step rank asker = own_more q.entries (entered q number step) rank q.window asker refl

-- what the asking rank has done, with its entry
pub done_entered : (q : Question) (number : ℕ) (step : Step) (rank : ℕ) (action : Action) → q.rank ≡ rank →
    action_of q.call ≡ action → is_move action ≡ false →
    done_on (entries_after q number step) q.window rank ≡ with_entry (done_on q.entries q.window rank) step
    (kept_call q.call) action
done_entered q number step rank action asker is stays =
    ap done (own_entered q number step rank asker)
    ∙ (done_more (own q.entries rank q.window) (entered q number step)
    ∙ ap (λ a. with_entry (done_on q.entries q.window rank) step (kept_call q.call) a)
    (kept_action q.call action is stays))
