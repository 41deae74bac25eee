-- Entries, their acts and the windows that they begin.
use Rattle.std.proofs.Common.{List, ◌++◌, ◌≡◌, [], ap, sym, ◌∷◌, ◌∙◌, append_assoc, ℕ, Bool, Some, false, true, cond}
use Rattle.std.proofs.Common.{◌-◌, refl}
use Rattle.std.proofs.lemmas.Bool.{true≢false}
use Rattle.std.proofs.lemmas.List.{append-nil}
use Rattle.std.specs.Option.{option_map_or}
use Rattle.std.specs.Prelude.{◌==◌, ◌&&◌}
use Rattle.rma_types.proofs.ActionLaws.{creates_it}
use Rattle.rma_types.specs.Actions.{creation_of, window_in_action}
use Rattle.rma_types.specs.declared.accesses.Step.{Step}
use Rattle.rma_types.specs.declared.accesses.Step.TheVariants.{Arrive, Leave, One}
use Rattle.rma_types.specs.declared.actions.Creation.{Creation}
use Rattle.rma_types.specs.declared.calls.Call.{Call}
use Rattle.rank_rules.specs.Windows.{window_number}
use Rattle.board_rules.specs.Entries.{Row, acts_after, window_of, begins_window, names_window, Collective, Act}
use Rattle.board_rules.specs.Entries.{is_by_on, is_arrive, is_collective, creations, round_of, is_creation}

pub acts_append : (before rows more : List Row) →
    acts_after before (rows ++ more) ≡ acts_after before rows ++ acts_after
    (before ++ rows) more
acts_append before [] more = ap (λ b. acts_after b more) (sym (append-nil before))
acts_append before (row ∷ rows) more =
    ap (λ l. record { row = row; window = window_of before row } ∷ l)
    (acts_append (before ++ row ∷ []) rows more ∙ ap (λ b. acts_after (before ++ row ∷ []) rows ++ acts_after b more)
    (append_assoc before (row ∷ []) rows))

abbrev pub begins_by : ℕ → ℕ → Row → Bool
begins_by rank win row = row.rank == rank && begins_window row && names_window win row.call

-- a creation names its window
pub names_it : (call : Call) (creation : Creation) (win : ℕ) → creation_of call ≡ Some creation →
    names_window win call ≡ (creation.win == win)
names_it call creation win makes = ap (λ a. option_map_or (λ name. name == win) (window_in_action a) false)
    (creates_it call creation makes)

-- the entry is an arrival of the rank at the collective on the window
abbrev pub is_arrival : Collective → ℕ → ℕ → Act → Bool
is_arrival collective rank window act =
    is_by_on rank window act && is_arrive act.row.step && is_collective collective act.row.call

-- the number of the window that an entry begins to make
pub new_number : (rows : List Row) (row : Row) (creation : Creation) → begins_window row ≡ true →
    creation_of row.call ≡ Some creation →
    window_of rows row ≡ window_number (creations rows row.rank creation.win) creation.win
new_number rows row creation begins makes =
    ap (λ a. option_map_or (λ win. window_number (round_of rows row win) win) (window_in_action a) 0)
    (creates_it row.call creation makes)
    ∙ ap (λ b. window_number
    (cond b (creations rows row.rank creation.win) (creations rows row.rank creation.win - 1)) creation.win) begins

pub arrive_is : (step : Step) → is_arrive step ≡ true → step ≡ Arrive
arrive_is Arrive h = refl
arrive_is Leave h = absurd (cc h)
arrive_is One h = absurd (cc h)

pub begins_creation : (row : Row) → begins_window row ≡ true → is_creation row.call ≡ true
begins_creation row e = second (is_arrive row.step) (is_creation row.call) e
  where
    second : (a b : Bool) → (a && b) ≡ true → b ≡ true
    second true b e = e
    second false b e = absurd (true≢false (sym e))
