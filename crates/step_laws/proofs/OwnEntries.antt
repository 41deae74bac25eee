-- A rank's own entry keeps what holds of all entries, and of the numbers of windows.
use Rattle.std.proofs.Common.{◌≡◌, ℕ, ◌+◌, ◌-◌, ◌<◌, ◌≤◌, Bool, true, false, cond, List, [], ◌∷◌, ◌++◌, Option, Some}
use Rattle.std.proofs.Common.{None, refl, sym, ◌∙◌, ap, subst, arith}
use Rattle.std.specs.Prelude.{◌&&◌, ◌==◌, is_some}
use Rattle.std.specs.List.{count_by}
use Rattle.std.specs.Option.{option_map_or}
use Rattle.std.proofs.lemmas.List.Sums.{sum_by-append, sum_by-cons}
use Rattle.rma_types.specs.declared.accesses.Step.{Step}
use Rattle.rma_types.specs.declared.calls.Call.{Call}
use Rattle.rma_types.specs.declared.schedules.Delay.{Delay}
use Rattle.rma_types.specs.declared.scripts.Script.{Script}
use Rattle.rma_types.proofs.ActionLaws.{name_made}
use Rattle.board_rules.specs.Entries.{Row, is_creation, names_window}
use Rattle.rma_types.specs.declared.actions.Creation.{Creation}
use Rattle.rma_types.specs.Actions.{creation_of}
use Rattle.call_rules.specs.Layout.{layout}
use Rattle.call_rules.specs.WellFormed.{IsWellFormed}
use Rattle.board_rules.proofs.EntryLaws.{names_it}
use Rattle.lawful_runs.specs.Stages.{stage_of}
use Rattle.step_runs.specs.Agents.{Agent}
use Rattle.step_runs.specs.BoardSteps.{next_row}
use Rattle.step_laws.proofs.Creations.{IsSoundRow, own_has_room}
use Rattle.step_laws.proofs.EntryMoves.{HasBegun, IsAllowedEntry, with_row}
use Rattle.step_laws.proofs.Flavors.{AreRegular}
use Rattle.step_laws.proofs.Sound.{IsSoundRank, regular_push, other_push}
use Rattle.step_laws.specs.Inside.{bytes_at}

-- ---- the rank's own entry

-- what holds of the entries, and of the rank that makes moves; other ranks' facts are those of the entries at first
pub record IsSoundAt (script : Script) (delay : Delay) (rank : ℕ) (first : List Row) (agent : Agent) (rows : List Row)
    : Type 0 where
  pub sound : IsSoundRank script delay rank agent rows
  pub regular : AreRegular script rows
  pub begun : HasBegun (stage_of script delay) agent
  pub others : (other : ℕ) (a : Agent) → (other ≡ rank → ⊥) → IsSoundRank script delay other a first →
      IsSoundRank script delay other a rows

pub own_row_sound : (script : Script) (delay : Delay) (rank : ℕ) (agent : Agent) (rows : List Row) (call : Call)
    (step : Step) → rank < script.ranks → IsSoundRank script delay rank agent rows →
    IsAllowedEntry (stage_of script delay) agent rows call step → IsSoundRow script (next_row agent call step)
own_row_sound script delay rank agent rows call step inside sound entry = record {
  inside = subst (λ r. r < script.ranks) (sym sound.mine) inside;
  here = entry.here;
  room = own_has_room agent.known (bytes_at (layout script) agent.rank) call
      (subst (λ r. agent.known.windows.space ≤ bytes_at (layout script) r) (sym sound.mine) sound.space) entry.own;
}

-- the entries with the rank's own
pub pushed_at : (script : Script) (delay : Delay) (rank : ℕ) (first : List Row) (agent next : Agent) (rows : List Row)
    (call : Call) (step : Step) → IsWellFormed script → rank < script.ranks →
    IsSoundAt script delay rank first agent rows → IsAllowedEntry (stage_of script delay) agent rows call step →
    IsSoundRank script delay rank next (with_row agent rows call step) → HasBegun (stage_of script delay) next →
    IsSoundAt script delay rank first next (with_row agent rows call step)
pushed_at script delay rank first agent next rows call step formed inside at entry sound begun = record {
  sound = sound;
  regular = regular_push script rows (next_row agent call step) formed at.regular
      (own_row_sound script delay rank agent rows call step inside at.sound entry) entry.allowed;
  begun = begun;
  others = λ other a apart old. other_push script delay other a rows (next_row agent call step)
      (λ e. apart (sym e ∙ at.sound.mine)) (at.others other a apart old);
}

-- ---- the numbers of windows

pub count_names : (win : ℕ) (xs ys : List ℕ) →
    count_by (λ name. name == win) (xs ++ ys) ≡ count_by (λ name. name == win) xs + count_by (λ name. name == win) ys
count_names win xs ys = sum_by-append (λ name. cond (name == win) 1 0) xs ys

-- a call that begins to make a window of the name counts once
pub count_made : (call : Call) (mine : Bool) (win : ℕ) → mine ≡ true →
    cond (mine && is_creation call && names_window win call) 1 0 ≡ count_by (λ name. name == win) (name_made call)
count_made call false win e = absurd (cc e)
count_made call true win e = by_creation (creation_of call) refl
  where
    one : (creation : Creation) → cond (creation.win == win) 1 0 ≡ count_by (λ name. name == win) (creation.win ∷ [])
    one creation = let split = sum_by-cons (λ name. cond (name == win) 1 0) creation.win [] in sums
        (cond (creation.win == win) 1 0) _ split
      where
        sums : (a b : ℕ) → b ≡ a + 0 → a ≡ b
        sums a b e = omega arith

    by_creation : (o : Option Creation) → creation_of call ≡ o →
        cond (true && is_some o && names_window win call) 1 0 ≡ count_by (λ name. name == win)
        (option_map_or (λ (creation : Creation). creation.win ∷ []) o [])
    by_creation None none = refl
    by_creation (Some creation) makes = ap (λ b. cond b 1 0) (names_it call creation win makes) ∙ one creation
