-- The ranges that are attached to dynamic windows: MPI 3.1, section 11.2.4.
use Rattle.std.specs.Prelude.{ℕ, Bool, not, ◌==◌, if◌then◌else◌, List, [], ◌∷◌, ◌++◌}
use Rattle.std.specs.List.{filter, fold}
use Rattle.rma_types.specs.declared.accesses.Step.{Step}
use Rattle.rma_types.specs.declared.actions.Action.{Action}
use Rattle.rma_types.specs.declared.actions.Action.TheVariants.{Creates, Frees, Attaches, Detaches, Synchronises, Meets}
use Rattle.rma_types.specs.declared.actions.Action.TheVariants.{Moves, EndsRequest}
use Rattle.rma_types.specs.declared.actions.Transfer.{Transfer}
use Rattle.rma_types.specs.Actions.{action_of}
use Rattle.call_rules.specs.Ranks.{natural}
use Rattle.call_rules.specs.Transfers.{rank_reached, bytes_of}
use Rattle.rank_rules.specs.Ranges.{Range, covers}
use Rattle.board_rules.specs.Entries.{Act, is_by_on, is_arrive}
use Rattle.board_rules.specs.Questions.{Question}

-- The ranges of a rank on a window after one more of the rank's entries there. A free takes them away at its Leave.
abbrev pub ranges_after : List Range → Step → Action → List Range
ranges_after ranges step (Creates creation) = ranges
ranges_after ranges step (Frees win) = if is_arrive step then ranges else []
ranges_after ranges step (Attaches win base bytes) = ranges ++ record { base = natural base; bytes = natural bytes }
    ∷ []
ranges_after ranges step (Detaches win base) = filter (λ (range : Range). not (range.base == natural base)) ranges
ranges_after ranges step (Synchronises win s) = ranges
ranges_after ranges step Meets = ranges
ranges_after ranges step (Moves transfer) = ranges
ranges_after ranges step (EndsRequest req) = ranges

-- the ranges that a rank has attached to a window after the entries
abbrev pub ranges_attached : List Act → ℕ → ℕ → List Range
ranges_attached entries rank window =
    fold (λ ranges (act : Act). ranges_after ranges act.row.step (action_of act.row.call)) []
    (filter (is_by_on rank window) entries)

-- a byte of the transfer's range is not attached at its target; an address is a displacement there
abbrev pub reaches_unattached : Question → Transfer → Bool
reaches_unattached q t =
    not (covers (ranges_attached q.entries (rank_reached q.rank t.target) q.window) (natural t.disp) (bytes_of t))
