-- The parts of windows lie in memory: each is what its rank's call of the window's creation brought.
use Rattle.std.proofs.Common.{◌≡◌, ℕ, zero, suc, ◌+◌, ◌*◌, ◌<◌, ◌≤◌, Bool, true, false, cond, List, [], ◌∷◌, ◌++◌}
use Rattle.std.proofs.Common.{length, Option, Some, None, refl, sym, ◌∙◌, ap, subst, arith}
use Rattle.std.specs.Prelude.{◌&&◌, ◌==◌, not, map, slice_get, slice_index_or, ℤ, pos, negsuc, is_some}
use Rattle.std.specs.List.{find, filter, fold, AllByRecursion}
use Rattle.std.specs.Option.{option_map_or}
use Rattle.std.proofs.lemmas.Bool.{and_parts, eqb-true}
use Rattle.list_laws.proofs.Each.{each_kept, each_append, each_weaker}
use Rattle.list_laws.proofs.Numbers.{further}
use Rattle.rma_types.specs.declared.accesses.Step.{Step}
use Rattle.rma_types.specs.declared.calls.Call.{Call}
use Rattle.rma_types.specs.declared.calls.Call.TheVariants.{Allocate as AllocateCall, Create as CreateCall}
use Rattle.rma_types.specs.declared.calls.Call.TheVariants.{Dynamic as DynamicCall}
use Rattle.rma_types.specs.declared.calls.Flavor.{Flavor}
use Rattle.rma_types.specs.declared.calls.Flavor.TheVariants.{Allocate, Create, Dynamic}
use Rattle.rma_types.specs.declared.scripts.Part.{Part}
use Rattle.rma_types.specs.declared.scripts.Script.{Script}
use Rattle.rma_types.proofs.ActionLaws.{creates_it}
use Rattle.board_rules.specs.AttachedRanges.{ranges_after, ranges_attached}
use Rattle.board_rules.specs.Entries.{Row, Act, acts, acts_after, window_of, is_arrive, is_creation, begins_window}
use Rattle.board_rules.specs.Entries.{is_by_on}
use Rattle.board_rules.specs.Shapes.{base_of, base_made, part_made, part_brought, part_in, parts_of}
use Rattle.rma_types.specs.declared.actions.Action.{Action}
use Rattle.rma_types.specs.declared.actions.Action.TheVariants.{Creates, Frees, Attaches, Detaches, Synchronises, Meets}
use Rattle.rma_types.specs.declared.actions.Action.TheVariants.{Moves, EndsRequest}
use Rattle.rma_types.specs.declared.actions.Creation.{Creation}
use Rattle.rma_types.specs.Actions.{action_of, creation_of}
use Rattle.call_rules.specs.Layout.{layout}
use Rattle.call_rules.specs.Pieces.{numbers_from}
use Rattle.call_rules.specs.Ranks.{natural}
use Rattle.lawful_runs.specs.Logs.{calls_of}
use Rattle.rank_rules.specs.Knowledge.{Knowledge, own_class}
use Rattle.rank_rules.specs.Ranges.{Range}
use Rattle.rank_rules.specs.Windows.{RankWindows, no_part, part_at}
use Rattle.rank_rules.specs.WindowTests.{window_class}
use Rattle.step_laws.proofs.Lists.{each_found, each_filter}
use Rattle.step_laws.proofs.Memory.{allocate_has_memory}
use Rattle.step_laws.proofs.OwnRoom.{FitsMemory, IsByAddress, creation_is_inside, attach_is_inside}
use Rattle.step_laws.proofs.OwnTests.{windows_allow}
use Rattle.step_laws.specs.Inside.{bytes_at}

-- ---- the ranges that calls name

-- the range that a call creates a window over, or attaches, ends before so many bytes
abbrev pub HasRoom : ℕ → Action → Type 0
HasRoom most (Creates creation) = creation.flavor ≡ Create → natural creation.base + natural creation.bytes ≤ most
HasRoom most (Frees win) = Unit {0}
HasRoom most (Attaches win base bytes) = natural base + natural bytes ≤ most
HasRoom most (Detaches win base) = Unit {0}
HasRoom most (Synchronises win s) = Unit {0}
HasRoom most Meets = Unit {0}
HasRoom most (Moves t) = Unit {0}
HasRoom most (EndsRequest req) = Unit {0}

action_has_room : (known : RankWindows) (most : ℕ) (a : Action) → known.space ≤ most → window_class known a ≡ None →
    HasRoom most a
action_has_room known most (Creates creation) space e = λ made. further
    (natural creation.base + natural creation.bytes) known.space most (creation_is_inside known creation e made) space
action_has_room known most (Frees win) space e = tt
action_has_room known most (Attaches win base bytes) space e = further (natural base + natural bytes) known.space most
    (attach_is_inside known win base bytes e) space
action_has_room known most (Detaches win base) space e = tt
action_has_room known most (Synchronises win s) space e = tt
action_has_room known most Meets space e = tt
action_has_room known most (Moves t) space e = tt
action_has_room known most (EndsRequest req) space e = tt

-- so it is with a call that its rank does not refuse
pub own_has_room : (known : Knowledge) (most : ℕ) (call : Call) → known.windows.space ≤ most →
    own_class known call ≡ None → HasRoom most (action_of call)
own_has_room known most call space own = action_has_room known.windows most (action_of call) space
    (windows_allow known call own)

-- ---- the entries

-- an entry is of a call of its rank, and what that names lies in the rank's memory
pub record IsSoundRow (script : Script) (row : Row) : Type 0 where
  pub inside : row.rank < script.ranks
  pub here : slice_get (calls_of script row.rank) row.number ≡ Some row.call
  pub room : HasRoom (bytes_at (layout script) row.rank) (action_of row.call)

abbrev pub IsSoundAct : Script → Act → Type 0
IsSoundAct script act = IsSoundRow script act.row

acts_after_sound : (script : Script) (before rows : List Row) → AllByRecursion (IsSoundRow script) rows →
    AllByRecursion (IsSoundAct script) (acts_after before rows)
acts_after_sound script before [] h = tt
acts_after_sound script before (row ∷ rows) h = (h.0, acts_after_sound script (before ++ row ∷ []) rows h.1)

pub acts_sound : (script : Script) (rows : List Row) → AllByRecursion (IsSoundRow script) rows →
    AllByRecursion (IsSoundAct script) (acts rows)
acts_sound script rows h = acts_after_sound script [] rows h

-- ---- attached ranges

abbrev pub EndsBefore : ℕ → Range → Type 0
EndsBefore most range = range.base + range.bytes ≤ most

after_fits : (most : ℕ) (ranges : List Range) (step : Step) (a : Action) → AllByRecursion (EndsBefore most) ranges →
    HasRoom most a → AllByRecursion (EndsBefore most) (ranges_after ranges step a)
after_fits most ranges step (Creates creation) h room = h
after_fits most ranges step (Frees win) h room = by_step (is_arrive step)
  where
    by_step : (b : Bool) → AllByRecursion (EndsBefore most) (cond b ranges [])
    by_step true = h
    by_step false = tt
after_fits most ranges step (Attaches win base bytes) h room = each_append (EndsBefore most) ranges
    (record { base = natural base; bytes = natural bytes } ∷ []) h (room, tt)
after_fits most ranges step (Detaches win base) h room = each_kept (EndsBefore most)
    (λ (range : Range). not (range.base == natural base)) ranges h
after_fits most ranges step (Synchronises win s) h room = h
after_fits most ranges step Meets h room = h
after_fits most ranges step (Moves t) h room = h
after_fits most ranges step (EndsRequest req) h room = h

fold_fits : (most : ℕ) (entries : List Act) (ranges : List Range) →
    AllByRecursion (λ (act : Act). HasRoom most (action_of act.row.call)) entries →
    AllByRecursion (EndsBefore most) ranges →
    AllByRecursion (EndsBefore most)
    (fold (λ ranges (act : Act). ranges_after ranges act.row.step (action_of act.row.call)) ranges entries)
fold_fits most [] ranges rooms h = h
fold_fits most (act ∷ entries) ranges rooms h =
    fold_fits most entries (ranges_after ranges act.row.step (action_of act.row.call)) rooms.1
    (after_fits most ranges act.row.step (action_of act.row.call) h rooms.0)

-- the ranges that a rank has attached to a window lie in its memory
pub attached_lie : (script : Script) (entries : List Act) (rank window : ℕ) →
    AllByRecursion (IsSoundAct script) entries →
    AllByRecursion (EndsBefore (bytes_at (layout script) rank)) (ranges_attached entries rank window)
attached_lie script entries rank window sound =
    fold_fits (bytes_at (layout script) rank) (filter (is_by_on rank window) entries) []
    (each_weaker (λ act. IsSoundAct script act × (is_by_on rank window act ≡ true))
    (λ (act : Act). HasRoom (bytes_at (layout script) rank) (action_of act.row.call)) of_rank
    (filter (is_by_on rank window) entries) (each_filter (IsSoundAct script) (is_by_on rank window) entries sound)) tt
  where
    of_rank : (act : Act) → (IsSoundAct script act × (is_by_on rank window act ≡ true)) →
        HasRoom (bytes_at (layout script) rank) (action_of act.row.call)
    of_rank act (sound', mine) =
        subst (λ r. HasRoom (bytes_at (layout script) r) (action_of act.row.call))
        (eqb-true act.row.rank rank (and_parts (act.row.rank == rank) (act.window == window) mine).0) sound'.room

-- ---- the parts of windows

-- a dynamic window has no bytes at first, and an address is a displacement
pub record IsPlain (creation : Creation) : Type 0 where
  pub base : natural creation.base ≡ 0
  pub bytes : natural creation.bytes ≡ 0
  pub unit : natural creation.unit ≡ 1

pub dynamic_is_plain : (call : Call) (creation : Creation) → creation_of call ≡ Some creation →
    creation.flavor ≡ Dynamic → IsPlain creation
dynamic_is_plain (AllocateCall win bytes unit) creation e flavor =
    let is : Allocate ≡ creation.flavor = ap (λ o. option_map_or (λ (c : Creation). c.flavor) o Dynamic) e in absurd
    (cc (is ∙ flavor))
dynamic_is_plain (CreateCall win base bytes unit) creation e flavor =
    let is : Create ≡ creation.flavor = ap (λ o. option_map_or (λ (c : Creation). c.flavor) o Dynamic) e in absurd
    (cc (is ∙ flavor))
dynamic_is_plain (DynamicCall win) creation e flavor = record {
  base = sym (ap (λ o. option_map_or (λ (c : Creation). natural c.base) o 0) e);
  bytes = sym (ap (λ o. option_map_or (λ (c : Creation). natural c.bytes) o 0) e);
  unit = sym (ap (λ o. option_map_or (λ (c : Creation). natural c.unit) o 1) e);
}
dynamic_is_plain other creation e flavor = absurd (cc e)

-- the lists of a script are as many as its ranks
pub record HasLists (script : Script) : Type 0 where
  pub spaces : length script.spaces ≡ script.ranks
  pub lists : length script.calls ≡ script.ranks

-- what a rank brings to a window lies in its memory
made_fits : (script : Script) → HasLists script → (row : Row) → IsSoundRow script row → (creation : Creation) →
    creation_of row.call ≡ Some creation →
    FitsMemory (layout script) row.rank (part_made (layout script) row.rank row.number creation)
made_fits script formed row sound creation makes = by_flavor creation.flavor refl
  where
    by_flavor : (f : Flavor) → creation.flavor ≡ f → base_made (layout script) row.rank row.number creation f +
        natural creation.bytes ≤ bytes_at (layout script) row.rank
    by_flavor Allocate is =
        allocate_has_memory script row.rank row.number row.call creation
        (subst (λ n. row.rank < n) (sym formed.spaces) sound.inside)
        (subst (λ n. row.rank < n) (sym formed.lists) sound.inside) sound.here makes is
    by_flavor Create is = subst (HasRoom (bytes_at (layout script) row.rank)) (creates_it row.call creation makes)
        sound.room is
    by_flavor Dynamic is =
        let plain = dynamic_is_plain row.call creation makes is in none (natural creation.base)
        (natural creation.bytes) (bytes_at (layout script) row.rank) plain.base plain.bytes
      where
        none : (a b m : ℕ) → a ≡ 0 → b ≡ 0 → a + b ≤ m
        none a b m e h = omega arith

brought_fits : (script : Script) → HasLists script → (act : Act) → IsSoundAct script act →
    FitsMemory (layout script) act.row.rank (part_brought (layout script) act)
brought_fits script formed act sound = by_creation (creation_of act.row.call) refl
  where
    by_creation : (o : Option Creation) → creation_of act.row.call ≡ o →
        FitsMemory (layout script) act.row.rank
        (option_map_or (part_made (layout script) act.row.rank act.row.number) o no_part)
    by_creation None e = omega arith
    by_creation (Some creation) e = made_fits script formed act.row sound creation e

-- the entry is that with which the rank begins to create the window
abbrev pub begins_here : ℕ → ℕ → Act → Bool
begins_here rank window act = is_by_on rank window act && begins_window act.row

part_in_fits : (script : Script) → HasLists script → (entries : List Act) (window rank : ℕ) →
    AllByRecursion (IsSoundAct script) entries →
    FitsMemory (layout script) rank (part_in (layout script) entries window rank)
part_in_fits script formed entries window rank sound =
    each_found (IsSoundAct script) (FitsMemory (layout script) rank) (begins_here rank window)
    (part_brought (layout script)) no_part keeps (omega arith) entries sound
  where
    keeps : (act : Act) → IsSoundAct script act → begins_here rank window act ≡ true →
        FitsMemory (layout script) rank (part_brought (layout script) act)
    keeps act sound' passes =
        let mine = and_parts (is_by_on rank window act) (begins_window act.row) passes in
        subst (λ r. FitsMemory (layout script) r (part_brought (layout script) act))
        (eqb-true act.row.rank rank (and_parts (act.row.rank == rank) (act.window == window) mine.0).0)
        (brought_fits script formed act sound')

-- a property of what a function gives at each rank
part_at_is : (P : Part → Type 0) (f : ℕ → Part) (first count rank : ℕ) → P no_part →
    ((k : ℕ) → k ≡ first + rank → P (f k)) → P (part_at (map f (numbers_from first count)) rank)
part_at_is P f first zero rank none each = none
part_at_is P f first (suc count) zero none each = each first (omega arith)
part_at_is P f first (suc count) (suc rank) none each = part_at_is P f (first + 1) count rank none
    (λ k e. each k (omega arith))

pub parts_fit : (script : Script) → HasLists script → (rows : List Row) → AllByRecursion (IsSoundRow script) rows →
    (window rank : ℕ) →
    FitsMemory (layout script) rank (part_at (parts_of (layout script) script.ranks (acts rows) window) rank)
parts_fit script formed rows sound window rank =
    part_at_is (FitsMemory (layout script) rank) (part_in (layout script) (acts rows) window) 0 script.ranks rank
    (omega arith)
    (λ k e. subst (λ n. FitsMemory (layout script) rank (part_in (layout script) (acts rows) window n)) (same k e)
    (part_in_fits script formed (acts rows) window rank (acts_sound script rows sound)))
  where
    same : (k : ℕ) → k ≡ 0 + rank → rank ≡ k
    same k e = omega arith

-- ---- dynamic windows

-- an entry that begins to create the window makes one of this flavor
abbrev pub MakesWith : Flavor → ℕ → Act → Type 0
MakesWith flavor window act = begins_window act.row ≡ true → act.window ≡ window → (creation : Creation) →
    creation_of act.row.call ≡ Some creation → creation.flavor ≡ flavor

-- in a dynamic window a displacement is an address
part_by_address : (script : Script) (entries : List Act) (window rank : ℕ) →
    AllByRecursion (MakesWith Dynamic window) entries → IsByAddress (part_in (layout script) entries window rank)
part_by_address script entries window rank makes =
    each_found (MakesWith Dynamic window) IsByAddress (begins_here rank window) (part_brought (layout script)) no_part
    keeps (refl, refl) entries makes
  where
    of_flavor : (act : Act) (creation : Creation) (f : Flavor) → creation.flavor ≡ f → f ≡ Dynamic →
        IsPlain creation → IsByAddress (part_made (layout script) act.row.rank act.row.number creation)
    of_flavor act creation f is e plain = (
      subst (λ g. base_made (layout script) act.row.rank act.row.number creation g ≡ 0) (sym (is ∙ e)) plain.base,
      plain.unit,
    )

    by_creation : (act : Act) (o : Option Creation) → creation_of act.row.call ≡ o →
        ((creation : Creation) → creation_of act.row.call ≡ Some creation → creation.flavor ≡ Dynamic) →
        IsByAddress (option_map_or (part_made (layout script) act.row.rank act.row.number) o no_part)
    by_creation act None e makes' = (refl, refl)
    by_creation act (Some creation) e makes' = of_flavor act creation creation.flavor refl (makes' creation e)
        (dynamic_is_plain act.row.call creation e (makes' creation e))

    keeps : (act : Act) → MakesWith Dynamic window act → begins_here rank window act ≡ true →
        IsByAddress (part_brought (layout script) act)
    keeps act makes' passes =
        let mine = and_parts (is_by_on rank window act) (begins_window act.row) passes in
        let on = and_parts (act.row.rank == rank) (act.window == window) mine.0 in
        by_creation act (creation_of act.row.call) refl (makes' mine.1 (eqb-true act.window window on.1))

pub parts_by_address : (script : Script) (rows : List Row) (window : ℕ) →
    AllByRecursion (MakesWith Dynamic window) (acts rows) → (rank : ℕ) →
    IsByAddress (part_at (parts_of (layout script) script.ranks (acts rows) window) rank)
parts_by_address script rows window makes rank =
    part_at_is IsByAddress (part_in (layout script) (acts rows) window) 0 script.ranks rank (refl, refl)
    (λ k e. part_by_address script (acts rows) window k makes)
