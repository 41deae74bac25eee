-- The parts of a window stay as they are, once all ranks have arrived at its creation.
use Rattle.std.proofs.Common.{◌≡◌, ℕ, ◌<◌, ◌≤◌, Bool, true, false, ◌&&◌, cond, List, [], ◌∷◌, ◌++◌, length, Option}
use Rattle.std.proofs.Common.{Some, refl, sym, ◌∙◌, ap, subst, arith}
use Rattle.std.specs.Prelude.{map, is_some}
use Rattle.std.specs.List.{AllByRecursion, filter, find}
use Rattle.std.specs.Option.{option_map_or}
use Rattle.list_laws.proofs.Truths.{and_assoc}
use Rattle.rma_types.specs.declared.calls.Call.{Call}
use Rattle.board_rules.specs.Entries.{Row, Act, acts, acts_after, is_by_on, is_arrive, is_creation}
use Rattle.board_rules.specs.Entries.{begins_window, arrivals, collective_in, fence_or_none, is_same_collective}
use Rattle.board_rules.specs.Entries.{is_collective, Creation}
use Rattle.board_rules.specs.Shapes.{part_in, part_brought}
use Rattle.rma_types.specs.declared.actions.Action.{Action}
use Rattle.rma_types.specs.declared.actions.Action.TheVariants.{Creates, Frees, Attaches, Detaches, Synchronises, Meets}
use Rattle.rma_types.specs.declared.actions.Action.TheVariants.{Moves, EndsRequest}
use Rattle.rma_types.specs.declared.actions.Synchronisation.{Synchronisation}
use Rattle.rma_types.specs.declared.actions.Synchronisation.TheVariants.{Fences, Posts, Starts, Completes, Waits, Locks}
use Rattle.rma_types.specs.declared.actions.Synchronisation.TheVariants.{Unlocks, Flushes, Syncs}
use Rattle.rma_types.specs.Actions.{action_of, creation_in}
use Rattle.call_rules.specs.Pieces.{numbers_from}
use Rattle.board_rules.proofs.EntryLaws.{acts_append}
use Rattle.lawful_runs.specs.Stages.{Stage, shapes_in}
use Rattle.rank_laws.proofs.Runs.{each_number}
use Rattle.rank_rules.specs.Windows.{no_part}

-- ---- entries with their windows

-- the entries that follow change nothing of those before
pub acts_joined : (rows more : List Row) → acts (rows ++ more) ≡ acts rows ++ acts_after rows more
acts_joined rows more = acts_append [] rows more

found_still : {X : Type 0} (test : X → Bool) (xs ys : List X) (x : X) → find test xs ≡ Some x →
    find test (xs ++ ys) ≡ Some x
found_still test [] ys x e = absurd (cc e)
found_still {X} test (y ∷ xs) ys x e =
    elim (test y) as (λ b. cond b (Some y) (find test xs) ≡ Some x →
    cond b (Some y) (find test (xs ++ ys)) ≡ Some x) [ true ↦ λ k. k | false ↦ λ k. found_still test xs ys x k ] e

-- ---- windows that are begun

-- the entry is a rank's arrival at the creation of a window
abbrev pub is_begun_by : ℕ → ℕ → Act → Bool
is_begun_by rank window act = is_by_on rank window act && begins_window act.row

-- the rank has arrived at the creation of the window
pub record HasBegun (rows : List Row) (rank window : ℕ) : Type 0 where
  pub act : Act
  pub there : find (is_begun_by rank window) (acts rows) ≡ Some act

part_stays : (stage : Stage) (rows more : List Row) (rank window : ℕ) → HasBegun rows rank window →
    part_in stage.layout (acts (rows ++ more)) window rank ≡ part_in stage.layout (acts rows) window rank
part_stays stage rows more rank window begun =
    ap (λ (o : Option Act). option_map_or (part_brought stage.layout) o no_part)
    (ap (find (is_begun_by rank window)) (acts_joined rows more)
    ∙ found_still (is_begun_by rank window) (acts rows) (acts_after rows more) begun.act begun.there
    ∙ sym begun.there)

map_agrees : {X : Type 0} (f g : ℕ → X) (numbers : List ℕ) → AllByRecursion (λ n. f n ≡ g n) numbers →
    map f numbers ≡ map g numbers
map_agrees f g [] h = refl
map_agrees f g (n ∷ ns) h = ap (λ x. x ∷ map f ns) h.0 ∙ ap (λ xs. g n ∷ xs) (map_agrees f g ns h.1)

-- the parts of a window, all of whose ranks have arrived at its creation, stay whatever entries follow
pub shapes_stay : (stage : Stage) (rows more : List Row) (window : ℕ) →
    ((rank : ℕ) → rank < stage.script.ranks → HasBegun rows rank window) →
    shapes_in stage (rows ++ more) window ≡ shapes_in stage rows window
shapes_stay stage rows more window begun =
    map_agrees (part_in stage.layout (acts (rows ++ more)) window) (part_in stage.layout (acts rows) window)
    (numbers_from 0 stage.script.ranks)
    (each_number (λ rank. part_in stage.layout (acts (rows ++ more)) window rank ≡ part_in stage.layout
    (acts rows) window rank) stage.script.ranks
    (λ rank inside. part_stays stage rows more rank window (begun rank inside)))

-- ---- arrivals

fence_is_no_creation : (s : Synchronisation) → option_map_or (is_same_collective Creation) (fence_or_none s) false
    ≡ false
fence_is_no_creation (Fences asserts) = refl
fence_is_no_creation (Posts group asserts) = refl
fence_is_no_creation (Starts group asserts) = refl
fence_is_no_creation Completes = refl
fence_is_no_creation (Waits tests) = refl
fence_is_no_creation (Locks kind target asserts) = refl
fence_is_no_creation (Unlocks target) = refl
fence_is_no_creation (Flushes target local) = refl
fence_is_no_creation Syncs = refl

creation_of_action : (action : Action) → option_map_or (is_same_collective Creation) (collective_in action) false
    ≡ is_some (creation_in action)
creation_of_action (Creates creation) = refl
creation_of_action (Frees win) = refl
creation_of_action (Attaches win base bytes) = refl
creation_of_action (Detaches win base) = refl
creation_of_action (Synchronises win s) = fence_is_no_creation s
creation_of_action Meets = refl
creation_of_action (Moves transfer) = refl
creation_of_action (EndsRequest req) = refl

-- the collective of a creation is that of creations alone
pub creation_is_collective : (call : Call) → is_collective Creation call ≡ is_creation call
creation_is_collective call = creation_of_action (action_of call)

-- the tests of an arrival at a creation, and of the entry that begins a window, are one
arrival_begins : (rank window : ℕ) (act : Act) → (is_by_on rank window act && is_arrive act.row.step && is_collective
    Creation act.row.call) ≡ is_begun_by rank window act
arrival_begins rank window act =
    and_assoc (is_by_on rank window act) (is_arrive act.row.step) (is_collective Creation act.row.call)
    ∙ ap (λ b. is_by_on rank window act && (is_arrive act.row.step && b)) (creation_is_collective act.row.call)

some_found : (rank window : ℕ) (entries : List Act) →
    1 ≤ length (map (λ (act : Act). act.row.call) (filter (λ (act : Act).
    is_by_on rank window act && is_arrive act.row.step && is_collective Creation act.row.call) entries)) →
    (act : Act) × (find (is_begun_by rank window) entries ≡ Some act)
some_found rank window [] h = absurd (omega arith)
some_found rank window (act ∷ entries) h =
    elim (is_begun_by rank window act) as (λ b. is_begun_by rank window act ≡ b →
    (found : Act) × (cond b (Some act) (find (is_begun_by rank window) entries) ≡ Some found)) [
      | true ↦ λ e. (act, refl)
      | false ↦ λ e. some_found rank window entries
          (subst (λ b. 1 ≤ length (map (λ (a : Act). a.row.call)
          (cond b (act ∷ filter (λ (a : Act). is_by_on rank window a && is_arrive a.row.step && is_collective
          Creation a.row.call) entries)
          (filter (λ (a : Act). is_by_on rank window a && is_arrive a.row.step && is_collective Creation a.row.call)
          entries)))) (arrival_begins rank window act ∙ e) h)
    ] refl

-- a rank that has an arrival at the creation of a window has begun it
pub arrived_has_begun : (rows : List Row) (rank window : ℕ) → 1 ≤ length (arrivals (acts rows) Creation rank window) →
    HasBegun rows rank window
arrived_has_begun rows rank window h = let found = some_found rank window
    (acts rows) h in record { act = found.0; there = found.1 }
