-- What holds of the entries and of each rank through a run: the windows and ranges that it knows lie in memory, and so
-- do the accesses that it looked up or that are pending.
use Rattle.std.proofs.Common.{◌≡◌, ℕ, zero, suc, ◌+◌, ◌-◌, ◌*◌, ◌<◌, ◌≤◌, inl, inr, Bool, true, false, cond, not, List}
use Rattle.std.proofs.Common.{[], ◌∷◌, ◌++◌, length, Option, Some, None, refl, sym, ◌∙◌, ap, subst, arith, append_assoc}
use Rattle.std.specs.Prelude.{◌&&◌, ◌==◌, slice_get, is_none}
use Rattle.std.specs.List.{count_by, sum_by, filter, AllByRecursion}
use Rattle.std.proofs.lemmas.Bool.{and_left, and_right, ne_eqb, eq-eqb, cases_eq}
use Rattle.std.proofs.lemmas.List.Sums.{sum_by-append, sum_by-cons}
use Rattle.list_laws.proofs.Each.{each_append, each_kept, each_at, each_get_or}
use Rattle.list_laws.proofs.Lists.{get_append}
use Rattle.rma_types.specs.declared.calls.Call.{Call}
use Rattle.rma_types.specs.declared.calls.Flavor.{Flavor}
use Rattle.rma_types.specs.declared.calls.Flavor.TheVariants.{Allocate, Create, Dynamic}
use Rattle.rma_types.specs.declared.schedules.Delay.{Delay}
use Rattle.rma_types.specs.declared.scripts.Layout.{Layout}
use Rattle.rma_types.specs.declared.scripts.Part.{Part}
use Rattle.rma_types.specs.declared.scripts.Script.{Script}
use Rattle.rma_types.proofs.ActionLaws.{creates_it}
use Rattle.board_rules.specs.Board.{Allow, decide}
use Rattle.board_rules.specs.Entries.{Row, Act, acts, is_arrive, is_creation, begins_window, names_window, creations}
use Rattle.board_rules.specs.Entries.{window_of}
use Rattle.rma_types.specs.declared.actions.Action.{Action}
use Rattle.rma_types.specs.declared.actions.Action.TheVariants.{Creates, Frees, Attaches, Detaches, Synchronises, Meets}
use Rattle.rma_types.specs.declared.actions.Action.TheVariants.{Moves, EndsRequest}
use Rattle.rma_types.specs.declared.actions.Creation.{Creation}
use Rattle.rma_types.specs.declared.actions.Transfer.{Transfer}
use Rattle.rma_types.specs.Actions.{creation_of, transfer_of}
use Rattle.call_rules.specs.Layout.{layout}
use Rattle.call_rules.specs.Ranks.{natural}
use Rattle.call_rules.specs.WellFormed.{IsWellFormed, IsWrittenCall, IsWrittenAction}
use Rattle.board_rules.proofs.EntryLaws.{arrive_is, begins_by}
use Rattle.lawful_runs.specs.Logs.{calls_of}
use Rattle.lawful_runs.specs.Stages.{Stage, stage_of}
use Rattle.rank_rules.specs.Courses.{access_on}
use Rattle.rank_rules.specs.Windows.{Window, OwnRange, RankWindows, window_of_name, next_number, is_same_flavor}
use Rattle.rank_rules.specs.Windows.{part_at, range_made, with_window, is_attached_from, windows_after}
use Rattle.step_runs.specs.Agents.{Agent, next_call}
use Rattle.step_laws.proofs.Creations.{HasRoom, HasLists, IsSoundRow, IsSoundAct, MakesWith}
use Rattle.step_laws.proofs.Flavors.{AreRegular, AreOfOneFlavor}
use Rattle.step_laws.proofs.EntryNumbers.{IsNumberedAct, act_after, acts_push}
use Rattle.step_laws.proofs.Flavors.{same_as_new}
use Rattle.step_laws.proofs.EntryNumbers.{creations_push, numbered_push}
use Rattle.step_laws.proofs.OwnRoom.{AreRoomy, IsRoomyWindow, FitsMemory, IsByAddress, EndsInMemory}
use Rattle.step_laws.specs.Inside.{bytes_at, LiesInMemory, ArePendingInside, begun_names, names_so_far}

-- ---- the entries

-- the names of windows in a script that a text can say
pub small_names : (script : Script) → IsWellFormed script → (row : Row) → IsSoundRow script row →
    (creation : Creation) → creation_of row.call ≡ Some creation → creation.win < 32
small_names script formed row sound creation makes =
    let written = each_at IsWrittenCall (calls_of script row.rank) row.number row.call
    (each_get_or (AllByRecursion IsWrittenCall) script.calls row.rank [] tt formed.calls) sound.here in
    (subst IsWrittenAction (creates_it row.call creation makes) written).name

-- an entry that is allowed leaves each window of one flavor
flavors_push : (script : Script) (rows : List Row) (row : Row) → IsWellFormed script → AreRegular script rows →
    IsSoundRow script row → decide script.ranks rows row ≡ Allow →
    AreOfOneFlavor (acts (rows ++ row ∷ []))
flavors_push script rows row formed regular sound allowed window = subst
    (λ entries. (flavor : Flavor) × AllByRecursion (MakesWith flavor window) entries) (sym (acts_push rows row))
    by_window
  where
    pushed : (flavor : Flavor) → AllByRecursion (MakesWith flavor window) (acts rows) →
        MakesWith flavor window (act_after rows row) →
        (flavor' : Flavor) × AllByRecursion (MakesWith flavor' window) (acts rows ++ act_after rows row ∷ [])
    pushed flavor old new =
        (flavor, each_append (MakesWith flavor window) (acts rows) (act_after rows row ∷ []) old (new, tt))

    old : (flavor : Flavor) × AllByRecursion (MakesWith flavor window) (acts rows)
    old = regular.flavors window

    begins : (b : Bool) → begins_window row ≡ b → window_of rows row ≡ window →
        (flavor : Flavor) × AllByRecursion (MakesWith flavor window) (acts rows ++ act_after rows row ∷ [])
    begins false e on = pushed old.0 old.1 (λ begins'. absurd (cc (begins', e)))
    begins true e on = by_creation (creation_of row.call) refl
      where
        by_creation : (o : Option Creation) → creation_of row.call ≡ o →
            (flavor : Flavor) × AllByRecursion (MakesWith flavor window) (acts rows ++ act_after rows row ∷ [])
        by_creation None none = pushed old.0 old.1 (λ _ _ creation makes. absurd (cc (none, makes)))
        by_creation (Some creation) makes = pushed creation.flavor
            (subst (λ w. AllByRecursion (MakesWith creation.flavor w) (acts rows)) on
            (same_as_new script rows row creation regular e makes (small_names script formed row sound creation makes)
            (arrive_is row.step (and_first (is_arrive row.step) (is_creation row.call) e)) allowed))
            (λ _ _ other makes'. let same : other ≡ creation = cc (makes, makes') in ap (λ (c : Creation). c.flavor)
            same)
          where
            and_first : (a b : Bool) → (a && b) ≡ true → a ≡ true
            and_first true b h = refl
            and_first false b h = absurd (cc h)

    by_window : (flavor : Flavor) × AllByRecursion (MakesWith flavor window) (acts rows ++ act_after rows row ∷ [])
    by_window = elim (cases_eq (window_of rows row) window) [
      | inl on ↦ begins (begins_window row) refl on
      | inr apart ↦ pushed old.0 old.1 (λ _ on. absurd (apart on))
    ]

pub regular_push : (script : Script) (rows : List Row) (row : Row) → IsWellFormed script → AreRegular script rows →
    IsSoundRow script row → decide script.ranks rows row ≡ Allow →
    AreRegular script (rows ++ row ∷ [])
regular_push script rows row formed regular sound allowed = record {
  sound = each_append (IsSoundRow script) rows (row ∷ []) regular.sound (sound, tt);
  numbered = numbered_push rows row (small_names script formed row sound) regular.numbered;
  flavors = flavors_push script rows row formed regular sound allowed;
}

-- ---- a rank

-- the rank's Arrive at the creation that it is inside of, among the entries
pub record HasArrived (known : RankWindows) (rows : List Row) (call : Call) (creation : Creation) : Type 0 where
  pub act : Act
  pub place : ℕ
  pub there : slice_get (acts rows) place ≡ Some act
  pub same : act.row.call ≡ call
  pub begins : begins_window act.row ≡ true
  pub number : act.window ≡ next_number known.created creation.win

pub record IsSoundRank (script : Script) (delay : Delay) (rank : ℕ) (agent : Agent) (rows : List Row) : Type 0 where
  pub mine : agent.rank ≡ rank
  pub whose : agent.known.windows.rank ≡ rank
  pub space : agent.known.windows.space ≤ bytes_at (layout script) rank
  pub roomy : AreRoomy (layout script) agent.known.windows
  pub numbers : (win : ℕ) → creations rows rank win ≡ count_by (λ name. name == win)
      (names_so_far (stage_of script delay) agent)
  pub arrived : agent.entered ≡ true → (call : Call) → next_call (stage_of script delay) agent ≡ Some call →
      (creation : Creation) → creation_of call ≡ Some creation →
      HasArrived agent.known.windows rows call creation
  pub looked : agent.entered ≡ true → (call : Call) → next_call (stage_of script delay) agent ≡ Some call →
      (t : Transfer) → transfer_of call ≡ Some t →
      (window : Window) → window_of_name agent.known.windows t.win ≡ Some window →
      LiesInMemory (layout script) (access_on agent.known.windows t window) t.dtype
  pub pending : ArePendingInside script rank agent

-- ---- an entry of another rank

still_there : (rows : List Row) (row : Row) (place : ℕ) (act : Act) → slice_get (acts rows) place ≡ Some act →
    slice_get (acts (rows ++ row ∷ [])) place ≡ Some act
still_there rows row place act there = ap (λ entries. slice_get entries place) (acts_push rows row) ∙ get_append
    (acts rows) (act_after rows row ∷ []) place act there

pub still_arrived : (known : RankWindows) (rows : List Row) (row : Row) (call : Call) (creation : Creation) →
    HasArrived known rows call creation → HasArrived known (rows ++ row ∷ []) call creation
still_arrived known rows row call creation old = record {
  act = old.act;
  place = old.place;
  there = still_there rows row old.place old.act old.there;
  same = old.same;
  begins = old.begins;
  number = old.number;
}

-- an entry that begins no window of the rank leaves their number
pub no_more_creations : (rows : List Row) (row : Row) (rank win : ℕ) → begins_by rank win row ≡ false →
    creations (rows ++ row ∷ []) rank win ≡ creations rows rank win
no_more_creations rows row rank win none = creations_push rows row rank win ∙ ap
    (λ b. creations rows rank win + cond b 1 0) none ∙ plain (creations rows rank win)
  where
    plain : (n : ℕ) → n + 0 ≡ n
    plain n = omega arith

pub other_push : (script : Script) (delay : Delay) (rank : ℕ) (agent : Agent) (rows : List Row) (row : Row) →
    (row.rank ≡ rank → ⊥) → IsSoundRank script delay rank agent rows →
    IsSoundRank script delay rank agent (rows ++ row ∷ [])
other_push script delay rank agent rows row apart sound = record {
  mine = sound.mine;
  whose = sound.whose;
  space = sound.space;
  roomy = sound.roomy;
  numbers = λ win. no_more_creations rows row rank win
      (and_left (row.rank == rank && begins_window row) (names_window win row.call)
      (and_left (row.rank == rank) (begins_window row) (ne_eqb row.rank rank apart))) ∙ sound.numbers win;
  arrived = λ e call here creation makes. still_arrived agent.known.windows rows row call creation
      (sound.arrived e call here creation makes);
  looked = sound.looked;
  pending = sound.pending;
}

-- ---- the windows after a call

-- the parts of each window lie in memory
abbrev pub AreRoomyShapes : Layout → (ℕ → List Part) → Type 0
AreRoomyShapes memory shapes = (number rank : ℕ) → FitsMemory memory rank (part_at (shapes number) rank)

-- the parts of the window that an action makes, where it is dynamic
abbrev pub MakesByAddress : (ℕ → List Part) → RankWindows → Action → Type 0
MakesByAddress shapes known a = (creation : Creation) → a ≡ Creates creation →
    is_same_flavor creation.flavor Dynamic ≡ true →
    (rank : ℕ) → IsByAddress (part_at (shapes (next_number known.created creation.win)) rank)

range_fits : (memory : Layout) (rank win : ℕ) (flavor : Flavor) (part : Part) → FitsMemory memory rank part →
    AllByRecursion (EndsInMemory memory rank) (range_made flavor win part)
range_fits memory rank win Allocate part fits = tt
range_fits memory rank win Create part fits = (fits, tt)
range_fits memory rank win Dynamic part fits = tt

pub windows_stay_roomy : (memory : Layout) (shapes : ℕ → List Part) (known : RankWindows) (a : Action) →
    AreRoomyShapes memory shapes → MakesByAddress shapes known a →
    HasRoom (bytes_at memory known.rank) a → AreRoomy memory known → AreRoomy memory (windows_after shapes known a)
windows_stay_roomy memory shapes known (Creates creation) fit by_address room roomy = record {
  windows = each_append (IsRoomyWindow memory) known.windows (_ ∷ []) roomy.windows
      (record { parts = fit (next_number known.created creation.win); addresses = by_address creation refl }, tt);
  ranges = each_append (EndsInMemory memory known.rank) known.ranges
      (range_made creation.flavor creation.win (part_at (shapes (next_number known.created creation.win)) known.rank))
      roomy.ranges
      (range_fits memory known.rank creation.win creation.flavor _
      (fit (next_number known.created creation.win) known.rank));
}
windows_stay_roomy memory shapes known (Frees win) fit by_address room roomy = record {
  windows = each_kept (IsRoomyWindow memory) (λ (window : Window). not (window.win == win)) known.windows roomy.windows;
  ranges = each_kept (EndsInMemory memory known.rank) (λ (own : OwnRange). not (own.win == win)) known.ranges
      roomy.ranges;
}
windows_stay_roomy memory shapes known (Attaches win base bytes) fit by_address room roomy = record {
  windows = roomy.windows;
  ranges = each_append (EndsInMemory memory known.rank) known.ranges (_ ∷ []) roomy.ranges (room, tt);
}
windows_stay_roomy memory shapes known (Detaches win base) fit by_address room roomy = record {
  windows = roomy.windows;
  ranges = each_kept (EndsInMemory memory known.rank)
      (λ (own : OwnRange). not (is_attached_from win (natural base) own)) known.ranges roomy.ranges;
}
windows_stay_roomy memory shapes known (Synchronises win s) fit by_address room roomy = roomy
windows_stay_roomy memory shapes known Meets fit by_address room roomy = roomy
windows_stay_roomy memory shapes known (Moves t) fit by_address room roomy = roomy
windows_stay_roomy memory shapes known (EndsRequest req) fit by_address room roomy = roomy

-- whose they are stays, and which were made grows by a creation alone
pub rank_stays : (shapes : ℕ → List Part) (known : RankWindows) (a : Action) →
    (windows_after shapes known a).rank ≡ known.rank
rank_stays shapes known (Creates creation) = refl
rank_stays shapes known (Frees win) = refl
rank_stays shapes known (Attaches win base bytes) = refl
rank_stays shapes known (Detaches win base) = refl
rank_stays shapes known (Synchronises win s) = refl
rank_stays shapes known Meets = refl
rank_stays shapes known (Moves t) = refl
rank_stays shapes known (EndsRequest req) = refl

pub space_stays : (shapes : ℕ → List Part) (known : RankWindows) (a : Action) →
    (windows_after shapes known a).space ≡ known.space
space_stays shapes known (Creates creation) = refl
space_stays shapes known (Frees win) = refl
space_stays shapes known (Attaches win base bytes) = refl
space_stays shapes known (Detaches win base) = refl
space_stays shapes known (Synchronises win s) = refl
space_stays shapes known Meets = refl
space_stays shapes known (Moves t) = refl
space_stays shapes known (EndsRequest req) = refl
