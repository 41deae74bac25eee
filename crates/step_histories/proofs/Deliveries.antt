-- A delivery on memory is one of a history, with the places of the cells at the moment as lows.
use Rattle.std.proofs.Common.{◌≡◌, ℕ, suc, ◌+◌, ◌<◌, ◌≤◌, List, [], ◌∷◌, ◌++◌, length, Option, Some, None, refl, sym}
use Rattle.std.proofs.Common.{◌∙◌, ap, subst, arith, append-nil, append_assoc}
use Rattle.std.specs.Prelude.{slice_get, remove}
use Rattle.std.specs.List.{AllByRecursion}
use Rattle.std.specs.Option.{option_map_or}
use Rattle.list_laws.proofs.Each.{each_weaker, each_at, each_removed}
use Rattle.rma_types.specs.declared.calls.Call.{Call}
use Rattle.rma_types.specs.declared.schedules.Delay.{Delay}
use Rattle.rma_types.specs.declared.scripts.Layout.{Layout}
use Rattle.rma_types.specs.declared.scripts.Script.{Script}
use Rattle.rma_record.specs.declared.items.Item.{Item}
use Rattle.call_rules.specs.declared.cells.Cell.{Cell}
use Rattle.call_rules.specs.declared.elements.Change.{Change}
use Rattle.call_rules.specs.declared.elements.Piece.{Piece}
use Rattle.rma_types.specs.declared.actions.Transfer.{Transfer}
use Rattle.call_rules.specs.Layout.{layout, cells_of}
use Rattle.call_rules.specs.Pieces.{pieces}
use Rattle.call_rules.specs.Touches.{cell_at, cells_after, Touched, touch_each}
use Rattle.call_rules.specs.Transfers.{change_of}
use Rattle.lawful_runs.specs.Accesses.{Touching, touches_among, change_made, issued_at, transfer_at}
use Rattle.lawful_runs.specs.Logs.{named_from}
use Rattle.lawful_runs.specs.Stages.{Stage, stage_of, calls_at}
use Rattle.rank_laws.proofs.Touching.{touches_own, issued_still}
use Rattle.rank_laws.specs.Deliveries.{place_after, AreTouches, AreTouchesOf, IsDelivered}
use Rattle.rank_laws.specs.Fronts.{Lows, AreAtMost}
use Rattle.rank_rules.specs.declared.pending.PendingAccess.{PendingAccess}
use Rattle.step_histories.proofs.CellGrowth.{AreMade, length_after, cell_after, places_of, places_rise, made_joined}
use Rattle.step_histories.proofs.LogGrowth.{touches_at, IsIssuedIn, HasIssues, log_grows, below_touches}
use Rattle.step_laws.proofs.Memory.{pieces_inside}
use Rattle.step_laws.specs.Inside.{LiesInMemory, IsPendingInside, ArePendingInside}
use Rattle.step_runs.specs.Agents.{Agent}
use Rattle.step_runs.specs.DataSteps.{OnMemory, with_touches, with_delivery, deliver}

-- each of the pieces lies in the cells
abbrev pub AreInCells : List Piece → List Cell → Type 0
AreInCells places cells = AllByRecursion (λ (piece : Piece). piece.cell < length cells) places

still_in_cells : (places : List Piece) (cells : List Cell) (cell : ℕ) (o : Option Change) → AreInCells places cells →
    AreInCells places (cells_after cells cell o)
still_in_cells places cells cell o inside =
    subst (λ n. AllByRecursion (λ (piece : Piece). piece.cell < n) places) (sym (length_after cells cell o)) inside

-- ---- touches

-- an update leaves its cell at the next place
least_after : (cells : List Cell) (cell : ℕ) (o : Option Change) → cell < length cells →
    place_after (places_of cells cell) o ≤ places_of (cells_after cells cell o) cell
least_after cells cell None inside = omega arith
least_after cells cell (Some change) inside =
    let same = ap (λ (c : Cell). c.place) (cell_after cells cell (Some change) inside) in omega arith

-- the touches of an access as those of a history
each_above : (t : Transfer) (issue element : ℕ) (places : List Piece) (cells : List Cell) → AreInCells places cells →
    (lows : Lows) → AreAtMost lows (places_of cells) →
    (let touched = touch_each t issue element places cells in
    AreTouches t issue element places lows touched.items (places_of touched.cells))
each_above t issue element [] cells inside lows low = (refl, low)
each_above t issue element (piece ∷ places) cells inside lows low =
    let change = change_of t element piece.first_byte in
    let now = cells_after cells piece.cell change in
    let seen = cell_at cells piece.cell in
    let rise = places_rise cells piece.cell change in (
      seen.place,
      seen.bits,
      (touch_each t issue (element + 1) places now).items,
      places_of now,
      refl,
      low piece.cell,
      λ cell. let first = low cell in let more = rise cell in omega arith,
      least_after cells piece.cell change inside.0,
      each_above t issue (element + 1) places now (still_in_cells places cells piece.cell change inside.1)
          (places_of now) (λ cell. omega arith),
    )

-- the touches of an access find the cells as they are, each after those before it
each_made : (memory : Layout) (calls : List Call) (log : List Item) (one : PendingAccess) (t : Transfer) →
    issued_at calls log one.index ≡ Some one → transfer_at calls one.number ≡ Some t →
    (rank index element : ℕ) (places : List Piece) (cells : List Cell) → AreInCells places cells →
    ((k : ℕ) → slice_get (pieces memory one.access t.dtype) (element + k) ≡ slice_get places k) →
    (let touched = touch_each t one.index element places cells in
    AreMade (touches_among memory calls log (named_from rank index touched.items)) cells touched.cells)
each_made memory calls log one t issued moves rank index element [] cells inside at = refl
each_made memory calls log one t issued moves rank index element (piece ∷ places) cells inside at = (
  record { inside = inside.0; finds = record { place = refl; bits = refl } },
  subst (λ (o : Option Change). AreMade others (cells_after cells piece.cell o) rest.cells) (sym its)
      (each_made memory calls log one t issued moves rank (index + 1) (element + 1) places now
      (still_in_cells places cells piece.cell change inside.1)
      (λ k. ap (slice_get (pieces memory one.access t.dtype)) (omega arith) ∙ at (suc k))),
)
  where
    change : Option Change
    change = change_of t element piece.first_byte

    now : List Cell
    now = cells_after cells piece.cell change

    rest : Touched
    rest = touch_each t one.index (element + 1) places now

    others : List Touching
    others = touches_among memory calls log (named_from rank (index + 1) rest.items)

    here : slice_get (pieces memory one.access t.dtype) element ≡ Some piece
    here = ap (slice_get (pieces memory one.access t.dtype)) (omega arith) ∙ at 0

    its : option_map_or (λ other. change_made memory calls other element) (issued_at calls log one.index) None
        ≡ change
    its = ap (λ (o : Option PendingAccess). option_map_or (λ other. change_made memory calls other element) o None)
        issued
        ∙ ap (λ (o : Option Transfer). option_map_or (λ (u : Transfer). option_map_or
        (λ (p : Piece). change_of u element p.first_byte)
        (slice_get (pieces memory one.access u.dtype) element) None) o None) moves
        ∙ ap (λ (o : Option Piece). option_map_or (λ (p : Piece). change_of t element p.first_byte) o None) here

-- ---- steps on memory

-- the rank's log goes on with touches that find the cells as they are
pub record IsStepOf (stage : Stage) (rank : ℕ) (agent : Agent) (cells : List Cell) (next : Agent)
    (now : List Cell) : Type 0 where
  pub new : List Touching
  pub grows : touches_at stage rank next ≡ touches_at stage rank agent ++ new
  pub made : AreMade new cells now

-- what holds of a rank between its steps on memory
pub record IsFit (script : Script) (delay : Delay) (rank : ℕ) (agent : Agent) : Type 0 where
  pub mine : agent.rank ≡ rank
  pub issues : HasIssues (stage_of script delay) rank agent
  pub pending : ArePendingInside script rank agent

-- the pending access at a place, if there is one, is delivered
pub record IsDelivery (script : Script) (delay : Delay) (rank : ℕ) (agent : Agent) (cells : List Cell) (at : ℕ)
    (lows : Lows) (o : Option PendingAccess) (step : OnMemory) : Type 0 where
  pub fit : IsFit script delay rank step.agent
  pub step_of : IsStepOf (stage_of script delay) rank agent cells step.agent step.cells
  pub delivers : IsDelivered (stage_of script delay) agent at o lows step.agent (places_of step.cells)

pub delivery_made : (script : Script) (delay : Delay) (rank : ℕ) (agent : Agent) (cells : List Cell) (at : ℕ)
    (lows : Lows) → IsFit script delay rank agent → length cells ≡ cells_of (layout script) →
    AreAtMost lows (places_of cells) →
    IsDelivery script delay rank agent cells at lows (slice_get agent.pending at)
    (deliver (stage_of script delay) agent cells at)
delivery_made script delay rank agent cells at lows fit memory low = by_access (slice_get agent.pending at) refl
  where
    stage : Stage
    stage = stage_of script delay

    calls : List Call
    calls = calls_at stage rank

    rest : Agent
    rest = record agent { pending = remove agent.pending at }

    touched_whole : (one : PendingAccess) (t : Transfer) → IsIssuedIn stage rank agent.log one →
        transfer_at calls one.number ≡ Some t → LiesInMemory (layout script) one.access t.dtype →
        IsDelivery script delay rank agent cells at lows (Some one) (with_touches stage rest cells one t)
    touched_whole one t is moves lies =
        let places = pieces stage.layout one.access t.dtype in
        let touched = touch_each t one.index 0 places cells in
        let inside : AreInCells places cells = subst (λ n. AllByRecursion (λ (piece : Piece). piece.cell < n) places)
        (sym memory) (pieces_inside script one.access t.dtype lies) in
        let above = each_above t one.index 0 places cells inside lows low in
        let longer = agent.log ++ touched.items in
        record {
          fit = record {
            mine = fit.mine;
            issues = record {
              issued = each_removed (IsIssuedIn stage rank longer) agent.pending at
                  (each_weaker (IsIssuedIn stage rank agent.log) (IsIssuedIn stage rank longer)
                  (λ other there. issued_still calls agent.log touched.items other.index other there) agent.pending
                  fit.issues.issued);
              below = below_touches stage rank agent.log touched.items one is
                  (touches_own t one.index 0 places lows touched.items (places_of touched.cells) above)
                  fit.issues.below;
            };
            pending = each_removed (IsPendingInside script rank) agent.pending at fit.pending;
          };
          step_of = record {
            new = touches_among stage.layout calls longer (named_from rank (0 + length agent.log) touched.items);
            grows = log_grows stage.layout calls rank agent.log touched.items fit.issues.below;
            made = each_made stage.layout calls longer one t
                (issued_still calls agent.log touched.items one.index one is) moves rank (0 + length agent.log) 0 places
                cells inside (λ k. ap (slice_get places) (omega arith));
          };
          delivers = (
            touched.items,
            subst (λ (o : Option Transfer). AreTouchesOf stage one o lows touched.items (places_of touched.cells))
                (sym (ap (λ r. transfer_at (calls_at stage r) one.number) fit.mine ∙ moves)) above,
            refl,
          );
        }

    by_access : (o : Option PendingAccess) → slice_get agent.pending at ≡ o →
        IsDelivery script delay rank agent cells at lows o
        (option_map_or (with_delivery stage agent cells at) o (record { agent = agent; cells = cells }))
    by_access None e = record {
      fit = fit;
      step_of = record { new = []; grows = sym (append-nil (touches_at stage rank agent)); made = refl };
      delivers = (refl, low);
    }
    by_access (Some one) e =
        let is = each_at (IsIssuedIn stage rank agent.log) agent.pending at one fit.issues.issued e in
        let lies = each_at (IsPendingInside script rank) agent.pending at one fit.pending e in
        subst (λ (o : Option Transfer). IsDelivery script delay rank agent cells at lows (Some one)
        (option_map_or (with_touches stage rest cells one) o (record { agent = rest; cells = cells })))
        (sym (ap (λ r. transfer_at (calls_at stage r) one.number) fit.mine ∙ lies.1))
        (touched_whole one lies.0 is lies.1 lies.2)

-- ---- one step, and then another

pub steps_joined : (stage : Stage) (rank : ℕ) (agent middle next : Agent) (cells between now : List Cell) →
    IsStepOf stage rank agent cells middle between → IsStepOf stage rank middle between next now →
    IsStepOf stage rank agent cells next now
steps_joined stage rank agent middle next cells between now first second = record {
  new = first.new ++ second.new;
  grows = second.grows ∙ ap (λ touches. touches ++ second.new) first.grows
      ∙ append_assoc (touches_at stage rank agent) first.new second.new;
  made = made_joined first.new second.new cells between now first.made second.made;
}
