-- Each get and each load of a run without findings reads what the updates before it leave.
use Rattle.std.proofs.Common.{◌≡◌, ℕ, ◌+◌, Bool, true, [], Some, ap, sym, ◌∙◌, arith}
use Rattle.std.specs.Prelude.{◌==◌, map, slice_get}
use Rattle.std.specs.List.{filter, zip}
use Rattle.std.specs.Option.{option_map_or}
use Rattle.std.proofs.lemmas.Bool.{eqb-true}
use Rattle.list_laws.proofs.Members.{all_members, In, filter_in}
use Rattle.rma_types.specs.declared.accesses.Id.{Id}
use Rattle.rma_types.specs.declared.findings.Model.{Model}
use Rattle.rma_types.specs.declared.schedules.Delay.{Delay}
use Rattle.rma_types.specs.declared.scripts.Script.{Script}
use Rattle.rma_record.specs.declared.runs.Run.{Run}
use Rattle.call_rules.specs.declared.elements.Piece.{Piece}
use Rattle.rma_types.specs.declared.actions.Transfer.{Transfer}
use Rattle.call_rules.specs.Elements.{element_in}
use Rattle.call_rules.specs.Layout.{layout}
use Rattle.call_rules.specs.Pieces.{pieces}
use Rattle.call_rules.specs.WellFormed.{IsWellFormed}
use Rattle.lawful_runs.specs.Accesses.{Touching, touches_of, transfer_at}
use Rattle.lawful_runs.specs.LawfulRun.{IsLawful}
use Rattle.lawful_runs.specs.Logs.{log_of, calls_of}
use Rattle.lawful_runs.specs.TouchLaw.{elements_from}
use Rattle.order_rules.specs.Before.{IsOrder}
use Rattle.order_rules.specs.CallSteps.{IssuedAccess, accesses_in}
use Rattle.order_rules.specs.Findings.{findings}
use Rattle.order_rules.specs.OrderedReads.{TouchesAgree, updates_of, left_before, element_before, ordered_read}
use Rattle.order_rules.specs.OrderedReads.{touches_by, element_touched, elements_read, is_get_or_load, ReadsInOrder}
use Rattle.read_laws.proofs.Parts.{IsOfTransfer, AreOfTransfers, part_of, touched_whole}
use Rattle.read_laws.proofs.Steps.{access_is}
use Rattle.read_laws.proofs.Touches.{touch_of_rank, touch_of_all, pair_of, is_by, pairs_are, each_read}
use Rattle.read_laws.proofs.Values.{element_is_left}

module _ (script : Script) (delay : Delay) (run : Run) (formed : IsWellFormed script)
    (lawful : IsLawful script delay run)
    (agree : TouchesAgree script run) (model : Model) (before : Id → Id → Bool) (order : IsOrder script run before)
    (none : findings script run model before ≡ []) (each : AreOfTransfers script run) where
  -- a touch of a get or a load, and its piece
  one_element : (f : IssuedAccess) → In f (accesses_in script run) → is_get_or_load f.issued.access.kind ≡ true →
      (t : Transfer) →
      IsOfTransfer script f t → (k : ℕ) (piece : Piece) (touch : Touching) →
      slice_get (pieces (layout script) f.issued.access t.dtype) k ≡ Some piece → In touch (touches_by script run f) →
      touch.element ≡ 0 + k →
      touch.cell ≡ piece.cell →
      element_in touch.bits piece.first_byte t.dtype ≡ element_before script run before f.id t.dtype piece
  one_element f of_run reads t is k piece touch at m element cell =
      let access = access_is script run of_run in
      let one = filter_in (λ (x : Touching). x.issue == f.id.index) (touches_of script run f.id.rank) m in
      let touched = touch_of_rank script run f.id.rank access.within one.0 in
      let issue : touch.issue ≡ f.issued.index = eqb-true touch.issue f.id.index one.1 ∙ sym access.index in
      let part = part_of script delay run lawful f t touch access is.moves
      (record { touch = touched.1; rank = touched.0; issue = issue }) in
      let same_index : touch.element ≡ k = omega (arith, element) in
      let both : Some part.piece ≡ Some piece =
      sym part.element ∙ ap (slice_get (pieces (layout script) f.issued.access t.dtype)) same_index ∙ at in
      let same : part.piece ≡ piece = cc both in
      let left = element_is_left script delay run formed lawful agree model before order none each f touch (record {
        of_run = of_run;
        listed = touch_of_all script run f.id.rank access.within one.0;
        reads = reads;
        t = t;
        is = is;
        part = part;
      }) in
      ap (λ (p : Piece). element_in touch.bits p.first_byte t.dtype) (sym same) ∙ left
      ∙ ap (λ (p : Piece). element_in (left_before before f.id (updates_of script run touch.cell)) p.first_byte
      t.dtype) same
      ∙ ap (λ c. element_in (left_before before f.id (updates_of script run c)) piece.first_byte t.dtype) cell

  in_order : (f : IssuedAccess) → In f (accesses_in script run) → is_get_or_load f.issued.access.kind ≡ true →
      elements_read script run f ≡ ordered_read script run before f
  in_order f of_run reads =
      let access = access_is script run of_run in
      let t = each f of_run in
      let log = log_of run f.id.rank in
      let calls = calls_of script f.id.rank in
      let places = pieces (layout script) f.issued.access t.0.dtype in
      let pairs : map pair_of (touches_by script run f) ≡ elements_from 0 places =
      ap (λ i. map pair_of (filter (is_by i) (touches_of script run f.id.rank))) (sym access.index)
      ∙ pairs_are (layout script) calls log f.issued.index f.id.rank 0 log
      ∙ touched_whole script delay run lawful f t.0 access t.1.moves in
      let middle = each_read t.0.dtype (element_before script run before f.id t.0.dtype) 0 places
      (touches_by script run f) pairs
      (one_element f of_run reads t.0 t.1) in
      read_by t.0 t.1.moves ∙ middle ∙ sym (left_by t.0 t.1.moves)
    where
      read_by : (t : Transfer) → transfer_at (calls_of script f.id.rank) f.issued.number ≡ Some t →
          elements_read script run f ≡ map (element_touched t.dtype)
          (zip (pieces (layout script) f.issued.access t.dtype) (touches_by script run f))
      read_by t moves = ap (λ o. option_map_or (λ (t : Transfer). map (element_touched t.dtype)
          (zip (option_map_or (λ (t : Transfer). pieces (layout script) f.issued.access t.dtype) o [])
          (touches_by script run f))) o []) moves

      left_by : (t : Transfer) → transfer_at (calls_of script f.id.rank) f.issued.number ≡ Some t →
          ordered_read script run before f ≡ map (element_before script run before f.id t.dtype)
          (pieces (layout script) f.issued.access t.dtype)
      left_by t moves = ap (λ o. option_map_or (λ (t : Transfer). map (element_before script run before f.id t.dtype)
          (option_map_or (λ (t : Transfer). pieces (layout script) f.issued.access t.dtype) o [])) o []) moves

  pub reads_in_order : ReadsInOrder script run before
  reads_in_order = all_members (λ (f : IssuedAccess). is_get_or_load f.issued.access.kind ≡ true →
      elements_read script run f ≡ ordered_read script run before f) (accesses_in script run) in_order
