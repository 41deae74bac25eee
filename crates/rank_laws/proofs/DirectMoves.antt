-- Touches stand after their Issue, and those that are made at once stand directly after it.
use Rattle.std.proofs.Common.{◌≡◌, ℕ, zero, suc, ◌+◌, ◌<◌, ◌≤◌, inl, inr, true, false, List, [], ◌∷◌}
use Rattle.std.proofs.Common.{◌++◌, length, take, drop, Option, Some, None, refl, sym, ◌∙◌, ap, subst, arith}
use Rattle.std.proofs.Common.{append_assoc, length-append}
use Rattle.std.specs.Prelude.{slice_get, IsSome}
use Rattle.std.specs.List.{AllByRecursion}
use Rattle.std.specs.Option.{option_map_or}
use Rattle.std.proofs.Math.Seq.{drop-append-add, take-length}
use Rattle.std.proofs.lemmas.List.{take-append-le, drop-append-le}
use Rattle.list_laws.proofs.Each.{each_at}
use Rattle.rma_types.specs.declared.accesses.Access.{Access}
use Rattle.rma_types.specs.declared.calls.Call.{Call}
use Rattle.rma_types.specs.declared.scripts.Layout.{Layout}
use Rattle.rma_record.specs.declared.items.Item.{Item}
use Rattle.rma_record.specs.declared.items.Item.TheVariants.{Issue, Touch}
use Rattle.call_rules.specs.declared.elements.Piece.{Piece}
use Rattle.rma_types.specs.declared.actions.Transfer.{Transfer}
use Rattle.call_rules.specs.Pieces.{pieces}
use Rattle.lawful_runs.specs.Accesses.{issued_by, issued_at, pieces_of}
use Rattle.lawful_runs.specs.Items.{is_touch}
use Rattle.lawful_runs.specs.Stages.{Stage, calls_at}
use Rattle.lawful_runs.specs.TouchLaw.{touched_by}
use Rattle.lawful_runs.proofs.TouchLaws.{touched_most, elements_count}
use Rattle.rank_laws.proofs.DataPaths.{its_transfer}
use Rattle.rank_laws.proofs.Inductions.{Keeps}
use Rattle.rank_laws.proofs.Lists.{place_in, get_front, get_rest}
use Rattle.rank_laws.proofs.Moves.{Point, Entering, OnlyEntry, LookUp, Arriving, Leaving, Issuing, Learns, Rises, Ends}
use Rattle.rank_laws.proofs.Moves.{RefusesAlone, IsRefused, Tests, Passes, Enters, Issues, IssuesWhole, Draws, Delivers}
use Rattle.rank_laws.proofs.Pendings.{IsUntouched, elements_of}
use Rattle.rank_laws.proofs.Touching.{IsTouchOf, touches_own, touches_of_own, touches_elements, issued_inside}
use Rattle.rank_laws.proofs.Touching.{issued_front, issued_before_touches, issued_push}
use Rattle.rank_laws.proofs.TouchMoves.{KeepsTouches, touches_kept, plain_by_course, made_by, made_is, made_elements}
use Rattle.rank_laws.specs.Deliveries.{AreTouches}
use Rattle.rank_laws.specs.Fronts.{Lows}
use Rattle.rank_rules.specs.declared.pending.PendingAccess.{PendingAccess}
use Rattle.step_runs.specs.Agents.{Agent}
use Rattle.step_runs.specs.DataSteps.{is_at_once}

-- each touch stands after the Issue of its access
abbrev pub StandsAfterIssue : List Call → List Item → Type 0
StandsAfterIssue calls log = (index issue element cell place bits : ℕ) →
    slice_get log index ≡ Some (Touch issue element cell place bits) →
    (issue < index) × IsSome (issued_at calls log issue)

-- the touches of an access directly follow its Issue
abbrev pub IsDirect : Layout → List Call → List Item → PendingAccess → Type 0
IsDirect memory calls log one =
    let count = length (pieces_of memory calls one) in length
    (touched_by one.index (take count (drop (one.index + 1) log))) ≡ count

-- the accesses that are touched at once
abbrev pub AreDirect : Stage → List Call → List Item → Type 0
AreDirect stage calls log = (index : ℕ) (one : PendingAccess) → issued_at calls log index ≡ Some one →
    is_at_once stage.delay one.access ≡ true → IsDirect stage.layout calls log one

-- ---- a longer log

after_still : (calls : List Call) (log more : List Item) (index issue : ℕ) → index < length log →
    (issue < index) × IsSome (issued_at calls log issue) →
    (issue < index) × IsSome (issued_at calls (log ++ more) issue)
after_still calls log more index issue less h =
    let before = h.0 in (h.0, subst IsSome (sym (issued_front calls log more issue (omega arith))) h.1)

plain_after : (calls : List Call) (log : List Item) (item : Item) → is_touch item ≡ false →
    StandsAfterIssue calls log → StandsAfterIssue calls (log ++ item ∷ [])
plain_after calls log item plain h index issue element cell place bits e = elim (place_in index (length log)) [
  | inl less ↦ after_still calls log (item ∷ []) index issue less
      (h index issue element cell place bits (sym (get_front log (item ∷ []) index less) ∙ e))
  | inr past ↦ absurd (at_end past.0 (sym (get_rest log (item ∷ []) index past.0 past.1) ∙ e))
]
  where
    at_end : (at : ℕ) → slice_get (item ∷ []) at ≡ Some (Touch issue element cell place bits) → ⊥
    at_end zero k = let same : item ≡ Touch issue element cell place bits = cc k in cc (sym plain ∙ ap is_touch same)
    at_end (suc at) k = cc k

touches_after : (calls : List Call) (log items : List Item) (issued : ℕ) → issued < length log →
    IsSome (issued_at calls log issued) → AllByRecursion (IsTouchOf issued) items →
    StandsAfterIssue calls log → StandsAfterIssue calls (log ++ items)
touches_after calls log items issued inside some own h index issue element cell place bits e = elim
    (place_in index (length log)) [
      | inl less ↦ after_still calls log items index issue less (h index issue element cell place bits
          (sym (get_front log items index less) ∙ e))
      | inr past ↦
          let same : issue ≡ issued = each_at (IsTouchOf issued) items past.0 (Touch issue element cell place bits) own
          (sym (get_rest log items index past.0 past.1) ∙ e) in
          let far = past.1 in (
            omega arith,
            subst (λ n. IsSome (issued_at calls (log ++ items) n)) (sym same)
                (subst IsSome (sym (issued_front calls log items issued inside)) some),
          )
    ]

-- ---- touches that follow

take_short : {X : Type 0} (n : ℕ) (xs : List X) → length (take n xs) ≤ length xs
take_short zero xs = omega arith
take_short (suc n) [] = omega arith
take_short (suc n) (x ∷ xs) = let h = take_short n xs in omega arith

pub direct_still : (memory : Layout) (calls : List Call) (log more : List Item) (one : PendingAccess) →
    one.index < length log → IsDirect memory calls log one → IsDirect memory calls (log ++ more) one
direct_still memory calls log more one less h =
    let count = length (pieces_of memory calls one) in
    let rest = drop (one.index + 1) log in
    let few = touched_most one.index (take count rest) in
    let short = take_short count rest in
    let enough : count ≤ length rest = omega (arith, h) in
    let same : take count (drop (one.index + 1) (log ++ more)) ≡ take count rest =
    ap (take count) (drop-append-le (one.index + 1) log more (omega arith)) ∙ take-append-le count rest more enough in
    ap (λ items. length (touched_by one.index items)) same ∙ h

pub touches_count : (t : Transfer) (issue element : ℕ) (places : List Piece) (lows : Lows) (items : List Item)
    (after : Lows) → AreTouches t issue element places lows items after → length items ≡ length places
touches_count t issue element [] lows items after h = ap length h.0
touches_count t issue element (piece ∷ rest) lows items after h = ap length h.4
    ∙ ap suc (touches_count t issue (element + 1) rest h.3 h.2 after h.8)

-- an Issue that its touches follow
direct_new : (memory : Layout) (calls : List Call) (log items : List Item) (item : Item) (one : PendingAccess) →
    one.index ≡ length log → touched_by (length log) items ≡ elements_of memory calls one →
    length items ≡ length (pieces_of memory calls one) → IsDirect memory calls ((log ++ item ∷ []) ++ items) one
direct_new memory calls log items item one at whole count =
    let places = pieces_of memory calls one in
    let list : take (length places) (drop (length log + 1) ((log ++ item ∷ []) ++ items)) ≡ items =
    ap (λ all. take (length places) (drop (length log + 1) all)) (append_assoc log (item ∷ []) items)
    ∙ ap (take (length places)) (drop-append-add log (item ∷ items) 1)
    ∙ subst (λ n. take n items ≡ items) count (take-length items) in
    subst (λ n. length (touched_by n (take (length places) (drop (n + 1) ((log ++ item ∷ []) ++ items))))
    ≡ length places) (sym at)
    (ap (λ all. length (touched_by (length log) all)) list ∙ ap length whole ∙ elements_count 0 places)

-- ---- moves

pub record KeepsDirect (stage : Stage) (agent : Agent) : Type 0 where
  pub touches : KeepsTouches stage agent
  pub after : StandsAfterIssue (calls_at stage agent.rank) agent.log
  pub direct : AreDirect stage (calls_at stage agent.rank) agent.log

direct_push : (stage : Stage) (calls : List Call) (log : List Item) (item : Item) → AreDirect stage calls log →
    ((one : PendingAccess) → issued_by calls (length log) item ≡ Some one → is_at_once stage.delay one.access ≡ true →
    ⊥) → AreDirect stage calls (log ++ item ∷ [])
direct_push stage calls log item h new index one e once = elim (issued_push calls log item index one e) [
  | inl old ↦
      let inside = issued_inside calls log index one old in let less = inside.0 in let at = inside.1 in
      direct_still stage.layout calls log (item ∷ []) one (omega arith) (h index one old once)
  | inr fresh ↦ absurd (new one fresh.1 once)
]

direct_more : (stage : Stage) (calls : List Call) (log items : List Item) (issue : ℕ) →
    AllByRecursion (IsTouchOf issue) items → AreDirect stage calls log → AreDirect stage calls (log ++ items)
direct_more stage calls log items issue own h index one e once =
    let old = issued_before_touches calls log items issue index one own e in
    let inside = issued_inside calls log index one old in let less = inside.0 in let at = inside.1 in
    direct_still stage.layout calls log items one (omega arith) (h index one old once)

-- the log grows by an item without an access
plain_direct : (stage : Stage) (agent next : Agent) (item : Item) → KeepsDirect stage agent →
    KeepsTouches stage next → next.rank ≡ agent.rank → next.log ≡ agent.log ++ item ∷ [] →
    is_touch item ≡ false → issued_by (calls_at stage agent.rank) (length agent.log) item ≡ None →
    KeepsDirect stage next
plain_direct stage agent next item h touches rank log plain none = record {
  touches = touches;
  after = subst (λ (l : List Item). StandsAfterIssue (calls_at stage next.rank) l) (sym log)
      (subst (λ r. StandsAfterIssue (calls_at stage r) (agent.log ++ item ∷ [])) (sym rank)
      (plain_after (calls_at stage agent.rank) agent.log item plain h.after));
  direct = subst (λ (l : List Item). AreDirect stage (calls_at stage next.rank) l) (sym log)
      (subst (λ r. AreDirect stage (calls_at stage r) (agent.log ++ item ∷ [])) (sym rank)
      (direct_push stage (calls_at stage agent.rank) agent.log item h.direct (λ one e once. cc (sym none ∙ e))));
}

entered_direct : (stage : Stage) (p : Point) (call : Call) (step : _) (after : Agent → Agent) (next : Agent)
    (item : Item) → Entering stage p.agent call step after → KeepsDirect stage p.agent →
    KeepsTouches stage (after next) → next.rank ≡ p.agent.rank → next.log ≡ p.agent.log ++ item ∷ [] →
    is_touch item ≡ false → issued_by (calls_at stage p.agent.rank) (length p.agent.log) item ≡ None →
    KeepsDirect stage (after next)
entered_direct stage p call _ _ next item (OnlyEntry begins course) h touches rank log plain none = plain_direct stage
    p.agent _ item h touches rank log plain none
entered_direct stage p call _ _ next item (LookUp begins course) h touches rank log plain none = plain_direct stage
    p.agent _ item h touches rank log plain none
entered_direct stage p call _ _ next item (Arriving begins course) h touches rank log plain none = plain_direct stage
    p.agent _ item h touches rank log plain none
entered_direct stage p call _ _ next item (Leaving here inside moves) h touches rank log plain none = plain_direct
    stage p.agent _ item h touches rank log plain none

-- the access of an Issue is its own
its_access : (stage : Stage) (agent : Agent) (call : Call) (t : Transfer) (access : Access) (one : PendingAccess) →
    Issuing stage agent call t access →
    issued_by (calls_at stage agent.rank) (length agent.log) (Issue agent.at access) ≡ Some one →
    made_by agent access t ≡ one
its_access stage agent call t access one issuing e = let both = sym (made_is stage agent call t access issuing)
    ∙ e in cc both

pub made_count : (stage : Stage) (agent : Agent) (call : Call) (t : Transfer) (access : Access) →
    Issuing stage agent call t access →
    length (pieces_of stage.layout (calls_at stage agent.rank) (made_by agent access t)) ≡ length
    (pieces stage.layout access t.dtype)
made_count stage agent call t access issuing =
    ap (λ (o : Option Transfer). length (option_map_or (λ (u : Transfer). pieces stage.layout access u.dtype) o []))
    (its_transfer stage agent call t issuing.here issuing.moves)

pub direct_kept : (stage : Stage) → Keeps stage (λ p. KeepsDirect stage p.agent)
direct_kept stage p _ h (Learns more others) = h
direct_kept stage p _ h (Rises after rise) = h
direct_kept stage p _ h (Ends past empty going) = plain_direct stage p.agent _ _ h
    (touches_kept stage p _ h.touches (Ends past empty going)) refl refl refl refl
direct_kept stage p _ h (RefusesAlone call class here new refuses) =
    plain_direct stage p.agent _ _ h (touches_kept stage p _ h.touches
    (RefusesAlone call class here new refuses)) refl refl refl refl
direct_kept stage p _ h (IsRefused call class begins has answer) =
    plain_direct stage p.agent _ _ h (touches_kept stage p _ h.touches
    (IsRefused call class begins has answer)) refl refl refl refl
direct_kept stage p _ h (Tests call begins course answer) = plain_direct stage p.agent _ _ h
    (touches_kept stage p _ h.touches (Tests call begins course answer)) refl refl refl refl
direct_kept stage p _ h (Passes call item begins plain) =
    let is = plain_by_course (calls_at stage p.agent.rank) (length p.agent.log) _ p.agent.at item plain in
    plain_direct stage p.agent _ item h (touches_kept stage p _ h.touches
    (Passes call item begins plain)) refl refl is.0 is.1
direct_kept stage p _ h (Enters call step after entering answer) =
    entered_direct stage p call step after _ _ entering h (touches_kept stage p _ h.touches
    (Enters call step after entering answer)) refl refl refl refl
direct_kept stage p _ h (Issues call t access issuing later) = record {
  touches = touches_kept stage p _ h.touches (Issues call t access issuing later);
  after = plain_after (calls_at stage p.agent.rank) p.agent.log (Issue p.agent.at access) refl h.after;
  direct = direct_push stage (calls_at stage p.agent.rank) p.agent.log (Issue p.agent.at access) h.direct
      (λ one e once. let same = its_access stage p.agent call t access one issuing e in cc (sym later
      ∙ ap (λ (i : PendingAccess). is_at_once stage.delay i.access) same ∙ once));
}
direct_kept stage p _ h (IssuesWhole call t access items after issuing once touches) =
    let calls = calls_at stage p.agent.rank in
    let item = Issue p.agent.at access in
    let log = p.agent.log ++ item ∷ [] in
    let own = touches_own t (length p.agent.log) 0 _ p.lows items after touches in
    let longer : length log ≡ length p.agent.log + 1 = length-append p.agent.log (item ∷ []) in
    let its : issued_at calls log (length p.agent.log) ≡ Some (made_by p.agent access t) =
    ap (λ (o : Option Item). option_map_or (issued_by calls (length p.agent.log)) o None)
    (get_rest p.agent.log (item ∷ []) (length p.agent.log) 0 (omega arith))
    ∙ made_is stage p.agent call t access issuing in
    record {
      touches = touches_kept stage p _ h.touches (IssuesWhole call t access items after issuing once touches);
      after = touches_after calls log items (length p.agent.log) (omega arith) (subst IsSome (sym its) refl) own
          (plain_after calls p.agent.log item refl h.after);
      direct = λ index one e at_once.
          elim (issued_push calls p.agent.log item index one
          (issued_before_touches calls log items (length p.agent.log) index one own e)) [
            | inl old ↦
                let inside = issued_inside calls p.agent.log index one old in let less = inside.0 in let at = inside.1
                in
                direct_still stage.layout calls log items one (omega arith)
                (direct_still stage.layout calls p.agent.log (item ∷ []) one (omega arith)
                (h.direct index one old at_once))
            | inr fresh ↦
                let same = its_access stage p.agent call t access one issuing fresh.1 in
                subst (IsDirect stage.layout calls (log ++ items)) same
                (direct_new stage.layout calls p.agent.log items item (made_by p.agent access t) refl
                (touches_elements t (length p.agent.log) 0 _ p.lows items after touches
                ∙ sym (made_elements stage p.agent call t access issuing))
                (touches_count t (length p.agent.log) 0 _ p.lows items after touches
                ∙ sym (made_count stage p.agent call t access issuing)))
          ];
    }
direct_kept stage p _ h (Draws state new) =
    let old = touches_kept stage p _ h.touches (Draws state new) in record {
      touches = old;
      after = h.after;
      direct = h.direct;
    }
direct_kept stage p _ h (Delivers at one items after there due touches) =
    let calls = calls_at stage p.agent.rank in
    let own = touches_of_own stage one _ p.lows items after touches in
    let here : IsUntouched calls p.agent.log one = each_at (IsUntouched calls p.agent.log) p.agent.pending at one
    h.touches.has.waiting there in
    record {
      touches = touches_kept stage p _ h.touches (Delivers at one items after there due touches);
      after = touches_after calls p.agent.log items one.index (issued_inside calls p.agent.log one.index one here.0).0
          (subst IsSome (sym here.0) refl) own h.after;
      direct = direct_more stage calls p.agent.log items one.index own h.direct;
    }
