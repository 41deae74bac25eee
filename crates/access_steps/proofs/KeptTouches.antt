-- Touches that are made and kept one after another.
use Rattle.std.proofs.Common.{◌≡◌, ℕ, ◌+◌, ◌≤◌, List, [], ◌∷◌, ◌++◌, length, map, refl, sym, ap, ◌∙◌, subst, arith}
use Rattle.std.proofs.Common.{Option, Some, None, append_assoc, append-nil, length-append}
use Rattle.std.proofs.lemmas.List.{length-map, map-append}
use Rattle.list_laws.proofs.Each.{each_append}
use Rattle.rma_record.specs.declared.items.Item.{Item}
use Rattle.rma_record.specs.declared.items.Item.TheVariants.{Touch}
use Rattle.call_rules.specs.declared.cells.Cell.{Cell}
use Rattle.call_rules.specs.declared.elements.Change.{Change}
use Rattle.cell_face.specs.Faces.{Face, Keeps}
use Rattle.access_steps.specs.Plans.{PlannedTouch}
use Rattle.access_steps.specs.TouchesMade.{MadeTouch, plan_of, item_of, update_by, updates_of, TouchesMade, TouchesKept}
use Rattle.access_steps.specs.TouchesMade.{TouchesOne, TouchesNone}
use Rattle.access_steps.proofs.MoreTouches.{all_map, TouchesMade-append}
use Rattle.access_steps.proofs.OneTouch.{TouchesMade-none}

-- before the first touch
pub kept_none : (face : Face) (knows : ℕ → Cell → Type 0) (kept : List Item) (issue : ℕ) →
    TouchesKept face face knows kept kept issue []
kept_none face knows kept issue = record {
  touches = [];
  plans = refl;
  items = sym (append-nil kept);
  made = TouchesMade-none face;
  states = tt;
}

-- one touch more
pub kept_more : (before middle after : Face) (knew knows : ℕ → Cell → Type 0)
    (kept_before kept_middle kept_after : List Item) (issue : ℕ)
    (planned : List PlannedTouch) (plan : PlannedTouch) (seen : Cell) →
    TouchesKept before middle knew kept_before kept_middle issue planned →
    TouchesOne middle after plan.cell plan.change seen →
    kept_after ≡ kept_middle ++ Touch issue plan.element plan.cell seen.place seen.bits ∷ [] → Keeps knew knows →
    knows plan.cell seen →
    TouchesKept before after knows kept_before kept_after issue (planned ++ plan ∷ [])
kept_more before middle after knew knows kept_before kept_middle kept_after issue planned plan seen kept one items keeps
    found =
    let touch : MadeTouch = record { plan = plan; seen = seen } in
    let item : Item = item_of issue touch in
    record {
      touches = kept.touches ++ touch ∷ [];
      plans = map-append plan_of kept.touches (touch ∷ []) ∙ ap (λ (ps : List PlannedTouch). ps ++ plan ∷ [])
          kept.plans;
      items = items ∙ (ap (λ (ks : List Item). ks ++ item ∷ []) kept.items
          ∙ (append_assoc kept_before (map (item_of issue) kept.touches) (item ∷ [])
          ∙ ap (λ (ks : List Item). kept_before ++ ks) (sym (map-append (item_of issue) kept.touches (touch ∷ [])))));
      made = TouchesMade-append before middle after kept.touches (touch ∷ []) kept.made (one.made plan.element);
      states = each_append (λ (t : MadeTouch). knows t.plan.cell t.seen) kept.touches (touch ∷ [])
          (all_map (λ (t : MadeTouch). knew t.plan.cell t.seen) (λ (t : MadeTouch). knows t.plan.cell t.seen)
          (λ t k. keeps t.plan.cell t.seen k) kept.touches kept.states) (found, tt);
    }

-- an attempt that came too late adds none
pub kept_moved : (before middle after : Face) (knew knows : ℕ → Cell → Type 0) (kept_before kept_after : List Item)
    (issue : ℕ) (planned : List PlannedTouch) →
    TouchesKept before middle knew kept_before kept_after issue planned → TouchesNone middle after → Keeps knew knows →
    TouchesKept before after knows kept_before kept_after issue planned
kept_moved before middle after knew knows kept_before kept_after issue planned kept none keeps = record {
  touches = kept.touches;
  plans = kept.plans;
  items = kept.items;
  made = subst (TouchesMade before after) (append-nil kept.touches)
      (TouchesMade-append before middle after kept.touches [] kept.made none.made);
  states = all_map (λ (t : MadeTouch). knew t.plan.cell t.seen) (λ (t : MadeTouch). knows t.plan.cell t.seen)
      (λ t k. keeps t.plan.cell t.seen k) kept.touches kept.states;
}

pub at_most_one : (cell : ℕ) (seen : Cell) (change : Option Change) → length (update_by cell seen change) ≤ 1
at_most_one cell seen None = omega arith
at_most_one cell seen (Some change) = omega arith

pub updates_fewer : (touches : List MadeTouch) → length (updates_of touches) ≤ length touches
updates_fewer [] = omega arith
updates_fewer (touch ∷ touches) = omega (
  arith,
  length-append (update_by touch.plan.cell touch.seen touch.plan.change) (updates_of touches),
  at_most_one touch.plan.cell touch.seen touch.plan.change,
  updates_fewer touches,
)

-- no more updates than touches
pub share_left : (before after : Face) (knows : ℕ → Cell → Type 0) (kept_before kept_after : List Item) (issue : ℕ)
    (planned : List PlannedTouch) →
    TouchesKept before after knows kept_before kept_after issue planned → before.share ≤ after.share + length planned
share_left before after knows kept_before kept_after issue planned kept =
    omega (arith, kept.made.share, updates_fewer kept.touches, length-map kept.touches plan_of, ap length kept.plans)
