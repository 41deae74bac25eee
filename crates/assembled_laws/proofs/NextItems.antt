-- The next item of a log that is no touch, as the log grows.
use Rattle.std.proofs.Common.{◌≡◌, ℕ, suc, ◌+◌, ◌<◌, true, false, cond, List, [], ◌∷◌, ◌++◌, length, Some, None, refl}
use Rattle.std.proofs.Common.{◌∙◌, ap, arith}
use Rattle.std.specs.List.{AllByRecursion}
use Rattle.rma_record.specs.declared.items.Item.{Item}
use Rattle.lawful_runs.specs.DelayLaw.{next_untouched}
use Rattle.lawful_runs.specs.Items.{is_touch}
use Rattle.call_laws.proofs.Standing.{touch_is_touch}
use Rattle.rank_laws.proofs.Touching.{IsTouchOf}

-- where there is none yet, what follows has it
pub next_after_none : (index : ℕ) (items more : List Item) → next_untouched index items ≡ None →
    next_untouched index (items ++ more) ≡ next_untouched (index + length items) more
next_after_none index [] more e = ap (λ n. next_untouched n more) (omega arith)
next_after_none index (item ∷ items) more e =
    elim (is_touch item) as (λ b. cond b (next_untouched (index + 1) items) (Some index) ≡ None →
    cond b (next_untouched (index + 1) (items ++ more)) (Some index)
    ≡ next_untouched (index + suc (length items)) more) [
      | true ↦ λ k. next_after_none (index + 1) items more k ∙ ap (λ n. next_untouched n more) (omega arith)
      | false ↦ λ k. absurd (cc k)
    ] e

-- where there is one it stays
pub next_stays : (index next : ℕ) (items more : List Item) → next_untouched index items ≡ Some next →
    next_untouched index (items ++ more) ≡ Some next
next_stays index next [] more e = absurd (cc e)
next_stays index next (item ∷ items) more e =
    elim (is_touch item) as (λ b. cond b (next_untouched (index + 1) items) (Some index) ≡ Some next →
    cond b (next_untouched (index + 1) (items ++ more)) (Some index) ≡ Some next) [
      | true ↦ λ k. next_stays (index + 1) next items more k
      | false ↦ λ k. k
    ] e

-- it is one of the items
pub next_within : (index next : ℕ) (items : List Item) → next_untouched index items ≡ Some next →
    next < index + length items
next_within index next [] e = absurd (cc e)
next_within index next (item ∷ items) e =
    elim (is_touch item) as (λ b. cond b (next_untouched (index + 1) items) (Some index) ≡ Some next →
    next < index + suc (length items)) [
      | true ↦ λ k. let less = next_within (index + 1) next items k in omega arith
      | false ↦ λ k. let same : index ≡ next = cc k in omega arith
    ] e

-- touches alone have none
pub next_touches : (issue index : ℕ) (items : List Item) → AllByRecursion (IsTouchOf issue) items →
    next_untouched index items ≡ None
next_touches issue index [] own = refl
next_touches issue index (item ∷ items) own =
    ap (λ b. cond b (next_untouched (index + 1) items) (Some index)) (touch_is_touch issue item own.0)
    ∙ next_touches issue (index + 1) items own.1

pub next_plain : (index : ℕ) (item : Item) → is_touch item ≡ false → next_untouched index (item ∷ []) ≡ Some index
next_plain index item e = ap (λ b. cond b (next_untouched (index + 1) []) (Some index)) e
