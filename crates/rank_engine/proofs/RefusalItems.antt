-- What a step adds to a log: items among which is no refused call, or one refused call.
use Rattle.std.proofs.Common.{◌≡◌, ℕ, zero, suc, ◌<◌, ◌⊎◌, Bool, true, false, List, [], ◌∷◌, ◌++◌, length}
use Rattle.std.proofs.Common.{drop, refl, sym, ◌∙◌, ap, subst, arith, append_assoc}
use Rattle.std.specs.Prelude.{Contains, slice_index_or}
use Rattle.std.specs.List.{AllByRecursion}
use Rattle.std.proofs.lemmas.List.{append-nil}
use Rattle.list_laws.proofs.Each.{each_append}
use Rattle.rma_types.specs.declared.classes.Class.{Class}
use Rattle.rma_record.specs.declared.items.Item.{Item}
use Rattle.rma_record.specs.declared.items.Item.TheVariants.{Issue, Null, Touch, Flush, Request, Entry, Tested, Refused}
use Rattle.rma_record.specs.declared.items.Item.TheVariants.{Ended}
use Rattle.step_runs.specs.Agents.{Agent}
use Rattle.rank_engine.specs.RankStates.{RankState}
use Rattle.rank_engine.specs.Refusals.{OnlyRefuses, RefusesAlone, WhereRefused}

abbrev pub is_refusal : Item → Bool
is_refusal (Issue call access) = false
is_refusal (Null call) = false
is_refusal (Touch issue element cell place bits) = false
is_refusal (Flush call) = false
is_refusal (Request call) = false
is_refusal (Entry call place step) = false
is_refusal (Tested call seen) = false
is_refusal (Refused call class seen) = true
is_refusal Ended = false

abbrev pub IsPlain : Item → Type 0
IsPlain item = is_refusal item ≡ false

-- none of the items that were added is a refused call
pub record AddsPlain (log next : List Item) : Type 0 where
  pub items : List Item
  pub more : next ≡ log ++ items
  pub plain : AllByRecursion IsPlain items

-- the next call is refused
pub record Refuses (agent next : Agent) : Type 0 where
  pub class : Class
  pub seen : ℕ
  pub log : next.log ≡ agent.log ++ Refused agent.at class seen ∷ []
  pub known : next.known ≡ agent.known
  pub pending : next.pending ≡ agent.pending

pub adds_none : (log : List Item) → AddsPlain log log
adds_none log = record { items = []; more = sym (append-nil log); plain = tt }

pub adds_one : (log : List Item) (item : Item) → IsPlain item → AddsPlain log (log ++ item ∷ [])
adds_one log item plain = record { items = item ∷ []; more = refl; plain = (plain, tt) }

pub adds_then : (log between next : List Item) → AddsPlain log between → AddsPlain between next → AddsPlain log next
adds_then log between next one two = record {
  items = one.items ++ two.items;
  more = two.more ∙ (ap (λ l. l ++ two.items) one.more ∙ append_assoc log one.items two.items);
  plain = each_append IsPlain one.items two.items one.plain two.plain;
}

-- ---- the items of a step

all_dropped : (xs ys : List Item) → drop (length xs) (xs ++ ys) ≡ ys
all_dropped [] ys = refl
all_dropped (x ∷ xs) ys = all_dropped xs ys

plain_at : (items : List Item) (k : ℕ) (item : Item) → AllByRecursion IsPlain items → k < length items →
    IsPlain (slice_index_or items k item)
plain_at [] k item h lt = absurd (omega arith)
plain_at (x ∷ items) zero item h lt = h.0
plain_at (x ∷ items) (suc k) item h lt = plain_at items k item h.1 (omega arith)

only_one : (one item : Item) → Contains (one ∷ []) item → one ≡ item
only_one one item (zero, lt, is) = is
only_one one item (suc k, lt, is) = absurd (omega arith)

-- where no refused call was added, none is among the items
pub plain_never : (before after : RankState) → AddsPlain before.agent.log after.agent.log → (P : Type 0) →
    WhereRefused before after P
plain_never before after adds P number class seen inside =
    let items : List Item = adds.items in
    let is : drop (length before.agent.log) after.agent.log ≡ items =
    ap (drop (length before.agent.log)) adds.more ∙ all_dropped before.agent.log items in
    let among : Contains items (Refused number class seen) =
    subst (λ l. Contains l (Refused number class seen)) is inside in
    let plain : is_refusal (Refused number class seen) ≡ false =
    subst IsPlain among.2 (plain_at items among.0 (Refused number class seen) adds.plain among.1) in
    absurd (cc plain)

pub plain_alone : (before after : RankState) → AddsPlain before.agent.log after.agent.log → RefusesAlone before after
plain_alone before after adds number class seen =
    plain_never before after adds (OnlyRefuses before after number class seen) number class seen

pub refuses_alone : (before after : RankState) → Refuses before.agent after.agent → after.touched ≡ before.touched →
    RefusesAlone before after
refuses_alone before after refuses touched number class seen inside =
    let item : Item = Refused before.agent.at refuses.class refuses.seen in
    let is : drop (length before.agent.log) after.agent.log ≡ item ∷ [] =
    ap (drop (length before.agent.log)) refuses.log ∙ all_dropped before.agent.log (item ∷ []) in
    let same : item ≡ Refused number class seen =
    only_one item (Refused number class seen) (subst (λ l. Contains l (Refused number class seen)) is inside) in
    let next : before.agent.at ≡ number = cc same in record {
      next = sym next;
      log = refuses.log ∙ ap (λ i. before.agent.log ++ i ∷ []) same;
      windows = ap (λ k. k.windows) refuses.known;
      epochs = ap (λ k. k.epochs) refuses.known;
      requests = ap (λ k. k.requests) refuses.known;
      pending = refuses.pending;
      touched = touched;
    }

abbrev pub Outcome : Agent → Agent → Type 0
Outcome agent next = AddsPlain agent.log next.log ⊎ Refuses agent next
