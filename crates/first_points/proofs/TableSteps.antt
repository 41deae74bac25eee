-- The tables of a rank among those of all, and what a search by keys finds.
use Rattle.std.proofs.Common.{◌≡◌, ℕ, ◌≤◌, Bool, true, false, List, [], length, Option, Some, None, refl, ap, sym}
use Rattle.std.proofs.Common.{subst, ◌∙◌}
use Rattle.std.specs.Prelude.{◌&&◌, nat_le, nat_lt, not, slice_get}
use Rattle.std.specs.List.{filter, find}
use Rattle.std.specs.List.Sorted.{IsPartitionPoint}
use Rattle.std.specs.Option.{option_map, option_map_or}
use Rattle.std.proofs.lemmas.Option.{get_or_from_slice_get, slice_get-map, slice_get_within}
use Rattle.rma_types.specs.declared.accesses.Id.{Id}
use Rattle.rma_types.specs.declared.scripts.Script.{Script}
use Rattle.rank_records.specs.declared.kept.KeptAccess.{KeptAccess}
use Rattle.rank_records.specs.declared.kept.KeptStep.{KeptStep}
use Rattle.rank_records.specs.declared.kept.RankRecord.{RankRecord}
use Rattle.first_points.specs.Alike.{reaches}
use Rattle.first_points.specs.KeptPoints.{AllAscending, AreAscending, ends_request, is_sought, kept_steps}
use Rattle.first_points.specs.Keys.{AreListed, earlier_of, has_key}
use Rattle.first_points.specs.Tables.{HasItsSteps, HaveTheirSteps, searched, table_for}
use Rattle.first_points.specs.declared.keys.Aim.{Aim}
use Rattle.first_points.specs.declared.keys.Aim.TheVariants.{Window, Request}
use Rattle.first_points.specs.declared.keys.StepKey.TheVariants.{OnWindow, Towards, OfCall}
use Rattle.first_points.specs.declared.searches.Sought.{Sought}
use Rattle.first_points.specs.declared.searches.Sought.TheVariants.{FenceArrival, Complete, Wait, AtTarget, AtOrigin}
use Rattle.first_points.specs.declared.searches.Sought.TheVariants.{TakingIn, GivingOut}
use Rattle.first_points.specs.declared.step_searches.RankTables.{RankTables}
use Rattle.first_points.specs.declared.step_searches.StepSearches.{StepSearches}
use Rattle.first_points.proofs.KeySteps.{ended_by_key, sought_by_key}
use Rattle.first_points.proofs.Parted.{found_after, found_reached}
use Rattle.first_points.proofs.Picked.{earlier_found, find_and_true, find_filter, first_left}

-- ---- the first after a place

pub past_found : (steps : List KeptStep) (index from : ℕ) →
    IsPartitionPoint (λ (k : KeptStep). nat_le k.id.index index ≡ true)
    (λ (k : KeptStep). nat_le k.id.index index ≡ false) steps from → from ≤ length steps →
    slice_get steps from ≡ find (λ (k : KeptStep). nat_lt index k.id.index) steps
past_found steps index from point bound =
    sym (first_left steps from)
    ∙ sym (found_after (λ k. true) steps index from point bound)
    ∙ find_and_true (λ (k : KeptStep). nat_lt index k.id.index) steps

pub beyond_found : (before : Id → Id → Bool) (points : List Id) (steps : List KeptStep) (from : ℕ) →
    IsPartitionPoint (λ (k : KeptStep). not (reaches before points k.id) ≡ true)
    (λ (k : KeptStep). not (reaches before points k.id) ≡ false) steps from → from ≤ length steps →
    slice_get steps from ≡ find (λ (k : KeptStep). reaches before points k.id) steps
beyond_found before points steps from point bound =
    sym (first_left steps from)
    ∙ sym (found_reached before points (λ k. true) steps from point bound)
    ∙ find_and_true (λ (k : KeptStep). reaches before points k.id) steps

-- ---- the tables of one rank

-- the tables that were made one by one
pub all_listed : (script : Script) (steps : List KeptStep) (r : RankTables) → steps ≡ r.kept.now.steps →
    AreListed script (Window FenceArrival) steps r.fence_arrivals →
    AreListed script (Window Complete) steps r.completes → AreListed script (Window Wait) steps r.waits →
    AreListed script (Window AtTarget) steps r.done_at_target →
    AreListed script (Window AtOrigin) steps r.done_at_origin →
    AreListed script (Window TakingIn) steps r.taking_in → AreListed script (Window GivingOut) steps r.giving_out →
    AreListed script Request steps r.request_ends →
    (aim : Aim) → AreListed script aim r.kept.now.steps (table_for r aim)
all_listed script steps r same a b c d e f g h aim =
    subst (λ list. AreListed script aim list (table_for r aim)) same (each aim)
  where
    each : (aim : Aim) → AreListed script aim steps (table_for r aim)
    each (Window FenceArrival) = a
    each (Window Complete) = b
    each (Window Wait) = c
    each (Window AtTarget) = d
    each (Window AtOrigin) = e
    each (Window TakingIn) = f
    each (Window GivingOut) = g
    each Request = h

pub has_steps : (s : StepSearches) → HaveTheirSteps s → (rank : ℕ) (r : RankTables) →
    slice_get s.ranks.items rank ≡ Some r → HasItsSteps s.script.now r
has_steps s have rank r e =
    subst (λ one. HasItsSteps s.script.now one) (get_or_from_slice_get s.ranks.items rank r r e)
    (have rank r (slice_get_within s.ranks.items rank r e))

steps_here : (s : StepSearches) (rank : ℕ) → kept_steps (searched s) rank
    ≡ option_map_or (λ (one : RankRecord). one.steps)
    (option_map (λ (r : RankTables). r.kept.now) (slice_get s.ranks.items rank)) []
steps_here s rank = ap (λ o. option_map_or (λ (one : RankRecord). one.steps) o [])
    (slice_get-map (λ (r : RankTables). r.kept.now) s.ranks.items rank)

pub none_kept : (s : StepSearches) (rank : ℕ) → slice_get s.ranks.items rank ≡ None →
    kept_steps (searched s) rank ≡ []
none_kept s rank e = steps_here s rank
    ∙ ap (λ o. option_map_or (λ (one : RankRecord). one.steps) (option_map (λ (r : RankTables). r.kept.now) o) []) e

-- the steps of each rank that is searched stand in the order of its log
pub searched_ascend : (s : StepSearches) → HaveTheirSteps s → AllAscending (searched s)
searched_ascend s have rank = by_rank (slice_get s.ranks.items rank) refl
  where
    by_rank : (o : Option RankTables) → slice_get s.ranks.items rank ≡ o → AreAscending (kept_steps (searched s) rank)
    by_rank None e = subst (λ list. AreAscending list) (sym (none_kept s rank e)) tt
    by_rank (Some r) e =
        subst (λ list. AreAscending list) (sym (steps_here s rank
        ∙ ap (λ o. option_map_or (λ (one : RankRecord). one.steps)
        (option_map (λ (t : RankTables). t.kept.now) o) []) e)) ((has_steps s have rank r e).order)

-- ---- searches by keys

-- the earlier of the first two that pass a test, one for each key of the access, is the first that passes and is sought
pub sought_found : (s : StepSearches) → HaveTheirSteps s → (rank : ℕ) (sought : Sought) (a : KeptAccess) (target : ℕ) →
    target ≡ a.access.target → (q : KeptStep → Bool) (all some : List KeptStep) →
    all ≡ filter (has_key s.script.now (Window sought) (OnWindow a.access.window)) (kept_steps (searched s) rank) →
    some
    ≡ filter (has_key s.script.now (Window sought) (Towards a.access.window target)) (kept_steps (searched s) rank) →
    earlier_of (find q all) (find q some)
    ≡ find (λ k. q k && is_sought s.script.now sought a k) (kept_steps (searched s) rank)
sought_found s have rank sought a target same q all some of_all of_some =
    (λ i. earlier_of (find q (of_all i)) (find q (of_some i)))
    ∙ (λ i. earlier_of (find_filter q first steps i) (find_filter q (second target) steps i))
    ∙ ap (λ t. earlier_of (find (λ k. q k && first k) steps) (find (λ k. q k && second t k) steps)) same
    ∙ sym (earlier_found q (is_sought s.script.now sought a) first (second a.access.target) steps
    (sought_by_key s.script.now sought a) (searched_ascend s have rank))
  where
    steps : List KeptStep
    steps = kept_steps (searched s) rank

    first : KeptStep → Bool
    first k = has_key s.script.now (Window sought) (OnWindow a.access.window) k

    second : ℕ → KeptStep → Bool
    second t k = has_key s.script.now (Window sought) (Towards a.access.window t) k

pub end_found : (script : Script) (a : KeptAccess) (q : KeptStep → Bool) (steps : List KeptStep) →
    find q (filter (has_key script Request (OfCall a.call)) steps) ≡ find (λ k. q k && ends_request a k) steps
end_found script a q steps =
    find_filter q (has_key script Request (OfCall a.call)) steps
    ∙ sym (λ i. find (λ k. q k && ended_by_key script a k i) steps)
