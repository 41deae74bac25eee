-- One arrival more in a table of rounds, and what is asked of every rank.
use Rattle.std.proofs.Common.{◌≡◌, ℕ, suc, Bool, true, false, ◌&&◌, ◌||◌, cond, leb, List, [], ◌∷◌}
use Rattle.std.proofs.Common.{◌++◌, length, map, refl, ap, sym, ◌∙◌, Option, Some}
use Rattle.std.specs.List.{filter, flat_map, list_all, list_any}
use Rattle.std.specs.Option.{option_map_or}
use Rattle.std.proofs.lemmas.List.Folds.{list_any-append}
use Rattle.rma_types.specs.declared.calls.Call.{Call}
use Rattle.call_rules.specs.Pieces.{numbers_from}
use Rattle.call_rules.proofs.NumbersFrom.{any_numbers}
use Rattle.board_rules.specs.Entries.{Act, arrivals, collective_of, is_arrive, is_by_on, is_collective}
use Rattle.board_rules.specs.Questions.{Question}
use Rattle.board_rules.specs.Rounds.{all_arrived, arrivals_of, round_arrivals}
use Rattle.sync_board.specs.declared.rounds.Kind.{Kind}
use Rattle.sync_board.specs.declared.rounds.Kind.TheVariants.{Creation as CreationKind, Freeing as FreeingKind}
use Rattle.sync_board.specs.declared.rounds.Kind.TheVariants.{Fence as FenceKind}
use Rattle.sync_board.specs.Rounds.{AreOf, arrival_in, arrivals_by, collective_by}
use Rattle.sync_board.specs.Sides.{arrived, done, done_at, own}

pub values_more : {X : Type 0} (has : Call → Option X) (values : List X) (calls : List Call) (value : X) (call : Call) →
    AreOf has values calls → has call ≡ Some value → AreOf has (values ++ value ∷ []) (calls ++ call ∷ [])
values_more has [] [] value call are one = (one, tt)
values_more has [] (other ∷ calls) value call are one = absurd are
values_more has (other ∷ values) [] value call are one = absurd are
values_more has (other ∷ values) (another ∷ calls) value call are one =
    (are.0, values_more has values calls value call are.1 one)

pub values_length : {X : Type 0} (has : Call → Option X) (values : List X) (calls : List Call) →
    AreOf has values calls → length values ≡ length calls
values_length has [] [] are = refl
values_length has [] (other ∷ calls) are = absurd are
values_length has (other ∷ values) [] are = absurd are
values_length has (other ∷ values) (another ∷ calls) are = ap suc (values_length has values calls are.1)

-- ---- the arrivals of a question

filter_twice : {X : Type 0} (a b c : X → Bool) (xs : List X) → filter (λ x. a x && b x && c x) xs ≡ filter
    (λ x. b x && c x) (filter a xs)
filter_twice a b c [] = refl
filter_twice a b c (x ∷ xs) =
    elim (a x) as (λ t. cond (t && b x && c x) (x ∷ filter (λ x. a x && b x && c x) xs)
    (filter (λ x. a x && b x && c x) xs) ≡ filter (λ x. b x && c x) (cond t (x ∷ filter a xs) (filter a xs))) [
      | true ↦ ap (λ ys. cond (b x && c x) (x ∷ ys) ys) (filter_twice a b c xs)
      | false ↦ filter_twice a b c xs
    ]

done_arrivals : (kind : Kind) (entries : List Act) → arrivals_by kind (done entries) ≡ arrived
    (collective_by kind) entries
unfolding done
done_arrivals CreationKind entries = refl
done_arrivals FreeingKind entries = refl
done_arrivals FenceKind entries = refl

pub arrivals_at : (q : Question) (kind : Kind) (rank : ℕ) → collective_of q.call ≡ Some (collective_by kind) →
    arrivals_of q rank ≡ arrivals_by kind (done_at q rank)
arrivals_at q kind rank e =
    ap (λ o. option_map_or (λ collective. arrivals q.entries collective rank q.window) o []) e
    ∙ (ap (map (λ (act : Act). act.row.call))
    (filter_twice (is_by_on rank q.window) (λ (act : Act). is_arrive act.row.step)
    (λ (act : Act). is_collective (collective_by kind) act.row.call) q.entries)
    ∙ sym (done_arrivals kind (own q.entries rank q.window)))

pub any_flat : {X Y : Type 0} (test : Y → Bool) (f : X → List Y) (xs : List X) →
    list_any test (flat_map f xs) ≡ list_any (λ x. list_any test (f x)) xs
any_flat test f [] = refl
any_flat test f (x ∷ xs) = list_any-append test (f x) (flat_map f xs) ∙ ap (λ b. list_any test (f x) || b)
    (any_flat test f xs)

-- every rank has arrived as often as this one
pub arrived_is : (q : Question) (kind : Kind) (rank ranks : ℕ) → q.rank ≡ rank → q.ranks ≡ ranks →
    collective_of q.call ≡ Some (collective_by kind) →
    all_arrived q ≡ list_all (λ k. leb (length (arrivals_by kind (done_at q rank)))
    (length (arrivals_by kind (done_at q k)))) (numbers_from 0 ranks)
arrived_is q kind rank ranks asker all e =
    alike (λ k. leb (length (arrivals_of q q.rank)) (length (arrivals_of q k)))
    (λ k. leb (length (arrivals_by kind (done_at q rank))) (length (arrivals_by kind (done_at q k))))
    (λ k. rw (arrivals_at q kind q.rank e, arrivals_at q kind k e, asker) refl) (numbers_from 0 q.ranks)
    ∙ ap (λ n. list_all (λ k. leb (length (arrivals_by kind (done_at q rank)))
    (length (arrivals_by kind (done_at q k)))) (numbers_from 0 n)) all
  where
    alike : (p r : ℕ → Bool) → ((k : ℕ) → p k ≡ r k) → (ks : List ℕ) → list_all p ks ≡ list_all r ks
    alike p r same [] = refl
    alike p r same (k ∷ ks) = rw (same k, alike p r same ks) refl

-- what a test finds among the arrivals of the round that this rank's next arrival is in
pub round_is : (test : Call → Bool) (q : Question) (kind : Kind) (rank ranks : ℕ) → q.rank ≡ rank → q.ranks ≡ ranks →
    collective_of q.call ≡ Some (collective_by kind) →
    list_any test (round_arrivals q) ≡ list_any
    (λ k. list_any test (arrival_in (arrivals_by kind (done_at q k)) (length (arrivals_by kind (done_at q rank)))))
    (numbers_from 0 ranks)
round_is test q kind rank ranks asker all e =
    any_flat test (λ k. arrival_in (arrivals_of q k) (length (arrivals_of q q.rank))) (numbers_from 0 q.ranks)
    ∙ (any_numbers _ _ 0 q.ranks (λ k low high. rw (arrivals_at q kind q.rank e, arrivals_at q kind k e, asker) refl)
    ∙ ap (λ n. list_any (λ k. list_any test
    (arrival_in (arrivals_by kind (done_at q k)) (length (arrivals_by kind (done_at q rank))))) (numbers_from 0 n))
    all)
