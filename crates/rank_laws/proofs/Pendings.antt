-- Each access of a log is touched whole, or is pending and not touched at all.
use Rattle.std.proofs.Common.{◌≡◌, ℕ, ◌+◌, ◌<◌, ◌⊎◌, inl, inr, false, List, [], ◌∷◌, ◌++◌, length, take, Option, Some}
use Rattle.std.proofs.Common.{None, sym, ◌∙◌, ap, subst, arith, append-nil, length-append}
use Rattle.std.specs.Prelude.{slice_get, IfSome}
use Rattle.std.specs.List.{AllByRecursion, remove}
use Rattle.std.specs.Option.{option_map_or}
use Rattle.std.proofs.lemmas.Bool.Decides.{eqb_tells}
use Rattle.list_laws.proofs.Each.{each_weaker, each_with, each_at, each_append, each_removed}
use Rattle.list_laws.proofs.Members.{among_right, Among}
use Rattle.rma_types.specs.declared.calls.Call.{Call}
use Rattle.rma_types.specs.declared.scripts.Layout.{Layout}
use Rattle.rma_record.specs.declared.items.Item.{Item}
use Rattle.lawful_runs.specs.Accesses.{issued_by, issued_at, pieces_of, EachPair}
use Rattle.lawful_runs.specs.Items.{is_touch}
use Rattle.lawful_runs.specs.TouchLaw.{touched_by, elements_from, issues_touched}
use Rattle.lawful_runs.proofs.PairLaws.{pair_joined}
use Rattle.lawful_runs.proofs.TouchLaws.{touched_joined}
use Rattle.rank_laws.proofs.Lists.{pair_alike}
use Rattle.rank_laws.proofs.Lists.{pair_left, pair_within, among_left, among_rest, others_apart, smaller_before}
use Rattle.rank_laws.proofs.Lists.{get_rest}
use Rattle.rank_laws.proofs.Touching.{IsTouchOf, touched_by_other, touched_plain, touched_past}
use Rattle.rank_laws.proofs.Touching.{issues_joined, issues_plain, issues_of_touches, made_at, issued_inside}
use Rattle.rank_laws.proofs.Touching.{issued_front, issued_still, issued_before_touches, issued_push}
use Rattle.rank_rules.specs.Pending.{gives_way}
use Rattle.rank_rules.specs.declared.pending.PendingAccess.{PendingAccess}

-- the elements of an access
abbrev pub elements_of : Layout → List Call → PendingAccess → List (ℕ × ℕ)
elements_of memory calls one = elements_from 0 (pieces_of memory calls one)

-- the access is touched whole, or pending and not touched
abbrev pub IsSettled : Layout → List Call → List Item → List PendingAccess → PendingAccess → Type 0
IsSettled memory calls log pending one =
    (touched_by one.index log ≡ elements_of memory calls one) ⊎ ((touched_by one.index log ≡ []) × Among one pending)

-- a pending access is issued and not touched
abbrev pub IsUntouched : List Call → List Item → PendingAccess → Type 0
IsUntouched calls log one = (issued_at calls log one.index ≡ Some one) × (touched_by one.index log ≡ [])

-- the access with this Issue gives way to no pending one that is earlier
abbrev pub IsFreeOf : List Call → List Item → ℕ → PendingAccess → Type 0
IsFreeOf calls log issue one = one.index < issue → IfSome (issued_at calls log issue)
    (λ later. gives_way later one ≡ false)

abbrev pub IsFree : List Call → List Item → List PendingAccess → ℕ → Type 0
IsFree calls log pending issue = AllByRecursion (IsFreeOf calls log issue) pending

-- of two touches the later is not of an access to which that of the earlier gives way
abbrev pub KeepsWay : List Call → List Item → ℕ → ℕ → Type 0
KeepsWay calls log first second =
    second < first → IfSome (issued_at calls log first) (λ later. IfSome (issued_at calls log second)
    (λ earlier. gives_way later earlier ≡ false))

pub record HasTouches (memory : Layout) (calls : List Call) (log : List Item)
    (pending : List PendingAccess) : Type 0 where
  pub each : (index : ℕ) (one : PendingAccess) → issued_at calls log index ≡ Some one →
      IsSettled memory calls log pending one
  pub waiting : AllByRecursion (IsUntouched calls log) pending
  pub ascending : EachPair (λ (a : PendingAccess) (b : PendingAccess). a.index < b.index) pending
  pub below : AllByRecursion (λ n. n < length log) (issues_touched log)
  pub free : AllByRecursion (IsFree calls log pending) (issues_touched log)
  pub order : EachPair (KeepsWay calls log) (issues_touched log)

pub no_touches : (memory : Layout) (calls : List Call) → HasTouches memory calls [] []
no_touches memory calls = record {
  each = λ index one e. absurd (cc e);
  waiting = tt;
  ascending = tt;
  below = tt;
  free = tt;
  order = tt;
}

-- ---- one item more

-- what an item makes pending is its own access, and all of it that has elements
pub record MakesPending (memory : Layout) (calls : List Call) (index : ℕ) (item : Item)
    (made : List PendingAccess) : Type 0 where
  pub plain : is_touch item ≡ false
  pub its : AllByRecursion (λ (one : PendingAccess). issued_by calls index item ≡ Some one) made
  pub all : (one : PendingAccess) → issued_by calls index item ≡ Some one →
      (elements_of memory calls one ≡ []) ⊎ Among one made
  pub single : EachPair (λ (a : PendingAccess) (b : PendingAccess). a.index < b.index) made

way_still : (calls : List Call) (log more : List Item) (first second : ℕ) → first < length log → second < length log →
    KeepsWay calls log first second → KeepsWay calls (log ++ more) first second
way_still calls log more first second a b k =
    subst (λ (o : Option PendingAccess). second < first → IfSome o
    (λ later. IfSome (issued_at calls (log ++ more) second) (λ earlier. gives_way later earlier ≡ false)))
    (sym (issued_front calls log more first a))
    (subst (λ (o : Option PendingAccess). second < first → IfSome (issued_at calls log first)
    (λ later. IfSome o (λ earlier. gives_way later earlier ≡ false)))
    (sym (issued_front calls log more second b)) k)

free_still : (calls : List Call) (log more : List Item) (issue : ℕ) (one : PendingAccess) → issue < length log →
    IsFreeOf calls log issue one → IsFreeOf calls (log ++ more) issue one
free_still calls log more issue one less k =
    subst (λ (o : Option PendingAccess). one.index < issue → IfSome o (λ later. gives_way later one ≡ false))
    (sym (issued_front calls log more issue less)) k

pub item_more : (memory : Layout) (calls : List Call) (log : List Item) (pending made : List PendingAccess)
    (item : Item) → HasTouches memory calls log pending →
    MakesPending memory calls (length log) item made → HasTouches memory calls (log ++ item ∷ []) (pending ++ made)
item_more memory calls log pending made item has makes = record {
  each = λ index one e. elim (issued_push calls log item index one e) [
    | inl old ↦ still one (has.each index one old)
    | inr new ↦ let at : one.index ≡ length log = made_at calls (length log) item one new.1 in fresh one at
        (makes.all one new.1)
  ];
  waiting = each_append (IsUntouched calls next) pending made
      (each_weaker (IsUntouched calls log) (IsUntouched calls next)
      (λ one h. (
        issued_still calls log (item ∷ []) one.index one h.0,
        touched_plain one.index log item makes.plain ∙ h.1,
      )) pending has.waiting)
      (each_weaker (λ (one : PendingAccess). issued_by calls (length log) item ≡ Some one) (IsUntouched calls next)
      (λ one h. is_last one (made_at calls (length log) item one h) h) made makes.its);
  ascending = pair_joined (λ (a : PendingAccess) (b : PendingAccess).
      a.index < b.index) pending made has.ascending makes.single
      (each_weaker (IsUntouched calls log) (λ (a : PendingAccess). AllByRecursion
      (λ (b : PendingAccess). a.index < b.index) made)
      (λ a h. let inside = issued_inside calls log a.index a h.0 in
      each_weaker (λ (one : PendingAccess). issued_by calls (length log) item ≡ Some one)
      (λ (b : PendingAccess). a.index < b.index)
      (λ b k. let at = made_at calls (length log) item b k in let less = inside.0 in omega arith) made makes.its)
      pending has.waiting);
  below = subst (AllByRecursion (λ n. n < length next)) (sym same)
      (each_weaker (λ n. n < length log) (λ n. n < length next) (λ n less. omega (arith, longer))
      (issues_touched log) has.below);
  free = subst (AllByRecursion (IsFree calls next (pending ++ made))) (sym same)
      (each_with (λ n. n < length log) (IsFree calls log pending) (IsFree calls next (pending ++ made))
      (λ n less h. each_append (IsFreeOf calls next n) pending made
      (each_weaker (IsFreeOf calls log n) (IsFreeOf calls next n)
      (λ one k. free_still calls log (item ∷ []) n one less k) pending h)
      (each_weaker (λ (one : PendingAccess). issued_by calls (length log) item ≡ Some one) (IsFreeOf calls next n)
      (λ one k earlier. let at = made_at calls (length log) item one k in absurd (omega arith)) made makes.its))
      (issues_touched log) has.below has.free);
  order = subst (EachPair (KeepsWay calls next)) (sym same)
      (pair_within (λ n. n < length log) (KeepsWay calls log) (KeepsWay calls next)
      (λ x y a b k. way_still calls log (item ∷ []) x y a b k) (issues_touched log) has.below has.order);
}
  where
    next : List Item
    next = log ++ item ∷ []

    same : issues_touched next ≡ issues_touched log
    same = issues_plain log item makes.plain

    longer : length next ≡ length log + 1
    longer = length-append log (item ∷ [])

    still : (one : PendingAccess) → IsSettled memory calls log pending one →
        IsSettled memory calls next (pending ++ made) one
    still one (inl whole) = inl (touched_plain one.index log item makes.plain ∙ whole)
    still one (inr none) = inr (
      touched_plain one.index log item makes.plain
          ∙ none.0,
      among_left one pending made none.1,
    )

    untouched_there : (one : PendingAccess) → one.index ≡ length log → touched_by one.index next ≡ []
    untouched_there one at = touched_plain one.index log item makes.plain
        ∙ touched_past one.index (length log) log (omega arith) has.below

    fresh : (one : PendingAccess) → one.index ≡ length log → (elements_of memory calls one ≡ []) ⊎ Among one made →
        IsSettled memory calls next (pending ++ made) one
    fresh one at (inl none) = inl (untouched_there one at ∙ sym none)
    fresh one at (inr among) = inr (untouched_there one at, among_right one pending made among)

    is_last : (one : PendingAccess) → one.index ≡ length log → issued_by calls (length log) item ≡ Some one →
        IsUntouched calls next one
    is_last one at h = (
      subst (λ n. issued_at calls next n ≡ Some one) (sym at)
          (ap (λ (o : Option Item). option_map_or (issued_by calls (length log)) o None)
          (get_rest log (item ∷ []) (length log) 0 (omega arith)) ∙ h),
      untouched_there one at,
    )

-- ---- touches more

-- all touches of the pending access at a place
pub record Touches (memory : Layout) (calls : List Call) (pending : List PendingAccess) (at : ℕ) (one : PendingAccess)
    (items : List Item) : Type 0 where
  pub there : slice_get pending at ≡ Some one
  pub own : AllByRecursion (IsTouchOf one.index) items
  pub whole : touched_by one.index items ≡ elements_of memory calls one
  pub first : AllByRecursion (λ (other : PendingAccess). gives_way one other ≡ false) (take at pending)

pub touches_more : (memory : Layout) (calls : List Call) (log : List Item) (pending : List PendingAccess) (at : ℕ)
    (one : PendingAccess) (items : List Item) → HasTouches memory calls log pending →
    Touches memory calls pending at one items → HasTouches memory calls (log ++ items) (remove pending at)
touches_more memory calls log pending at one items has touches = record {
  each = λ index other e. settled index other (issued_before_touches calls log items one.index index other touches.own
      e);
  waiting = each_with (IsUntouched calls log) (λ (other : PendingAccess). other.index ≡ one.index → ⊥)
      (IsUntouched calls next)
      (λ other h apart. (issued_still calls log items other.index other h.0, unchanged other.index apart ∙ h.1))
      (remove pending at) (each_removed (IsUntouched calls log) pending at has.waiting) apart_all;
  ascending = pair_left (λ (a : PendingAccess) (b : PendingAccess). a.index < b.index) pending at has.ascending;
  below = subst (AllByRecursion (λ n. n < length next)) (sym seam)
      (each_append (λ n. n < length next) (issues_touched log) (issues_touched items)
      (each_weaker (λ n. n < length log) (λ n. n < length next) (λ n less. omega (arith, longer))
      (issues_touched log) has.below)
      (each_weaker (λ n. n ≡ one.index) (λ n. n < length next) (λ n is. let less = inside.0 in omega (arith, longer))
      (issues_touched items) last));
  free = subst (AllByRecursion (IsFree calls next (remove pending at))) (sym seam)
      (each_append (IsFree calls next (remove pending at)) (issues_touched log) (issues_touched items)
      (each_with (λ n. n < length log) (IsFree calls log pending) (IsFree calls next (remove pending at))
      (λ n less h. each_weaker (IsFreeOf calls log n) (IsFreeOf calls next n)
      (λ other k. free_still calls log items n other less k) (remove pending at)
      (each_removed (IsFreeOf calls log n) pending at h))
      (issues_touched log) has.below has.free)
      (each_weaker (λ n. n ≡ one.index) (IsFree calls next (remove pending at))
      (λ n is. subst (IsFree calls next (remove pending at)) (sym is) free_now) (issues_touched items) last));
  order = subst (EachPair (KeepsWay calls next)) (sym seam)
      (pair_joined (KeepsWay calls next) (issues_touched log) (issues_touched items)
      (pair_within (λ n. n < length log) (KeepsWay calls log) (KeepsWay calls next)
      (λ x y a b k. way_still calls log items x y a b k) (issues_touched log) has.below has.order)
      (pair_alike (λ n. n ≡ one.index) (KeepsWay calls next) (λ x y a b less. absurd (omega arith))
      (issues_touched items) last)
      (each_with (λ n. n < length log) (IsFree calls log pending)
      (λ x. AllByRecursion (KeepsWay calls next x) (issues_touched items))
      (λ x less h. each_weaker (λ n. n ≡ one.index) (KeepsWay calls next x)
      (λ y is. subst (KeepsWay calls next x) (sym is) (keeps x less
      (each_at (IsFreeOf calls log x) pending at one h touches.there))) (issues_touched items) last)
      (issues_touched log) has.below has.free));
}
  where
    next : List Item
    next = log ++ items

    here : IsUntouched calls log one
    here = each_at (IsUntouched calls log) pending at one has.waiting touches.there

    inside : (one.index < length log) × (one.index ≡ one.index)
    inside = issued_inside calls log one.index one here.0

    there_still : issued_at calls next one.index ≡ Some one
    there_still = issued_still calls log items one.index one here.0

    seam : issues_touched next ≡ issues_touched log ++ issues_touched items
    seam = issues_joined log items

    last : AllByRecursion (λ n. n ≡ one.index) (issues_touched items)
    last = issues_of_touches one.index items touches.own

    longer : length next ≡ length log + length items
    longer = length-append log items

    apart_all : AllByRecursion (λ (other : PendingAccess). other.index ≡ one.index → ⊥) (remove pending at)
    apart_all = others_apart (λ (other : PendingAccess). other.index) pending at one has.ascending touches.there

    unchanged : (index : ℕ) → (index ≡ one.index → ⊥) → touched_by index next ≡ touched_by index log
    unchanged index apart =
        touched_joined index log items ∙ ap (λ more. touched_by index log ++ more)
        (touched_by_other index one.index items (λ e. apart (sym e)) touches.own)
        ∙ append-nil (touched_by index log)

    now_whole : touched_by one.index next ≡ elements_of memory calls one
    now_whole = touched_joined one.index log items ∙ ap (λ front. front ++ touched_by one.index items) here.1
        ∙ touches.whole

    free_now : IsFree calls next (remove pending at) one.index
    free_now =
        subst (λ (o : Option PendingAccess). AllByRecursion (λ (other : PendingAccess). other.index < one.index →
        IfSome o (λ later. gives_way later other ≡ false)) (remove pending at)) (sym there_still)
        (smaller_before (λ (other : PendingAccess). other.index)
        (λ (other : PendingAccess). gives_way one other ≡ false) pending at one has.ascending touches.there
        touches.first)

    keeps : (x : ℕ) → x < length log → IsFreeOf calls log x one → KeepsWay calls next x one.index
    keeps x less k earlier =
        subst (λ (o : Option PendingAccess). IfSome (issued_at calls next x)
        (λ later. IfSome o (λ other. gives_way later other ≡ false))) (sym there_still)
        (subst (λ (o : Option PendingAccess). IfSome o (λ later. gives_way later one ≡ false))
        (sym (issued_front calls log items x less)) (k earlier))

    settled_by : (other : PendingAccess) → (other.index ≡ one.index → ⊥) → IsSettled memory calls log pending other →
        IsSettled memory calls next (remove pending at) other
    settled_by other apart (inl whole) = inl (unchanged other.index apart ∙ whole)
    settled_by other apart (inr none) =
        inr (
          unchanged other.index apart ∙ none.0,
          among_rest other one pending at none.1 touches.there
              (λ e. apart (sym (ap (λ (i : PendingAccess). i.index) e))),
        )

    settled : (index : ℕ) (other : PendingAccess) → issued_at calls log index ≡ Some other →
        IsSettled memory calls next (remove pending at) other
    settled index other e =
        let its : other.index ≡ index = (issued_inside calls log index other e).1 in
        elim (eqb_tells index one.index) [
          | inl same ↦
              let there : issued_at calls log one.index ≡ Some other = subst
              (λ n. issued_at calls log n ≡ Some other) same.1 e in
              let is : one ≡ other = let back : Some one ≡ Some other = sym here.0 ∙ there in cc back in
              inl (subst (λ (i : PendingAccess). touched_by i.index next ≡ elements_of memory calls i) is now_whole)
          | inr apart ↦ settled_by other (λ k. apart.1 (sym its ∙ k)) (has.each index other e)
        ]
