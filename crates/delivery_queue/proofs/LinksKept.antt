-- A walk along accesses that give way, where accesses come and go.
use Rattle.std.proofs.Common.{◌≡◌, ◌+◌, ◌-◌, ◌<◌, ◌≤◌, ℕ, zero, suc, Bool, true, false, cond, List, [], ◌∷◌, ◌++◌}
use Rattle.std.proofs.Common.{Option, Some, None, take, length, refl, ap, arith, slice_get, ◌∙◌, sym, subst}
use Rattle.std.specs.Option.{option_map_or}
use Rattle.std.specs.List.{position, position_from, remove}
use Rattle.std.proofs.lemmas.Iterator.Adapters.{position_from-zero}
use Rattle.std.proofs.lemmas.List.{take-append-le}
use Rattle.rank_rules.specs.declared.pending.PendingAccess.{PendingAccess}
use Rattle.rank_rules.specs.Pending.{gives_way, first_in_way, way}
use Rattle.rank_rules.proofs.PendingLaws.{gives_way_to_earlier}
use Rattle.delivery_queue.specs.Walked.{leads}
use Rattle.delivery_queue.proofs.GivenWays.{way_step}

-- a search that begins to count one place earlier
earlier_from : {X : Type 0} (p : X → Bool) (i at : ℕ) (xs : List X) → position_from p (i + 1) xs ≡ Some at →
    position_from p i xs ≡ Some (at - 1)
earlier_from p i at [] e = cc
earlier_from {X} p i at (x ∷ xs) e = by (p x) (earlier_from p (i + 1) at xs) e
  where
    by : (b : Bool) → (position_from p (i + 1 + 1) xs ≡ Some at → position_from p (i + 1) xs ≡ Some (at - 1)) →
        cond b (Some (i + 1)) (position_from p (i + 1 + 1) xs) ≡ Some at →
        cond b (Some i) (position_from p (i + 1) xs) ≡ Some (at - 1)
    by true rest f = grind (arith, f)
    by false rest f = rest f

-- what is found behind an element is found one place earlier where that one goes
removed_from : {X : Type 0} (p : X → Bool) (i gone bound at : ℕ) (xs : List X) →
    position_from p i (take (suc bound) xs) ≡ Some at → i + gone < at →
    position_from p i (take bound (remove xs gone)) ≡ Some (at - 1)
removed_from p i gone bound at [] e l = cc
removed_from {X} p i zero bound at (x ∷ xs) e l = by (p x) e
  where
    by : (b : Bool) → cond b (Some i) (position_from p (i + 1) (take bound xs)) ≡ Some at →
        position_from p i (take bound xs) ≡ Some (at - 1)
    by true f = let same : i ≡ at = grind (arith, f) in absurd (omega arith)
    by false f = earlier_from p i at (take bound xs) f
removed_from {X} p i (suc gone) zero at (x ∷ xs) e l = by (p x) e
  where
    by : (b : Bool) → cond b (Some i) None ≡ Some at → None ≡ Some (at - 1)
    by true f = let same : i ≡ at = grind (arith, f) in absurd (omega arith)
    by false f = cc
removed_from {X} p i (suc gone) (suc bound) at (x ∷ xs) e l =
    by (p x) (λ f. removed_from p (i + 1) gone bound at xs f (omega arith)) e
  where
    by : (b : Bool) → (position_from p (i + 1) (take (suc bound) xs) ≡ Some at →
        position_from p (i + 1) (take bound (remove xs gone)) ≡ Some (at - 1)) →
        cond b (Some i) (position_from p (i + 1) (take (suc bound) xs)) ≡ Some at →
        cond b (Some i) (position_from p (i + 1) (take bound (remove xs gone))) ≡ Some (at - 1)
    by true rest f = let same : i ≡ at = grind (arith, f) in absurd (omega arith)
    by false rest f = rest f

get_removed : {X : Type 0} (xs : List X) (gone at : ℕ) → gone ≤ at →
    slice_get (remove xs gone) at ≡ slice_get xs (suc at)
get_removed [] zero at l = refl
get_removed [] (suc gone) at l = refl
get_removed (x ∷ xs) zero at l = refl
get_removed (x ∷ xs) (suc gone) zero l = absurd (omega arith)
get_removed (x ∷ xs) (suc gone) (suc at) l = get_removed xs gone at (omega arith)

removed_by : (pending : List PendingAccess) (gone at other : ℕ) (found : Option PendingAccess) →
    option_map_or (λ (one : PendingAccess). position (gives_way one) (take (suc at) pending)) found None ≡ Some other →
    gone < other →
    option_map_or (λ (one : PendingAccess). position (gives_way one) (take at (remove pending gone))) found None
    ≡ Some (other - 1)
removed_by pending gone at other None e l = cc
removed_by pending gone at other (Some one) e l =
    position_from-zero (gives_way one) (take at (remove pending gone))
    ∙ removed_from (gives_way one) 0 gone at other pending
    (sym (position_from-zero (gives_way one) (take (suc at) pending)) ∙ e) (omega arith)

-- a link between accesses behind one that goes
link_removed : (pending : List PendingAccess) (gone at other : ℕ) → first_in_way pending at ≡ Some other →
    gone < other → first_in_way (remove pending gone) (at - 1) ≡ Some (other - 1)
link_removed pending gone zero other e l =
    let earlier = gives_way_to_earlier pending 0 other e in absurd (omega arith)
link_removed pending gone (suc at) other e l =
    let earlier = gives_way_to_earlier pending (suc at) other e in
    let same : suc at - 1 ≡ at = omega arith in
    rw (same, get_removed pending gone at (omega arith))
    (removed_by pending gone at other (slice_get pending (suc at)) e l)

-- a way does not end behind its beginning
pub ends_before : (pending : List PendingAccess) (start : ℕ) (gaps : List ℕ) (end : ℕ) →
    leads pending start gaps end → end ≤ start
ends_before pending start [] end l = omega arith
ends_before pending start (gap ∷ gaps) end (small, link, rest) =
    let before = ends_before pending (start - gap) gaps end rest in
    omega arith

-- it leads to the same access
pub same_way : (pending : List PendingAccess) (start : ℕ) (gaps : List ℕ) (end : ℕ) →
    leads pending start gaps end → way pending start ≡ way pending end
same_way pending start [] end l = ap (way pending) l
same_way pending start (gap ∷ gaps) end (small, link, rest) =
    way_step pending start ∙ ap (λ (found : Option ℕ). option_map_or (way pending) found start) link
    ∙ same_way pending (start - gap) gaps end rest

-- one link more
pub led_on : (pending : List PendingAccess) (start : ℕ) (gaps : List ℕ) (mid earlier : ℕ) →
    leads pending start gaps mid → earlier < mid → first_in_way pending mid ≡ Some earlier →
    leads pending start (gaps ++ (mid - earlier) ∷ []) earlier
led_on pending start [] mid earlier l before link =
    let back : mid - (mid - earlier) ≡ earlier = omega arith in
    rw l (omega arith, link ∙ ap Some (sym back), back)
led_on pending start (gap ∷ gaps) mid earlier (small, here, rest) before link =
    (small, here, led_on pending (start - gap) gaps mid earlier rest before link)

-- the last link leads back to the end, from a place that is not behind the beginning
pub last_gap : (pending : List PendingAccess) (start : ℕ) (gaps : List ℕ) (gap end : ℕ) →
    leads pending start (gaps ++ gap ∷ []) end → (0 < gap) × (end + gap ≤ start)
last_gap pending start [] gap end (small, link, same) =
    let earlier = gives_way_to_earlier pending start (start - gap) link in (omega arith, omega arith)
last_gap pending start (first ∷ gaps) gap end (small, link, rest) =
    let last = last_gap pending (start - first) gaps gap end rest in
    let before = last.1 in
    (last.0, omega arith)

-- where the access at the end goes, the way ends at the one before it
pub led_without : (pending : List PendingAccess) (start : ℕ) (gaps : List ℕ) (gap end : ℕ) →
    leads pending start (gaps ++ gap ∷ []) end → leads (remove pending end) (start - 1) gaps (end + gap - 1)
led_without pending start [] gap end (small, link, same) = omega arith
led_without pending start (first ∷ gaps) gap end (small, link, rest) =
    let last = last_gap pending (start - first) gaps gap end rest in
    let leads_back = last.0 in
    let before = last.1 in
    let earlier = gives_way_to_earlier pending start (start - first) link in
    let same : start - first - 1 ≡ start - 1 - first = omega arith in (
      omega arith,
      link_removed pending end start (start - first) link (omega arith) ∙ ap Some same,
      subst (λ (from : ℕ). leads (remove pending end) from gaps (end + gap - 1)) same
          (led_without pending (start - first) gaps gap end rest),
    )

get_more : (pending more : List PendingAccess) (at : ℕ) (one : PendingAccess) → slice_get pending at ≡ Some one →
    (slice_get (pending ++ more) at ≡ Some one) × (at < length pending)
get_more [] more at one e = cc
get_more (x ∷ pending) more zero one e = (e, omega arith)
get_more (x ∷ pending) more (suc at) one e =
    let rest = get_more pending more at one e in (rest.0, omega arith)

linked_by : (pending more : List PendingAccess) (at other : ℕ) (found : Option PendingAccess) →
    slice_get pending at ≡ found →
    option_map_or (λ (one : PendingAccess). position (gives_way one) (take at pending)) found None ≡ Some other →
    first_in_way (pending ++ more) at ≡ Some other
linked_by pending more at other None here e = cc
linked_by pending more at other (Some one) here e =
    let stands = get_more pending more at one here in
    let within = stands.1 in
    let taken : take at (pending ++ more) ≡ take at pending = take-append-le at pending more (omega arith) in
    rw (stands.0, taken) e

-- accesses that come behind change no way
pub led_more : (pending more : List PendingAccess) (start : ℕ) (gaps : List ℕ) (end : ℕ) →
    leads pending start gaps end → leads (pending ++ more) start gaps end
led_more pending more start [] end l = l
led_more pending more start (gap ∷ gaps) end (small, link, rest) = (
  small,
  linked_by pending more start (start - gap) (slice_get pending start) refl link,
  led_more pending more (start - gap) gaps end rest,
)
