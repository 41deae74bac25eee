-- Touches after touches: what was made first and what was made then, together.
use Rattle.std.proofs.Common.{◌≡◌, ◌≤◌, List, [], ◌∷◌, ◌++◌, length, refl, sym, ap, ◌∙◌, subst, arith, Option, Some}
use Rattle.std.proofs.Common.{None, IfSome, append_assoc, length-append}
use Rattle.std.specs.List.{AllByRecursion}
use Rattle.std.specs.Option.{option_map}
use Rattle.list_laws.proofs.Each.{each_append}
use Rattle.call_rules.specs.declared.cells.Cell.{Cell}
use Rattle.call_rules.specs.Touches.{cells_after}
use Rattle.cell_face.specs.Faces.{Face, Update, low_at}
use Rattle.access_steps.specs.TouchesMade.{MadeTouch, place_after, update_by, updates_of, Follows, IsInOrder}
use Rattle.access_steps.specs.TouchesMade.{cells_left, SeesEach, TouchesMade}

-- a fact of each element from another one
pub all_map : {X : Type 0} (P Q : X → Type 0) (f : (x : X) → P x → Q x) (xs : List X) → AllByRecursion P xs →
    AllByRecursion Q xs
all_map P Q f [] a = tt
all_map P Q f (x ∷ xs) a = (f x a.0, all_map P Q f xs a.1)

pub updates_of-append : (xs ys : List MadeTouch) → updates_of (xs ++ ys) ≡ updates_of xs ++ updates_of ys
updates_of-append [] ys = refl
updates_of-append (x ∷ xs) ys =
    ap (λ us. update_by x.plan.cell x.seen x.plan.change ++ us) (updates_of-append xs ys)
    ∙ sym (append_assoc (update_by x.plan.cell x.seen x.plan.change) (updates_of xs) (updates_of ys))

pub cells_left-append : (cells : List Cell) (xs ys : List MadeTouch) → cells_left cells (xs ++ ys) ≡ cells_left
    (cells_left cells xs) ys
cells_left-append cells [] ys = refl
cells_left-append cells (x ∷ xs) ys = cells_left-append (cells_after cells x.plan.cell x.plan.change) xs ys

SeesEach-append : (cells : List Cell) (xs ys : List MadeTouch) → SeesEach cells xs → SeesEach (cells_left cells xs) ys →
    SeesEach cells (xs ++ ys)
SeesEach-append cells [] ys a b = b
SeesEach-append cells (x ∷ xs) ys a b = (a.0, SeesEach-append (cells_after cells x.plan.cell x.plan.change) xs ys a.1 b)

-- no touch that was made first forbids one that was made then
follow : (middle : Face) (x : MadeTouch) → place_after x ≤ low_at middle x.plan.cell → (y : MadeTouch) →
    low_at middle y.plan.cell ≤ y.seen.place → Follows x y
follow middle x high y low same = omega (arith, ap (low_at middle) same)

IsInOrder-append : (middle : Face) (xs ys : List MadeTouch) → IsInOrder xs → IsInOrder ys →
    AllByRecursion (λ touch. place_after touch ≤ low_at middle touch.plan.cell) xs →
    AllByRecursion (λ touch. low_at middle touch.plan.cell ≤ touch.seen.place) ys → IsInOrder (xs ++ ys)
IsInOrder-append middle [] ys a b high low = b
IsInOrder-append middle (x ∷ xs) ys a b high low = (
  each_append (Follows x) xs ys a.0 (all_map (λ touch. low_at middle touch.plan.cell ≤ touch.seen.place) (Follows x)
      (follow middle x high.0) ys low),
  IsInOrder-append middle xs ys a.1 b high.1 low,
)

updates_twice : (made : Option (List Update)) (us vs : List Update) →
    option_map (λ made. made ++ vs) (option_map (λ made. made ++ us) made) ≡ option_map (λ made. made ++ (us ++ vs))
    made
updates_twice None us vs = refl
updates_twice (Some made) us vs = ap (λ (it : List Update). Some it) (append_assoc made us vs)

told_twice : (told : Option (List Cell)) (xs ys : List MadeTouch) →
    option_map (λ cells. cells_left cells ys) (option_map (λ cells. cells_left cells xs) told) ≡ option_map
    (λ cells. cells_left cells (xs ++ ys)) told
told_twice None xs ys = refl
told_twice (Some cells) xs ys = ap (λ (it : List Cell). Some it) (sym (cells_left-append cells xs ys))

states_twice : (told : Option (List Cell)) (xs ys : List MadeTouch) → IfSome told (λ cells. SeesEach cells xs) →
    IfSome (option_map (λ cells. cells_left cells xs) told) (λ cells. SeesEach cells ys) →
    IfSome told (λ cells. SeesEach cells (xs ++ ys))
states_twice None xs ys a b = tt
states_twice (Some cells) xs ys a b = SeesEach-append cells xs ys a b

-- two lists of touches, one made after the other
pub TouchesMade-append : (before middle after : Face) (xs ys : List MadeTouch) →
    TouchesMade before middle xs → TouchesMade middle after ys → TouchesMade before after (xs ++ ys)
TouchesMade-append before middle after xs ys first then = record {
  stays = record {
    cells = then.stays.cells ∙ first.stays.cells;
    lows = λ cell. omega (arith, first.stays.lows cell, then.stays.lows cell);
    grant = then.stays.grant ∙ first.stays.grant;
    name = then.stays.name ∙ first.stays.name;
  };
  share = omega (
    arith,
    ap length (updates_of-append xs ys),
    length-append (updates_of xs) (updates_of ys),
    first.share,
    then.share,
  );
  updates = then.updates ∙ (ap (option_map (λ made. made ++ updates_of ys)) first.updates
      ∙ (updates_twice before.updates (updates_of xs) (updates_of ys)
      ∙ ap (λ (us : List Update). option_map (λ made. made ++ us) before.updates) (sym (updates_of-append xs ys))));
  told = then.told ∙ (ap (option_map (λ cells. cells_left cells ys)) first.told ∙ told_twice before.told xs ys);
  states = states_twice before.told xs ys first.states
      (subst (λ (told : Option (List Cell)). IfSome told (λ cells. SeesEach cells ys)) first.told then.states);
  not_below = each_append (λ touch. low_at before touch.plan.cell ≤ touch.seen.place) xs ys first.not_below
      (all_map (λ touch. low_at middle touch.plan.cell ≤ touch.seen.place)
      (λ touch. low_at before touch.plan.cell ≤ touch.seen.place)
      (λ touch low. omega (arith, first.stays.lows touch.plan.cell)) ys then.not_below);
  raised = each_append (λ touch. place_after touch ≤ low_at after touch.plan.cell) xs ys
      (all_map (λ touch. place_after touch ≤ low_at middle touch.plan.cell)
      (λ touch. place_after touch ≤ low_at after touch.plan.cell)
      (λ touch high. omega (arith, then.stays.lows touch.plan.cell)) xs first.raised) then.raised;
  order = IsInOrder-append middle xs ys first.order then.order first.raised then.not_below;
}
