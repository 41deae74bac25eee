-- The live window of a name, and the class of a load or a store on it where it is dynamic.
use Rattle.std.proofs.Common.{◌≡◌, ℕ, Bool, true, false, not, ◌==◌, cond, List, [], ◌∷◌, Option, Some, None, refl}
use Rattle.std.proofs.Common.{IfSome}
use Rattle.std.specs.Prelude.{Ok, Err}
use Rattle.std.proofs.lemmas.Bool.{eqb-true}
use Rattle.std.specs.List.{find}
use Rattle.std.specs.Option.{option_map_or}
use Rattle.rma_types.specs.declared.calls.Flavor.TheVariants.{Dynamic}
use Rattle.rma_types.specs.declared.classes.Class.TheVariants.{Win, Disp, Range as RangeClass}
use Rattle.rma_types.specs.declared.actions.Transfer.{Transfer}
use Rattle.rma_types.specs.declared.actions.Target.TheVariants.{Own}
use Rattle.call_rules.specs.Ranks.{natural}
use Rattle.rank_rules.specs.Classes.{first_class}
use Rattle.rank_rules.specs.Ranges.{covers}
use Rattle.rank_rules.specs.Windows.{Window, RankWindows, is_same_flavor, part_at, no_part, attached_to}
use Rattle.rank_rules.specs.WindowTests.{has_rank_and_count, is_misplaced, place_tests}
use Rattle.window_regions.specs.Places.{address_on, class_attached, elements_in}
use Rattle.window_regions.specs.declared.places.Range.{Range}

has_name : (win : ℕ) (window : Window) (rest : Option Window) (b : Bool) → window.win == win ≡ b →
    IfSome rest (λ (window : Window). window.win ≡ win) →
    IfSome (cond b (Some window) rest) (λ (window : Window). window.win ≡ win)
has_name win window rest true e others = eqb-true window.win win e
has_name win window rest false e others = others

-- the window that is found has the name that was looked for
pub named : (win : ℕ) (windows : List Window) →
    IfSome (find (λ (window : Window). window.win == win) windows) (λ (window : Window). window.win ≡ win)
named win [] = tt
named win (x ∷ xs) = has_name win x (find (λ (window : Window). window.win == win) xs) (x.win == win) refl
    (named win xs)

class_covered : (b : Bool) → cond b None (Some RangeClass) ≡ first_class ((false, Disp) ∷ (not b, RangeClass) ∷ [])
class_covered true = refl
class_covered false = refl

class_of_attached : (misplaced : Bool) (is_attached : ℕ → ℕ → Bool) (range : Range) →
    class_attached is_attached (option_map_or (λ class. Err class) (first_class ((misplaced, Disp) ∷ [])) (Ok range)) ≡
    first_class ((misplaced, Disp) ∷ (not (is_attached range.lo range.len), RangeClass) ∷ [])
class_of_attached true is_attached range = refl
class_of_attached false is_attached range = class_covered (is_attached range.lo range.len)

-- the class of a load or a store on a dynamic window
pub attached : (known : RankWindows) (t : Transfer) (o : Option Window) → t.target ≡ Own →
    has_rank_and_count known.ranks t ≡ true →
    option_map_or (λ (window : Window). is_same_flavor window.flavor Dynamic) o false ≡ true →
    IfSome o (λ (window : Window). (rank : ℕ) → part_at window.parts rank ≡ no_part) →
    IfSome o (λ (window : Window). window.win ≡ t.win) →
    class_attached (covers (attached_to known t.win)) (address_on t.disp t.dtype (natural t.count)) ≡
    first_class (option_map_or (λ (window : Window). place_tests known window t) o ((true, Win) ∷ []))
attached known t None at h dynamic none name = absurd (cc)
attached known t (Some window) at h dynamic none name = rw (h, dynamic, at, none known.rank, name)
    (class_of_attached (is_misplaced no_part t.disp t.dtype) (covers (attached_to known t.win))
    (elements_in no_part t.disp t.dtype (natural t.count)))
