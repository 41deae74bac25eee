-- Options.
use Rattle.std.proofs.Common.{Option, ◌≡◌, false, None, refl, Some, IfSome, ℕ, Bool, true}
use Rattle.std.proofs.lemmas.Bool.{false≢true}
use Rattle.std.specs.Option.{option_map_or}
use Rattle.std.specs.Prelude.{is_some, IsSomeAnd}

pub none_of : {X : Type 0} (o : Option X) → is_some o ≡ false → o ≡ None
none_of None e = refl
none_of (Some x) e = absurd (cc e)

pub some_and : {X : Type 0} {P : X → Type 0} (o : Option X) → IsSomeAnd o P → (x : X) × (o ≡ Some x) × P x
some_and None h = absurd h
some_and (Some x) h = (x, refl, h)

pub if_some_weaker : {X : Type 0} (P Q : X → Type 0) → ((x : X) → P x → Q x) → (o : Option X) → IfSome o P → IfSome o Q
if_some_weaker P Q so None given = given
if_some_weaker P Q so (Some x) given = so x given

pub none_there : (o : Option ℕ) → is_some o ≡ false → o ≡ None
none_there None h = refl
none_there (Some x) h = absurd cc

-- a test that is true of what there is: there is something, and the test is true of it
pub some_of : {X : Type 0} (p : X → Bool) (o : Option X) → option_map_or p o false ≡ true → (x : X) × (o ≡ Some x)
    × (p x ≡ true)
some_of p None h = absurd (false≢true h)
some_of p (Some x) h = (x, refl, h)
