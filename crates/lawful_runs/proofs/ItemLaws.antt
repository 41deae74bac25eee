-- Items that are no touches.
use Rattle.std.proofs.Common.{ℕ, ◌≡◌, false, [], refl}
use Rattle.rma_record.specs.declared.items.Item.{Item}
use Rattle.rma_record.specs.declared.items.Item.TheVariants.{Issue, Null, Touch, Flush, Request, Entry, Tested, Refused}
use Rattle.rma_record.specs.declared.items.Item.TheVariants.{Ended}
use Rattle.lawful_runs.specs.Items.{is_touch}
use Rattle.lawful_runs.specs.TouchLaw.{touch_of}

-- an item that is no touch touches nothing
pub plain_touches_nothing : (index : ℕ) (x : Item) → is_touch x ≡ false → touch_of index x ≡ []
plain_touches_nothing index (Issue number access) h = refl
plain_touches_nothing index (Null number) h = refl
plain_touches_nothing index (Touch issue element cell place bits) h = absurd (cc h)
plain_touches_nothing index (Flush number) h = refl
plain_touches_nothing index (Request number) h = refl
plain_touches_nothing index (Entry number place step) h = refl
plain_touches_nothing index (Tested number seen) h = refl
plain_touches_nothing index (Refused number class seen) h = refl
plain_touches_nothing index Ended h = refl
