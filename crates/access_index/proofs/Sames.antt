-- Keys that are equal by their test are one.
use Rattle.std.proofs.Common.{◌≡◌, true, refl, rules}
use Rattle.std.specs.Prelude.{◌&&◌, ◌==◌}
use Rattle.std.specs.Bool.{beq}
use Rattle.std.proofs.lemmas.Bool.{and_parts, and_from, eqb-true, eq-eqb, false≢true}
use Rattle.list_laws.proofs.Truths.{bool_same, bool_self}
use Rattle.access_index.specs.contracts.regions.Cast.{the_type as cast_type}
use denote.Enum.Bare.{sameb, same_true}
use Rattle.access_index.specs.declared.regions.Cast.{Cast}
use Rattle.access_index.specs.declared.regions.Cast.TheVariants.{Update, Swap, Read, Store, Load}
use Rattle.access_index.specs.declared.regions.Class.{Class}
use Rattle.access_index.specs.declared.regions.Group.{Group}
use Rattle.access_index.specs.declared.regions.Region.{Region}
use Rattle.access_index.specs.declared.regions.Region.TheVariants.{Block, Window}
use Rattle.access_index.specs.Lists.{group_eq, region_eq}

pub region_self : (a : Region) → region_eq a a ≡ true
region_self (Block target block) = and_from (target == target) (block == block) (eq-eqb target target refl)
    (eq-eqb block block refl)
region_self (Window target window) = and_from (target == target) (window == window) (eq-eqb target target refl)
    (eq-eqb window window refl)

pub region_same : (a b : Region) → region_eq a b ≡ true → a ≡ b
region_same (Block t k) (Block u m) e =
    let parts = and_parts (t == u) (k == m) e in
    let first : t ≡ u = eqb-true t u parts.0 in
    let second : k ≡ m = eqb-true k m parts.1 in
    λ i. Block (first i) (second i)
region_same (Block t k) (Window u m) e = absurd (false≢true e)
region_same (Window t k) (Block u m) e = absurd (false≢true e)
region_same (Window t k) (Window u m) e =
    let parts = and_parts (t == u) (k == m) e in
    let first : t ≡ u = eqb-true t u parts.0 in
    let second : k ≡ m = eqb-true k m parts.1 in
    λ i. Window (first i) (second i)

cast_self : (a : Cast) → sameb cast_type a a ≡ true
cast_self Update = refl
cast_self Swap = refl
cast_self Read = refl
cast_self Store = refl
cast_self Load = refl

pub group_self : (a : Group) → group_eq a a ≡ true
group_self a =
    let c = a.class in
    let ends = and_from (c.from == c.from) (c.to == c.to) (eq-eqb c.from c.from refl) (eq-eqb c.to c.to refl) in
    let bytes = and_from (beq c.begins c.begins) (c.from == c.from && c.to == c.to) (bool_self c.begins) ends in
    let does = and_from (sameb cast_type c.cast c.cast) (beq c.begins c.begins && (c.from == c.from && c.to == c.to))
    (cast_self c.cast) bytes in
    and_from (region_eq a.region a.region) (c.rank == c.rank && (sameb cast_type c.cast c.cast
    && (beq c.begins c.begins && (c.from == c.from && c.to == c.to)))) (region_self a.region)
    (and_from (c.rank == c.rank) (sameb cast_type c.cast c.cast
    && (beq c.begins c.begins && (c.from == c.from && c.to == c.to))) (eq-eqb c.rank c.rank refl) does)

class_same : (a b : Class) → (a.rank == b.rank && (sameb cast_type a.cast b.cast
    && (beq a.begins b.begins && (a.from == b.from && a.to == b.to)))) ≡ true → a ≡ b
class_same a b e =
    let one = and_parts (a.rank == b.rank) (sameb cast_type a.cast b.cast
    && (beq a.begins b.begins && (a.from == b.from && a.to == b.to))) e in
    let two = and_parts (sameb cast_type a.cast b.cast)
    (beq a.begins b.begins && (a.from == b.from && a.to == b.to)) one.1 in
    let three = and_parts (beq a.begins b.begins) (a.from == b.from && a.to == b.to) two.1 in
    let four = and_parts (a.from == b.from) (a.to == b.to) three.1 in
    let rank : a.rank ≡ b.rank = eqb-true a.rank b.rank one.0 in
    let cast : a.cast ≡ b.cast = same_true cast_type (search rules) a.cast b.cast two.0 in
    let begins : a.begins ≡ b.begins = bool_same a.begins b.begins three.0 in
    let from : a.from ≡ b.from = eqb-true a.from b.from four.0 in
    let to : a.to ≡ b.to = eqb-true a.to b.to four.1 in
    λ i. record { rank = rank i; cast = cast i; begins = begins i; from = from i; to = to i }

pub group_same : (a b : Group) → group_eq a b ≡ true → a ≡ b
group_same a b e =
    let c = a.class in
    let d = b.class in
    let parts = and_parts (region_eq a.region b.region) (c.rank == d.rank && (sameb cast_type c.cast d.cast
    && (beq c.begins d.begins && (c.from == d.from && c.to == d.to)))) e in
    let region : a.region ≡ b.region = region_same a.region b.region parts.0 in
    let class : a.class ≡ b.class = class_same c d parts.1 in
    λ i. record { region = region i; class = class i }
