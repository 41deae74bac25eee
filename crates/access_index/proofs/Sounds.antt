-- Tables of accesses that get one access more.
use Rattle.std.proofs.Common.{◌≡◌, ℕ, ◌<◌, ◌≤◌, inl, inr, List, [], ◌∷◌, ◌++◌, length, sym, subst, arith}
use Rattle.std.specs.Prelude.{Contains, cond}
use Rattle.rma_types.specs.declared.accesses.Access.{Access}
use Rattle.access_index.specs.Indexes.{AreFound, BelongsTo, IsLast, IsRising, IsSound}
use Rattle.access_index.specs.Lists.{classes_in, group_eq, ordinals_in}
use Rattle.access_index.specs.declared.index.AccessIndex.{AccessIndex}
use Rattle.access_index.specs.declared.regions.Class.{Class}
use Rattle.access_index.specs.declared.regions.Group.{Group}
use Rattle.access_index.specs.declared.regions.Region.{Region}
use Rattle.access_index.proofs.Puts.{either, was}
use Rattle.access_index.proofs.Rises.{rising_push}
use Rattle.access_index.proofs.Sames.{group_same, group_self}

module _ (old next : AccessIndex) (group : Group) (ordinal : ℕ)
    (put : (other : Group) → ordinals_in next.ordinals other
    ≡ cond (group_eq group other) (ordinals_in old.ordinals group ++ ordinal ∷ []) (ordinals_in old.ordinals other))
  where
    pub sound_more : (rows : ℕ → List Access) → IsSound old rows →
        ((region : Region) (class : Class) → Contains (classes_in old.classes region) class →
        Contains (classes_in next.classes region) class) →
        Contains (classes_in next.classes group.region) group.class → AreFound next →
        BelongsTo rows group ordinal → IsLast rows group ordinal → IsSound next rows
    sound_more rows sound kept here found one last = record {
      belongs = λ other o has. elim (was group_eq group_same group_self (ordinals_in old.ordinals)
          (ordinals_in next.ordinals) group ordinal put other o has) [
            | inl before ↦ sound.belongs other o before
            | inr now ↦ subst (λ (n : ℕ). BelongsTo rows other n) now.1
                (subst (λ (g : Group). BelongsTo rows g ordinal) now.0 one)
          ];
      rises = λ other. elim (either group_eq group_same group_self (ordinals_in old.ordinals)
          (ordinals_in next.ordinals) group ordinal put other) [
            | inl more ↦ subst IsRising (sym more.1) (rising_push (ordinals_in old.ordinals other) ordinal
                (sound.rises other) (λ o has. most other o more.0 (sound.belongs other o has)))
            | inr same ↦ subst IsRising (sym same) (sound.rises other)
          ];
      classes = λ other o has. elim (was group_eq group_same group_self (ordinals_in old.ordinals)
          (ordinals_in next.ordinals) group ordinal put other o has) [
            | inl before ↦ kept other.region other.class (sound.classes other o before)
            | inr now ↦
                subst (λ (g : Group). Contains (classes_in next.classes g.region) g.class) now.0 here
          ];
      regions = found;
    }
      where
        most : (other : Group) (o : ℕ) → group ≡ other → BelongsTo rows other o → o ≤ ordinal
        most other o same belongs =
            let low : o < length (rows group.class.rank) =
            subst (λ (g : Group). o < length (rows g.class.rank)) (sym same) belongs.there in
            omega (arith, low, last)
