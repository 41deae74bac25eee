-- Where an access is listed.
use Rattle.std.proofs.Common.{◌≡◌, ℕ, ◌+◌, ◌*◌, ◌<◌, ◌≤◌, ◌⊎◌, inl, inr, true, List, [], ◌∷◌, ◌++◌}
use Rattle.std.proofs.Common.{length, get_or, refl, ap, sym, subst, ◌∙◌, arith}
use Rattle.std.specs.Prelude.{Contains, if◌then◌else◌, replicate, slice_index, slice_set}
use Rattle.std.proofs.lemmas.Bool.{cases_eq, cases_lt, eq-eqb, ne_eqb}
use Rattle.std.proofs.lemmas.List.{get_or_append_left, get_or_push, get_or-set_other, get_or-set_same, length-append}
use Rattle.list_laws.proofs.Lists.{zeros}
use Rattle.rma_types.specs.declared.accesses.Access.{Access}
use Rattle.access_index.specs.Indexes.{BelongsTo, HasAccesses, IsComplete, IsSound, KeepsListed, access_at, block_group}
use Rattle.access_index.specs.Indexes.{no_access, window_group, with_access}
use Rattle.access_index.specs.Lists.{classes_in, ordinals_in}
use Rattle.access_index.specs.Regions.{IsIn, cast_of, is_update}
use Rattle.access_index.specs.declared.index.AccessIndex.{AccessIndex}
use Rattle.access_index.specs.declared.regions.Class.{Class}
use Rattle.access_index.specs.declared.regions.Group.{Group}
use Rattle.access_index.specs.declared.regions.Region.{Region}
use Rattle.access_index.specs.declared.regions.Region.TheVariants.{Block, Window}

-- ---- no accesses

none : {X : Type 0} (x : X) (xs : List X) → xs ≡ [] → Contains xs x → ⊥
none x xs empty has = absurd (omega (arith, has.1, ap length empty))

pub empty_index : (index : AccessIndex) → index.counts ≡ replicate 256 0 →
    ((region : Region) → classes_in index.classes region ≡ []) →
    ((group : Group) → ordinals_in index.ordinals group ≡ []) → HasAccesses index (λ rank. [])
empty_index index counts classes ordinals = record {
  counted = λ rank low. ap (λ l. slice_index l rank) counts ∙ zeros 256 rank;
  sound = record {
    belongs = λ group o has. absurd (none o (ordinals_in index.ordinals group) (ordinals group) has);
    rises = λ group i j order within. absurd (omega (arith, within, ap length (ordinals group)));
    classes = λ group o has. absurd (none o (ordinals_in index.ordinals group) (ordinals group) has);
    regions = λ region class has. absurd (none class (classes_in index.classes region) (classes region) has);
  };
  complete = λ group o one. absurd (omega (arith, one.there));
}

-- ---- one access

-- an access is in the group of its block, and of its window
belongs_in : (index : AccessIndex) (rank ordinal : ℕ) (a : Access) →
    ((block : ℕ) → a.lo < 4 * block + 4 → 4 * block < a.lo + a.len →
    Contains (ordinals_in index.ordinals (block_group block rank a)) ordinal) →
    (is_update (cast_of a.kind) ≡ true → Contains (ordinals_in index.ordinals (window_group rank a)) ordinal) →
    (region : Region) (class : Class) → IsIn region class rank a →
    Contains (ordinals_in index.ordinals (record { region = region; class = class })) ordinal
belongs_in index rank ordinal a blocks window (Block target block) class (inside, same) =
    subst (λ (g : Group). Contains (ordinals_in index.ordinals g) ordinal)
    (λ i. record { region = Block (inside.target_of i) block; class = sym same i })
    (blocks block inside.begun inside.still_open)
belongs_in index rank ordinal a blocks window (Window target number) class (inside, same) =
    subst (λ (g : Group). Contains (ordinals_in index.ordinals g) ordinal)
    (λ i. record { region = Window (inside.target_of i) (inside.window_of i); class = sym same i })
    (window inside.updates)

pub listed_in : (index : AccessIndex) (rank ordinal : ℕ) (a : Access) →
    ((block : ℕ) → a.lo < 4 * block + 4 → 4 * block < a.lo + a.len →
    Contains (ordinals_in index.ordinals (block_group block rank a)) ordinal) →
    (is_update (cast_of a.kind) ≡ true → Contains (ordinals_in index.ordinals (window_group rank a)) ordinal) →
    (rows : ℕ → List Access) → access_at rows rank ordinal ≡ a → (group : Group) → group.class.rank ≡ rank →
    BelongsTo rows group ordinal → Contains (ordinals_in index.ordinals group) ordinal
listed_in index rank ordinal a blocks window rows is group of_rank one =
    belongs_in index rank ordinal a blocks window group.region group.class
    (subst (λ (x : Access). IsIn group.region group.class rank x) is
    (subst (λ (r : ℕ). IsIn group.region group.class r (access_at rows r ordinal)) of_rank one.placed))

-- an access without a byte is nowhere
nowhere : (region : Region) (class : Class) (rank : ℕ) (a : Access) → a.len ≤ 0 → IsIn region class rank a → ⊥
nowhere (Block target block) class rank a empty inside = absurd (omega (arith, empty, inside.0.any))
nowhere (Window target window) class rank a empty inside = absurd (omega (arith, empty, inside.0.any))

pub listed_nowhere : (index : AccessIndex) (rank ordinal : ℕ) (a : Access) → a.len ≤ 0 →
    (rows : ℕ → List Access) → access_at rows rank ordinal ≡ a → (group : Group) → group.class.rank ≡ rank →
    BelongsTo rows group ordinal → Contains (ordinals_in index.ordinals group) ordinal
listed_nowhere index rank ordinal a empty rows is group of_rank one =
    absurd (nowhere group.region group.class rank a empty
    (subst (λ (x : Access). IsIn group.region group.class rank x) is
    (subst (λ (r : ℕ). IsIn group.region group.class r (access_at rows r ordinal)) of_rank one.placed)))

-- ---- the accesses with one more

module _ (rows : ℕ → List Access) (rank : ℕ) (a : Access) where
  pub rows_same : with_access rows rank a rank ≡ rows rank ++ a ∷ []
  rows_same = ap (λ b. if b then rows rank ++ a ∷ [] else rows rank) (eq-eqb rank rank refl)

  rows_other : (other : ℕ) → (other ≡ rank → ⊥) → with_access rows rank a other ≡ rows other
  rows_other other different = ap (λ b. if b then rows other ++ a ∷ [] else rows other) (ne_eqb other rank different)

  -- an ordinal of one of them is an earlier one, or that of the last
  pub earlier_or_last : (other o : ℕ) → o < length (with_access rows rank a other) →
      ((o < length (rows other)) × (access_at (with_access rows rank a) other o ≡ access_at rows other o))
      ⊎ ((other ≡ rank) × (o ≡ length (rows rank)))
  earlier_or_last other o within = elim (cases_eq other rank) [
    | inl same ↦
        let here : with_access rows rank a other ≡ rows other ++ a ∷ [] =
        subst (λ r. with_access rows rank a r ≡ rows r ++ a ∷ []) (sym same) rows_same in
        let long = ap length here ∙ length-append (rows other) (a ∷ []) in
        elim (cases_lt o (length (rows other))) [
          | inl low ↦ inl (
            low,
            ap (λ l. get_or l o no_access) here
                ∙ get_or_append_left (rows other) (a ∷ []) no_access o low,
          )
          | inr high ↦
              let last : o ≡ length (rows other) = omega (arith, high, within, long) in
              inr (same, subst (λ r. o ≡ length (rows r)) same last)
        ]
    | inr different ↦
        let here = rows_other other different in
        inl (subst (λ (l : List Access). o < length l) here within, ap (λ l. get_or l o no_access) here)
  ]

  -- the earlier ones stay
  pub stays : (other o : ℕ) → o < length (rows other) →
      (o < length (with_access rows rank a other))
      × (access_at (with_access rows rank a) other o ≡ access_at rows other o)
  stays other o within = elim (cases_eq other rank) [
    | inl same ↦
        let here : with_access rows rank a other ≡ rows other ++ a ∷ [] =
        subst (λ r. with_access rows rank a r ≡ rows r ++ a ∷ []) (sym same) rows_same in
        let long = ap length here ∙ length-append (rows other) (a ∷ []) in (
          omega (arith, within, long),
          ap (λ l. get_or l o no_access) here
              ∙ get_or_append_left (rows other) (a ∷ []) no_access o within,
        )
    | inr different ↦
        let here = rows_other other different in
        (subst (λ (l : List Access). o < length l) (sym here) within, ap (λ l. get_or l o no_access) here)
  ]

  pub last_is : access_at (with_access rows rank a) rank (length (rows rank)) ≡ a
  last_is = ap (λ l. get_or l (length (rows rank)) no_access) rows_same
      ∙ get_or_push (rows rank) a no_access (length (rows rank)) refl

  pub long_by_one : length (with_access rows rank a rank) ≡ length (rows rank) + 1
  long_by_one = ap length rows_same ∙ length-append (rows rank) (a ∷ [])

  -- the tables as they are, for the accesses with one more
  pub still_sound : (index : AccessIndex) → IsSound index rows → IsSound index (with_access rows rank a)
  still_sound index sound = record {
    belongs = λ group o has.
        let one = sound.belongs group o has in
        let stay = stays group.class.rank o one.there in
        record {
          there = stay.0;
          placed = subst (IsIn group.region group.class group.class.rank) (sym stay.1)
              one.placed;
        };
    rises = sound.rises;
    classes = sound.classes;
    regions = sound.regions;
  }

  pub all_listed : (old next : AccessIndex) → IsComplete old rows → KeepsListed old next →
      ((group : Group) → group.class.rank ≡ rank → BelongsTo (with_access rows rank a) group (length (rows rank)) →
      Contains (ordinals_in next.ordinals group) (length (rows rank))) →
      IsComplete next (with_access rows rank a)
  all_listed old next complete keeps last group o one =
      elim (earlier_or_last group.class.rank o one.there) [
        | inl before ↦ keeps group o (complete group o (record {
          there = before.0;
          placed = subst (IsIn group.region group.class group.class.rank) before.1 one.placed;
        }))
        | inr now ↦ subst (λ n. Contains (ordinals_in next.ordinals group) n) (sym now.1)
            (last group now.0 (subst (BelongsTo (with_access rows rank a) group) now.1 one))
      ]

  pub counted_more : (counts : List ℕ) → length counts ≡ 256 → rank < 256 →
      ((other : ℕ) → other < 256 → slice_index counts other ≡ length (rows other)) →
      (other : ℕ) → other < 256 →
      slice_index (slice_set counts rank (length (rows rank) + 1)) other ≡ length (with_access rows rank a other)
  counted_more counts wide low counted other within = elim (cases_eq other rank) [
    | inl same ↦ subst (λ r. slice_index (slice_set counts rank (length (rows rank) + 1)) r
        ≡ length (with_access rows rank a r)) (sym same)
        (get_or-set_same counts rank (length (rows rank) + 1) 0 (omega (arith, low, wide)) ∙ sym long_by_one)
    | inr different ↦
        get_or-set_other counts rank other (length (rows rank) + 1) 0 different
        ∙ counted other within ∙ sym (ap length (rows_other other different))
  ]

-- one access more of a rank, which is listed wherever it belongs
pub seen_more : (rows : ℕ → List Access) (rank : ℕ) (a : Access) (old next : AccessIndex) (ordinal after : ℕ) →
    rank < 256 → length next.counts ≡ 256 → slice_index old.counts rank ≡ ordinal → after ≡ ordinal + 1 →
    next.counts ≡ old.counts → HasAccesses old rows →
    ((all : ℕ → List Access) → IsSound old all → access_at all rank ordinal ≡ a → length (all rank) ≡ ordinal + 1 →
    IsSound next all) →
    KeepsListed old next →
    ((all : ℕ → List Access) → access_at all rank ordinal ≡ a → (group : Group) → group.class.rank ≡ rank →
    BelongsTo all group ordinal → Contains (ordinals_in next.ordinals group) ordinal) →
    HasAccesses (record next { counts = slice_set next.counts rank after }) (with_access rows rank a)
seen_more rows rank a old next ordinal after low wide is later same has sound keeps listed =
    let here : ordinal ≡ length (rows rank) = sym is ∙ has.counted rank low in
    let one_more : after ≡ length (rows rank) + 1 = later ∙ ap (λ n. n + 1) here in
    let last : access_at (with_access rows rank a) rank ordinal ≡ a =
    ap (λ n. access_at (with_access rows rank a) rank n) here ∙ last_is rows rank a in record {
      counted = λ other within.
          ap (λ n. slice_index (slice_set next.counts rank n) other) one_more
          ∙ counted_more rows rank a next.counts wide low
          (λ one bound. ap (λ l. slice_index l one) same ∙ has.counted one bound) other within;
      sound =
          let all = sound (with_access rows rank a) (still_sound rows rank a old has.sound) last
          (long_by_one rows rank a ∙ sym (ap (λ n. n + 1) here)) in record {
            belongs = all.belongs;
            rises = all.rises;
            classes = all.classes;
            regions = all.regions;
          };
      complete = all_listed rows rank a old next has.complete keeps
          (λ group of_rank belongs. subst (λ n. Contains (ordinals_in next.ordinals group) n) here
          (listed (with_access rows rank a) last group of_rank
          (subst (BelongsTo (with_access rows rank a) group) (sym here) belongs)));
    }
