-- What one entry more does to the tables of sides and starts.
use Rattle.std.proofs.Common.{◌≡◌, ℕ, ◌+◌, ◌<◌, ◌≤◌, ◌==◌, Bool, true, false, ◌&&◌, cond, List, [], ◌∷◌, ◌++◌, length}
use Rattle.std.proofs.Common.{refl, ap, sym, subst, ◌∙◌, arith, append-nil, ⊎_elim, Option, Some, None}
use Rattle.std.proofs.lemmas.Bool.{cases_eq, true≢false, eqb-true, eq-eqb}
use Rattle.std.proofs.lemmas.Grind.{flat_map-append}
use Rattle.std.proofs.lemmas.List.Elements.{filter-append}
use Rattle.std.proofs.lemmas.List.Sums.{count_by-le-length, length-filter}
use Rattle.std.specs.List.{count_by, filter, flat_map}
use Rattle.std.specs.Option.{option_map_or}
use Rattle.std.specs.Prelude.{slice_index, slice_index_or}
use Rattle.std.proofs.Math.Dec.{eqb}
use Rattle.list_laws.proofs.Truths.{both_left, both_right, same_truth}
use Rattle.call_rules.specs.Ranks.{is_member}
use Rattle.rma_types.specs.declared.actions.Synchronisation.{Synchronisation}
use Rattle.rma_types.specs.Actions.{synchronisation_of}
use Rattle.board_rules.specs.Entries.{Act, is_by_on, synchronisations}
use Rattle.board_rules.specs.Posts.{group_of_post, group_of_start, is_complete, naming}
use Rattle.entry_gains.specs.Ledgers.{HasSameSides, HasSameStarts, IsSide, SetsSide, ordinal, side_key, start_key}
use Rattle.entry_gains.specs.Deeds.{IsGroup}
use Rattle.entry_gains.specs.Tables.{ArePut, counted, ordinals_at, side_at, side_eq, start_eq}
use Rattle.entry_gains.specs.declared.ledger.Ledger.{Ledger}
use Rattle.entry_gains.specs.declared.tables.Side.{Side}
use Rattle.entry_gains.specs.declared.tables.StartKey.{StartKey}
use Rattle.entry_gains.proofs.LedgerSlots.{counted_is}
use Rattle.entry_gains.proofs.SideSteps.{idle_side, length_flat, naming_few, one_start, ordinal_new, ordinal_other}
use Rattle.entry_gains.proofs.SlotLaws.{and_both}

-- ---- lists of entries

-- the synchronisation of an entry, as a list
abbrev pub brought : Act → List Synchronisation
brought act = option_map_or (λ s. s ∷ []) (synchronisation_of act.row.call) []

made_of : (entries : List Act) (act : Act) (rank window : ℕ) (b : Bool) → is_by_on rank window act ≡ b →
    synchronisations (entries ++ act ∷ []) rank window
    ≡ synchronisations entries rank window ++ flat_map brought (cond b (act ∷ []) [])
made_of entries act rank window b is =
    ap (flat_map brought) (filter-append (is_by_on rank window) entries (act ∷ [])
    ∙ ap (λ b. filter (is_by_on rank window) entries ++ cond b (act ∷ []) []) is)
    ∙ flat_map-append brought (filter (is_by_on rank window) entries) (cond b (act ∷ []) [])

pub made_same : (entries : List Act) (act : Act) (rank window : ℕ) → is_by_on rank window act ≡ false →
    synchronisations (entries ++ act ∷ []) rank window ≡ synchronisations entries rank window
made_same entries act rank window is =
    made_of entries act rank window false is ∙ append-nil (synchronisations entries rank window)

pub made_more : (entries : List Act) (act : Act) (rank window : ℕ) → is_by_on rank window act ≡ true →
    synchronisations (entries ++ act ∷ []) rank window ≡ synchronisations entries rank window ++ brought act
made_more entries act rank window is =
    made_of entries act rank window true is
    ∙ ap (λ xs. synchronisations entries rank window ++ xs) (append-nil (brought act))

pub few_made : (entries : List Act) (rank window : ℕ) → length (synchronisations entries rank window) ≤ length entries
few_made entries rank window =
    let a : length (synchronisations entries rank window) ≤ length (filter (is_by_on rank window) entries) =
    length_flat brought (λ act. one (synchronisation_of act.row.call)) (filter (is_by_on rank window) entries) in
    let b : length (filter (is_by_on rank window) entries) ≡ count_by (is_by_on rank window) entries =
    length-filter (is_by_on rank window) entries in
    let c : count_by (is_by_on rank window) entries ≤ length entries =
    count_by-le-length (is_by_on rank window) entries in
    omega arith
  where
    one : (o : Option Synchronisation) → length (option_map_or (λ s. s ∷ []) o []) ≤ 1
    one None = omega arith
    one (Some s) = omega arith

-- the key of a side is that of the entry's rank and window, or not
key_is : (act : Act) (rank window : ℕ) →
    side_eq (side_key act.window act.row.rank) (side_key window rank) ≡ is_by_on rank window act
key_is act rank window = same_truth (side_eq (side_key act.window act.row.rank) (side_key window rank))
    (is_by_on rank window act)
    (λ e. and_both (act.row.rank == rank) (act.window == window)
    (both_right (eqb act.window window) (eqb act.row.rank rank) e)
    (both_left (eqb act.window window) (eqb act.row.rank rank) e))
    (λ e. and_both (eqb act.window window) (eqb act.row.rank rank)
    (both_right (act.row.rank == rank) (act.window == window) e)
    (both_left (act.row.rank == rank) (act.window == window) e))

by_own : (act : Act) → is_by_on act.row.rank act.window act ≡ true
by_own act = and_both (act.row.rank == act.row.rank) (act.window == act.window) (eq-eqb act.row.rank act.row.rank refl)
    (eq-eqb act.window act.window refl)

-- a fact of each rank and window, from that of the entry's and those of the others
each_side : (P : ℕ → ℕ → Type 0) (act : Act) → P act.window act.row.rank →
    ((window rank : ℕ) → is_by_on rank window act ≡ false → P window rank) → (window rank : ℕ) → P window rank
each_side P act own others window rank = of (is_by_on rank window act) refl
  where
    of : (b : Bool) → is_by_on rank window act ≡ b → P window rank
    of true is = subst (λ w. P w rank) (eqb-true act.window window (both_right _ _ is))
        (subst (P act.window) (eqb-true act.row.rank rank (both_left _ _ is)) own)
    of false is = others window rank is

-- ---- sides

pub sides_set : (before after : Ledger) (entries : List Act) (act : Act) (side : Side) →
    SetsSide before after (side_key act.window act.row.rank) side →
    ((window rank : ℕ) → IsSide (synchronisations entries rank window) (side_at before.sides (side_key window rank))) →
    IsSide (synchronisations entries act.row.rank act.window ++ brought act) side →
    (window rank : ℕ) → IsSide (synchronisations (entries ++ act ∷ []) rank window)
    (side_at after.sides (side_key window rank))
sides_set before after entries act side set were new =
    each_side (λ window rank. IsSide (synchronisations (entries ++ act ∷ []) rank window)
    (side_at after.sides (side_key window rank))) act
    (subst (λ made. IsSide made (side_at after.sides (side_key act.window act.row.rank)))
    (sym (made_more entries act act.row.rank act.window (by_own act)))
    (subst (IsSide (synchronisations entries act.row.rank act.window ++ brought act))
    (sym (set (side_key act.window act.row.rank)
    ∙ ap (λ b. cond b side (side_at before.sides (side_key act.window act.row.rank)))
    (key_is act act.row.rank act.window ∙ by_own act))) new))
    (λ window rank other. subst (λ made. IsSide made (side_at after.sides (side_key window rank)))
    (sym (made_same entries act rank window other))
    (subst (IsSide (synchronisations entries rank window))
    (sym (set (side_key window rank) ∙ ap (λ b. cond b side (side_at before.sides (side_key window rank)))
    (key_is act rank window ∙ other))) (were window rank)))

-- no post, start or complete
abbrev pub IsQuiet : Option Synchronisation → Type 0
IsQuiet None = Unit {0}
IsQuiet (Some s) = (group_of_post s ≡ []) × (group_of_start s ≡ []) × (is_complete s ≡ false)

pub sides_kept : (before after : Ledger) (entries : List Act) (act : Act) → HasSameSides before after →
    IsQuiet (synchronisation_of act.row.call) →
    ((window rank : ℕ) → IsSide (synchronisations entries rank window) (side_at before.sides (side_key window rank))) →
    (window rank : ℕ) → IsSide (synchronisations (entries ++ act ∷ []) rank window)
    (side_at after.sides (side_key window rank))
sides_kept before after entries act same quiet were =
    each_side (λ window rank. IsSide (synchronisations (entries ++ act ∷ []) rank window)
    (side_at after.sides (side_key window rank))) act
    (subst (λ made. IsSide made (side_at after.sides (side_key act.window act.row.rank)))
    (sym (made_more entries act act.row.rank act.window (by_own act)))
    (subst (IsSide (synchronisations entries act.row.rank act.window ++ brought act))
    (sym (same (side_key act.window act.row.rank)))
    (of (synchronisation_of act.row.call) quiet (were act.window act.row.rank))))
    (λ window rank other. subst (λ made. IsSide made (side_at after.sides (side_key window rank)))
    (sym (made_same entries act rank window other))
    (subst (IsSide (synchronisations entries rank window)) (sym (same (side_key window rank))) (were window rank)))
  where
    of : (o : Option Synchronisation) → IsQuiet o →
        IsSide (synchronisations entries act.row.rank act.window)
        (side_at before.sides (side_key act.window act.row.rank)) →
        IsSide (synchronisations entries act.row.rank act.window ++ option_map_or (λ s. s ∷ []) o [])
        (side_at before.sides (side_key act.window act.row.rank))
    of None quiet is = subst (λ made. IsSide made (side_at before.sides (side_key act.window act.row.rank)))
        (sym (append-nil (synchronisations entries act.row.rank act.window))) is
    of (Some s) quiet is = idle_side (synchronisations entries act.row.rank act.window) s
        (side_at before.sides (side_key act.window act.row.rank)) quiet.0 quiet.1 quiet.2 is

-- ---- starts

abbrev pub StartsAre : Ledger → List Act → Type 0
StartsAre ledger entries = (window rank number to : ℕ) → to < 16 →
    slice_index (ordinals_at ledger.started (start_key window rank number)) to
    ≡ ordinal to (flat_map group_of_start (synchronisations entries rank window)) number

-- the groups of the starts that an entry brings
abbrev pub starts_brought : Act → List (List ℕ)
starts_brought act = flat_map group_of_start (brought act)

groups_same : (entries : List Act) (act : Act) → starts_brought act ≡ [] → (window rank : ℕ) →
    flat_map group_of_start (synchronisations (entries ++ act ∷ []) rank window)
    ≡ flat_map group_of_start (synchronisations entries rank window)
groups_same entries act none = each_side
    (λ window rank. flat_map group_of_start (synchronisations (entries ++ act ∷ []) rank window)
    ≡ flat_map group_of_start (synchronisations entries rank window)) act
    (ap (flat_map group_of_start) (made_more entries act act.row.rank act.window (by_own act))
    ∙ (flat_map-append group_of_start (synchronisations entries act.row.rank act.window) (brought act)
    ∙ (ap (λ xs. flat_map group_of_start (synchronisations entries act.row.rank act.window) ++ xs) none
    ∙ append-nil (flat_map group_of_start (synchronisations entries act.row.rank act.window)))))
    (λ window rank other. ap (flat_map group_of_start) (made_same entries act rank window other))

pub starts_kept : (before after : Ledger) (entries : List Act) (act : Act) → HasSameStarts before after →
    starts_brought act ≡ [] → StartsAre before entries → StartsAre after (entries ++ act ∷ [])
starts_kept before after entries act same none were window rank number to below =
    ap (λ numbers. slice_index numbers to) (same (start_key window rank number)) ∙ (were window rank number to below
    ∙ ap (λ groups. ordinal to groups number) (sym (groups_same entries act none window rank)))

-- ---- a start more

numbers_alike : (n m : ℕ) (x y : Bool) → n ≡ m → m < 4294967295 → x ≡ y → cond x (counted n) 0 ≡ cond y (m + 1) 0
numbers_alike n m true y same few is = ap counted same ∙ (counted_is m few ∙ ap (λ b. cond b (m + 1) 0) is)
numbers_alike n m false y same few is = ap (λ b. cond b (m + 1) 0) is

pub starts_set : (before after : Ledger) (entries : List Act) (act : Act) (group : List ℕ) (named : List Bool)
    (ordinals : List ℕ) → starts_brought act ≡ group ∷ [] → length entries < 4294967295 → IsGroup named group →
    ArePut (side_at before.sides (side_key act.window act.row.rank)).started_to named ordinals →
    IsSide (synchronisations entries act.row.rank act.window)
    (side_at before.sides (side_key act.window act.row.rank)) →
    ((other : StartKey) → ordinals_at after.started other
    ≡ cond (start_eq (start_key act.window act.row.rank
    (side_at before.sides (side_key act.window act.row.rank)).starts) other) ordinals
    (ordinals_at before.started other)) →
    StartsAre before entries → StartsAre after (entries ++ act ∷ [])
starts_set before after entries act group named ordinals brings few told put side set were =
    each_side (λ window rank. (number to : ℕ) → to < 16 →
    slice_index (ordinals_at after.started (start_key window rank number)) to
    ≡ ordinal to (flat_map group_of_start (synchronisations (entries ++ act ∷ []) rank window)) number) act
    (λ number to below. ⊎_elim (own_new number to below) (own_other number to below)
    (cases_eq number (length (flat_map group_of_start (synchronisations entries act.row.rank act.window)))))
    (λ window rank other number to below.
    ap (λ numbers. slice_index numbers to) (set (start_key window rank number)
    ∙ ap (λ b. cond b ordinals (ordinals_at before.started (start_key window rank number)))
    (apart window rank number other))
    ∙ (were window rank number to below
    ∙ ap (λ made. ordinal to (flat_map group_of_start made) number)
    (sym (made_same entries act rank window other))))
  where
    groups : List (List ℕ)
    groups = flat_map group_of_start (synchronisations entries act.row.rank act.window)

    apart : (window rank number : ℕ) → is_by_on rank window act ≡ false →
        start_eq (start_key act.window act.row.rank (side_at before.sides (side_key act.window act.row.rank)).starts)
        (start_key window rank number) ≡ false
    apart window rank number other = same_truth
        (start_eq (start_key act.window act.row.rank (side_at before.sides (side_key act.window act.row.rank)).starts)
        (start_key window rank number)) false
        (λ e. sym other ∙ and_both (act.row.rank == rank) (act.window == window)
        (both_left (eqb act.row.rank rank) (eqb (side_at before.sides (side_key act.window act.row.rank)).starts number)
        (both_right (eqb act.window window)
        (eqb act.row.rank rank && eqb (side_at before.sides (side_key act.window act.row.rank)).starts number) e))
        (both_left (eqb act.window window) (eqb act.row.rank rank && eqb
        (side_at before.sides (side_key act.window act.row.rank)).starts number) e))
        (λ e. absurd (true≢false (sym e)))

    all : flat_map group_of_start (synchronisations (entries ++ act ∷ []) act.row.rank act.window)
        ≡ flat_map group_of_start (synchronisations entries act.row.rank act.window) ++ group ∷ []
    all = ap (flat_map group_of_start) (made_more entries act act.row.rank act.window (by_own act))
        ∙ (flat_map-append group_of_start (synchronisations entries act.row.rank act.window) (brought act)
        ∙ ap (λ xs. flat_map group_of_start (synchronisations entries act.row.rank act.window) ++ xs) brings)

    small : length (synchronisations entries act.row.rank act.window) < 4294967295
    small = let a : length (synchronisations entries act.row.rank act.window) ≤ length entries =
        few_made entries act.row.rank act.window in omega arith

    own_new : (number to : ℕ) → to < 16 →
        number ≡ length (flat_map group_of_start (synchronisations entries act.row.rank act.window)) →
        slice_index (ordinals_at after.started (start_key act.window act.row.rank number)) to
        ≡ ordinal to (flat_map group_of_start
        (synchronisations (entries ++ act ∷ []) act.row.rank act.window)) number
    own_new number to below e =
        let same : (side_at before.sides (side_key act.window act.row.rank)).starts ≡ number = side.starts ∙ sym e in
        ap (λ numbers. slice_index numbers to) (set (start_key act.window act.row.rank number)
        ∙ ap (λ b. cond b ordinals (ordinals_at before.started (start_key act.window act.row.rank number)))
        (and_both (eqb act.window act.window)
        (eqb act.row.rank act.row.rank && eqb
        (side_at before.sides (side_key act.window act.row.rank)).starts number) (eq-eqb act.window act.window refl)
        (and_both (eqb act.row.rank act.row.rank)
        (eqb (side_at before.sides (side_key act.window act.row.rank)).starts number)
        (eq-eqb act.row.rank act.row.rank refl) (eq-eqb _ _ same))))
        ∙ (put to below
        ∙ (numbers_alike (slice_index (side_at before.sides (side_key act.window act.row.rank)).started_to to)
        (naming to (flat_map group_of_start (synchronisations entries act.row.rank act.window)))
        (slice_index_or named to false) (is_member to group)
        (side.started to below) (naming_few to group_of_start one_start
        (synchronisations entries act.row.rank act.window) small) (told to below)
        ∙ (sym (ordinal_new to (flat_map group_of_start (synchronisations entries act.row.rank act.window)) group)
        ∙ (ap (ordinal to (flat_map group_of_start (synchronisations entries act.row.rank act.window) ++ group ∷ []))
        (sym e) ∙ ap (λ xs. ordinal to xs number) (sym all)))))

    own_other : (number to : ℕ) → to < 16 →
        (number ≡ length (flat_map group_of_start (synchronisations entries act.row.rank act.window)) → ⊥) →
        slice_index (ordinals_at after.started (start_key act.window act.row.rank number)) to
        ≡ ordinal to (flat_map group_of_start
        (synchronisations (entries ++ act ∷ []) act.row.rank act.window)) number
    own_other number to below ne =
        let off : start_eq (start_key act.window act.row.rank
        (side_at before.sides (side_key act.window act.row.rank)).starts)
        (start_key act.window act.row.rank number) ≡ false =
        same_truth (start_eq (start_key act.window act.row.rank
        (side_at before.sides (side_key act.window act.row.rank)).starts)
        (start_key act.window act.row.rank number)) false
        (λ e. absurd (ne (sym (eqb-true (side_at before.sides (side_key act.window act.row.rank)).starts number
        (both_right (eqb act.row.rank act.row.rank)
        (eqb (side_at before.sides (side_key act.window act.row.rank)).starts number)
        (both_right (eqb act.window act.window)
        (eqb act.row.rank act.row.rank && eqb
        (side_at before.sides (side_key act.window act.row.rank)).starts number) e)))
        ∙ side.starts))) (λ e. absurd (true≢false (sym e))) in
        ap (λ numbers. slice_index numbers to) (set (start_key act.window act.row.rank number)
        ∙ ap (λ b. cond b ordinals (ordinals_at before.started (start_key act.window act.row.rank number))) off)
        ∙ (were act.window act.row.rank number to below
        ∙ (sym (ordinal_other to (flat_map group_of_start
        (synchronisations entries act.row.rank act.window)) group number ne)
        ∙ ap (λ xs. ordinal to xs number) (sym all)))
