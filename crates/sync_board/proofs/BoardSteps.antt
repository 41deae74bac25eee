-- A board with one entry more keeps what its entries have done and given.
use Rattle.std.proofs.Common.{◌≡◌, ℕ, suc, ◌+◌, false, List, [], ◌∷◌, ◌++◌, length, map, refl, ap, sym, ◌∙◌, subst}
use Rattle.std.proofs.Common.{arith, Option, Some, None, IfSome}
use Rattle.std.specs.List.{AllByRecursion}
use Rattle.std.specs.Option.{option_map, option_map_or}
use Rattle.std.proofs.lemmas.List.{length-append}
use Rattle.rma_types.specs.declared.scripts.Layout.{Layout}
use Rattle.rma_types.specs.declared.actions.Action.{Action}
use Rattle.rma_types.specs.declared.actions.Transfer.{Transfer}
use Rattle.rma_types.specs.declared.actions.Action.TheVariants.{Synchronises}
use Rattle.rma_types.specs.Actions.{synchronisation_in}
use Rattle.rank_rules.specs.EpochTests.{names_wrong_rank}
use Rattle.kept_rows.specs.Gifts.{Front, Given, rows_given}
use Rattle.entry_gains.specs.Gains.{IsSound, IsWhole, Keeps}
use Rattle.entry_gains.specs.Slots.{AreFrom}
use Rattle.entry_gains.specs.declared.gains.Gains.{Gains}
use Rattle.sync_board.specs.Boards.{IsFrontOfToken, IsGiftOfToken, NamesRanks, entry_row}
use Rattle.sync_board.specs.Counted.{KeepsState}
use Rattle.sync_board.specs.Kept.{IsKept}
use Rattle.sync_board.specs.Lists.{IsList, entries_in, given_of, givens}
use Rattle.sync_board.specs.declared.answers.EntryRow.{EntryRow}
use Rattle.sync_board.specs.declared.lists.EntryList.{EntryList}
use Rattle.sync_board.specs.declared.lists.Kept.{Kept}
use Rattle.sync_board.specs.declared.state.State.{State}

pub givens_more : {N : Type 0} (front : N → Front) (rows : List EntryRow) (kept : List (Kept N)) (row : EntryRow)
    (one : Kept N) → length rows ≡ length kept →
    givens front (rows ++ row ∷ []) (kept ++ one ∷ []) ≡ givens front rows kept ++ given_of front row one ∷ []
givens_more front [] [] row one same = refl
givens_more front [] (x ∷ kept) row one same = absurd (omega arith)
givens_more front (y ∷ rows) [] row one same = absurd (omega arith)
givens_more front (y ∷ rows) (x ∷ kept) row one same = ap (λ xs. given_of front y x ∷ xs)
    (givens_more front rows kept row one (omega arith))

pub givens_length : {N : Type 0} (front : N → Front) (rows : List EntryRow) (kept : List (Kept N)) →
    length rows ≡ length kept → length (givens front rows kept) ≡ length rows
givens_length front [] kept same = refl
givens_length front (y ∷ rows) [] same = absurd (omega arith)
givens_length front (y ∷ rows) (x ∷ kept) same = ap suc (givens_length front rows kept (omega arith))

pub givens_rows : {N : Type 0} (front : N → Front) (rows : List EntryRow) (kept : List (Kept N)) →
    length rows ≡ length kept → rows ≡ map entry_row (givens front rows kept)
givens_rows front [] kept same = refl
givens_rows front (y ∷ rows) [] same = absurd (omega arith)
givens_rows front (y ∷ rows) (x ∷ kept) same = ap (λ ys. y ∷ ys) (givens_rows front rows kept (omega arith))

gift_is : {N : Type 0} (front : N → Front) (gift : Option N) →
    IfSome (option_map front gift) (IsFrontOfToken front)
gift_is front None = tt
gift_is front (Some token) = record { token = token; same = refl }

pub gifts_are : {N : Type 0} (front : N → Front) (rows : List EntryRow) (kept : List (Kept N)) →
    AllByRecursion (IsGiftOfToken front) (givens front rows kept)
gifts_are front [] kept = tt
gifts_are front (row ∷ rows) [] = tt
gifts_are front (row ∷ rows) (one ∷ kept) = (gift_is front one.gift, gifts_are front rows kept)

pub same_entries : {N : Type 0} (front : N → Front) (list after : EntryList N) → after.rows.items ≡ list.rows.items →
    after.kept.items ≡ list.kept.items → entries_in front after ≡ entries_in front list
same_entries front list after rows kept = rw (rows, kept) refl

pub unchanged : {N : Type 0} (front : N → Front) (origin : N → List ℕ) (ranks : ℕ) (layout : Layout)
    (list list' : EntryList N) (state state' : State) (gains gains' : Gains N) (root : N) →
    IsKept front origin ranks layout list state gains root → list'.rows.items ≡ list.rows.items →
    list'.kept.items ≡ list.kept.items →
    KeepsState layout ranks (rows_given (entries_in front list)) state' →
    Keeps front ranks (entries_in front list) gains' → IsSound origin (origin root) gains' →
    IsKept front origin ranks layout list' state' gains' root
unchanged front origin ranks layout list list' state state' gains gains' root kept rows calls done given sound =
    let same = same_entries front list list' rows calls in
    record {
      few = kept.few;
      layout_of = kept.layout_of;
      sizes = rw (rows, calls) kept.sizes;
      short = rw rows kept.short;
      done = subst (λ (es : List Given). KeepsState layout ranks (rows_given es) state') (sym same) done;
      given = subst (λ (es : List Given). Keeps front ranks es gains') (sym same) given;
      sound = sound;
    }

pub entered_list : {N : Type 0} (front : N → Front) (list list' : EntryList N) (row : EntryRow) (one : Kept N) →
    IsList list →
    list'.rows.items ≡ list.rows.items ++ row ∷ [] → list'.kept.items ≡ list.kept.items ++ one ∷ [] →
    entries_in front list' ≡ entries_in front list ++ given_of front row one ∷ []
entered_list front list list' row one sizes rows kept = rw (rows, kept)
    (givens_more front list.rows.items list.kept.items row one sizes)

pub whole_of : {N : Type 0} (origin : N → List ℕ) (name : List ℕ) (gains : Gains N) → IsSound origin name gains →
    IsWhole origin gains
whole_of origin name gains sound = subst (λ n. AreFrom origin n gains.tokens) (sym sound.0) sound.1

pub gift_from : {N : Type 0} (origin : N → List ℕ) (name : List ℕ) (gains : Gains N) (gift : Option N) →
    IfSome gift (λ token. origin token ≡ name) → IsSound origin name gains →
    IfSome gift (λ token. IsSound origin (origin token) gains)
gift_from origin name gains None is sound = tt
gift_from origin name gains (Some token) is sound = subst (λ n. IsSound origin n gains) (sym is) sound

pub names_so : (ranks : ℕ) (action : Action) → NamesRanks ranks action → option_map_or (names_wrong_rank ranks)
    (synchronisation_in action) false ≡ false
names_so ranks (Synchronises win s) names = names
names_so ranks action names = refl

pub looks : (o : Option Transfer) (P : Transfer → Type 0) → ((t : Transfer) → o ≡ Some t → P t) → IfSome o P
looks None P each = tt
looks (Some t) P each = each t refl

pub list_more : {N : Type 0} (list list' : EntryList N) (row : EntryRow) (one : Kept N) → IsList list →
    list'.rows.items ≡ list.rows.items ++ row ∷ [] → list'.kept.items ≡ list.kept.items ++ one ∷ [] → IsList list'
list_more list list' row one sizes rows kept =
    ap length rows ∙ (length-append list.rows.items (row ∷ [])
    ∙ (ap (λ n. n + 1) sizes ∙ sym (ap length kept ∙ length-append list.kept.items (one ∷ []))))
