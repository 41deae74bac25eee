-- Kept calls and entries: what definitions see of them is what they see of the calls themselves.
use Rattle.std.proofs.Common.{◌≡◌, ℕ, ◌+◌, ◌==◌, is_some, Bool, true, false, ◌&&◌, cond, List, [], ◌∷◌, ◌++◌, map, refl}
use Rattle.std.proofs.Common.{ap, sym, ◌∙◌, Option, Some, None}
use Rattle.std.specs.List.{count_by, filter, find, flat_map, fold}
use Rattle.std.specs.Option.{option_map, option_map_or}
use Rattle.std.proofs.lemmas.List.{map-append}
use Rattle.rma_types.specs.declared.calls.Call.{Call}
use Rattle.rma_types.specs.declared.calls.Call.TheVariants.{Put, Acc, GetAcc, Store}
use Rattle.rma_types.specs.declared.scripts.Layout.{Layout}
use Rattle.rma_types.specs.declared.actions.Action.{Action}
use Rattle.rma_types.specs.declared.actions.Transfer.{Transfer}
use Rattle.rma_types.specs.declared.actions.Action.TheVariants.{Moves}
use Rattle.rma_types.specs.Actions.{action_of, creation_in, creation_of, synchronisation_in, synchronisation_of}
use Rattle.rma_types.specs.Actions.{window_in_action, window_of_call}
use Rattle.call_rules.specs.Pieces.{numbers_from}
use Rattle.rank_rules.specs.Ranges.{Range}
use Rattle.rank_rules.specs.Windows.{no_part, window_number}
use Rattle.board_rules.specs.AttachedRanges.{ranges_after, ranges_attached}
use Rattle.board_rules.specs.Entries.{Row, Act, Collective, acts, acts_after, arrivals, begins_window, collective_in}
use Rattle.board_rules.specs.Entries.{collective_of, creations, is_arrive, is_by_on, is_collective, is_same_collective}
use Rattle.board_rules.specs.Entries.{names_window, round_of, synchronisations, window_of}
use Rattle.board_rules.specs.Locks.{held_after, held_after_entry, held_locks}
use Rattle.board_rules.specs.Shapes.{part_brought, part_in, part_made, parts_of}
use Rattle.rma_types.specs.KeptCalls.{kept_call}
use Rattle.kept_rows.specs.KeptCalls.{kept_row}
use Rattle.kept_rows.specs.KeptRowLaws.{kept_act, kept_acts, kept_rows}

-- what does not look into a transfer beyond its window sees no difference
pub unless_moved : {X : Type 0} (f : Action → X) → ((t u : Transfer) → t.win ≡ u.win → f (Moves t) ≡ f (Moves u)) →
    (call : Call) → f (action_of (kept_call call)) ≡ f (action_of call)
unless_moved f same (Put req win target disp dtype values) = same _ _ refl
unless_moved f same (Acc req win target disp dtype op values) = same _ _ refl
unless_moved f same (GetAcc req win target disp dtype op values) = same _ _ refl
unless_moved f same (Store win disp dtype values) = same _ _ refl
unless_moved f same call = refl

pub name_kept : (call : Call) → window_of_call (kept_call call) ≡ window_of_call call
name_kept call = unless_moved window_in_action (λ t u e. ap Some e) call

pub creation_kept : (call : Call) → creation_of (kept_call call) ≡ creation_of call
creation_kept call = unless_moved creation_in (λ t u e. refl) call

pub synchronisation_kept : (call : Call) → synchronisation_of (kept_call call) ≡ synchronisation_of call
synchronisation_kept call = unless_moved synchronisation_in (λ t u e. refl) call

pub collective_kept : (call : Call) → collective_of (kept_call call) ≡ collective_of call
collective_kept call = unless_moved collective_in (λ t u e. refl) call

-- a collective call has no values
pub collective_whole : (collective : Collective) (call : Call) → is_collective collective call ≡ true →
    kept_call call ≡ call
collective_whole collective (Put req win target disp dtype values) is = cc
collective_whole collective (Acc req win target disp dtype op values) is = cc
collective_whole collective (GetAcc req win target disp dtype op values) is = cc
collective_whole collective (Store win disp dtype values) is = cc
collective_whole collective call is = refl

-- ---- lists

pub fold_kept : {X Y : Type 0} (f : X → X) (g : Y → X → Y) → ((y : Y) (x : X) → g y (f x) ≡ g y x) →
    (y : Y) (xs : List X) → fold g y (map f xs) ≡ fold g y xs
fold_kept f g same y [] = refl
fold_kept f g same y (x ∷ xs) = ap (λ z. fold g z (map f xs)) (same y x) ∙ fold_kept f g same (g y x) xs

pub count_kept : {X : Type 0} (f : X → X) (p : X → Bool) → ((x : X) → p (f x) ≡ p x) → (xs : List X) →
    count_by p (map f xs) ≡ count_by p xs
count_kept f p same xs = fold_kept f (λ n x. n + cond (p x) 1 0) (λ n x. ap (λ b. n + cond b 1 0) (same x)) 0 xs

pub filter_kept : {X : Type 0} (f : X → X) (p : X → Bool) → ((x : X) → p (f x) ≡ p x) → (xs : List X) →
    filter p (map f xs) ≡ map f (filter p xs)
filter_kept f p same [] = refl
filter_kept {X} f p same (x ∷ xs) = rw (same x, filter_kept f p same xs) (out (p x))
  where
    out : (b : Bool) → cond b (f x ∷ map f (filter p xs)) (map f (filter p xs))
        ≡ map f (cond b (x ∷ filter p xs) (filter p xs))
    out true = refl
    out false = refl

pub find_kept : {X : Type 0} (f : X → X) (p : X → Bool) → ((x : X) → p (f x) ≡ p x) → (xs : List X) →
    find p (map f xs) ≡ option_map f (find p xs)
find_kept f p same [] = refl
find_kept {X} f p same (x ∷ xs) = rw (same x, find_kept f p same xs) (out (p x))
  where
    out : (b : Bool) → cond b (Some (f x)) (option_map f (find p xs)) ≡ option_map f (cond b (Some x) (find p xs))
    out true = refl
    out false = refl

pub flat_kept : {X Y : Type 0} (f : X → X) (g : X → List Y) → ((x : X) → g (f x) ≡ g x) → (xs : List X) →
    flat_map g (map f xs) ≡ flat_map g xs
flat_kept f g same [] = refl
flat_kept f g same (x ∷ xs) = rw (same x, flat_kept f g same xs) refl

-- ---- entries

pub begins_kept : (row : Row) → begins_window (kept_row row) ≡ begins_window row
begins_kept row = ap (λ creation. is_arrive row.step && is_some creation) (creation_kept row.call)

pub names_kept : (win : ℕ) (call : Call) → names_window win (kept_call call) ≡ names_window win call
names_kept win call = ap (λ name. option_map_or (λ name. name == win) name false) (name_kept call)

pub creations_kept : (rows : List Row) (rank win : ℕ) → creations (kept_rows rows) rank win ≡ creations rows rank win
creations_kept rows rank win = count_kept kept_row
    (λ (row : Row). row.rank == rank && begins_window row && names_window win row.call)
    (λ row. rw (creation_kept row.call, name_kept row.call) refl) rows

pub window_kept : (rows : List Row) (row : Row) → window_of (kept_rows rows) row ≡ window_of rows row
window_kept rows row = at (window_of_call row.call)
  where
    at : (name : Option ℕ) → option_map_or (λ win. window_number (round_of (kept_rows rows) row win) win) name 0
        ≡ option_map_or (λ win. window_number (round_of rows row win) win) name 0
    at None = refl
    at (Some win) = rw (creations_kept rows row.rank win) refl

-- the entry itself kept
pub window_of_kept : (rows : List Row) (row : Row) → window_of rows (kept_row row) ≡ window_of rows row
window_of_kept rows row = rw (name_kept row.call, creation_kept row.call) refl

pub acts_after_kept : (before rows : List Row) →
    acts_after (kept_rows before) (kept_rows rows) ≡ kept_acts (acts_after before rows)
acts_after_kept before [] = refl
acts_after_kept before (row ∷ rows) =
    let here : window_of (kept_rows before) (kept_row row) ≡ window_of before row =
    window_of_kept (kept_rows before) row ∙ window_kept before row in
    let joined : kept_rows before ++ kept_row row ∷ [] ≡ kept_rows (before ++ row ∷ []) =
    sym (map-append kept_row before (row ∷ [])) in
    let later : acts_after (kept_rows before ++ kept_row row ∷ []) (kept_rows rows)
    ≡ kept_acts (acts_after (before ++ row ∷ []) rows) =
    ap (λ xs. acts_after xs (kept_rows rows)) joined ∙ acts_after_kept (before ++ row ∷ []) rows in
    rw (here, later) refl

pub acts_kept : (rows : List Row) → acts (kept_rows rows) ≡ kept_acts (acts rows)
acts_kept rows = acts_after_kept [] rows

-- ---- what a rank has done on a window

pub synchronisations_kept : (entries : List Act) (rank window : ℕ) →
    synchronisations (kept_acts entries) rank window ≡ synchronisations entries rank window
synchronisations_kept entries rank window =
    rw (filter_kept kept_act (is_by_on rank window) (λ act. refl) entries)
    (flat_kept kept_act (λ (act : Act). option_map_or (λ s. s ∷ []) (synchronisation_of act.row.call) [])
    (λ act. ap (λ o. option_map_or (λ s. s ∷ []) o []) (synchronisation_kept act.row.call))
    (filter (is_by_on rank window) entries))

pub arrivals_kept : (entries : List Act) (collective : Collective) (rank window : ℕ) →
    arrivals (kept_acts entries) collective rank window ≡ arrivals entries collective rank window
arrivals_kept [] collective rank window = refl
arrivals_kept (act ∷ entries) collective rank window =
    opened (is_by_on rank window act && is_arrive act.row.step && is_collective collective (kept_call act.row.call))
    (kept_act act) (filter chosen (kept_acts entries))
    ∙ (ap (λ xs. cond (is_by_on rank window act && is_arrive act.row.step && is_collective collective
    (kept_call act.row.call)) (kept_call act.row.call ∷ xs) xs) (arrivals_kept entries collective rank window)
    ∙ (ap (λ o. cond (is_by_on rank window act && is_arrive act.row.step && option_map_or
    (is_same_collective collective) o false) (kept_call act.row.call ∷ arrivals entries collective rank window)
    (arrivals entries collective rank window)) (collective_kept act.row.call)
    ∙ (whole (is_by_on rank window act) (is_arrive act.row.step) (is_collective collective act.row.call)
    (collective_whole collective act.row.call) (arrivals entries collective rank window)
    ∙ sym (opened (is_by_on rank window act && is_arrive act.row.step && is_collective collective act.row.call) act
    (filter chosen entries)))))
  where
    chosen : Act → Bool
    chosen act = is_by_on rank window act && is_arrive act.row.step && is_collective collective act.row.call

    opened : (b : Bool) (x : Act) (xs : List Act) →
        map (λ (act : Act). act.row.call) (cond b (x ∷ xs) xs)
        ≡ cond b (x.row.call ∷ map (λ (act : Act). act.row.call) xs) (map (λ (act : Act). act.row.call) xs)
    opened true x xs = refl
    opened false x xs = refl

    whole : (a b c : Bool) → {k d : Call} → (c ≡ true → k ≡ d) → (xs : List Call) →
        cond (a && b && c) (k ∷ xs) xs ≡ cond (a && b && c) (d ∷ xs) xs
    whole false b c same xs = refl
    whole true false c same xs = refl
    whole true true false same xs = refl
    whole true true true same xs = ap (λ call. call ∷ xs) (same refl)

pub held_kept : (ranks : ℕ) (entries : List Act) → held_locks ranks (kept_acts entries) ≡ held_locks ranks entries
held_kept ranks entries = fold_kept kept_act (held_after_entry ranks)
    (λ held act. ap (λ o. option_map_or (held_after ranks act.row.rank act.window held) o held)
    (synchronisation_kept act.row.call)) [] entries

pub ranges_kept : (entries : List Act) (rank window : ℕ) →
    ranges_attached (kept_acts entries) rank window ≡ ranges_attached entries rank window
ranges_kept entries rank window =
    rw (filter_kept kept_act (is_by_on rank window) (λ act. refl) entries)
    (fold_kept kept_act (λ (ranges : List Range) (act : Act). ranges_after ranges act.row.step (action_of act.row.call))
    (λ ranges act. unless_moved (ranges_after ranges act.row.step) (λ t u e. refl) act.row.call) []
    (filter (is_by_on rank window) entries))

-- ---- parts of windows

pub brought_kept : (layout : Layout) (act : Act) → part_brought layout (kept_act act) ≡ part_brought layout act
brought_kept layout act = ap (λ o. option_map_or (part_made layout act.row.rank act.row.number) o no_part)
    (creation_kept act.row.call)

pub part_kept : (layout : Layout) (entries : List Act) (window rank : ℕ) →
    part_in layout (kept_acts entries) window rank ≡ part_in layout entries window rank
part_kept layout entries window rank =
    ap (λ o. option_map_or (part_brought layout) o no_part)
    (find_kept kept_act (λ (act : Act). is_by_on rank window act && begins_window act.row)
    (λ act. ap (λ b. is_by_on rank window act && b) (begins_kept act.row)) entries)
    ∙ out (find (λ (act : Act). is_by_on rank window act && begins_window act.row) entries)
  where
    out : (o : Option Act) → option_map_or (part_brought layout) (option_map kept_act o) no_part
        ≡ option_map_or (part_brought layout) o no_part
    out None = refl
    out (Some act) = brought_kept layout act

pub parts_kept : (layout : Layout) (ranks : ℕ) (rows : List Row) (window : ℕ) →
    parts_of layout ranks (acts (kept_rows rows)) window ≡ parts_of layout ranks (acts rows) window
parts_kept layout ranks rows window =
    ap (λ entries. parts_of layout ranks entries window) (acts_kept rows)
    ∙ each (numbers_from 0 ranks)
  where
    each : (ks : List ℕ) → map (part_in layout (kept_acts (acts rows)) window) ks
        ≡ map (part_in layout (acts rows) window) ks
    each [] = refl
    each (k ∷ ks) = rw (part_kept layout (acts rows) window k, each ks) refl
