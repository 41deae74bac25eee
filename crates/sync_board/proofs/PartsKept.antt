-- The parts that are kept, as ranks arrive at the creation of their window.
use Rattle.std.proofs.Common.{◌≡◌, ◌≢◌, ℕ, zero, suc, ◌+◌, ◌<◌, ◌≤◌, Bool, true, false, ◌&&◌, eqb, List, [], ◌∷◌, ◌++◌}
use Rattle.std.proofs.Common.{length, map, get_or, refl, ap, sym, subst, ◌∙◌, arith, Option, Some, None, IfSome, ⊎_elim}
use Rattle.std.specs.Option.{option_map, option_map_or, option_or}
use Rattle.std.proofs.lemmas.Bool.{and_left, cases_eq, cases_lt, eq-eqb, ne_eqb}
use Rattle.std.proofs.lemmas.List.{get_or_past, length-map, map-append}
use Rattle.std.proofs.lemmas.List.Folds.{find-append}
use Rattle.rma_types.specs.declared.accesses.Step.TheVariants.{Arrive}
use Rattle.rma_types.specs.declared.calls.Flavor.TheVariants.{Dynamic}
use Rattle.rma_types.specs.declared.scripts.Layout.{Layout}
use Rattle.rma_types.specs.declared.scripts.Part.{Part}
use Rattle.rma_types.specs.declared.actions.Creation.{Creation}
use Rattle.rma_types.specs.Actions.{creation_of}
use Rattle.call_rules.specs.Pieces.{numbers_from}
use Rattle.call_rules.proofs.NumbersFrom.{numbers_length}
use Rattle.rank_rules.specs.Windows.{is_same_flavor, no_part, part_at}
use Rattle.board_rules.specs.Entries.{Act, Row, acts, begins_window, is_by_on, window_of}
use Rattle.board_rules.specs.Shapes.{part_brought, part_in, part_made, parts_of}
use Rattle.window_regions.specs.declared.window.Shape.{Shape}
use Rattle.sync_board.specs.Boards.{BoardState, IsLayoutOf, IsShapeMade, rows_on}
use Rattle.sync_board.specs.KeptParts.{IsInside, KeepsParts, first_arrival, part_kept, part_or_none, parts_or_none}
use Rattle.sync_board.proofs.AnyOf.{numbers_more}

-- ---- one entry more

arrival_more : (entries : List Act) (window rank : ℕ) (act : Act) →
    first_arrival (entries ++ act ∷ []) window rank ≡ option_or (first_arrival entries window rank)
    (first_arrival (act ∷ []) window rank)
arrival_more entries window rank act = find-append (λ (act : Act). is_by_on rank window act && begins_window act.row)
    entries (act ∷ [])

or_none : {X : Type 0} (o : Option X) → option_or o None ≡ o
or_none None = refl
or_none (Some x) = refl

-- an entry that is no arrival of the rank at the window's creation
pub arrival_same : (entries : List Act) (window rank : ℕ) (act : Act) →
    (is_by_on rank window act && begins_window act.row) ≡ false →
    first_arrival (entries ++ act ∷ []) window rank ≡ first_arrival entries window rank
arrival_same entries window rank act other = arrival_more entries window rank act
    ∙ rw other (or_none (first_arrival entries window rank))

-- the first arrival of a rank, and a later one
arrival_added : (entries : List Act) (window rank : ℕ) (act : Act) → (is_by_on rank window act && begins_window act.row)
    ≡ true →
    first_arrival (entries ++ act ∷ []) window rank ≡ option_or (first_arrival entries window rank) (Some act)
arrival_added entries window rank act its = arrival_more entries window rank act ∙ rw its refl

-- an entry on another window, or one that begins none
pub parts_keep : (layout : Layout) (window : ℕ) (entries : List Act) (act : Act) (parts : List (Option Part)) →
    (eqb act.window window && begins_window act.row) ≡ false →
    KeepsParts layout window entries parts → KeepsParts layout window (entries ++ act ∷ []) parts
parts_keep layout window entries act parts other keeps = record {
  brought = λ rank.
      keeps.brought rank ∙ ap (option_map (part_brought layout))
      (sym (arrival_same entries window rank act
      (never (eqb act.row.rank rank) (eqb act.window window) (begins_window act.row) other)));
  inside = keeps.inside;
}
  where
    never : (a b c : Bool) → (b && c) ≡ false → ((a && b) && c) ≡ false
    never true b c e = e
    never false b c e = refl

-- no rank has arrived
pub no_parts : (layout : Layout) (window : ℕ) (parts : List (Option Part)) → parts ≡ [] →
    KeepsParts layout window [] parts
no_parts layout window parts none =
    let empty : (rank : ℕ) → part_kept parts rank ≡ None = λ rank. ap (λ xs. part_kept xs rank) none ∙ nothing rank in
    record {
      brought = empty;
      inside = λ rank. rw (empty rank) tt;
    }
  where
    nothing : (rank : ℕ) → get_or {A = Option Part} [] rank None ≡ None
    nothing zero = refl
    nothing (suc rank) = refl

-- what is kept of each rank is the same
pub parts_same : (layout : Layout) (window : ℕ) (entries : List Act) (before after : List (Option Part)) →
    ((rank : ℕ) → part_kept after rank ≡ part_kept before rank) →
    KeepsParts layout window entries before → KeepsParts layout window entries after
parts_same layout window entries before after same keeps = record {
  brought = λ rank. same rank ∙ keeps.brought rank;
  inside = λ rank. rw (same rank) (keeps.inside rank);
}

-- the rank has arrived with a part, and what is kept of each other rank is the same
pub parts_more : (layout : Layout) (window : ℕ) (entries : List Act) (act : Act) (creation : Creation) (rank : ℕ)
    (part : Part) (before after : List (Option Part)) →
    act.row.rank ≡ rank → act.window ≡ window → act.row.step ≡ Arrive → creation_of act.row.call ≡ Some creation →
    part ≡ part_made layout rank act.row.number creation → IsInside layout rank part →
    ((other : ℕ) → other ≢ rank → part_kept after other ≡ part_kept before other) →
    part_kept after rank ≡ option_or (part_kept before rank) (Some part) →
    KeepsParts layout window entries before → KeepsParts layout window (entries ++ act ∷ []) after
parts_more layout window entries act creation rank part before after by here arrives is made within others its keeps =
    record {
      brought = λ other. ⊎_elim
          (λ same. let Brought : ℕ → Type 0 = λ r. part_kept after r ≡ option_map (part_brought layout)
          (first_arrival (entries ++ act ∷ []) window r) in subst Brought (sym same) of_rank)
          (λ apart. others other apart ∙ (keeps.brought other ∙ ap (option_map (part_brought layout))
          (sym (arrival_same entries window other act
          (and_left _ (begins_window act.row)
          (and_left (eqb act.row.rank other) _ (ne_eqb act.row.rank other (λ e. apart (sym e ∙ by)))))))))
          (cases_eq other rank);
      inside = λ other. ⊎_elim
          (λ same. let In : ℕ → Type 0 = λ r. IfSome (part_kept after r) (IsInside layout r) in subst In (sym same)
          (rw its (if_or (part_kept before rank) (keeps.inside rank))))
          (λ apart. rw (others other apart) (keeps.inside other))
          (cases_eq other rank);
    }
  where
    arrival : (is_by_on rank window act && begins_window act.row) ≡ true
    arrival = rw (eq-eqb act.row.rank rank by, eq-eqb act.window window here, arrives, is) refl

    brings : part_brought layout act ≡ part
    brings =
        ap (λ o. option_map_or (part_made layout act.row.rank act.row.number) o no_part) is
        ∙ (ap (λ r. part_made layout r act.row.number creation) by ∙ sym made)

    map_or : (o : Option Act) → option_or (option_map (part_brought layout) o) (Some part) ≡ option_map
        (part_brought layout) (option_or o (Some act))
    map_or None = ap Some (sym brings)
    map_or (Some other) = refl

    of_rank : part_kept after rank ≡ option_map (part_brought layout) (first_arrival (entries ++ act ∷ []) window rank)
    of_rank =
        its ∙ (ap (λ o. option_or o (Some part)) (keeps.brought rank)
        ∙ (map_or (first_arrival entries window rank) ∙ ap (option_map (part_brought layout))
        (sym (arrival_added entries window rank act arrival))))

    if_or : (o : Option Part) → IfSome o (IsInside layout rank) → IfSome (option_or o (Some part))
        (IsInside layout rank)
    if_or None given = within
    if_or (Some other) given = given

-- ---- the shape

pub parts_one_more : (parts : List (Option Part)) (rank : ℕ) → parts_or_none parts (rank + 1) ≡ parts_or_none parts rank
    ++ part_or_none parts rank ∷ []
parts_one_more parts rank =
    let last : 0 + rank ≡ rank = omega arith in
    ap (map (part_or_none parts)) (rw last at (numbers_more 0 rank))
    ∙ map-append (part_or_none parts) (numbers_from 0 rank) (rank ∷ [])

at_number : (f : ℕ → Part) (first count k : ℕ) (d : Part) → k < count →
    get_or (map f (numbers_from first count)) k d ≡ f (first + k)
at_number f first zero k d within = absurd (omega arith)
at_number f first (suc count) zero d within = ap f (omega arith)
at_number f first (suc count) (suc k) d within = at_number f (first + 1) count k d (omega arith) ∙ ap f (omega arith)

at_rank : (parts : List (Option Part)) (ranks k : ℕ) → k < ranks → part_at (parts_or_none parts ranks) k ≡ part_or_none
    parts k
at_rank parts ranks k within = at_number (part_or_none parts) 0 ranks k no_part within ∙ ap (part_or_none parts)
    (omega arith)

how_many : (parts : List (Option Part)) (ranks : ℕ) → length (parts_or_none parts ranks) ≡ ranks
how_many parts ranks = length-map (numbers_from 0 ranks) (part_or_none parts) ∙ numbers_length 0 ranks

past_ranks : (parts : List (Option Part)) (ranks k : ℕ) → ranks ≤ k → part_at (parts_or_none parts ranks) k ≡ no_part
past_ranks parts ranks k past = get_or_past (parts_or_none parts ranks) k no_part (omega (arith, how_many parts ranks))

-- the parts that are kept are those of the definition
parts_are : (layout : Layout) (window ranks : ℕ) (entries : List Act) (parts : List (Option Part)) →
    KeepsParts layout window entries parts →
    parts_or_none parts ranks ≡ parts_of layout ranks entries window
parts_are layout window ranks entries parts keeps = alike (numbers_from 0 ranks)
  where
    one : (o : Option Act) → option_map_or (λ part. part) (option_map (part_brought layout) o) no_part ≡ option_map_or
        (part_brought layout) o no_part
    one None = refl
    one (Some act) = refl

    alike : (ks : List ℕ) → map (part_or_none parts) ks ≡ map (part_in layout entries window) ks
    alike [] = refl
    alike (k ∷ ks) =
        let first : part_or_none parts k ≡ part_in layout entries window k =
        ap (λ o. option_map_or (λ part. part) o no_part) (keeps.brought k) ∙ one (first_arrival entries window k) in
        rw (first, alike ks) refl

inside_or_none : (layout : Layout) (rank : ℕ) (o : Option Part) → IfSome o (IsInside layout rank) →
    IsInside layout rank (option_map_or (λ part. part) o no_part)
inside_or_none layout rank None given = omega arith
inside_or_none layout rank (Some part) given = given

pub shape_made : (board : BoardState) (row : Row) (creation : Creation) (ranks : ℕ) (parts : List (Option Part))
    (shape : Shape) →
    shape.parts ≡ parts_or_none parts ranks →
    (is_same_flavor shape.flavor Dynamic ≡ true → (rank : ℕ) → rank < ranks → part_or_none parts rank ≡ no_part) →
    board.ranks ≡ ranks → creation.flavor ≡ shape.flavor → IsLayoutOf board.ranks board.layout →
    KeepsParts board.layout (window_of (rows_on board) row) (acts (rows_on board)) parts →
    IsShapeMade board row creation shape
shape_made board row creation ranks parts shape are dynamic all flavor fits keeps = record {
  flavor = sym flavor;
  parts =
      are ∙ (parts_are board.layout (window_of (rows_on board) row) ranks (acts (rows_on board)) parts keeps
      ∙ ap (λ n. parts_of board.layout n (acts (rows_on board)) (window_of (rows_on board) row)) (sym all));
  count = ap length are ∙ (how_many parts ranks ∙ sym all);
  inside = λ rank within. rw (are, at_rank parts ranks rank (omega arith)) (inside rank);
  is_shape = record {
    ends = λ rank. rw are (⊎_elim
        (λ below.
        let some = inside rank in
        let most = fits.bytes rank in
        rw (at_rank parts ranks rank below) (omega arith))
        (λ past. rw (past_ranks parts ranks rank past) (omega arith))
        (cases_lt rank ranks));
    dynamic = λ is rank. rw are (⊎_elim
        (λ below. at_rank parts ranks rank below ∙ dynamic is rank below)
        (λ past. past_ranks parts ranks rank past)
        (cases_lt rank ranks));
  };
}
  where
    inside : (rank : ℕ) → IsInside board.layout rank (part_or_none parts rank)
    inside rank = inside_or_none board.layout rank (part_kept parts rank) (keeps.inside rank)
