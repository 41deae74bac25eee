-- One entry more: what it adds to the acts of a run, and the number of the window that it names.
use Rattle.std.proofs.Common.{◌≡◌, ℕ, ◌+◌, ◌<◌, true, cond, List, [], ◌∷◌, ◌++◌, Some, refl, sym, ◌∙◌}
use Rattle.std.proofs.Common.{ap, subst, arith}
use Rattle.std.specs.Prelude.{◌&&◌, ◌==◌, is_some}
use Rattle.std.specs.List.{sum_by, AllByRecursion}
use Rattle.std.proofs.lemmas.Bool.{and_from, eq-eqb}
use Rattle.std.proofs.lemmas.List.Sums.{sum_by-append, sum_by-cons}
use Rattle.list_laws.proofs.Each.{each_append, each_weaker}
use Rattle.rma_types.specs.declared.calls.Call.{Call}
use Rattle.board_rules.specs.Entries.{Row, Act, acts, window_of, is_creation, names_window}
use Rattle.board_rules.specs.Entries.{begins_window, creations}
use Rattle.rma_types.specs.declared.actions.Creation.{Creation}
use Rattle.rma_types.specs.Actions.{creation_of}
use Rattle.rank_rules.specs.Windows.{window_number}
use Rattle.board_rules.proofs.EntryLaws.{acts_append, begins_by, names_it, new_number}

-- ---- one more entry

abbrev pub act_after : List Row → Row → Act
act_after rows row = record { row = row; window = window_of rows row }

pub acts_push : (rows : List Row) (row : Row) → acts (rows ++ row ∷ []) ≡ acts rows ++ act_after rows row ∷ []
acts_push rows row = acts_append [] rows (row ∷ [])

pub creations_push : (rows : List Row) (row : Row) (rank win : ℕ) →
    creations (rows ++ row ∷ []) rank win ≡ creations rows rank win + cond (begins_by rank win row) 1 0
creations_push rows row rank win =
    let f : Row → ℕ = λ r. cond (begins_by rank win r) 1 0 in
    let all = sum_by-append f rows (row ∷ []) in let one = sum_by-cons f row [] in
    sums (sum_by f (rows ++ row ∷ [])) (sum_by f rows) (sum_by f (row ∷ [])) (f row) all one
  where
    sums : (a b c d : ℕ) → a ≡ b + c → c ≡ d + 0 → a ≡ b + d
    sums a b c d e g = omega arith

pub is_creation_if : (call : Call) (creation : Creation) → creation_of call ≡ Some creation → is_creation call ≡ true
is_creation_if call creation makes = ap is_some makes

-- ---- the numbers of windows

-- an entry that begins to create a window is on a number below that of the rank's next one of this name
pub record IsNumbered (rows : List Row) (act : Act) (creation : Creation) : Type 0 where
  pub name : creation.win < 32
  pub round : ℕ
  pub number : act.window ≡ window_number round creation.win
  pub below : round < creations rows act.row.rank creation.win

abbrev pub IsNumberedAct : List Row → Act → Type 0
IsNumberedAct rows act = begins_window act.row ≡ true → (creation : Creation) →
    creation_of act.row.call ≡ Some creation → IsNumbered rows act creation

more_numbered : (rows : List Row) (row : Row) (act : Act) → IsNumberedAct rows act →
    IsNumberedAct (rows ++ row ∷ []) act
more_numbered rows row act old begins creation makes =
    let is = old begins creation makes in
    record {
      name = is.name;
      round = is.round;
      number = is.number;
      below = grown is.round
          (creations rows act.row.rank creation.win) _ _ is.below (creations_push rows row act.row.rank creation.win);
    }
  where
    grown : (r a b c : ℕ) → r < a → b ≡ a + c → r < b
    grown r a b c h e = omega arith

new_numbered : (rows : List Row) (row : Row) →
    ((creation : Creation) → creation_of row.call ≡ Some creation → creation.win < 32) →
    IsNumberedAct (rows ++ row ∷ []) (act_after rows row)
new_numbered rows row small begins creation makes = record {
  name = small creation makes;
  round = creations rows row.rank creation.win;
  number = new_number rows row creation begins makes;
  below = grown (creations rows row.rank creation.win) (creations (rows ++ row ∷ []) row.rank creation.win)
      (cond (begins_by row.rank creation.win row) 1 0)
      (creations_push rows row row.rank creation.win)
      (ap (λ b. cond b 1 0) (and_from (row.rank == row.rank && begins_window row) (names_window creation.win row.call)
      (and_from (row.rank == row.rank) (begins_window row) (eq-eqb row.rank row.rank refl) begins)
      (names_it row.call creation creation.win makes ∙ eq-eqb creation.win creation.win refl)));
}
  where
    grown : (a b c : ℕ) → b ≡ a + c → c ≡ 1 → a < b
    grown a b c e h = omega arith

pub numbered_push : (rows : List Row) (row : Row) →
    ((creation : Creation) → creation_of row.call ≡ Some creation → creation.win < 32) →
    AllByRecursion (IsNumberedAct rows) (acts rows) → AllByRecursion (IsNumberedAct (rows ++ row ∷ []))
    (acts (rows ++ row ∷ []))
numbered_push rows row small old =
    subst (AllByRecursion (IsNumberedAct (rows ++ row ∷ []))) (sym (acts_push rows row))
    (each_append (IsNumberedAct (rows ++ row ∷ [])) (acts rows) (act_after rows row ∷ [])
    (each_weaker (IsNumberedAct rows) (IsNumberedAct (rows ++ row ∷ [])) (more_numbered rows row) (acts rows) old)
    (new_numbered rows row small, tt))

-- a number of a window has one name and one round
pub one_name : (a b x y : ℕ) → x < 32 → y < 32 → window_number a x ≡ window_number b y → (a ≡ b) × (x ≡ y)
one_name a b x y h k e = (omega arith, omega arith)
