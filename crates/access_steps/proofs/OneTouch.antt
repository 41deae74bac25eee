-- One touch of a cell, from what the calls of a memory say.
use Rattle.std.proofs.Common.{◌≡◌, ℕ, ◌+◌, List, [], ◌∷◌, ◌++◌, refl, sym, ap, subst, append-nil, ◌∙◌, arith, Option}
use Rattle.std.proofs.Common.{Some, None, IfSome}
use Rattle.std.specs.Prelude.{slice_set}
use Rattle.std.specs.Option.{option_map}
use Rattle.call_rules.specs.declared.cells.Cell.{Cell}
use Rattle.call_rules.specs.declared.elements.Change.{Change}
use Rattle.call_rules.specs.Elements.{next}
use Rattle.call_rules.specs.Touches.{cell_at, cells_after}
use Rattle.cell_face.specs.Faces.{Face, Update, Looks, Updates, Moves, Rose, IsToldAt, state_after}
use Rattle.access_steps.specs.TouchesMade.{TouchesMade, TouchesOne, TouchesNone, cells_left, SeesEach}

-- the cells after the one update
told_once : (told : Option (List Cell)) (cell : ℕ) (seen : Cell) (change : Change) (bits : ℕ) →
    bits ≡ next seen.bits change →
    IfSome told (λ cells. seen ≡ cell_at cells cell) →
    option_map (λ cells. slice_set cells cell (state_after bits seen)) told ≡ option_map
    (λ cells. cells_after cells cell (Some change)) told
told_once None cell seen change bits e same = refl
told_once (Some cells) cell seen change bits e same = ap (λ (it : List Cell). Some it)
    (ap (λ n. slice_set cells cell (state_after n seen)) e
    ∙ ap (λ (s : Cell). slice_set cells cell (record { bits = next s.bits change; place = s.place + 1 })) same)

states_once : (told : Option (List Cell)) (cell : ℕ) (seen : Cell) (change : Option Change) (element : ℕ) →
    IfSome told (λ cells. seen ≡ cell_at cells cell) →
    IfSome told (λ cells. SeesEach cells
    (record { plan = record { element = element; cell = cell; change = change }; seen = seen } ∷ []))
states_once None cell seen change element same = tt
states_once (Some cells) cell seen change element same = (same, tt)

-- an update of the state that the cell has, where it is told
pub updates_once : (before after : Face) (cell : ℕ) (seen : Cell) (change : Change) (bits : ℕ) →
    bits ≡ next seen.bits change →
    IsToldAt before cell seen → Updates before after cell seen bits → TouchesOne before after cell (Some change) seen
updates_once before after cell seen change bits e same made = record {
  made = λ element. record {
    stays = made.stays;
    share = made.share;
    updates = made.updates ∙ ap (λ n. option_map
        (λ us. us ++ record { cell = cell; place = seen.place; before = seen.bits; after = n } ∷ []) before.updates) e;
    told = made.told ∙ told_once before.told cell seen change bits e same;
    states = states_once before.told cell seen (Some change) element same;
    not_below = (made.not_below, tt);
    raised = (omega (arith, made.raised), tt);
    order = (tt, tt);
  };
  moves = made.moves;
}

untold : (told : Option (List Cell)) (cell : ℕ) (seen : Cell) → IfSome told (λ cells. seen ≡ cell_at cells cell) →
    IfSome told (λ cells. seen.place ≡ (cell_at cells cell).place → ⊥) → told ≡ None
untold None cell seen same differ = refl
untold (Some cells) cell seen same differ = absurd (differ (ap (λ (s : Cell). s.place) same))

same_updates : (made : Option (List Update)) → made ≡ option_map (λ us. us ++ []) made
same_updates None = refl
same_updates (Some us) = ap (λ (it : List Update). Some it) (sym (append-nil us))

same_told : (told : Option (List Cell)) → told ≡ option_map (λ cells. cells_left cells []) told
same_told None = refl
same_told (Some cells) = refl

no_states : (told : Option (List Cell)) → IfSome told (λ cells. SeesEach cells [])
no_states None = tt
no_states (Some cells) = tt

-- no touch at all
pub TouchesMade-none : (face : Face) → TouchesMade face face []
TouchesMade-none face = record {
  stays = record { cells = refl; lows = λ c. omega arith; grant = refl; name = refl };
  share = omega arith;
  updates = same_updates face.updates;
  told = same_told face.told;
  states = no_states face.told;
  not_below = tt;
  raised = tt;
  order = tt;
}

-- an attempt on the state that a load gave came too late
pub moves_once : (before middle after : Face) (cell : ℕ) (seen later : Cell) → Looks before middle cell seen →
    Moves middle after cell seen later → TouchesNone before after
moves_once before middle after cell seen later look move =
    let told : before.told ≡ None = untold before.told cell seen look.told_state
    (subst (λ (t : Option (List Cell)). IfSome t (λ cells. seen.place ≡ (cell_at cells cell).place → ⊥))
    look.unwritten.told move.told_place) in
    record {
      made = record {
        stays = record {
          cells = move.unwritten.stays.cells ∙ look.unwritten.stays.cells;
          lows = λ c. omega (arith, look.unwritten.stays.lows c, move.unwritten.stays.lows c);
          grant = move.unwritten.stays.grant ∙ look.unwritten.stays.grant;
          name = move.unwritten.stays.name ∙ look.unwritten.stays.name;
        };
        share = omega (arith, look.unwritten.share, move.unwritten.share);
        updates = move.unwritten.updates ∙ (look.unwritten.updates ∙ same_updates before.updates);
        told = move.unwritten.told ∙ (look.unwritten.told ∙ same_told before.told);
        states = no_states before.told;
        not_below = tt;
        raised = tt;
        order = tt;
      };
      moves = subst (λ n. Rose n after.moves) look.moves move.moves;
      untold = told;
    }
