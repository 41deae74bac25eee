-- What its rank gave comes to the gains, and what it gained to its clock.
use Rattle.std.proofs.Common.{◌≡◌, List, ℕ, [], ◌∷◌, ◌++◌, Option, Some, None, refl, ap, slice_set, sym, ◌∙◌}
use Rattle.std.proofs.Common.{subst, rules}
use Rattle.std.proofs.Common.{length, arith}
use Rattle.std.specs.Option.{option_map}
use Rattle.std.proofs.lemmas.Option.{get_or_from_slice_get, slice_get_read}
use Rattle.cell_face.specs.declared.fronts.Front.{Front}
use Rattle.kept_rows.specs.KeptCalls.{kept_row}
use Rattle.entry_gains.specs.ByPlace.{KeepsInOrder, front_of}
use Rattle.vector_clocks.specs.Marks.{last_counts, marks_of}
use Rattle.vector_clocks.specs.Numbers.{counts_of}
use Rattle.vector_clocks.specs.Rows.{row_placed}
use Rattle.vector_clocks.proofs.replays.enter.Goals as goal

fronts_are : (gained : Option Front) → option_map Some (option_map (λ (front : Front). front.places) gained)
    ≡ option_map front_of gained
fronts_are None = refl
fronts_are (Some front) = refl

pub returns-clause-put : goal.returns-clause-put
returns-clause-put c = λ ranks entries coming kept. record {
  prev = c.last_numbers-counts.result;
  gained = option_map (λ (front : Front). front.places) c.in_ok-gained.gained;
  last = c.last_numbers-counts.ensures ∙ ap last_counts (c.as_slice.ensures ∙ sym c.index-clocks-one.is
      ∙ sym (get_or_from_slice_get c.args.clocks.now c.args.one.id.rank c.index-clocks-one.result []
      (slice_get_read c.args.clocks.now 16 c.args.one.id.rank c.index-clocks-one.result (sym c.requires.lists)
      c.requires.rank c.index-clocks-one.is)));
  wide = first_of (search rules, grind (arith, c.requires.rank));
  within = let few = c.requires.lists in let below = c.requires.rank in omega (arith, few, below);
  gains_it = fronts_are c.in_ok-gained.gained
      ∙ c.in_ok-gained.ensures.gains ranks entries c.args.one.call coming kept;
  kept = subst (λ gift. KeepsInOrder ranks (entries ++ record {
    row = kept_row (row_placed c.args.one c.args.call.now);
    gift = Some (Some gift);
  } ∷ []) c.enter.new.self) c.in_ok-raise_own.ensures
      (c.in_ok-gained.ensures.keeps ranks entries c.args.one.call coming kept);
  marks = c.in_ok-push_mark.ensures ∙ ap (λ counts. slice_set c.args.clocks.now c.args.one.id.rank
      (marks_of c.args.clocks.now c.args.one.id.rank
      ++ record { index = c.args.one.id.index; counts = counts } ∷ []))
      (c.joined.ensures
      ∙ ap (counts_of (option_map (λ (front : Front). front.places) c.in_ok-gained.gained)) c.in_ok-raise_own.ensures);
}
