-- The tables of one rank more, behind those of the others.
use Rattle.std.proofs.Common.{List, [], ◌∷◌, ◌++◌, ap, subst, sym, ◌∙◌}
use Rattle.std.specs.Prelude.{map}
use Rattle.std.specs.List.{All}
use Rattle.std.proofs.lemmas.List.{map-append}
use Rattle.std.proofs.lemmas.List.Elements.{All-push}
use Rattle.rank_records.specs.declared.kept.RankRecord.{RankRecord}
use Rattle.first_points.specs.Tables.{HasItsSteps}
use Rattle.first_points.specs.declared.step_searches.RankTables.{RankTables}
use Rattle.first_points.proofs.step_searches.put_rank.Goals as goal

pub returns-clause-steps : goal.returns-clause-steps
returns-clause-steps c =
    subst (λ (ranks : List RankTables). All (HasItsSteps c.args.searches.now.script.now) ranks)
    (sym c.in_ok-push_rank.ensures)
    (All-push (HasItsSteps c.args.searches.now.script.now) c.args.searches.now.ranks.items c.in_ok-rank.rank
    c.requires.steps c.in_ok-rank.ensures.steps)

pub returns-clause-records : goal.returns-clause-records
returns-clause-records c =
    ap (map (λ (r : RankTables). r.kept.now)) c.in_ok-push_rank.ensures
    ∙ map-append (λ (r : RankTables). r.kept.now) c.args.searches.now.ranks.items (c.in_ok-rank.rank ∷ [])
    ∙ ap (λ (one : RankRecord). map (λ (r : RankTables). r.kept.now) c.args.searches.now.ranks.items ++ one ∷ [])
    c.in_ok-rank.ensures.kept
