-- One block more.
use Rattle.std.proofs.Common.{◌≡◌, ◌+◌, ◌*◌, ◌<◌, inl, inr, sym, subst, ◌∙◌, ap, arith, length}
use Rattle.std.specs.Prelude.{Contains}
use Rattle.std.proofs.lemmas.Bool.{cases_lt}
use Rattle.access_index.specs.Indexes.{BelongsTo, block_group}
use Rattle.access_index.specs.Lists.{ordinals_in}
use Rattle.access_index.specs.declared.regions.Group.{Group}
use Rattle.access_index.specs.declared.regions.Region.TheVariants.{Block}
use Rattle.access_index.proofs.index.AccessIndex.put_blocks.Goals as goal

pub loop-block-preserved : goal.loop-block-preserved
loop-block-preserved c =
    let block = c.loop-block.block in
    let rank = c.args.rank in
    let a = c.args.access.now in
    let begun : a.lo < 4 * block + 4 = omega arith in
    let inside : 4 * block < a.lo + a.len = omega arith in
    let group : Group = record { region = Block a.target block; class = c.class_in_block-class.result } in
    let same : group ≡ block_group block rank a =
    λ i. record { region = Block a.target block; class = c.class_in_block-class.ensures i } in record {
      sound = λ rows sound each last. c.in_ok-put.ensures.sound rows
          (c.loop-block.invariant.sound rows sound each last)
          (subst (λ (g : Group). BelongsTo rows g c.args.ordinal) (sym same) (each block begun inside))
          (ap (λ (g : Group). length (rows g.class.rank)) same ∙ last);
      keeps = λ other o has. c.in_ok-put.ensures.keeps other o (c.loop-block.invariant.keeps other o has);
      listed = λ other first below. elim (cases_lt other block) [
        | inl earlier ↦ c.in_ok-put.ensures.keeps (block_group other rank a) c.args.ordinal
            (c.loop-block.invariant.listed other first earlier)
        | inr later ↦
            let now : block ≡ other = omega (arith, below, later) in
            subst (λ b. Contains (ordinals_in c.put.new.self.ordinals (block_group b rank a)) c.args.ordinal) now
            (subst (λ (g : Group). Contains (ordinals_in c.put.new.self.ordinals g) c.args.ordinal) same
            c.in_ok-put.ensures.listed)
      ];
      counts = c.put.ensures.counts ∙ c.loop-block.invariant.counts;
    }
