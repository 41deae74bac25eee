-- A part and a list more at each turn.
use Rattle.std.proofs.Common.{◌++◌, [], ◌∷◌, List, replicate, ap, ◌∙◌, arith}
use Rattle.list_laws.proofs.Numbers.{one_more_of}
use Rattle.rma_types.specs.declared.scripts.CallBase.{CallBase}
use Rattle.board_tests.proofs.WholeParts.{layout_by, whole_part}
use Rattle.board_tests.proofs.layouts.whole_layout.Goals as goal

pub loop-init : goal.loop-init
loop-init c = record { parts = c.new-parts.ensures; bases = c.new-bases.ensures }

pub loop-preserved : goal.loop-preserved
loop-preserved c = record {
  parts = c.in-Ok.ensures.ok ∙ ap (λ l. l ++ whole_part ∷ []) c.loop.invariant.parts
      ∙ one_more_of c.loop.counter whole_part;
  bases = c.in-Ok-push.ensures.ok ∙ ap (λ l. l ++ c.new.result ∷ []) c.loop.invariant.bases
      ∙ ap (λ (last : List CallBase). replicate c.loop.counter [] ++ last ∷ []) c.new.ensures
      ∙ one_more_of c.loop.counter [];
}

pub returns : goal.returns
returns c = layout_by c.args.ranks c.loop.counter c.loop.parts c.loop.bases (omega arith) c.loop.invariant.parts
    c.loop.invariant.bases
