-- What holds of an attach that its rank does not refuse.
use Rattle.std.proofs.Common.{◌≡◌, ℕ, List, Option, Some, None, sym, ◌∙◌, ap, ap₂, subst}
use Rattle.std.specs.Prelude.{ℤ, pos, negsuc, IfSome}
use Rattle.rma_types.specs.declared.scripts.Part.{Part}
use Rattle.rma_types.specs.declared.calls.Call.{Call}
use Rattle.rma_types.specs.declared.actions.Creation.{Creation}
use Rattle.rma_types.specs.declared.actions.Action.TheVariants.{Attaches, Creates}
use Rattle.rma_types.specs.Actions.{action_of}
use Rattle.call_rules.specs.Ranks.{natural}
use Rattle.rank_rules.specs.Windows.{RankWindows, next_number, windows_after, with_window}
use Rattle.rank_rules.specs.WindowTests.{window_class, window_tests}
use Rattle.rank_rules.proofs.ClassLaws.{none_applies}
use Rattle.window_regions.specs.declared.window.Shape.{Shape}
use Rattle.rank_engine.specs.Learning.{HasParts, HasShape}

-- its base and its bytes are not below 0
pub attach_passes : (known : RankWindows) (win : ℕ) (base bytes : ℤ) →
    window_class known (Attaches win base bytes) ≡ None →
    window_class known (Attaches win (pos (natural base)) (pos (natural bytes))) ≡ None
attach_passes known win (pos base) (pos bytes) e = e
attach_passes known win base (negsuc bytes) e =
    let all = none_applies (window_tests known (Attaches win base (negsuc bytes))) e in absurd (cc all.1.1.0)
attach_passes known win (negsuc base) (pos bytes) e =
    let all = none_applies (window_tests known (Attaches win (negsuc base) (pos bytes))) e in absurd (cc all.1.1.1.0)

-- the window that is made is that of the creation
pub made_is : (shapes : ℕ → List Part) (known new : RankWindows) (creation : Creation) (made : Option Shape) →
    HasShape (Creates creation) made → HasParts shapes known (Creates creation) made →
    IfSome made (λ (shape : Shape). new ≡ with_window known creation.win
    (next_number known.created creation.win) shape.flavor shape.parts) →
    new ≡ windows_after shapes known (Creates creation)
made_is shapes known new creation None there parts is = absurd there
made_is shapes known new creation (Some shape) there parts is =
    is ∙ ap₂ (with_window known creation.win (next_number known.created creation.win)) there.0 parts

pub made_after : (shapes : ℕ →
    List Part) (known new : RankWindows) (call : Call) (creation : Creation) (made : Option Shape) →
    action_of call ≡ Creates creation → HasShape (action_of call) made → HasParts shapes known (action_of call) made →
    IfSome made (λ (shape : Shape). new ≡ with_window known creation.win
    (next_number known.created creation.win) shape.flavor shape.parts) →
    new ≡ windows_after shapes known (action_of call)
made_after shapes known new call creation made is there parts made_it =
    made_is shapes known new creation made (subst (λ a. HasShape a made) is there)
    (subst (λ a. HasParts shapes known a made) is parts) made_it ∙ ap (windows_after shapes known) (sym is)
