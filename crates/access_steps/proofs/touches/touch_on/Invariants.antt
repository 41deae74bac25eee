use Rattle.std.proofs.Common.{◌≡◌, ◌+◌, ◌-◌, ◌≤◌}
use Rattle.cell_face.specs.Faces.{Keeps}
use Rattle.access_steps.specs.Plans.{planned_touches}
use Rattle.access_steps.specs.TouchesMade.{TouchesKept}
use Rattle.access_steps.proofs.touches.touch_on.Given as goal

abbrev pub invariant-loop-element : goal.invariant-loop-element
invariant-loop-element g l = record {
  begin : l.from ≤ l.element;
  touches : TouchesKept (g.M.Memory.face l.initial.mem) (g.M.Memory.face l.mem) (g.M.Memory.knows l.mem)
      (g.L.Keep.kept l.initial.log) (g.L.Keep.kept l.log) l.issue
      (planned_touches l.layout l.access l.call l.from (l.element - l.from));
  moves : (g.M.Memory.face l.mem).moves ≡ (g.M.Memory.face l.initial.mem).moves;
  known : Keeps (g.M.Memory.knows l.initial.mem) (g.M.Memory.knows l.mem);
  spare : g.L.Keep.spare l.log + (l.element - l.from) ≡ g.L.Keep.spare l.initial.log;
  free_above : g.L.Keep.free l.initial.log ≤ g.L.Keep.free l.log + (l.element - l.from);
  free_below : g.L.Keep.free l.log ≤ g.L.Keep.free l.initial.log;
  home : g.L.Keep.home l.log ≡ g.L.Keep.home l.initial.log;
}
