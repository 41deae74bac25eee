use Rattle.std.proofs.Common.{subst, sym}
use Rattle.shared_ranks.proofs.Lived.{drain_answered}
use Rattle.shared_ranks.proofs.ranks.Rank.deliver_first.Goals as goal
use Rattle.shared_ranks.specs.Drains.{DeliversSince}

pub returns-clause-delivers : goal.returns-clause-delivers
returns-clause-delivers g c run stopped since was =
    let face_of = g.M.Memory.face in
    let knows_of = g.M.Memory.knows in
    drain_answered c.in_ok-turned.turned run stopped since c.self.inside.agent c.drain.new.self
    (face_of c.self.inside.memory) (face_of c.drain.new.mem) (knows_of c.self.inside.memory) (knows_of c.drain.new.mem)
    c.is_sound.ensures c.in_ok-turned.ensures.answer c.drain.ensures.known
    (subst (λ r. DeliversSince run stopped since r.state (face_of r.memory) (knows_of r.memory)) (sym c.self.view_is)
    was)
