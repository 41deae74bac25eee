use Rattle.std.proofs.Common.{◌<◌, ◌+◌, length, refl, set, arith, subst, sym, cond}
use Rattle.std.specs.Prelude.{sum_by}
use Rattle.rank_runners.proofs.Drained.{Leaves, begins, within_still, room_still, between_still_here, leaves_less}
use Rattle.rank_runners.proofs.Drained.{pending_falls, pending_of, rank_drained}
use Rattle.rank_runners.proofs.runners.Runner.drain_rank.Goals as goal

pub deliveries-init : goal.deliveries-init
deliveries-init c = λ stage world w. begins stage world c.args.rank c.args.self.now w

pub index_mut-requires : goal.index_mut-requires
index_mut-requires c =
    let within = within_still c.args.self.now c.deliveries.self c.args.rank c.deliveries.more c.requires.world
    c.requires.rank c.deliveries.invariant in
    omega (arith, c.from.ensures)

pub deliver_first-requires-clause-room : goal.deliver_first-requires-clause-room
deliver_first-requires-clause-room c =
    room_still c.args.self.now c.deliveries.self c.args.rank c.from.result _ c.index_mut.result.now c.requires.world
    c.requires.rank
    c.deliveries.invariant c.from.ensures c.index_mut.ensures.value

pub deliver_first-requires-clause-between : goal.deliver_first-requires-clause-between
deliver_first-requires-clause-between c =
    between_still_here c.args.self.now c.deliveries.self c.args.rank c.from.result _ c.index_mut.result.now
    c.requires.world c.requires.rank
    c.deliveries.invariant c.from.ensures c.index_mut.ensures.value

pub deliveries-smaller : goal.deliveries-smaller
deliveries-smaller c =
    let within = within_still c.args.self.now c.deliveries.self c.args.rank c.deliveries.more c.requires.world
    c.requires.rank c.deliveries.invariant in
    let at : c.from.result < length c.deliveries.self.agents.items = omega (arith, c.from.ensures) in
    let now = set c.deliveries.self.agents.items c.from.result c.deliver_first.new.agent in
    subst (λ b. sum_by pending_of now + cond c.in_ok-more.more 1 0 < sum_by pending_of c.deliveries.self.agents.items
    + cond b 1 0)
    (sym c.deliveries-test.true)
    (pending_falls c.in_ok-more.more c.deliveries.self.agents.items c.from.result c.index_mut.result.now
    c.deliver_first.new.agent
    c.deliveries.self.memory c.deliver_first.new.memory at c.index_mut.ensures.value c.in_ok-more.ensures)

pub deliveries-preserved : goal.deliveries-preserved
deliveries-preserved c =
    leaves_less c.args.self.now c.deliveries.self _ c.args.rank c.from.result c.in_ok-more.more
    c.index_mut.result.now c.deliver_first.new.agent
    c.requires.world c.requires.rank
    (subst (λ b. Leaves c.args.self.now c.args.rank b c.deliveries.self) c.deliveries-test.true c.deliveries.invariant)
    c.from.ensures c.index_mut.ensures.value c.in_ok-more.ensures refl refl

pub returns : goal.returns
returns c = λ stage world w. rank_drained stage world c.args.rank c.deliveries.self
    (subst (λ b. Leaves c.args.self.now c.args.rank b c.deliveries.self) c.deliveries-test.false
    c.deliveries.invariant stage world w)
