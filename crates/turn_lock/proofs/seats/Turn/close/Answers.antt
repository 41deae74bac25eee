use Rattle.turn_lock.proofs.Ending.{ends_in, ends_not}
use Rattle.turn_lock.proofs.seats.Turn.close.Goals as goal

pub unreachable-requires : goal.unreachable-requires
unreachable-requires g c =
    ends_not g.V.Listed.list g.V.Listed.owner g.V.Listed.origin _ _ _ _ _ _ _ _
    c.gather_seats-all.ensures.all c.requires.count c.close_with-closed.ensures.values.2 c.take-value.ensures.value c.in-None.is

pub returns-clause-origin : goal.returns-clause-origin
returns-clause-origin g c =
    (ends_in g.V.Listed.list g.V.Listed.owner g.V.Listed.origin _ _ _ _ _ _ _ _ c.in-Some.value
    c.gather_seats-all.ensures.all c.requires.count c.close_with-closed.ensures.values.2 c.take-value.ensures.value c.in-Some.is).from_start

pub returns-clause-own : goal.returns-clause-own
returns-clause-own g c =
    (ends_in g.V.Listed.list g.V.Listed.owner g.V.Listed.origin _ _ _ _ _ _ _ _ c.in-Some.value
    c.gather_seats-all.ensures.all c.requires.count c.close_with-closed.ensures.values.2 c.take-value.ensures.value c.in-Some.is).gave

pub returns-clause-owners : goal.returns-clause-owners
returns-clause-owners g c =
    (ends_in g.V.Listed.list g.V.Listed.owner g.V.Listed.origin _ _ _ _ _ _ _ _ c.in-Some.value
    c.gather_seats-all.ensures.all c.requires.count c.close_with-closed.ensures.values.2 c.take-value.ensures.value c.in-Some.is).owned

pub returns-clause-known : goal.returns-clause-known
returns-clause-known g c =
    (ends_in g.V.Listed.list g.V.Listed.owner g.V.Listed.origin _ _ _ _ _ _ _ _ c.in-Some.value
    c.gather_seats-all.ensures.all c.requires.count c.close_with-closed.ensures.values.2 c.take-value.ensures.value c.in-Some.is).knew
