use Rattle.std.proofs.Common.{rules, ◌≡◌, ◌++◌, [], ◌∷◌, length, drop, ap, ◌∙◌, sym, ◌<◌, arith}
use Rattle.std.proofs.lemmas.List.{append-nil}
use lib.ListN.{length-drop}
use Rattle.turn_lock.specs.Seats.{gathered}
use Rattle.turn_lock.proofs.SeatLists.{seam, gather_more, gathered_out}
use Rattle.turn_lock.proofs.Seating.{joins}
use Rattle.turn_lock.proofs.dealing.gather_seats.Goals as goal

pub loop-seat-init : goal.loop-seat-init
loop-seat-init g c =
    let name = c.args.shared.now.table_id in
    let o = g.V.Listed.origin c.args.shared.now.key.value.value in
    let split : c.args.seats.items ≡ c.pop.new.self.items ++ c.unwrap-all.result ∷ [] = search rules in
    let s = seam name o c.args.seats.items c.pop.new.self.items c.unwrap-all.result [] (split ∙ sym (append-nil _)) c.requires.idle in
    (s.here.0, s.whole, s.fewer, s.here.1 ∙ ap (λ l. (gathered o l, [])) (sym s.behind))

pub join_seat-requires : goal.join_seat-requires
join_seat-requires g c =
    let name = c.args.shared.now.table_id in
    let o = g.V.Listed.origin c.args.shared.now.key.value.value in
    let inv = c.loop-seat.invariant in
    let taken = drop (length c.loop-seat.seats.items) c.args.seats.items in
    let split : c.loop-seat.seats.items ≡ c.pop-in-loop-seat.new.self.items ++ c.in-Some.seat ∷ [] = search rules in
    let s = seam name o c.args.seats.items c.pop-in-loop-seat.new.self.items c.in-Some.seat taken (sym inv.1 ∙ ap (λ l. l ++ taken) split) c.requires.idle in
    let out = gathered_out o taken in (
      s.here.0,
      inv.0,
      ap (λ m. m.1) inv.3,
      c.requires.table,
      joins g.V.Listed.list g.V.Listed.owner g.V.Listed.origin _ _ _ _ _ _ (ap (λ m. m.0.ticket) inv.3 ∙ out.0) (ap (λ m. m.0.inside) inv.3 ∙ out.1),
    )

pub loop-seat-preserved : goal.loop-seat-preserved
loop-seat-preserved g c =
    let name = c.args.shared.now.table_id in
    let o = g.V.Listed.origin c.args.shared.now.key.value.value in
    let inv = c.loop-seat.invariant in
    let old = c.loop-seat.seats.items in
    let taken = drop (length old) c.args.seats.items in
    let split : old ≡ c.pop-in-loop-seat.new.self.items ++ c.in-Some.seat ∷ [] = search rules in
    let s = seam name o c.args.seats.items c.pop-in-loop-seat.new.self.items c.in-Some.seat taken (sym inv.1 ∙ ap (λ l. l ++ taken) split) c.requires.idle in
    let some : 0 < length taken = let d = length-drop (length old) c.args.seats.items in let e = inv.2 in omega arith in (
      search rules,
      s.whole,
      s.fewer,
      c.join_seat.ensures.2 ∙ (λ i. (gather_more name o c.in-Some.seat taken _ s.here (ap (λ m. m.0) inv.3) some i, ap (λ m. m.1) s.here.1 i)) ∙ ap (λ l. (gathered o l, [])) (sym s.behind),
    )
