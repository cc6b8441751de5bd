use Rattle.std.proofs.Common.{arith, refl, rules, subst, sym}
use Rattle.mc_conn.specs.Owed.{IsAmong}
use Rattle.mc_connections.proofs.Counts.{counted_admitted, known_admitted, room_taken}
use Rattle.mc_connections.proofs.Workings.{admits_at}
use Rattle.mc_connections.proofs.connections.Connections.admit.Goals as goal

pub insert_reserved-requires : goal.insert_reserved-requires
insert_reserved-requires c =
    omega (
      arith,
      c.args.self.now.room,
      room_taken c.args.self.now.tenants c.args.self.now.places c.args.self.now.by_key _ _ 1040 c.args.self.now.holders c.args.self.now.counted (c.is_among.ensures.0 c.if-not-is_among.false) c.take.ensures.taken c.take.ensures.few,
    )

pub returns : goal.returns
returns c = (
  c.has_place.ensures.0 c.if-not-has_place.false,
  admits_at c.args.self.now _ c.args.arrival c.insert_reserved.result _ c.insert_reserved.ensures.was_vacant c.insert_reserved.ensures.updates
      (record { stream = search rules; role = c.of.ensures.role; holding = c.of.ensures.holding; queue = c.of.ensures.queue; going = search rules; tapes = search rules }) refl refl c.take.ensures.taken,
)

pub invariant_of-self-clause-counted : goal.invariant_of-self-clause-counted
invariant_of-self-clause-counted c =
    counted_admitted c.args.self.now.tenants c.args.self.now.places c.args.self.now.by_key c.insert_reserved.new.self _ _ _ _ c.args.self.now.holders c.args.self.now.counted
    (c.is_among.ensures.0 c.if-not-is_among.false) c.of.ensures.role c.insert_reserved.ensures.was_vacant c.insert_reserved.ensures.updates c.insert_reserved.ensures.len c.take.ensures.taken

pub invariant_of-self-clause-known : goal.invariant_of-self-clause-known
invariant_of-self-clause-known c =
    let is = subst (λ role. IsAmong role c.args.self.now.tenants) (sym c.of.ensures.role) (c.is_among.ensures.0 c.if-not-is_among.false) in
    known_admitted c.args.self.now.by_key c.insert_reserved.new.self _ _ c.args.self.now.tenants c.args.self.now.known c.insert_reserved.ensures.updates is
