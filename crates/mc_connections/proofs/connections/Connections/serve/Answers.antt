use Rattle.std.proofs.Common.{◌≡◌, refl, rules, sym}
use Rattle.mc_connections.proofs.Counts.{counted_left, counted_served, holds_one, known_left, known_served}
use Rattle.mc_connections.proofs.Servings.{becomes_closed, becomes_in_place, goes_closed, stays_in_place}
use Rattle.slab.specs.Slab.{with_value}
use Rattle.mc_connections.specs.Serving.{IsTallied, Spends, scene_of}
use Rattle.mc_connections.proofs.connections.Connections.serve.Goals as goal

pub returns-in-Some-try_remove-clause-serves : goal.returns-in-Some-try_remove-clause-serves
returns-in-Some-try_remove-clause-serves g c =
    goes_closed c.args.until_done _ _ c.serve-served.result.state _ _ _ _ c.serve-served.new.self (sym c.in-Some.ensures.value) c.serve-served.ensures.later refl (search rules)
    c.in-Some-try_remove.connection (search (rules, c.eq.ensures, c.if-eq.true)) c.in-Some-try_remove.ensures.value c.in-Some-try_remove.ensures.updates (search rules)

pub returns-in-Some-try_remove-clause-spends : goal.returns-in-Some-try_remove-clause-spends
returns-in-Some-try_remove-clause-spends g c =
    becomes_closed (Spends c.serve-served.result.requests c.serve-served.result.bytes) ((c.serve-served.result.requests ≡ 0) × (c.serve-served.result.bytes ≡ 0)) c.serve-served.result.state c.args.self.now.by_key c.try_remove.new.self
    c.args.self.now.ended.connections c.and-self.result.connections c.args.key c.in-Some.connection.now c.serve-served.new.self (sym c.in-Some.ensures.value) (c.serve-served.ensures.requests, c.serve-served.ensures.bytes)
    c.in-Some-try_remove.connection (search (rules, c.eq.ensures, c.if-eq.true)) c.in-Some-try_remove.ensures.value c.in-Some-try_remove.ensures.updates (search rules)

pub returns-else-eq-clause-serves : goal.returns-else-eq-clause-serves
returns-else-eq-clause-serves g c =
    stays_in_place c.args.until_done _ _ c.serve-served.result.state _ _ _ _ c.serve-served.new.self (sym c.in-Some.ensures.value) c.serve-served.ensures.later refl refl (search rules) refl refl

pub returns-else-eq-clause-spends : goal.returns-else-eq-clause-spends
returns-else-eq-clause-spends g c =
    becomes_in_place (Spends c.serve-served.result.requests c.serve-served.result.bytes) ((c.serve-served.result.requests ≡ 0) × (c.serve-served.result.bytes ≡ 0)) c.serve-served.result.state c.args.self.now.by_key
    (with_value c.args.self.now.by_key c.args.key c.serve-served.new.self) c.args.self.now.ended.connections c.args.self.now.ended.connections c.args.key c.in-Some.connection.now c.serve-served.new.self
    (sym c.in-Some.ensures.value) (c.serve-served.ensures.requests, c.serve-served.ensures.bytes) (search rules) refl refl

pub returns-in-Some-try_remove-clause-tally : goal.returns-in-Some-try_remove-clause-tally
returns-in-Some-try_remove-clause-tally g c =
    becomes_closed (λ one other _. IsTallied (scene_of one c.args.worker.now) (scene_of other c.serve-served.new.worker) c.args.tally.now c.serve-served.new.tally)
    (c.serve-served.new.tally ≡ c.args.tally.now) c.serve-served.result.state c.args.self.now.by_key c.try_remove.new.self
    c.args.self.now.ended.connections c.and-self.result.connections c.args.key c.in-Some.connection.now c.serve-served.new.self (sym c.in-Some.ensures.value) c.serve-served.ensures.tally
    c.in-Some-try_remove.connection (search (rules, c.eq.ensures, c.if-eq.true)) c.in-Some-try_remove.ensures.value c.in-Some-try_remove.ensures.updates (search rules)

pub returns-else-eq-clause-tally : goal.returns-else-eq-clause-tally
returns-else-eq-clause-tally g c =
    becomes_in_place (λ one other _. IsTallied (scene_of one c.args.worker.now) (scene_of other c.serve-served.new.worker) c.args.tally.now c.serve-served.new.tally)
    (c.serve-served.new.tally ≡ c.args.tally.now) c.serve-served.result.state c.args.self.now.by_key
    (with_value c.args.self.now.by_key c.args.key c.serve-served.new.self) c.args.self.now.ended.connections c.args.self.now.ended.connections c.args.key c.in-Some.connection.now c.serve-served.new.self
    (sym c.in-Some.ensures.value) c.serve-served.ensures.tally (search rules) refl refl

-- it stays
pub invariant_of-self-else-eq-clause-counted : goal.invariant_of-self-else-eq-clause-counted
invariant_of-self-else-eq-clause-counted g c =
    counted_served c.args.self.now.by_key c.args.key c.in-Some.connection.now c.serve-served.new.self (sym c.in-Some.ensures.value) c.serve-served.ensures.later.role c.args.self.now.tenants c.args.self.now.places
    c.args.self.now.counted

pub invariant_of-self-else-eq-clause-known : goal.invariant_of-self-else-eq-clause-known
invariant_of-self-else-eq-clause-known g c =
    known_served c.args.self.now.by_key c.args.key c.in-Some.connection.now c.serve-served.new.self (sym c.in-Some.ensures.value) c.serve-served.ensures.later.role c.args.self.now.tenants c.args.self.now.known

-- it has ended
pub give_back-requires : goal.give_back-requires
give_back-requires g c =
    let counted = counted_served c.args.self.now.by_key c.args.key c.in-Some.connection.now c.serve-served.new.self (sym c.in-Some.ensures.value) c.serve-served.ensures.later.role c.args.self.now.tenants c.args.self.now.places
    c.args.self.now.counted in
    let known = known_served c.args.self.now.by_key c.args.key c.in-Some.connection.now c.serve-served.new.self (sym c.in-Some.ensures.value) c.serve-served.ensures.later.role c.args.self.now.tenants c.args.self.now.known in
    holds_one c.args.self.now.tenants c.args.self.now.places _ c.try_remove.new.self c.args.key c.in-Some-try_remove.connection c.args.self.now.holders counted known (sym c.in-Some-try_remove.ensures.value)
    c.in-Some-try_remove.ensures.updates c.role.result.now c.role.ensures

pub invariant_of-self-then-eq-clause-counted : goal.invariant_of-self-then-eq-clause-counted
invariant_of-self-then-eq-clause-counted g c =
    let counted = counted_served c.args.self.now.by_key c.args.key c.in-Some.connection.now c.serve-served.new.self (sym c.in-Some.ensures.value) c.serve-served.ensures.later.role c.args.self.now.tenants c.args.self.now.places
    c.args.self.now.counted in
    let known = known_served c.args.self.now.by_key c.args.key c.in-Some.connection.now c.serve-served.new.self (sym c.in-Some.ensures.value) c.serve-served.ensures.later.role c.args.self.now.tenants c.args.self.now.known in
    counted_left c.args.self.now.tenants c.args.self.now.places _ c.try_remove.new.self c.args.key c.in-Some-try_remove.connection c.args.self.now.holders counted known (sym c.in-Some-try_remove.ensures.value)
    c.in-Some-try_remove.ensures.updates c.role.result.now c.role.ensures c.give_back.new.self c.in-Some-try_remove.ensures.len c.give_back.ensures

pub invariant_of-self-then-eq-clause-known : goal.invariant_of-self-then-eq-clause-known
invariant_of-self-then-eq-clause-known g c =
    let counted = counted_served c.args.self.now.by_key c.args.key c.in-Some.connection.now c.serve-served.new.self (sym c.in-Some.ensures.value) c.serve-served.ensures.later.role c.args.self.now.tenants c.args.self.now.places
    c.args.self.now.counted in
    let known = known_served c.args.self.now.by_key c.args.key c.in-Some.connection.now c.serve-served.new.self (sym c.in-Some.ensures.value) c.serve-served.ensures.later.role c.args.self.now.tenants c.args.self.now.known in
    known_left c.args.self.now.tenants c.args.self.now.places _ c.try_remove.new.self c.args.key c.in-Some-try_remove.connection c.args.self.now.holders counted known (sym c.in-Some-try_remove.ensures.value)
    c.in-Some-try_remove.ensures.updates c.role.result.now c.role.ensures
