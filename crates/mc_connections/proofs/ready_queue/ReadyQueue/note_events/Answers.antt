use Rattle.std.proofs.Common.{◌≡◌, ◌∙◌, ◌-◌, ◌^◌, ◌<◌, ◌≤◌, ◌≢◌, ap, arith, rules, true}
use Rattle.std.specs.Slice.Iter.{iter_rest}
use Rattle.mio.specs.Events.{items}
use Rattle.mio.specs.declared.token.Token.{Token}
use Rattle.mc_connections.specs.declared.closing.TheConstants.{FIRST_TOKEN}
use Rattle.mc_connections.proofs.Rounds.{noted_all, noted_more, noted_none, noted_one, noted_other, wakes, wakes_not}
use Rattle.mc_connections.proofs.ready_queue.ReadyQueue.note_events.Goals as goal

pub loop-event-init : goal.loop-event-init
loop-event-init c = record {
  next = search rules;
  finite = search rules;
  same = search rules;
  tallies = search rules;
  notes = noted_none c.args.self.now.connections (items c.args.events.now) (iter_rest c.into_iter-event-iterator.result) c.args.self.now.waiting c.into_iter-event-iterator.ensures.into_iter_gives.0;
}

-- the waker's event
pub loop-event-preserved-then-eq : goal.loop-event-preserved-then-eq
loop-event-preserved-then-eq c = record {
  next = search rules;
  finite = search rules;
  same = c.loop-event.invariant.same;
  tallies = c.loop-event.invariant.tallies;
  notes =
      let is : c.token-token.result.0 ≡ 2 ^ 64 - 1 = search (rules, c.eq.ensures, c.if-eq.true) in
      let past : FIRST_TOKEN ≤ c.token-token.result.0 = omega arith in
      noted_more c.args.self.now.connections (items c.args.events.now) (iter_rest c.loop-event.event-iterator) (iter_rest c.next.new.self) c.in-Some.event.now c.args.self.now.waiting c.loop-event.self.waiting c.loop-event.self.waiting
      c.loop-event.is_woken true c.in-Some.ensures.steps c.loop-event.invariant.notes
      (noted_other c.args.self.now.connections c.in-Some.event.now c.token-token.result.0 c.loop-event.self.waiting (ap (λ (token : Token). token.0) c.token-token.ensures) past)
      (wakes c.in-Some.event.now c.token-token.result.0 c.loop-event.is_woken (ap (λ (token : Token). token.0) c.token-token.ensures) is);
}

-- the event of a stream that closes
pub loop-event-preserved-in-Some-place_of : goal.loop-event-preserved-in-Some-place_of
loop-event-preserved-in-Some-place_of c = record {
  next = search rules;
  finite = search rules;
  same = c.loop-event.invariant.same;
  tallies = c.loop-event.invariant.tallies;
  notes =
      let past : FIRST_TOKEN ≤ c.token-token.result.0 = omega (arith, c.in-Some-place_of.ensures.place) in
      let other : c.token-token.result.0 ≢ 2 ^ 64 - 1 = search (rules, c.eq.ensures, c.if-eq.false) in
      noted_more c.args.self.now.connections (items c.args.events.now) (iter_rest c.loop-event.event-iterator) (iter_rest c.next.new.self) c.in-Some.event.now c.args.self.now.waiting c.loop-event.self.waiting c.loop-event.self.waiting
      c.loop-event.is_woken c.loop-event.is_woken c.in-Some.ensures.steps c.loop-event.invariant.notes
      (noted_other c.args.self.now.connections c.in-Some.event.now c.token-token.result.0 c.loop-event.self.waiting (ap (λ (token : Token). token.0) c.token-token.ensures) past)
      (wakes_not c.in-Some.event.now c.token-token.result.0 c.loop-event.is_woken (ap (λ (token : Token). token.0) c.token-token.ensures) other);
}

-- the event of a connection
pub loop-event-preserved : goal.loop-event-preserved
loop-event-preserved c = record {
  next = search rules;
  finite = search rules;
  same = c.let_wait.ensures.same ∙ c.loop-event.invariant.same;
  tallies = c.let_wait.ensures.tallies ∙ c.loop-event.invariant.tallies;
  notes =
      let fits : c.token-token.result.0 < 2 ^ 64 = search rules in
      let other : c.token-token.result.0 ≢ 2 ^ 64 - 1 = search (rules, c.eq.ensures, c.if-eq.false) in
      let key : c.token-token.result.0 < FIRST_TOKEN = omega (arith, c.in_default.ensures.none) in
      noted_more c.args.self.now.connections (items c.args.events.now) (iter_rest c.loop-event.event-iterator) (iter_rest c.next.new.self) c.in-Some.event.now c.args.self.now.waiting c.loop-event.self.waiting c.let_wait.new.self.waiting
      c.loop-event.is_woken c.loop-event.is_woken c.in-Some.ensures.steps c.loop-event.invariant.notes
      (noted_one c.args.self.now.connections c.loop-event.self.connections c.in-Some.event.now c.token-token.result.0 c.stops_short.result c.loop-event.self.waiting c.let_wait.new.self.waiting c.loop-event.invariant.same
      (ap (λ (token : Token). token.0) c.token-token.ensures) c.stops_short.ensures key c.in_ok-let_wait.ensures.waits c.let_wait.ensures.noted c.let_wait.ensures.spent c.let_wait.ensures.round)
      (wakes_not c.in-Some.event.now c.token-token.result.0 c.loop-event.is_woken (ap (λ (token : Token). token.0) c.token-token.ensures) other);
}

pub returns-clause-come : goal.returns-clause-come
returns-clause-come c =
    (noted_all c.args.self.now.connections (items c.args.events.now) (iter_rest c.loop-event.event-iterator) c.args.self.now.waiting c.loop-event.self.waiting c.loop-event.is_woken c.in-None.ensures.steps.0
    c.loop-event.invariant.notes).0

pub returns-clause-woken : goal.returns-clause-woken
returns-clause-woken c =
    (noted_all c.args.self.now.connections (items c.args.events.now) (iter_rest c.loop-event.event-iterator) c.args.self.now.waiting c.loop-event.self.waiting c.loop-event.is_woken c.in-None.ensures.steps.0
    c.loop-event.invariant.notes).1
