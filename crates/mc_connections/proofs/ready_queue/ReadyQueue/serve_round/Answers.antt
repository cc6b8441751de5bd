use Rattle.std.proofs.Common.{◌≡◌, ◌+◌, ◌-◌, ◌^◌, arith, inl, inr, min, refl, subst, sym}
use Rattle.mc_connections.specs.Round.{queued_at}
use Rattle.mc_connections.specs.Working.{Works, begins, standing}
use Rattle.mc_connections.proofs.Rounds.{round_begins, round_ends, round_goes_on}
use Rattle.mc_connections.proofs.Workings.{works_known, works_serving}
use Rattle.mc_connections.proofs.ready_queue.ReadyQueue.serve_round.Goals as goal

pub returns-in_err-is_woken-clause-works : goal.returns-in_err-is_woken-clause-works
returns-in_err-is_woken-clause-works g c =
    subst (λ connections. Works c.args.until_done (standing c.args.worker.now c.args.self.now.connections) (standing c.args.worker.now connections))
    (sym c.note_events.ensures.same) begins

pub loop-init : goal.loop-init
loop-init g c = record {
  works = subst (λ connections. Works c.args.until_done (standing c.args.worker.now c.args.self.now.connections) (standing c.args.worker.now connections))
      (sym c.note_events.ensures.same) begins;
  round = round_begins c.args.until_done _ c.args.worker.now c.args.self.now c.note_events.new.self c.begin_round.new.self c.note_events.ensures.same c.note_events.ensures.tallies c.in_ok-is_woken.ensures.come
      c.begin_round.ensures;
}

pub serve-requires : goal.serve-requires
serve-requires g c = works_known _ _ c.loop.invariant.works c.requires

pub returns-in_err-serve-clause-works : goal.returns-in_err-serve-clause-works
returns-in_err-serve-clause-works g c = works_serving _ _ _ c.in-Some.next.key c.serve.ensures.served.state c.loop.invariant.works c.serve.ensures.served.serves

pub loop-preserved : goal.loop-preserved
loop-preserved g c = record {
  works = works_serving _ _ _ c.in-Some.next.key c.serve.ensures.served.state c.loop.invariant.works c.serve.ensures.served.serves;
  round = round_goes_on c.args.until_done _ (queued_at c.args.worker.now c.args.self.now) c.loop.counter (queued_at c.loop.worker c.loop.self) (queued_at c.serve.new.worker c.serve.new.self) c.loop.invariant.round
      (record {
        key = c.in-Some.next.key;
        goes_on = c.in-Some.ensures.takes.0;
        taken = c.pop.new.self;
        turn = c.in-Some.ensures.takes.1;
        noted = c.in-Some.ensures.noted.0;
        served = c.serve.ensures.served;
        waits = c.in_ok-serve.ensures.waits;
        tallies = c.serve.ensures.tallies;
        round = subst (λ spent. c.serve.new.self.waiting.spent_in_round ≡ min (spent + c.serve.new.self.waiting.spent) (2 ^ 64 - 1)) c.pop.ensures.round c.serve.ensures.round;
      });
}

-- the round is over, or nobody waits
pub returns-in_default-clause-round : goal.returns-in_default-clause-round
returns-in_default-clause-round g c = round_ends c.args.until_done _ (queued_at c.args.worker.now c.args.self.now) c.loop.counter (queued_at c.loop.worker c.loop.self) c.pop.new.self c.loop.invariant.round (omega arith) (inl c.in_default.ensures.takes)

-- as many were served as there may be
pub returns-clause-round : goal.returns-clause-round
returns-clause-round g c = round_ends c.args.until_done _ (queued_at c.args.worker.now c.args.self.now) c.loop.counter (queued_at c.loop.worker c.loop.self) c.loop.self.waiting c.loop.invariant.round (omega arith) (inr (omega arith, refl))
