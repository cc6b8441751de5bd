use Rattle.std.proofs.Common.{◌≡◌, ap, arith, inl, inr, refl, subst, sym, true, ⊎_elim, ◌∙◌}
use Rattle.mc_conn.specs.declared.conn.State.TheVariants.{Busy, Closed}
use Rattle.mc_stream.specs.Stream.{both}
use Rattle.mc_connections.proofs.Servings.{TakesFor, UntilNextLog, met_fault, nothing_for, once_few, once_moves, served_for, stands_later, stands_turn, state_answered, stopped_by, stopped_for, taken_turn, through_for}
use Rattle.mc_connections.specs.Serving.{Stands}
use Rattle.mc_conn.specs.Turn.{scene}
use Rattle.mc_connections.proofs.Tallied.{tallied, tallied_to}
use Rattle.mc_connections.proofs.connecting.turns.Goals as goal

pub loop-init : goal.loop-init
loop-init g c =
    let laws : UntilNextLog = record {
      none = c.turns_until_the_next_log_add_up.ensures.none;
      through = c.turns_until_the_next_log_add_up.ensures.through;
      stops = c.turns_until_the_next_log_add_up.ensures.stops;
    } in
    record { going = nothing_for c.turns_add_up.ensures.none laws c.args.terms.until_done _; stands = inl refl; few = omega arith; reads = omega arith; answers = omega arith; role = refl; tally = c.counts_add_up.ensures.none _ _ }

-- if it was closed, nothing was done
pub returns-in-Ok : goal.returns-in-Ok
returns-in-Ok g c =
    let laws : UntilNextLog = record {
      none = c.turns_until_the_next_log_add_up.ensures.none;
      through = c.turns_until_the_next_log_add_up.ensures.through;
      stops = c.turns_until_the_next_log_add_up.ensures.stops;
    } in
    let before = scene c.loop.conn c.loop.worker (both (g.I.Input.tells c.loop.input) (g.O.Output.tells c.loop.output)) in
    let after = scene c.turn_once.new.conn c.turn_once.new.worker (both (g.I.Input.tells c.turn_once.new.input) (g.O.Output.tells c.turn_once.new.output)) in
    let same : c.loop.conn.is_closed ≡ true → (c.in-Ok.state ≡ Closed) × (after.conn ≡ before.conn) × (after.worker ≡ before.worker) × (after.streams ≡ before.streams) = λ is.
    let all = c.turn_once.ensures.closed is in
    (sym (ap state_answered c.in-Ok.is) ∙ ap state_answered all.0, all.1, all.2, λ i. both (g.I.Input.tells (all.3 i)) (g.O.Output.tells (all.4 i))) in
    let takes : TakesFor c.args.terms.until_done before after = taken_turn c.args.terms.until_done c.turns_add_up.ensures.none laws _ _ _ _ c.in-Ok.state c.in-Ok.ensures.full c.turn_once.ensures.pulls c.in-Ok.ensures.outcome same in
    let stands : Stands c.args.terms.until_done before after c.in-Ok.state = stands_turn c.args.terms.until_done c.turns_add_up.ensures.none laws _ _ _ _ c.in-Ok.state c.in-Ok.ensures.full c.turn_once.ensures.pulls c.in-Ok.ensures.outcome same in
    record {
      served = served_for c.args.terms.until_done _ after (through_for c.turns_add_up.ensures.through laws c.args.terms.until_done _ before after c.loop.invariant.going takes);
      stands = stands_later c.args.terms.until_done c.turns_add_up.ensures.through _ before after c.in-Ok.state c.loop.invariant.going.takes stands;
      few = omega (arith, c.loop.invariant.few, c.loop-test.true, once_few _ _ c.turn_once.ensures.pulls);
      reads = omega (arith, c.loop.invariant.reads, c.loop-test.true, once_moves _ _ c.turn_once.ensures.pulls);
      answers = omega (arith, c.loop.invariant.answers, c.loop-test.true, c.turn_once.ensures.answers);
      role = c.turn_once.ensures.role ∙ c.loop.invariant.role;
      tally = tallied _ _ _ _ _ _ c.loop.invariant.going.takes c.loop.invariant.tally c.turns_add_up.ensures.through c.counts_add_up.ensures.through takes.takes c.in-Ok.ensures.tally;
    }

pub returns-in-Err-clause-served : goal.returns-in-Err-clause-served
returns-in-Err-clause-served g c =
    let laws : UntilNextLog = record {
      none = c.turns_until_the_next_log_add_up.ensures.none;
      through = c.turns_until_the_next_log_add_up.ensures.through;
      stops = c.turns_until_the_next_log_add_up.ensures.stops;
    } in
    stopped_for c.turns_add_up.ensures.stops laws _ c.in-Err.field-0 _ _ _ c.loop.invariant.going
    (c.in-Err.ensures.outcome (met_fault _ c.turn_once.result c.in-Err.field-0 c.in-Err.is (λ is. (c.turn_once.ensures.closed is).0)))

pub returns-in-Err-clause-stands : goal.returns-in-Err-clause-stands
returns-in-Err-clause-stands g c =
    inl (stopped_by c.args.terms.until_done _ _ _ (c.in-Err.ensures.outcome (met_fault _ c.turn_once.result c.in-Err.field-0 c.in-Err.is (λ is. (c.turn_once.ensures.closed is).0)))).shut

pub returns-in-Err-clause-reads : goal.returns-in-Err-clause-reads
returns-in-Err-clause-reads g c = omega (arith, c.loop.invariant.reads, c.loop-test.true, once_moves _ _ c.turn_once.ensures.pulls)

-- as many requests were answered as there may be, and the turn ended as busy
pub returns-then-answered-last : goal.returns-then-answered-last
returns-then-answered-last g c =
    let laws : UntilNextLog = record {
      none = c.turns_until_the_next_log_add_up.ensures.none;
      through = c.turns_until_the_next_log_add_up.ensures.through;
      stops = c.turns_until_the_next_log_add_up.ensures.stops;
    } in
    let before = scene c.loop.conn c.loop.worker (both (g.I.Input.tells c.loop.input) (g.O.Output.tells c.loop.output)) in
    let after = scene c.turn_once.new.conn c.turn_once.new.worker (both (g.I.Input.tells c.turn_once.new.input) (g.O.Output.tells c.turn_once.new.output)) in
    let state = c.in-Ok-Busy.field-0 in
    let same : c.loop.conn.is_closed ≡ true → (state ≡ Closed) × (after.conn ≡ before.conn) × (after.worker ≡ before.worker) × (after.streams ≡ before.streams) = λ is.
    let all = c.turn_once.ensures.closed is in
    (sym (ap state_answered c.in-Ok-Busy.is) ∙ ap state_answered all.0, all.1, all.2, λ i. both (g.I.Input.tells (all.3 i)) (g.O.Output.tells (all.4 i))) in
    let takes : TakesFor c.args.terms.until_done before after = taken_turn c.args.terms.until_done c.turns_add_up.ensures.none laws _ _ _ _ state c.in-Ok-Busy.ensures.full c.turn_once.ensures.pulls c.in-Ok-Busy.ensures.outcome same in
    let stands : Stands c.args.terms.until_done before after state = stands_turn c.args.terms.until_done c.turns_add_up.ensures.none laws _ _ _ _ state c.in-Ok-Busy.ensures.full c.turn_once.ensures.pulls c.in-Ok-Busy.ensures.outcome same in
    record {
      served = served_for c.args.terms.until_done _ after (through_for c.turns_add_up.ensures.through laws c.args.terms.until_done _ before after c.loop.invariant.going takes);
      stands = stands_later c.args.terms.until_done c.turns_add_up.ensures.through _ before after Busy c.loop.invariant.going.takes (subst (Stands c.args.terms.until_done before after) c.in-Ok-Busy.field-0-is stands);
      few = omega (arith, c.loop.invariant.few, c.loop-test.true, once_few _ _ c.turn_once.ensures.pulls);
      reads = omega (arith, c.loop.invariant.reads, c.loop-test.true, once_moves _ _ c.turn_once.ensures.pulls);
      answers = omega (arith, c.loop.invariant.answers, c.loop-test.true, c.turn_once.ensures.answers);
      role = c.turn_once.ensures.role ∙ c.loop.invariant.role;
      tally = tallied _ _ _ _ _ _ c.loop.invariant.going.takes c.loop.invariant.tally c.turns_add_up.ensures.through c.counts_add_up.ensures.through takes.takes c.in-Ok-Busy.ensures.tally;
    }

-- the turn of this round ended as busy, so that it met no fault
pub loop-preserved : goal.loop-preserved
loop-preserved g c =
    let laws : UntilNextLog = record {
      none = c.turns_until_the_next_log_add_up.ensures.none;
      through = c.turns_until_the_next_log_add_up.ensures.through;
      stops = c.turns_until_the_next_log_add_up.ensures.stops;
    } in
    let before = scene c.loop.conn c.loop.worker (both (g.I.Input.tells c.loop.input) (g.O.Output.tells c.loop.output)) in
    let after = scene c.turn_once.new.conn c.turn_once.new.worker (both (g.I.Input.tells c.turn_once.new.input) (g.O.Output.tells c.turn_once.new.output)) in
    let state = c.in-Ok-Busy.field-0 in
    let same : c.loop.conn.is_closed ≡ true → (state ≡ Closed) × (after.conn ≡ before.conn) × (after.worker ≡ before.worker) × (after.streams ≡ before.streams) = λ is.
    let all = c.turn_once.ensures.closed is in
    (sym (ap state_answered c.in-Ok-Busy.is) ∙ ap state_answered all.0, all.1, all.2, λ i. both (g.I.Input.tells (all.3 i)) (g.O.Output.tells (all.4 i))) in
    let takes : TakesFor c.args.terms.until_done before after = taken_turn c.args.terms.until_done c.turns_add_up.ensures.none laws _ _ _ _ state c.in-Ok-Busy.ensures.full c.turn_once.ensures.pulls c.in-Ok-Busy.ensures.outcome same in
    let stands : Stands c.args.terms.until_done before after state = stands_turn c.args.terms.until_done c.turns_add_up.ensures.none laws _ _ _ _ state c.in-Ok-Busy.ensures.full c.turn_once.ensures.pulls c.in-Ok-Busy.ensures.outcome same in
    record {
      going = through_for c.turns_add_up.ensures.through laws c.args.terms.until_done _ before after c.loop.invariant.going takes;
      stands = inr (stands_later c.args.terms.until_done c.turns_add_up.ensures.through _ before after Busy c.loop.invariant.going.takes (subst (Stands c.args.terms.until_done before after) c.in-Ok-Busy.field-0-is stands));
      few = omega (arith, c.loop.invariant.few, once_few _ _ c.turn_once.ensures.pulls);
      reads = omega (arith, c.loop.invariant.reads, once_moves _ _ c.turn_once.ensures.pulls);
      answers = omega (arith, c.loop.invariant.answers, c.turn_once.ensures.answers);
      role = c.turn_once.ensures.role ∙ c.loop.invariant.role;
      tally = c.counts_add_up.ensures.through _ _ _ _ _ _ c.loop.invariant.tally c.in-Ok-Busy.ensures.tally;
    }

pub returns-in-Err-clause-tally : goal.returns-in-Err-clause-tally
returns-in-Err-clause-tally g c =
    tallied_to _ _ _ _ _ _ c.loop.invariant.going.takes c.loop.invariant.tally c.turns_add_up.ensures.stops c.counts_add_up.ensures.fault c.in-Err.field-0
    (stopped_by _ _ _ _ (c.in-Err.ensures.outcome (met_fault _ c.turn_once.result c.in-Err.field-0 c.in-Err.is (λ is. (c.turn_once.ensures.closed is).0)))) c.in-Err.ensures.tally

pub returns-clause-tally : goal.returns-clause-tally
returns-clause-tally g c = inl (c.loop.invariant.going.takes, c.loop.invariant.tally)

pub returns-clause-served : goal.returns-clause-served
returns-clause-served g c = served_for _ _ _ c.loop.invariant.going

pub returns-clause-stands : goal.returns-clause-stands
returns-clause-stands g c =
    ⊎_elim (λ (none : c.loop.counter ≡ 0). let no : ⊥ = omega (arith, none, c.loop-test.false) in absurd no) (λ stands. stands) c.loop.invariant.stands
