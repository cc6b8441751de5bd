use Rattle.std.proofs.Common.{◌⊎◌, ◌∙◌, refl, ap, subst}
use Rattle.std.proofs.lemmas.Result.{err_from_is_err_and}
use Rattle.mc_model.specs.Replay.{HaveRoom}
use Rattle.mc_model.specs.Settings.{Configuration}
use Rattle.mc_conn.specs.Turn.{scene}
use Rattle.mc_programs.proofs.LogEnds.{ends_closed, ends_last, ends_on, goes_on, replayed}
use Rattle.mc_programs.proofs.Openings.{fits}
use Rattle.mc_programs.proofs.Served.{Begins, stops}
use Rattle.mc_read.specs.declared.speaker.Speaker.TheVariants.{Tenant}
use Rattle.mc_stream.specs.Stream.{both}
use Rattle.uc_worker.specs.Worker.{tables_of}
use Rattle.mc_programs.proofs.generations.serve_log.Goals as goal

pub serve_to_end-requires-clause-role : goal.serve_to_end-requires-clause-role
serve_to_end-requires-clause-role g c = fits c.args.conn.now.role c.args.worker.now c.args.log.now c.requires.role c.requires.log c.requires.alone

pub pump_until-requires : goal.pump_until-requires
pump_until-requires g c = record { role = fits c.args.conn.now.role c.args.worker.now c.args.log.now c.requires.role c.requires.log c.requires.alone }

pub returns-then-is_last-clause-served : goal.returns-then-is_last-clause-served
returns-then-is_last-clause-served g c limits places logs first served settings fresh =
    let begins : Begins limits places logs first (scene c.args.conn.now c.args.worker.now (both (g.I.Input.tells c.args.input.now) (g.O.Output.tells c.args.output.now))) = record {
      served = served;
      fresh = fresh;
      reading = c.every_stream_reads.ensures Tenant;
      last = c.logs_of_a_worker_alone_add_up.ensures.last;
      through = c.logs_of_a_worker_alone_add_up.ensures.through;
      reads = c.parts_add_up.ensures.read;
    } in
    ends_last g.T.TurnOver.refused limits places logs first _ begins c.serve_to_end.result c.args.is_last _ c.if-is_last.true c.serve_to_end.ensures.outcome c.serve_to_end.ensures.late

pub returns-in_err-pump_until-clause-served : goal.returns-in_err-pump_until-clause-served
returns-in_err-pump_until-clause-served g c =
    let out = err_from_is_err_and c.from_residual.result c.from_residual.ensures.1 in
    rw (out.1, out.2) (λ limits places logs first served settings fresh.
    stops limits places logs first _
    (record {
      served = served;
      fresh = fresh;
      reading = c.every_stream_reads.ensures Tenant;
      last = c.logs_of_a_worker_alone_add_up.ensures.last;
      through = c.logs_of_a_worker_alone_add_up.ensures.through;
      reads = c.parts_add_up.ensures.read;
    })
    c.in_err-pump_until.field-0.0 _ (c.in_err-pump_until.ensures.outcome c.requires.going).stops c.pump_until.ensures.late)

pub returns-in-Closed-clause-served : goal.returns-in-Closed-clause-served
returns-in-Closed-clause-served g c limits places logs first served settings fresh =
    let begins : Begins limits places logs first (scene c.args.conn.now c.args.worker.now (both (g.I.Input.tells c.args.input.now) (g.O.Output.tells c.args.output.now))) = record {
      served = served;
      fresh = fresh;
      reading = c.every_stream_reads.ensures Tenant;
      last = c.logs_of_a_worker_alone_add_up.ensures.last;
      through = c.logs_of_a_worker_alone_add_up.ensures.through;
      reads = c.parts_add_up.ensures.read;
    } in
    let until = rw c.in-Closed.is at (c.in_ok-pump_until.ensures.outcome c.requires.going) in
    ends_closed g.T.TurnOver.refused limits places logs first _ begins c.args.is_last _ until c.logs_of_a_worker_alone_add_up.ensures.in_time

pub next_log-requires-clause-done : goal.next_log-requires-clause-done
next_log-requires-clause-done g c =
    let until = rw c.in-Full.is at (c.in_ok-pump_until.ensures.outcome c.requires.going) in
    replayed _ _ c.args.log.now until c.requires.log c.requires.alone c.requires.role c.requires.fresh c.logs_of_a_worker_alone_add_up.ensures.done

pub returns-in-Some-clause-served : goal.returns-in-Some-clause-served
returns-in-Some-clause-served g c limits places logs first served settings fresh =
    let begins : Begins limits places logs first (scene c.args.conn.now c.args.worker.now (both (g.I.Input.tells c.args.input.now) (g.O.Output.tells c.args.output.now))) = record {
      served = served;
      fresh = fresh;
      reading = c.every_stream_reads.ensures Tenant;
      last = c.logs_of_a_worker_alone_add_up.ensures.last;
      through = c.logs_of_a_worker_alone_add_up.ensures.through;
      reads = c.parts_add_up.ensures.read;
    } in
    let until = rw c.in-Full.is at (c.in_ok-pump_until.ensures.outcome c.requires.going) in
    let done = replayed _ _ c.args.log.now until c.requires.log c.requires.alone c.requires.role c.requires.fresh c.logs_of_a_worker_alone_add_up.ensures.done in
    rw c.if-is_last.false
    (goes_on g.T.TurnOver.refused limits places logs first _ begins _ c.pump_until.new.worker _ until c.pump_until.ensures.late c.logs_of_a_worker_alone_add_up.ensures.in_time
    c.logs_of_a_worker_alone_add_up.ensures.full done c.in-Some.next (c.in-Some.ensures.settings ∙ settings) c.in-Some.ensures.stands)

pub returns-in-None-clause-served : goal.returns-in-None-clause-served
returns-in-None-clause-served g c limits places logs first served settings fresh =
    let begins : Begins limits places logs first (scene c.args.conn.now c.args.worker.now (both (g.I.Input.tells c.args.input.now) (g.O.Output.tells c.args.output.now))) = record {
      served = served;
      fresh = fresh;
      reading = c.every_stream_reads.ensures Tenant;
      last = c.logs_of_a_worker_alone_add_up.ensures.last;
      through = c.logs_of_a_worker_alone_add_up.ensures.through;
      reads = c.parts_add_up.ensures.read;
    } in
    let until = rw c.in-Full.is at (c.in_ok-pump_until.ensures.outcome c.requires.going) in
    let done = replayed _ _ c.args.log.now until c.requires.log c.requires.alone c.requires.role c.requires.fresh c.logs_of_a_worker_alone_add_up.ensures.done in
    let none = subst (λ n. ¬ (HaveRoom (tables_of c.pump_until.new.worker) n) ⊎ g.T.TurnOver.refused c.pump_until.new.worker) (ap (λ (it : Configuration). it.places) settings) (c.in-None.ensures.none refl) in
    ends_on g.T.TurnOver.refused limits places logs first _ begins _ c.pump_until.new.worker _ until c.pump_until.ensures.late c.logs_of_a_worker_alone_add_up.ensures.in_time
    c.logs_of_a_worker_alone_add_up.ensures.full done c.next_log.ensures.tables none c.turns_add_up.ensures.through c.turns_add_up.ensures.late c.turns_add_up.ensures.stops c.turns_add_up.ensures.sends
    c.serve_to_end-in-None.result c.args.is_last _ c.serve_to_end-in-None.ensures.outcome c.serve_to_end-in-None.ensures.late
