use Rattle.std.proofs.Common.{◌∙◌}
use Rattle.mc_programs.proofs.Openings.{fresh_mark, fresh_over, unopened_next}
use Rattle.mc_read.specs.declared.speaker.Speaker.TheVariants.{Tenant}
use Rattle.mc_programs.proofs.generations.open_next.Goals as goal

pub serve_log-requires-clause-fresh : goal.serve_log-requires-clause-fresh
serve_log-requires-clause-fresh g c = fresh_mark c.args.log.now c.args.pass c.in-Ok.worker c.requires.new c.in-Ok.ensures.seat c.in-Ok.ensures.history

pub returns-clause-served : goal.returns-clause-served
returns-clause-served g c limits places logs first served settings tables some =
    c.serve_log.ensures.served limits places logs first served settings
    (fresh_over limits places served.requests c.args.log.now c.args.pass c.in-Ok.worker settings c.requires.new c.in-Ok.ensures.seat c.in-Ok.ensures.history
    (c.in-Ok.ensures.openings ∙ tables))

pub returns-in-Err-clause-served : goal.returns-in-Err-clause-served
returns-in-Err-clause-served g c limits places logs first served settings tables some =
    unopened_next limits places logs first _ _ served (c.every_stream_reads.ensures Tenant) some _ (c.close.ensures.told.0 c.in-Err.ensures.memory) c.in-Err.fault c.in-Err.ensures.memory
