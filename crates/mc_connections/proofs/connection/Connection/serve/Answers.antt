use Rattle.std.proofs.Common.{None, ap, sym, ◌∙◌}
use Rattle.mc_conn.specs.Turn.{scene}
use Rattle.mc_stream.specs.Stream.{both}
use Rattle.mc_stream.specs.declared.tape.Tape.{Tape}
use Rattle.mc_connections.proofs.Tallied.{tallied_as}
use Rattle.mc_connections.proofs.connection.Connection.serve.Goals as goal

-- the tapes go on where they ended
pub returns-clause-tally : goal.returns-clause-tally
returns-clause-tally g c =
    let came = c.resume-input.ensures ∙ ap (λ (tape : Tape). tape.events) c.replace-tape.ensures.value in
    let went = c.resume-output.ensures ∙ ap (λ (tape : Tape). tape.events) c.replace-tape-2.ensures.value in
    let after = sym c.into_parts.ensures.tape in
    let sent = sym c.into_parts-2.ensures.tape in
    tallied_as (λ i. scene c.args.self.now.conn c.args.worker.now (both (record { events = came i; left = None }) (record { events = went i })))
    (λ i. scene c.turns-state.new.conn c.turns-state.new.worker (both (record { events = after i; left = None }) (record { events = sent i }))) c.turns-state.ensures.tally
