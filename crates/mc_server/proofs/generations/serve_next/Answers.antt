use Rattle.mc_server.proofs.generations.serve_next.Goals as goal

pub returns-clause-serves : goal.returns-clause-serves
returns-clause-serves g c = rw (c.over-opened.ensures.log, c.over-opened.ensures.base) at c.serve_opened.ensures.serves
