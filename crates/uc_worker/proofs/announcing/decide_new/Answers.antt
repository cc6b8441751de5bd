-- An announcement, and what is taken until it is decided.
use Rattle.uc_log.specs.Passes.{desk}
use Rattle.uc_worker.proofs.Counting.{takes_announced}
use Rattle.uc_worker.proofs.announcing.decide_new.Goals as goal

pub returns-then-decide-clause-takes : goal.returns-then-decide-clause-takes
returns-then-decide-clause-takes g c = takes_announced (desk c.args.pass.now) (desk c.announce.new.pass) (desk c.decide.new.pass)
    c.in_ok-announce.ensures.announced c.decide.ensures.takes

pub returns-else-decide-clause-takes : goal.returns-else-decide-clause-takes
returns-else-decide-clause-takes g c = takes_announced (desk c.args.pass.now) (desk c.announce.new.pass) (desk c.decide.new.pass)
    c.in_ok-announce.ensures.announced c.decide.ensures.takes
