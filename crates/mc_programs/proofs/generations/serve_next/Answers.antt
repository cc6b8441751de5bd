use Rattle.mc_programs.proofs.Beginnings.{only_pass}
use Rattle.mc_programs.proofs.generations.serve_next.Goals as goal

pub open_next-served-requires-clause-new : goal.open_next-served-requires-clause-new
open_next-served-requires-clause-new g c =
    c.requires.ready.passes 0 c.in-Some.pass (only_pass c.args.next.passes.items c.pop.new.self.items c.in-Some.pass c.in-Some.ensures.items c.requires.ready.count)

pub returns-clause-served : goal.returns-clause-served
returns-clause-served g c limits places logs first served follows some = c.open_next-served.ensures.served limits places logs first served follows.settings follows.tables some
