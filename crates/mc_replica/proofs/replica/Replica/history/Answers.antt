use Rattle.mc_replica.proofs.replica.Replica.history.Goals as goal

pub returns-clause-stands : goal.returns-clause-stands
returns-clause-stands c = rw (← c.self.view_is) c.self.invariant.stands
