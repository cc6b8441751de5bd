use Rattle.std.proofs.Common.{sym, subst}
use Rattle.mc_read.specs.Administering.{lines_spoken}
use Rattle.mc_read.specs.State.{EndsInRefusal}
use Rattle.mc_read.proofs.reader.read_line.Goals as goal

pub returns-clause-refused : goal.returns-clause-refused
returns-clause-refused c = λ request left ends.
    c.read_asked.ensures.refused request left (subst (λ b. EndsInRefusal (lines_spoken c.args.speaker) b request left) (sym c.in_ok-asked.ensures.same) ends)
