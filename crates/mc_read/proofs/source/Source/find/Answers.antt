use Rattle.std.proofs.Common.{arith}
use Rattle.mc_read.proofs.Lines.{line_length_le}
use Rattle.mc_read.proofs.source.Source.find.Goals as goal

pub returns-then-searched-len : goal.returns-then-searched-len
returns-then-searched-len c = (
  omega (arith, line_length_le c.args.self.now, c.len.ensures, c.if-searched-len.true, c.requires.in_vain),
  omega (arith, c.len.ensures, c.if-searched-len.true, c.requires.few),
)
