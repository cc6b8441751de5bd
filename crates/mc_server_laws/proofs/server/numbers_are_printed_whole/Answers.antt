use Rattle.std.proofs.Common.{append_assoc}
use Rattle.mc_server_laws.proofs.server.numbers_are_printed_whole.Goals as goal

pub returns-clause-bad_line : goal.returns-clause-bad_line
returns-clause-bad_line c = λ line. simp append_assoc
