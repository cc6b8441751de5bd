use Rattle.mc_connections.proofs.Lives.{in_one_log, of_one_log}
use Rattle.mc_connections.proofs.laws.one_log_is_owed_in_parts.Goals as goal

pub returns : goal.returns
returns c worker role requests owed =
    (λ owes. of_one_log worker role requests owed owes, λ parts. in_one_log worker role requests owed parts.0 parts.1)
