use Rattle.mc_connections.proofs.EachAnswered.{answers_over_logs, owed_answers, splits_at_last}
use Rattle.mc_connections.proofs.laws.logged_requests_are_answered.Goals as goal

pub returns-clause-among : goal.returns-clause-among
returns-clause-among c worker role from to requests owed = owed_answers worker role from to requests owed

pub returns-clause-on_last : goal.returns-clause-on_last
returns-clause-on_last c = answers_over_logs

pub returns-clause-splits : goal.returns-clause-splits
returns-clause-splits c = splits_at_last
