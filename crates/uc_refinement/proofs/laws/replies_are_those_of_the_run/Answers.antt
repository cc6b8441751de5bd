-- `GivenReplies` shows it.
use Rattle.uc_refinement.proofs.GivenReplies.{earlier_replies_are_given, submitted_replies_are_given}
use Rattle.uc_refinement.proofs.laws.replies_are_those_of_the_run.Goals as goal

pub returns-clause-earlier : goal.returns-clause-earlier
returns-clause-earlier c = earlier_replies_are_given

pub returns-clause-submitted : goal.returns-clause-submitted
returns-clause-submitted c = submitted_replies_are_given
