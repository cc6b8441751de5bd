use Rattle.mc_connections.proofs.OwnAnnouncements.{apart, later_serve_is_higher, within_marks}
use Rattle.mc_connections.proofs.laws.two_answers_have_two_announcements.Goals as goal

pub returns-clause-serve : goal.returns-clause-serve
returns-clause-serve c = apart

pub returns-clause-serves : goal.returns-clause-serves
returns-clause-serves c = later_serve_is_higher

pub returns-clause-within : goal.returns-clause-within
returns-clause-within c = within_marks
