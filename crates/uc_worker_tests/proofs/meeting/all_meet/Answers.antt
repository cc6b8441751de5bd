-- Those that are left are of the log too, and so is the last one.
use Rattle.std.proofs.Common.{◌≡◌, Some}
use Rattle.std.proofs.lemmas.List.Elements.{All-pop}
use Rattle.uc_worker_tests.specs.declared.meeting.Ended.{Ended}
use Rattle.uc_worker_tests.proofs.meeting.all_meet.Goals as goal

pub meet_each-requires-clause-one : goal.meet_each-requires-clause-one
meet_each-requires-clause-one c = (All-pop (λ (ended : Ended). ended.client.log.now ≡ c.args.log.now) _ _ (Some c.in-Some.last) c.in-Some.ensures.items c.requires).1

pub meet_each-requires-clause-others : goal.meet_each-requires-clause-others
meet_each-requires-clause-others c = (All-pop (λ (ended : Ended). ended.client.log.now ≡ c.args.log.now) _ _ _ c.pop.ensures.items c.requires).0
