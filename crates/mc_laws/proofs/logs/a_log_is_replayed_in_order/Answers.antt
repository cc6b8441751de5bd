use Rattle.model_lemmas.proofs.Replays.{EachStands-none, EachStands-push}
use Rattle.mc_laws.proofs.logs.a_log_is_replayed_in_order.Goals as goal

pub returns-clause-opened : goal.returns-clause-opened
returns-clause-opened c = EachStands-none

pub returns-clause-stands : goal.returns-clause-stands
returns-clause-stands c = EachStands-push
