use Rattle.std.proofs.Common.{true, ap}
use Rattle.mc_model.specs.declared.reply.Reply.TheVariants.{Stored}
use Rattle.mc_model.specs.Effect.{is_refusal}
use Rattle.mc_model.specs.History.{after}
use Rattle.mc_laws.proofs.Effects.{stored_there}
use Rattle.mc_laws.proofs.OneKey.{get_held, held_until, stored_or_refused}
use Rattle.mc_laws.proofs.Histories.{quotas}
use Rattle.mc_laws.proofs.tables.get_after_set.Goals as goal

pub returns-clause-answered : goal.returns-clause-answered
returns-clause-answered c = λ limits list key flags block. stored_or_refused (quotas limits list) (after limits list) key _ Stored

pub returns-clause-shown : goal.returns-clause-shown
returns-clause-shown c = λ limits earlier between key flags block given untouched.
    get_held limits _ key true _ (held_until limits earlier between _ key _ untouched (stored_there (quotas limits earlier) (after limits earlier) key _ Stored (ap is_refusal given)))
