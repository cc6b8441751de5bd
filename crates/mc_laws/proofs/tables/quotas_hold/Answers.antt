use Rattle.std.proofs.Common.{◌+◌}
use Rattle.mc_model.specs.declared.item.Item.{Item}
use Rattle.mc_model.specs.declared.reply.Reply.TheVariants.{Stored}
use Rattle.mc_model.specs.History.{after, changes, limits_after}
use Rattle.mc_laws.proofs.Histories.{accepted_within, others_leave_less, stays_within}
use Rattle.mc_laws.proofs.Quotas.{stored_refused}
use Rattle.mc_laws.proofs.Refusals.{refused_exactly}
use Rattle.mc_laws.proofs.tables.quotas_hold.Goals as goal

pub returns-clause-within : goal.returns-clause-within
returns-clause-within c = stays_within

pub returns-clause-accepted : goal.returns-clause-accepted
returns-clause-accepted c = accepted_within

pub returns-clause-others : goal.returns-clause-others
returns-clause-others c = others_leave_less

pub returns-clause-refused : goal.returns-clause-refused
returns-clause-refused c = λ opening other list command granted.
    refused_exactly (limits_after opening list) other (after opening list) (changes opening list + 1) command granted

pub returns-clause-set : goal.returns-clause-set
returns-clause-set c = λ opening list key flags block.
    let item : Item = record { flags = flags; block = block; unique = changes opening list + 1 } in
    stored_refused (limits_after opening list) (after opening list) key item Stored (λ same. cc)
