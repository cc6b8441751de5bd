use Rattle.std.proofs.Common.{ap, refl, ◌∙◌}
use Rattle.std.specs.FinMap.{len-empty}
use Rattle.mc_model.specs.declared.command.Command.TheVariants.{Flush}
use Rattle.mc_model.specs.declared.item.Item.{Item}
use Rattle.mc_model.specs.declared.reply.Reply.TheVariants.{Values}
use Rattle.mc_model.specs.Table.{count_of, key_cmp, use_of}
use Rattle.model_lemmas.proofs.Uses.{use-empty}
use Rattle.mc_laws.proofs.Histories.{after-push, no_change}
use Rattle.mc_laws.proofs.OneKey.{nothing_shown}
use Rattle.mc_laws.proofs.tables.flush_takes_all_out.Goals as goal

pub returns-clause-nothing : goal.returns-clause-nothing
returns-clause-nothing c = λ limits earlier keys uniques. rw (after-push limits earlier Flush) (ap Values (nothing_shown uniques keys))

pub returns-clause-room : goal.returns-clause-room
returns-clause-room c = λ limits earlier. (ap use_of (after-push limits earlier Flush) ∙ use-empty, ap count_of (after-push limits earlier Flush) ∙ len-empty key_cmp Item)

pub returns-clause-uniques : goal.returns-clause-uniques
returns-clause-uniques c = λ limits list. no_change limits list Flush refl
