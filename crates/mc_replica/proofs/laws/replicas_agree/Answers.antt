use Rattle.std.proofs.Common.{List, Option, sym, ap₂, ◌∙◌}
use Rattle.std.specs.Option.{option_map}
use Rattle.mc_model.specs.declared.command.Command.{Command}
use Rattle.mc_model.specs.History.{answer_from, state_from}
use Rattle.mc_model.specs.State.{TableState}
use Rattle.mc_replica.proofs.Effects.{tables_agree}
use Rattle.mc_replica.proofs.laws.replicas_agree.Goals as goal

pub returns-clause-tables : goal.returns-clause-tables
returns-clause-tables c = λ tenant own openings.
    c.history.ensures.stands tenant ∙ ap₂ (λ (list : List Command) (found : Option TableState). option_map (λ opening. state_from opening list) found) own openings
    ∙ sym (c.history-2.ensures.stands tenant)

pub returns-clause-replies : goal.returns-clause-replies
returns-clause-replies c = λ entry own openings.
    ap₂ (λ (list : List Command) (found : Option TableState). option_map (λ opening. answer_from opening list entry.command) found) own openings

pub returns-clause-whole : goal.returns-clause-whole
returns-clause-whole c = λ openings history. tables_agree _ _ _ _ _ _ openings history c.history.ensures.stands c.history-2.ensures.stands
