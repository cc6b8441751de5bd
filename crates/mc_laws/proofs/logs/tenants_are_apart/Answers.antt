use Rattle.std.proofs.Common.{List, Option, sym, ap₂, ◌∙◌}
use Rattle.std.specs.Option.{option_map}
use Rattle.mc_model.specs.declared.command.Command.{Command}
use Rattle.mc_model.specs.History.{answer_from, state_from}
use Rattle.mc_model.specs.State.{TableState}
use Rattle.mc_laws.proofs.Entries.{others_put_in}
use Rattle.mc_laws.proofs.logs.tenants_are_apart.Goals as goal

pub returns-clause-table : goal.returns-clause-table
returns-clause-table c = λ openings others front back entry with_it without tenant apart same stands stands_without.
    stands tenant
    ∙ ap₂ (λ (list : List Command) (found : Option TableState). option_map (λ opening. state_from opening list) found) (others_put_in tenant front back entry apart) same
    ∙ sym (stands_without tenant)

pub returns-clause-reply : goal.returns-clause-reply
returns-clause-reply c = λ openings others front back entry next apart same.
    ap₂ (λ (list : List Command) (found : Option TableState). option_map (λ opening. answer_from opening list next.command) found) (others_put_in next.tenant front back entry apart) same
