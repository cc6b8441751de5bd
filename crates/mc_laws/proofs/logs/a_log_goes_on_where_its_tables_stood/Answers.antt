use Rattle.std.proofs.Common.{Some, ap, ◌∙◌}
use Rattle.std.specs.Option.{option_map}
use Rattle.model_lemmas.proofs.Histories.{StandsFor-more, answer-more}
use Rattle.mc_model.specs.History.{answer_from, state_from}
use Rattle.mc_model.specs.Log.{own}
use Rattle.mc_laws.proofs.logs.a_log_goes_on_where_its_tables_stood.Goals as goal

pub returns-clause-answer : goal.returns-clause-answer
returns-clause-answer c = answer-more

pub returns-clause-stands : goal.returns-clause-stands
returns-clause-stands c = StandsFor-more

pub returns-clause-reply : goal.returns-clause-reply
returns-clause-reply c = λ openings log entry limits base opening at stands.
    ap (option_map (λ opening. answer_from opening (own entry.tenant log) entry.command)) at ∙ ap Some (answer-more limits base (own entry.tenant log) opening entry.command stands)

pub returns-clause-tables : goal.returns-clause-tables
returns-clause-tables c = λ openings log tables tenant limits base opening each at stands.
    each tenant ∙ (ap (option_map (λ opening. state_from opening (own tenant log))) at ∙ ap Some (StandsFor-more limits base (own tenant log) opening stands))
