use Rattle.mc_laws.proofs.LimitWords.{limit_line_of_text}
use Rattle.mc_laws.proofs.LinesRead.{limit_line_is_read}
use Rattle.mc_laws.proofs.lines.quotas_are_what_their_words_spell.Goals as goal

pub returns-clause-only : goal.returns-clause-only
returns-clause-only c = limit_line_of_text

pub returns-clause-each : goal.returns-clause-each
returns-clause-each c = limit_line_is_read
