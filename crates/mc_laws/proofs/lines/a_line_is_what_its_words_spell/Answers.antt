use Rattle.mc_laws.proofs.LineWords.{line_of_text}
use Rattle.mc_laws.proofs.LinesRead.{line_is_read}
use Rattle.mc_laws.proofs.lines.a_line_is_what_its_words_spell.Goals as goal

pub returns-clause-only : goal.returns-clause-only
returns-clause-only c = line_of_text

pub returns-clause-each : goal.returns-clause-each
returns-clause-each c = line_is_read
