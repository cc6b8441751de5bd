use Rattle.mc_programs.proofs.Answered.{answered}
use Rattle.mc_programs.proofs.words.answer_words.Goals as goal

pub returns-clause-words : goal.returns-clause-words
returns-clause-words g c app words input failed = answered app words _ failed _ _ input _ _ _ _ c.answer_kind.ensures
