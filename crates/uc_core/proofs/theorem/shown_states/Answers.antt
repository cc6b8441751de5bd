-- The laws of the shown states: `Waiting` shows the first two clauses, `Turns` the third, and
-- `OwnRound` that its bound is sharp.
use Rattle.std.proofs.Math.Nat.{mod-eq_of_lt}
use Rattle.model_lemmas.proofs.Turns.{is_soon_decided}
use Rattle.model_lemmas.proofs.Waiting.{is_helping, is_lawful}
use Rattle.uc_core.proofs.Marks.{looks_are_used, marks_stay}
use Rattle.uc_core.proofs.OwnRound.{sharp_of_events}
use Rattle.uc_core.proofs.theorem.shown_states.Goals as goal

pub returns-clause-lawful : goal.returns-clause-lawful
returns-clause-lawful c = is_lawful

pub returns-clause-helping : goal.returns-clause-helping
returns-clause-helping c = is_helping

pub returns-clause-soon : goal.returns-clause-soon
returns-clause-soon c = is_soon_decided

pub returns-clause-sharp : goal.returns-clause-sharp
returns-clause-sharp c = sharp_of_events

pub returns-clause-marks : goal.returns-clause-marks
returns-clause-marks c = marks_stay

pub returns-clause-looks : goal.returns-clause-looks
returns-clause-looks c = looks_are_used

pub returns-clause-turns : goal.returns-clause-turns
returns-clause-turns c = λ n w first. mod-eq_of_lt first
