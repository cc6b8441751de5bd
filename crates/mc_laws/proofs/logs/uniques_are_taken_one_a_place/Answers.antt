use Rattle.std.proofs.Common.{arith}
use Rattle.model_lemmas.proofs.Replays.{HaveRoom-empty, uniques-few}
use Rattle.mc_laws.proofs.logs.uniques_are_taken_one_a_place.Goals as goal

pub returns-clause-empty : goal.returns-clause-empty
returns-clause-empty c = HaveRoom-empty

pub returns-clause-left : goal.returns-clause-left
returns-clause-left c = λ openings tables log more stands room tenant state at.
    let few = uniques-few openings log tables stands tenant state at in omega (arith, few.2, room tenant few.0 few.1)
