-- The log of a reachable state is no longer than it may be, and begins with what the worker has
-- learned.
use Rattle.std.proofs.Common.{◌≡◌, length, ⊎_elim, ap, arith}
use Rattle.std.proofs.Math.Logic.{∥∥₁_elim}
use Rattle.std.proofs.Math.Nat.{ℕ_set}
use Rattle.mc_model.specs.Helping.{LogLaw}
use Rattle.mc_model.specs.Lawful.{IsReached}
use Rattle.lists.proofs.Public.{begins_longer, nothing_next}
use Rattle.model_lemmas.proofs.Waiting.{is_lawful}
use Rattle.uc_places.specs.declared.view.View.{View}
use Rattle.uc_places.specs.Reached.{LastIsReached}
use Rattle.uc_worker.specs.Steps.{HasReadOn}
use Rattle.uc_worker.proofs.laws.who_has_read_on_has_learned_the_log.Goals as goal

as_long : (view : View) → LastIsReached view → HasReadOn view → IsReached view.size view.last →
    length view.last.decided ≡ length view.state.learned
as_long view last has_read reached = let law : LogLaw view.size view.last = is_lawful view.size view.last reached in
    let begins = (law.each view.worker view.state last.shown).begins in
    ⊎_elim
    (λ (full : length view.state.learned ≡ view.size.places).
    let few = law.few in let longer = begins_longer _ _ begins in omega arith)
    (λ none. ap length (nothing_next view.last.decided view.state.learned begins none))
    has_read

pub returns : goal.returns
returns c = λ view last has_read. ∥∥₁_elim last.reached (ℕ_set _ _) (as_long view last has_read)
