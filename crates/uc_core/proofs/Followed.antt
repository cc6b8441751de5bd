-- What follows of the core and of the replies along a run from a core that some run has led to.
use Rattle.std.proofs.Common.{◌≡◌, ℕ, ◌+◌, List, ◌++◌, length, take, drop, Option, Some, slice_get, refl, sym, ap, ◌∙◌, subst}
use Rattle.std.proofs.lemmas.List.{append_assoc, drop_at}
use Rattle.lists.specs.Lists.{BeginsWith}
use Rattle.mc_model.specs.Legal.{IsLegal}
use Rattle.mc_model.specs.declared.reply.Reply.{Reply}
use Rattle.uc_core.specs.Core.{CoreState}
use Rattle.uc_core.specs.Headline.{RepliesAreAnswers}
use Rattle.uc_core.specs.Run.{Given, IsReachedCore, Runs, given_by}
use Rattle.uc_core.specs.Step.{CoreStep}
use Rattle.uc_core.specs.declared.event.Event.{Event}
use Rattle.uc_core.proofs.CoreLaws.{CoreLaw}
use Rattle.uc_core.proofs.Runs.{law_of, of_run, run_answers}
use Rattle.uc_core.proofs.Shows.{Runs-push}
use Rattle.uc_core.proofs.Workers.{take-next}

-- events led from one core to another, and the replies stand at the end of a list
abbrev pub Ran : CoreState → List Event → CoreState → List Given → List Given → Type 0
Ran old events new before after = (given : List Given) × Runs old events new given × (after ≡ before ++ given)

pub Ran-push : (old core new : CoreState) (events : List Event) (at : ℕ) (event : Event) (reply : Option Reply) (before between after : List Given) →
    slice_get events at ≡ Some event → Ran old (take at events) core before between → CoreStep core event new reply →
    after ≡ between ++ given_by core event reply → Ran old (take (at + 1) events) new before after
Ran-push old core new events at event reply before between after is ran step gives = (
  ran.0 ++ given_by core event reply,
  subst (λ (them : List Event). Runs old them new (ran.0 ++ given_by core event reply)) (sym (take-next events at event is))
      (Runs-push old (take at events) core ran.0 event new reply ran.1 step),
  gives ∙ ap (λ (list : List Given). list ++ given_by core event reply) ran.2 ∙ append_assoc before ran.0 (given_by core event reply),
)

module _ (old new : CoreState) (events : List Event) (before after : List Given) (reached : IsReachedCore old) (ran : Ran old events new before after) where
  law : CoreLaw old
  law = law_of reached.0 reached.1 old reached.2 reached.3

  pub ran-log : BeginsWith new.shown.decided old.shown.decided
  ran-log = (of_run old new events ran.0 law ran.1).1.decided

  pub ran-legal : IsLegal new.shown.decided
  ran-legal = (of_run old new events ran.0 law ran.1).0.sound.legal

  pub ran-replies : RepliesAreAnswers new (drop (length before) after)
  ran-replies =
      let later = ap (drop (length before)) ran.2 ∙ drop_at before ran.0 (length before) refl in
      subst (RepliesAreAnswers new) (sym later) (run_answers old new events ran.0 law ran.1)
