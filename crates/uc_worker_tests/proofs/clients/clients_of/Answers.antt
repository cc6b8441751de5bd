-- The next pass is unused, and its client is of the log.
use Rattle.std.proofs.Common.{◌≡◌, All, subst, rules}
use Rattle.std.proofs.lemmas.List.Elements.{All-head, All-push, All-rest}
use Rattle.lists.proofs.Parts.{all_by_place}
use Rattle.uc_worker_tests.specs.declared.clients.Client.{Client}
use Rattle.uc_log.specs.Passes.{IsUnusedPass}
use Rattle.uc_worker_tests.proofs.clients.clients_of.Goals as goal

pub loop-pass-init : goal.loop-pass-init
loop-pass-init c =
    let passes : All (IsUnusedPass c.args.log.now) c.args.passes.items = all_by_place (IsUnusedPass c.args.log.now) _ c.requires in
    search rules

pub open-requires : goal.open-requires
open-requires c = All-head (IsUnusedPass c.args.log.now) c.in-Some.pass _ (subst (All (IsUnusedPass c.args.log.now)) c.in-Some.ensures.steps.0 c.loop-pass.invariant.1)

pub loop-pass-preserved : goal.loop-pass-preserved
loop-pass-preserved c = (
  rw c.in_ok-push.ensures.items (All-push (λ (client : Client). client.log.now ≡ c.args.log.now) _ _ c.loop-pass.invariant.0 c.in_ok-open.ensures),
  All-rest (IsUnusedPass c.args.log.now) c.in-Some.pass _ _ c.in-Some.ensures.steps.0 c.loop-pass.invariant.1,
)
