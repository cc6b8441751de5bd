use Rattle.std.proofs.Common.{[], ◌∷◌, ◌++◌, Some, refl, sym, ◌∙◌, ap, subst}
use Rattle.mc_schedules.specs.Draft.{IsDraftOf}
use Rattle.mc_schedules.specs.Place.{is_in_place}
use Rattle.mc_schedules.proofs.Drafts.{core_added, item_added, nothing_added, tenant_added}
use Rattle.mc_schedules.proofs.draft.Draft.add.Goals as goal

pub returns-in-Nothing-clause-draft : goal.returns-in-Nothing-clause-draft
returns-in-Nothing-clause-draft c before is fits =
    subst (λ said. IsDraftOf c.args.self.now (before ++ (c.args.line, Some said) ∷ [])) (sym c.in-Nothing.is)
    (nothing_added c.args.self.now before c.args.line is)

pub returns-in-Core-clause-draft : goal.returns-in-Core-clause-draft
returns-in-Core-clause-draft c before is fits =
    let after = record c.args.self.now { core = Some (c.in-Core.workers, c.in-Core.places) } in
    subst (λ said. IsDraftOf after (before ++ (c.args.line, Some said) ∷ [])) (sym c.in-Core.is)
    (core_added c.args.self.now before c.args.line is c.in-Core.workers c.in-Core.places (sym (ap (λ said. is_in_place before (Some said)) c.in-Core.is) ∙ fits))

pub returns-in_ok-push-in-Tenant-clause-draft : goal.returns-in_ok-push-in-Tenant-clause-draft
returns-in_ok-push-in-Tenant-clause-draft c before is fits =
    let after = record c.args.self.now { tenants = c.push.new.self } in
    subst (λ said. IsDraftOf after (before ++ (c.args.line, Some said) ∷ [])) (sym c.in-Tenant.is)
    (tenant_added c.args.self.now before c.args.line is c.in-Tenant.limits after refl c.in_ok-push-in-Tenant.ensures.items refl)

pub returns-in_ok-push-in-ToDo-clause-draft : goal.returns-in_ok-push-in-ToDo-clause-draft
returns-in_ok-push-in-ToDo-clause-draft c before is fits =
    let after = record c.args.self.now { items = c.push-in-ToDo.new.self } in
    subst (λ said. IsDraftOf after (before ++ (c.args.line, Some said) ∷ [])) (sym c.in-ToDo.is)
    (item_added c.args.self.now before c.args.line is c.in-ToDo.action after refl refl c.in_ok-push-in-ToDo.ensures.items)
