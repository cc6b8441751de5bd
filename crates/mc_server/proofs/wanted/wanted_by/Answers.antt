use Rattle.std.proofs.Common.{◌∙◌, List, ap, map, refl, subst, sym}
use Rattle.mc_conn.specs.declared.conn.Role.TheVariants.{Admin as Chief}
use Rattle.mc_server.specs.Listeners.{AreOfTenants}
use Rattle.mc_server.specs.NetworkWords.{served_by}
use Rattle.mc_server.specs.TenantWord.{asked_of}
use Rattle.mc_server.specs.declared.tenant_word.Tenant.{Tenant}
use Rattle.mc_server.proofs.Numbered.{admin_wanted, no_admin_wanted}
use Rattle.mc_server.proofs.TenantLists.{names_are_read}
use Rattle.mc_server.proofs.wanted.wanted_by.Goals as goal

pub returns-in_default : goal.returns-in_default
returns-in_default c =
    let are = subst (λ (tenants : List Tenant). AreOfTenants (map asked_of tenants) c.in_ok-wanted.wanted.items) c.deref.ensures.value c.in_ok-wanted.ensures in
    no_admin_wanted (served_by c.args.service.now) c.in_ok-wanted.wanted.items are c.in_default.is

pub returns : goal.returns
returns c =
    let are = subst (λ (tenants : List Tenant). AreOfTenants (map asked_of tenants) c.in_ok-wanted.wanted.items) c.deref.ensures.value c.in_ok-wanted.ensures in
    let names = ap Chief (c.in_ok-names.ensures.names ∙ c.in_ok-names_of.ensures ∙ ap (map (λ (tenant : Tenant). tenant.name.now)) c.deref-2.ensures.value ∙ sym (names_are_read c.args.service.now.tenants.items)) in
    admin_wanted (served_by c.args.service.now) c.in_ok-wanted.wanted.items _ _ c.in-Some.address are c.in-Some.is refl names c.in_ok-push.ensures.items
