use Rattle.std.proofs.Common.{◌≡◌, ◌∙◌, ℕ, List, length, ap, subst, arith}
use Rattle.std.proofs.lemmas.List.{length-map}
use Rattle.mc_model.specs.Settings.{Configuration}
use Rattle.mc_server.proofs.NetworkRuns.{are_among, finished}
use Rattle.mc_server.proofs.Numbered.{some_listener}
use Rattle.mc_programs.specs.Waiting.{PushesAll}
use Rattle.mc_server.specs.Logs.{WereServed}
use Rattle.mc_server.specs.NetworkTexts.{ready_text}
use Rattle.mc_server.specs.NetworkWords.{AreReservesWithin, served_by, settings_asked}
use Rattle.mc_server.proofs.network.serve_tenants.Goals as goal

pub new-requires-clause-some : goal.new-requires-clause-some
new-requires-clause-some g c =
    let asked = served_by c.args.service.now in
    let opened = ap (λ (settings : Configuration). settings.workers) c.requires.checked.settings in
    let lawful = c.requires.checked.servable.lawful in
    let some = some_listener (λ listener. listener.0) c.args.bound.listeners.items asked c.requires.bound.clients.roles_are (omega (arith, length-map asked.tenants (λ tenant. tenant.limits), lawful.tenants.0)) in
    (omega (arith, opened, c.workers.ensures.value, lawful.workers.0), omega (arith, some, c.args.bound.listeners.ok.0))

pub new-requires-clause-roles : goal.new-requires-clause-roles
new-requires-clause-roles g c =
    let asked = served_by c.args.service.now in
    let tenants = ap (λ (settings : Configuration). length settings.tenants) c.requires.checked.settings in
    let known = ap length c.tenants.ensures.value in
    let count : length asked.tenants ≡ length c.tenants.result.now = omega (arith, known, tenants, length-map asked.tenants (λ tenant. tenant.limits)) in
    are_among (λ listener. listener.0) c.args.bound.listeners.items asked _ c.requires.bound.clients.roles_are count

pub new-requires-clause-reserves : goal.new-requires-clause-reserves
new-requires-clause-reserves g c =
    let asked = served_by c.args.service.now in
    let tenants = ap (λ (settings : Configuration). length settings.tenants) c.requires.checked.settings in
    let known = ap length c.tenants.ensures.value in
    let count : length asked.tenants ≡ length c.tenants.result.now = omega (arith, known, tenants, length-map asked.tenants (λ tenant. tenant.limits)) in
    subst (AreReservesWithin c.args.service.now.reserve) count c.requires.checked.servable.reserve

pub returns : goal.returns
returns g c =
    let settings = settings_asked (served_by c.args.service.now) in
    let ready = subst (λ (text : List ℕ). PushesAll text (g.O.Output.tells c.args.output.now) (g.O.Output.tells c.serve_scraped.new.state)) (c.in_ok-text.ensures ∙ ap ready_text c.deref.ensures.value) c.in_ok-number.ensures.outcome in
    let were : WereServed settings c.args.service.now.generations c.in_ok-number.number =
    subst (λ (settings : Configuration). WereServed settings c.args.service.now.generations c.in_ok-number.number) c.requires.checked.settings c.in_ok-number.ensures.served.were in
    record {
      outcome = finished settings c.args.service.now.generations c.in_ok-number.number were c.tell_done.result c.args.bound.told.items (g.O.Output.tells c.args.output.now) (g.O.Output.tells c.serve_scraped.new.state) (g.O.Output.tells c.tell_done.new.output) ready c.tell_done.ensures.outcome;
    }
