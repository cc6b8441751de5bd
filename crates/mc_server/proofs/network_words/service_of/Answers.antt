use Rattle.std.proofs.Common.{◌≡◌, ◌≢◌, ◌≤◌, ◌∙◌, ◌⊎◌, ◌++◌, inl, inr, ⊎_elim, refl, List, ℕ, Bool, Bor, length, map, sym, ap, subst, true, false, arith}
use Rattle.std.proofs.lemmas.Result.{err_from_is_err_and}
use Rattle.std.proofs.lemmas.Slice.Zip.{AllZip-long}
use Rattle.std.specs.List.{AllZip, IsDistinct}
use Rattle.std.specs.Str.{bytes_eq}
use Rattle.mc_model.specs.declared.fault.Fault.TheVariants.{Memory, BadSettings}
use Rattle.mc_model.specs.Settings.{Configuration, IsBetween, IsLawful}
use Rattle.mc_model.specs.declared.settings.Limits.{Limits}
use Rattle.mc_server.specs.NetworkWords.{AreReservesWithin, Asks, AsksInVain, IsServable, NetworkAsked, given_in, reserved_names, workers_for}
use Rattle.mc_server.specs.TenantWord.{IsOnly, Says, TenantAsked, asked_of}
use Rattle.mc_server.specs.declared.network_words.NetworkWords.{NetworkWords}
use Rattle.mc_server.specs.declared.tenant_word.Tenant.{Tenant}
use Rattle.mc_programs.specs.declared.options.TheConstants.{MAX_GENERATIONS}
use Rattle.mc_server.specs.declared.network_words.TheConstants.{MAX_LOG_BYTES}
use Rattle.mc_server.proofs.Complaints.{in_vain}
use Rattle.mc_server.proofs.TenantLists.{all_only, all_say, each_has_a_place, limits_are, names_lawful, settings_are}
use Rattle.mc_server.proofs.network_words.service_of.Goals as goal

-- the tenants that were read are those that are asked for
read_are_asked : (words : NetworkWords) (lent : List (Bor (List ℕ))) (tenants : List Tenant) (asked : NetworkAsked)
    → AllZip IsOnly (map (λ word. word.now) lent) (map asked_of tenants) → lent ≡ words.tenants.items → Asks (given_in words) asked
    → asked.tenants ≡ map asked_of tenants
read_are_asked words lent tenants asked only e asks =
    let P : List (Bor (List ℕ)) → Type 0 = λ ws. AllZip Says (map (λ word. word.now) ws) asked.tenants in all_only _ _ asked.tenants only (subst P (sym e) asks.tenants)

apart : (b : Bool) → b ≡ true → b ≡ false → ⊥
apart b passes fails = cc

-- the words ask for nothing that can be served
pub returns-in_err-check : goal.returns-in_err-check
returns-in_err-check c =
    let left = err_from_is_err_and c.from_residual.result c.from_residual.ensures.1 in
    record { outcome = rw (left.1, left.2) (inr (refl, in_vain (given_in c.args.words.now) c.in_err-check.field-0.0 c.in_err-check.ensures)) }

-- a tenant's word is of another form, or memory ran out
pub returns-in_err-tenants : goal.returns-in_err-tenants
returns-in_err-tenants c =
    let vain = λ (none : (others : List TenantAsked) → AllZip Says (map (λ word. word.now) c.deref.result.now) others → ⊥) (asked : NetworkAsked) (asks : Asks (given_in c.args.words.now) asked) (servable : IsServable asked).
    let P : List (Bor (List ℕ)) → Type 0 = λ ws. AllZip Says (map (λ word. word.now) ws) asked.tenants in
    none asked.tenants (subst P (sym c.deref.ensures.value) asks.tenants)
    in
    let left = err_from_is_err_and c.from_residual-in_err-tenants.result c.from_residual-in_err-tenants.ensures.1 in
    let fault : (c.in_err-tenants.field-0.0 ≡ Memory) ⊎ (c.in_err-tenants.field-0.0 ≡ BadSettings) × AsksInVain (given_in c.args.words.now) =
    ⊎_elim (λ starved. inl starved) (λ none. inr (none.0, vain none.1)) c.in_err-tenants.ensures.outcome in
    record { outcome = rw (left.1, left.2) fault }

-- a number is out of its bounds
pub returns-in_err-settings : goal.returns-in_err-settings
returns-in_err-settings c =
    let vain : AsksInVain (given_in c.args.words.now) = λ asked asks servable.
    let tenants = read_are_asked c.args.words.now _ c.in_ok-tenants.tenants.items asked c.in_ok-tenants.ensures.outcome c.deref.ensures.value asks in
    let quotas = c.in_ok-quotas.ensures ∙ ap (map (λ tenant. tenant.limits)) c.deref-2.ensures.value in
    let same = settings_are _ asked c.in_ok-tenants.tenants.items _ _ asks tenants c.workers_for.ensures quotas in
    apart _ (c.in_err-settings.ensures.lawful.1 (subst IsLawful same servable.lawful)) (λ i. false)
    in
    let left = err_from_is_err_and c.from_residual-in_err-settings.result c.from_residual-in_err-settings.ensures.1 in
    record { outcome = rw (left.1, left.2) (inr (c.in_err-settings.ensures.fault, vain)) }

-- the administrators' address isn't one
pub returns-in_err-admin : goal.returns-in_err-admin
returns-in_err-admin c =
    let vain : AsksInVain (given_in c.args.words.now) = λ asked asks servable. c.in_err-admin.ensures.1 asked.admin asks.admin in
    let left = err_from_is_err_and c.from_residual-in_err-admin.result c.from_residual-in_err-admin.ensures.1 in
    record { outcome = rw (left.1, left.2) (inr (c.in_err-admin.ensures.0, vain)) }

-- the address of metrics isn't one
pub returns-in_err-metrics : goal.returns-in_err-metrics
returns-in_err-metrics c =
    let vain : AsksInVain (given_in c.args.words.now) = λ asked asks servable. c.in_err-metrics.ensures.1 asked.metrics asks.metrics in
    let left = err_from_is_err_and c.from_residual-in_err-metrics.result c.from_residual-in_err-metrics.ensures.1 in
    record { outcome = rw (left.1, left.2) (inr (c.in_err-metrics.ensures.0, vain)) }

-- the settings that were checked are those that are asked for
checked_are_asked : (settings : Configuration) (workers places : ℕ) (quotas : List Limits) (tenants : List Tenant) → settings ≡ record { workers = workers; places = places; tenants = quotas }
    → quotas ≡ map (λ tenant. tenant.limits) tenants
    → settings ≡ record { workers = settings.workers; places = settings.places; tenants = map (λ tenant. tenant.limits) (map asked_of tenants) }
checked_are_asked settings workers places quotas tenants e q =
    let limits = ap (λ (s : Configuration). s.tenants) e ∙ q ∙ sym (limits_are tenants) in λ i. record { workers = settings.workers; places = settings.places; tenants = limits i }

pub returns : goal.returns
returns c =
    let words = c.args.words.now in
    let can = c.in_ok-check.ensures in
    let asked = can.0 in
    let asks = can.1 in
    let servable = can.2 in
    let tenants = c.in_ok-tenants.tenants.items in
    let P : List (Bor (List ℕ)) → Type 0 = λ ws. AllZip Says (map (λ word. word.now) ws) (map asked_of tenants) in
    let quotas = c.in_ok-quotas.ensures ∙ ap (map (λ tenant. tenant.limits)) c.deref-2.ensures.value in
    let checked = c.in_ok-settings.ensures.settings in
    let settings = checked_are_asked _ _ _ _ tenants checked quotas in
    let read = read_are_asked words _ tenants asked c.in_ok-tenants.ensures.outcome c.deref.ensures.value asks in
    let admin = c.in_ok-admin.ensures.only asked.admin asks.admin in
    let metrics = c.in_ok-metrics.ensures.only asked.metrics asks.metrics in
    let served : NetworkAsked = record {
      workers = c.in_ok-settings.settings.workers;
      places = c.in_ok-settings.settings.places;
      generations = words.generations;
      log_bytes = words.log_bytes;
      reserve = words.reserve;
      connections = words.connections;
      admin = c.in_ok-admin.admin;
      metrics = c.in_ok-metrics.metrics;
      tenants = map asked_of tenants;
    } in
    let serve : served.workers ≡ workers_for (given_in words) = ap (λ (s : Configuration). s.workers) checked ∙ c.workers_for.ensures in
    let places : served.places ≡ words.places = ap (λ (s : Configuration). s.places) checked in
    let asks_served : Asks (given_in words) served = record {
      few = asks.few;
      workers = serve;
      places = places;
      generations = refl;
      log_bytes = refl;
      reserve = refl;
      connections = refl;
      admin = c.in_ok-admin.ensures.spells;
      metrics = c.in_ok-metrics.ensures.spells;
      tenants = subst P c.deref.ensures.value (all_say _ _ c.in_ok-tenants.ensures.outcome);
    } in
    let servable_served : IsServable served = record {
      lawful = subst IsLawful (sym checked ∙ settings) (c.in_ok-settings.ensures.lawful.0 (λ i. true));
      generations = subst (λ count. count ≤ MAX_GENERATIONS) asks.generations servable.generations;
      log_bytes = subst (IsBetween 1 MAX_LOG_BYTES) asks.log_bytes servable.log_bytes;
      reserve = subst (λ reserve. AreReservesWithin reserve (length served.tenants)) asks.reserve (subst (λ many. AreReservesWithin asked.reserve (length many)) read servable.reserve);
      names = subst (IsDistinct bytes_eq) (λ i. reserved_names (admin i) (metrics i) ++ map (λ tenant. tenant.name) (read i)) servable.names;
    } in
    let each : words.generations ≢ 1 → served.workers ≤ served.places = λ many. omega (arith, each_has_a_place (given_in words) many, serve, places) in
    record { outcome = (asks_served, record { settings = settings; servable = servable_served; each = each; names = names_lawful _ tenants c.in_ok-tenants.ensures.outcome }) }
