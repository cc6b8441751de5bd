use Rattle.std.proofs.Common.{◌≡◌, ◌∙◌, List, ap, arith, map, subst, sym}
use Rattle.std.proofs.lemmas.List.{take_all}
use Rattle.std.specs.List.{AllZip}
use Rattle.mc_server.specs.Listeners.{IsListeningFor, asked_at}
use Rattle.mc_server.specs.declared.wanted.Wanted.{Wanted}
use Rattle.mc_server.proofs.Numbered.{map_more, one_more_told}
use Rattle.mc_server.proofs.TenantLists.{mapped}
use Rattle.mc_server.proofs.listeners.bind_all.Goals as goal

pub loop-one-preserved : goal.loop-one-preserved
loop-one-preserved g c =
    let before = c.loop-one.invariant in
    let one = c.one-item.result in
    let role = c.in_ok-share.ensures.role ∙ ap (λ (one : Wanted). one.role) c.one-item.is in
    let address = c.in-Ok.ensures.at ∙ ap (λ (one : Wanted). one.address) c.one-item.is in
    let told = subst (λ (one : Wanted). IsListeningFor (asked_at one) c.in-Ok.listening) c.one-item.is c.in-Ok.ensures.told in
    record {
      roles = map_more (λ listener. listener.0) (λ one. one.role) c.loop-one.listeners.items _ _ c.args.wanted.now c.loop-one.one-index one c.loop-one-test.true before.roles role c.in_ok-push.ensures.items;
      addresses = map_more (λ listener. listener.1.address) (λ one. one.address) c.loop-one.listeners.items _ _ c.args.wanted.now c.loop-one.one-index one c.loop-one-test.true before.addresses address c.in_ok-push.ensures.items;
      told = one_more_told c.args.wanted.now c.loop-one.one-index one c.loop-one.told.items _ c.in-Ok.listening c.loop-one-test.true before.told told c.in_ok-push-2.ensures.items;
    }

pub returns : goal.returns
returns g c =
    let last = c.loop-one.invariant in
    let listeners = c.loop-one.listeners.items in
    let whole = take_all c.loop-one.one-index c.args.wanted.now (omega (arith, c.loop-one-test.false)) in
    record {
      outcome = record {
        at = record {
          roles_are = subst (λ (wanted : List Wanted). map (λ listener. listener.0) listeners ≡ map (λ one. one.role) wanted) whole last.roles;
          addresses_are = subst (λ (wanted : List Wanted). map (λ listener. listener.1.address) listeners ≡ map (λ (one : Wanted). one.address) wanted) whole last.addresses
              ∙ sym (mapped asked_at (λ one. one.address) c.args.wanted.now);
        };
        told = subst (λ (wanted : List Wanted). AllZip IsListeningFor (map asked_at wanted) c.loop-one.told.items) whole last.told;
      };
    }
