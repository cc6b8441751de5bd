use Rattle.std.proofs.Common.{◌≡◌, map, take}
use Rattle.std.specs.List.{AllZip}
use Rattle.mc_server.specs.Listeners.{IsListeningFor, asked_at}
use Rattle.mc_server.proofs.listeners.bind_all.Given as goal

abbrev pub invariant-loop-one : goal.invariant-loop-one
invariant-loop-one g l = record {
  roles : map (λ listener. listener.0) l.listeners.items ≡ map (λ one. one.role) (take l.one-index l.wanted);
  addresses : map (λ listener. listener.1.address) l.listeners.items ≡ map (λ one. one.address) (take l.one-index l.wanted);
  told : AllZip IsListeningFor (map asked_at (take l.one-index l.wanted)) l.told.items;
}
