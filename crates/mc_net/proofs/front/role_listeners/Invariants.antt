-- Those so far and the listeners that are left are all the listeners.
use Rattle.std.proofs.Common.{◌≡◌, ◌++◌}
use Rattle.mc_net.specs.Running.{listeners_of}
use Rattle.mc_net.proofs.front.role_listeners.Given as goal

abbrev pub invariant-loop-role : goal.invariant-loop-role
invariant-loop-role l = listeners_of l.all.items ++ l.role-iterator.rest.items ≡ l.fn.listeners.items
