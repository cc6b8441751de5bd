-- As many places as rounds so far.
use Rattle.std.proofs.Common.{◌≡◌, vec_len}
use Rattle.mc_connections.proofs.closing.Closing.new.Given as goal

abbrev pub invariant-loop : goal.invariant-loop
invariant-loop l = vec_len l.streams ≡ l.counter
