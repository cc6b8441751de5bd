use Rattle.std.proofs.Common.{◌≡◌, ◌<◌, ◌≤◌, ℕ, false}
use Rattle.mc_model.specs.declared.settings.Limits.{Limits}
use Rattle.mc_conn.specs.declared.conn.Role.TheVariants.{Tenant}
use Rattle.mc_programs.specs.Generations.{FollowsOn, IsNextForOne, LogsHaveServed}
use Rattle.mc_programs.specs.Serving.{settings_alone}
use Rattle.mc_stream.specs.Stream.{both}
use Rattle.mc_programs.proofs.generations.serve_logs.Given as goal

-- the logs so far are full, and another one may follow
abbrev pub invariant-loop-earlier : goal.invariant-loop-earlier
invariant-loop-earlier g l = record {
  some : 1 ≤ l.earlier;
  below : l.earlier < l.fn.service.generations;
  ready : IsNextForOne l.next;
  role : l.conn.role ≡ Tenant 0;
  going : l.conn.is_closed ≡ false;
  served : (limits : Limits) (places : ℕ) →
      LogsHaveServed limits places 0 (both (g.I.Input.tells l.fn.input) (g.O.Output.tells l.fn.output)) l.fn.conn (both (g.I.Input.tells l.fn.input) (g.O.Output.tells l.fn.output)) →
      l.fn.log.settings ≡ settings_alone limits places →
      (served : LogsHaveServed limits places l.earlier (both (g.I.Input.tells l.fn.input) (g.O.Output.tells l.fn.output)) l.conn (both (g.I.Input.tells l.input) (g.O.Output.tells l.output)))
      × FollowsOn limits places served.requests l.next;
}
