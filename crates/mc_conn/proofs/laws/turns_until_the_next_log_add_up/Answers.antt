use Rattle.mc_conn.proofs.Endings.{stops_until_later}
use Rattle.mc_conn.proofs.Takings.{in_time_self, in_time_trans, takes_self, takes_trans}
use Rattle.mc_conn.proofs.laws.turns_until_the_next_log_add_up.Goals as goal

pub returns : goal.returns
returns c = record {
  none = λ a. record { takes = takes_self a; in_time = in_time_self a };
  through = λ a b c one two. record { takes = takes_trans a b c one.takes two.takes; in_time = in_time_trans a b c one.takes two.takes one.in_time two.in_time };
  stops = λ fault a b c one two. stops_until_later fault a b c one.takes one.in_time two;
}
