use Rattle.std.proofs.Common.{length, length-append, ap, arith}
use Rattle.mc_conn.proofs.laws.few_are_answered_in_a_turn.Goals as goal

pub returns : goal.returns
returns c = record {
  answers = λ before after more few grows. omega (arith, few, ap length grows, length-append before.past more);
  takes = λ before after takes few. few;
}
