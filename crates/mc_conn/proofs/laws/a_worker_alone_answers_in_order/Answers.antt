use Rattle.std.proofs.Common.{[]}
use Rattle.mc_conn.proofs.Alone.{placed_in_order, turned_away_last}
use Rattle.mc_conn.proofs.AloneOwed.{owes_in_order}
use Rattle.mc_conn.proofs.laws.a_worker_alone_answers_in_order.Goals as goal

pub returns : goal.returns
returns c = record {
  placed = λ worker tenant from to command reply alone is. placed_in_order worker alone tenant from to command reply is;
  away = λ worker tenant from to command reply alone is. turned_away_last worker alone tenant from to command reply is;
  owes = λ limits places worker requests bytes to alone owes. owes_in_order limits [] places worker alone requests bytes to owes;
  goes_on = λ limits base places worker requests bytes to alone owes. owes_in_order limits base places worker alone requests bytes to owes;
}
