use Rattle.mc_conn.proofs.Owings.{owes_grow}
use Rattle.mc_conn.proofs.Readings.{read_trans}
use Rattle.mc_conn.proofs.laws.parts_add_up.Goals as goal

pub returns : goal.returns
returns c = record { read = read_trans; stays = owes_grow }
