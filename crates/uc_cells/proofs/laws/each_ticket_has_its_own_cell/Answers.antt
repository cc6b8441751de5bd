use Rattle.uc_cells.proofs.Apart.{same_ticket}
use Rattle.uc_cells.proofs.laws.each_ticket_has_its_own_cell.Goals as goal

pub returns : goal.returns
returns c = λ one other has has_other row place. same_ticket c.args.cells.now one other has has_other row place
