use Rattle.std.proofs.Common.{◌∙◌, sym}
use Rattle.uc_worker.proofs.TurningOver.{is_still}
use Rattle.uc_worker.proofs.turning_over.meet_done.Goals as goal

pub returns-clause-before : goal.returns-clause-before
returns-clause-before c =
    let met = c.meet-met.ensures in
    let law = c.a_log_leaves_one_list_of_tables.ensures in
    let both = c.requires.up_to_date in
    let still = met.still both.0 both.1 (sym both.0 ∙ c.requires.equal ∙ both.1) in (
      is_still law c.args.one.now c.meet-met.new.self met.one still.1 c.history.ensures.stands c.history-3.ensures.stands,
      is_still law c.args.other.now c.meet-met.new.other met.other still.2 c.history-2.ensures.stands c.history-4.ensures.stands,
    )
