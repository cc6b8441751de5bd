use Rattle.mc_conn.proofs.Countings.{tallies_one}
use Rattle.mc_conn.proofs.responding.reply_and_count.Goals as goal

pub returns-clause-tally : goal.returns-clause-tally
returns-clause-tally c =
    tallies_one (record { asked = c.args.asked.now; reply = c.args.reply.now }) _ _ _ _ c.add.ensures c.count.ensures
