use Rattle.std.proofs.lemmas.List.{take_more}
use Rattle.mc_server.proofs.Complaints.{all_fit, one_more_fits, word_stands}
use Rattle.mc_server.proofs.complaint.check_alone.Goals as goal

pub returns-in-Some : goal.returns-in-Some
returns-in-Some c given e = (word_stands c.args.words.now given.tenants c.loop-word.word-index _ c.loop-word-test.true e, c.in-Some.ensures)

pub loop-word-preserved : goal.loop-word-preserved
loop-word-preserved c = one_more_fits _ _ _ c.loop-word.invariant c.in-None.ensures (take_more c.args.words.now c.loop-word.word-index _ c.loop-word-test.true)

pub returns : goal.returns
returns c = all_fit _ _ c.loop-word-test.false c.loop-word.invariant
