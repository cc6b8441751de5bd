use Rattle.mc_server.proofs.NameParts.{first_stands_twice, no_words, of_rest}
use Rattle.mc_server.proofs.complaint.+check_names.Goals as goal

pub returns-in-empty : goal.returns-in-empty
returns-in-empty t c = no_words _ c.in-empty.len_below

pub returns-then-is_taken : goal.returns-then-is_taken
returns-then-is_taken t c = first_stands_twice c.args.words.now _ c.name_part-name.result.now c.is_taken.result c.in-len1-up.len_at_least c.is_taken.ensures c.if-is_taken.true c.name_part-name.ensures

pub returns-else-is_taken : goal.returns-else-is_taken
returns-else-is_taken t c = of_rest c.args.words.now _ c.name_part-name.result.now c.is_taken.result c.in-len1-up.len_at_least c.is_taken.ensures c.if-is_taken.false c.name_part-name.ensures c.check_names.result c.check_names.ensures
