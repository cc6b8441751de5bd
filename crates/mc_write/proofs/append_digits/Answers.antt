use Rattle.std.proofs.Common.{rules}
use Rattle.std.proofs.lemmas.Fmt.{decimal_digit}
use Rattle.mc_write.proofs.append_digits.Goals as goal

pub returns-in_err-push-clause-room : goal.returns-in_err-push-clause-room
returns-in_err-push-clause-room c = let digit = decimal_digit c.args.number c.if-number-lt10.true in rw digit (search rules)

pub returns-then-number-lt10-clause-text : goal.returns-then-number-lt10-clause-text
returns-then-number-lt10-clause-text c = let digit = decimal_digit c.args.number c.if-number-lt10.true in rw digit (search rules)
