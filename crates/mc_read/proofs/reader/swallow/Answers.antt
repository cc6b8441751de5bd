use Rattle.std.proofs.Common.{◌+◌, length, drop, sym, ◌∙◌, ap, ⊎_elim, arith}
use Rattle.std.proofs.lemmas.Bool.{cases_lt}
use Rattle.std.proofs.lemmas.List.{drop_all}
use Rattle.mc_read.proofs.reader.swallow.Goals as goal

pub returns-clause-left : goal.returns-clause-left
returns-clause-left c = omega (arith, c.min-swallowed.ensures, c.len-held.ensures, c.requires.line_end)

pub returns-clause-bytes : goal.returns-clause-bytes
returns-clause-bytes c =
    let bytes = c.args.buffer.now in
    let line = c.args.line in
    let size = c.args.size in
    let held = c.len-held.ensures in
    c.advance.ensures
    ∙ ⊎_elim
    (λ partial. drop_all _ bytes (omega (arith, c.min-swallowed.ensures, held, c.requires.line_end, partial)) ∙ sym (drop_all _ bytes (omega (arith, held, c.requires.line_end, partial))))
    (λ whole. ap (λ n. drop n bytes) (omega (arith, c.min-swallowed.ensures, held, whole)))
    (cases_lt (length bytes) (line + 1 + (size + 2)))
