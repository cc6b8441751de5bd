use Rattle.std.proofs.Common.{◌++◌, ◌-◌, drop, length, min, sym, ◌∙◌, ap, subst}
use Rattle.mc_read.specs.declared.reader.State.TheVariants as state
use Rattle.mc_read.specs.State.{Feeds, IsStateOf}
use Rattle.mc_read.proofs.Feeding.{feeds_line, feeds_refused}
use Rattle.mc_read.proofs.reader.drop_unread.Goals as goal

pub returns-in-AwaitsLine-clause-feeds : goal.returns-in-AwaitsLine-clause-feeds
returns-in-AwaitsLine-clause-feeds c = λ lines bytes piece is behind.
    rw behind (subst (λ s. Feeds lines s bytes piece s (bytes ++ piece)) (sym c.in-AwaitsLine.is) (feeds_line lines bytes piece c.in-AwaitsLine.searched (subst (λ s. IsStateOf lines s bytes) c.in-AwaitsLine.is is)))

pub returns-in-SwallowsBlock-clause-feeds : goal.returns-in-SwallowsBlock-clause-feeds
returns-in-SwallowsBlock-clause-feeds c = λ lines bytes piece is behind.
    let block = c.in-SwallowsBlock in
    let next = state.SwallowsBlock block.refusal block.quiet (block.left - c.min-count.result) in
    subst (λ s. Feeds lines s bytes piece next c.advance.new.self) (sym block.is)
    (feeds_refused lines bytes piece block.refusal block.quiet block.left c.min-count.result c.advance.new.self (subst (λ s. IsStateOf lines s bytes) block.is is)
    (c.min-count.ensures ∙ ap (λ n. min block.left n) (c.len.ensures ∙ ap length behind)) (c.advance.ensures ∙ ap (λ b. drop c.min-count.result b) behind))
