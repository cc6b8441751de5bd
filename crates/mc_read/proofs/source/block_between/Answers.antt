use Rattle.std.proofs.Common.{◌≡◌, ◌≤◌, ◌+◌, ◌-◌, ◌++◌, IfOk, length, take, drop, sym, subst, arith}
use Rattle.mc_read.specs.Text.{ends_well}
use Rattle.mc_read.proofs.Parts.{behind_rest}
use Rattle.mc_read.proofs.source.block_between.Goals as goal

pub returns-then-rest-start-clause-block : goal.returns-then-rest-start-clause-block
returns-then-rest-start-clause-block c =
    let behind : length c.args.rest.now ≤ c.args.start = c.if-rest-start.true in
    let span : c.args.end - c.args.start - 2 + 2 ≡ c.args.end - c.args.start = omega (arith, c.requires.some) in
    let same : take (c.args.end - c.args.start - 2 + 2) (drop (c.args.start - length c.args.rest.now) c.args.piece.now) ≡ take (c.args.end - c.args.start) (drop c.args.start (c.args.rest.now ++ c.args.piece.now)) = (λ i. take (span i) (sym (behind_rest c.args.rest.now c.args.piece.now c.args.start behind) i)) in
    subst (λ body. IfOk c.share_block.result (λ block. block.0 ≡ take (c.args.end - c.args.start - 2) body)) same c.share_block.ensures.block

pub returns-then-rest-start-clause-ends_well : goal.returns-then-rest-start-clause-ends_well
returns-then-rest-start-clause-ends_well c =
    let behind : length c.args.rest.now ≤ c.args.start = c.if-rest-start.true in
    let span : c.args.end - c.args.start - 2 + 2 ≡ c.args.end - c.args.start = omega (arith, c.requires.some) in
    let same : take (c.args.end - c.args.start - 2 + 2) (drop (c.args.start - length c.args.rest.now) c.args.piece.now) ≡ take (c.args.end - c.args.start) (drop c.args.start (c.args.rest.now ++ c.args.piece.now)) = (λ i. take (span i) (sym (behind_rest c.args.rest.now c.args.piece.now c.args.start behind) i)) in
    subst (λ body. IfOk c.share_block.result (λ block. block.1 ≡ ends_well (drop (c.args.end - c.args.start - 2) body))) same c.share_block.ensures.ends_well
