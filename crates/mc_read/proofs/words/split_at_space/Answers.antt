use Rattle.std.proofs.Common.{◌+◌, length, take, drop, sym, ◌∙◌, ap, arith}
use Rattle.std.proofs.lemmas.List.{drop_all, take_all, take_rest}
use Rattle.std.specs.List.{position_or_len}
use Rattle.mc_read.specs.Word.{is_space}
use Rattle.mc_read.proofs.Splits.{position-from_no_place, position-from_search}
use Rattle.mc_read.proofs.words.split_at_space.Goals as goal

pub returns-in-Some-clause-front : goal.returns-in-Some-clause-front
returns-in-Some-clause-front c =
    let found = position-from_search 32 c.args.text.now c.in-Some.end c.in-Some.ensures in
    ap (λ n. take n c.args.text.now) (sym found.1)

pub returns-in-Some-clause-back : goal.returns-in-Some-clause-back
returns-in-Some-clause-back c =
    let found = position-from_search 32 c.args.text.now c.in-Some.end c.in-Some.ensures in
    take_rest c.args.text.now (c.in-Some.end + 1) ∙ ap (λ n. drop (n + 1) c.args.text.now) (sym found.1)

pub returns-in-None-clause-front : goal.returns-in-None-clause-front
returns-in-None-clause-front c =
    let past = position-from_no_place 32 c.args.text.now c.in-None.ensures in
    sym (take_all _ c.args.text.now (omega (arith, past)))

pub returns-in-None-clause-back : goal.returns-in-None-clause-back
returns-in-None-clause-back c =
    let past = position-from_no_place 32 c.args.text.now c.in-None.ensures in
    let nothing = drop_all (position_or_len is_space c.args.text.now + 1) c.args.text.now (omega (arith, past)) in
    take_rest c.args.text.now (length c.args.text.now) ∙ (drop_all _ c.args.text.now (omega arith) ∙ sym nothing)
