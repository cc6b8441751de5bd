use Rattle.std.proofs.Common.{List, ℕ, ◌++◌, codes}
use Rattle.std.proofs.lemmas.Result.{err_from_is_err_and}
use Rattle.mc_server.proofs.Waited.{fails_first, fails_more, pushes_more}
use Rattle.mc_server.proofs.network_texts.push_line.Goals as goal

-- what is pushed after the front
abbrev back_on : List ℕ → List ℕ
back_on back = back ++ codes "\n"

pub returns-in_err-push_all : goal.returns-in_err-push_all
returns-in_err-push_all g c =
    let fails = fails_first c.args.front.now (back_on c.args.back.now) (g.O.Output.tells c.args.output.now) (g.O.Output.tells c.push_all.new.output) _ c.in_err-push_all.ensures.outcome in
    let left = err_from_is_err_and c.from_residual.result c.from_residual.ensures.1 in
    record { outcome = rw (left.1, left.2) fails }

pub returns-in_err-push_all-2 : goal.returns-in_err-push_all-2
returns-in_err-push_all-2 g c =
    let fails = fails_more c.args.front.now (back_on c.args.back.now) (g.O.Output.tells c.args.output.now) (g.O.Output.tells c.push_all.new.output) (g.O.Output.tells c.push_all-2.new.output) c.in_ok-push_all.ensures.outcome _
    (fails_first c.args.back.now (codes "\n") (g.O.Output.tells c.push_all.new.output) (g.O.Output.tells c.push_all-2.new.output) _ c.in_err-push_all-2.ensures.outcome) in
    let left = err_from_is_err_and c.from_residual-in_err-push_all-2.result c.from_residual-in_err-push_all-2.ensures.1 in
    record { outcome = rw (left.1, left.2) fails }

pub returns : goal.returns
returns g c =
    record {
      outcome = pushes_more c.args.front.now (back_on c.args.back.now) (g.O.Output.tells c.args.output.now) (g.O.Output.tells c.push_all.new.output) (g.O.Output.tells c.push_all-3.new.output) c.in_ok-push_all.ensures.outcome _
          (pushes_more c.args.back.now (codes "\n") (g.O.Output.tells c.push_all.new.output) (g.O.Output.tells c.push_all-2.new.output) (g.O.Output.tells c.push_all-3.new.output) c.in_ok-push_all-2.ensures.outcome _ c.push_all-3.ensures.outcome);
    }
