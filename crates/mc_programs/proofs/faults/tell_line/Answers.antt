use Rattle.std.proofs.Common.{List, ℕ, ◌++◌, codes}
use Rattle.mc_programs.proofs.Waited.{told}
use Rattle.stream_lemmas.proofs.Pushed.{tells_front, tells_more}
use Rattle.mc_programs.proofs.faults.tell_line.Goals as goal

-- what is pushed after the name, and after the colon
abbrev text_on : List ℕ → List ℕ
text_on text = text ++ codes "\n"

abbrev colon_on : List ℕ → List ℕ
colon_on text = codes ": " ++ text_on text

pub returns-in_err-push_all : goal.returns-in_err-push_all
returns-in_err-push_all g c =
    tells_front c.args.program.now (colon_on c.args.text.now) (g.E.Output.tells c.args.errors.now) (g.E.Output.tells c.push_all.new.output) c.in_err-push_all.ensures.outcome.front c.in_err-push_all.ensures.outcome.failed

pub returns-in_err-push_all-2 : goal.returns-in_err-push_all-2
returns-in_err-push_all-2 g c =
    tells_more c.args.program.now (colon_on c.args.text.now) (g.E.Output.tells c.args.errors.now) (g.E.Output.tells c.push_all.new.output) (g.E.Output.tells c.push_all-2.new.output) c.in_ok-push_all.ensures.outcome.went c.in_ok-push_all.ensures.outcome.unfailed
    (tells_front (codes ": ") (text_on c.args.text.now) (g.E.Output.tells c.push_all.new.output) (g.E.Output.tells c.push_all-2.new.output) c.in_err-push_all-2.ensures.outcome.front c.in_err-push_all-2.ensures.outcome.failed)

pub returns-in_err-push_all-3 : goal.returns-in_err-push_all-3
returns-in_err-push_all-3 g c =
    tells_more c.args.program.now (colon_on c.args.text.now) (g.E.Output.tells c.args.errors.now) (g.E.Output.tells c.push_all.new.output) (g.E.Output.tells c.push_all-3.new.output) c.in_ok-push_all.ensures.outcome.went c.in_ok-push_all.ensures.outcome.unfailed
    (tells_more (codes ": ") (text_on c.args.text.now) (g.E.Output.tells c.push_all.new.output) (g.E.Output.tells c.push_all-2.new.output) (g.E.Output.tells c.push_all-3.new.output) c.in_ok-push_all-2.ensures.outcome.went c.in_ok-push_all-2.ensures.outcome.unfailed
    (tells_front c.args.text.now (codes "\n") (g.E.Output.tells c.push_all-2.new.output) (g.E.Output.tells c.push_all-3.new.output) c.in_err-push_all-3.ensures.outcome.front c.in_err-push_all-3.ensures.outcome.failed))

pub returns : goal.returns
returns g c =
    tells_more c.args.program.now (colon_on c.args.text.now) (g.E.Output.tells c.args.errors.now) (g.E.Output.tells c.push_all.new.output) (g.E.Output.tells c.push_all-4.new.output) c.in_ok-push_all.ensures.outcome.went c.in_ok-push_all.ensures.outcome.unfailed
    (tells_more (codes ": ") (text_on c.args.text.now) (g.E.Output.tells c.push_all.new.output) (g.E.Output.tells c.push_all-2.new.output) (g.E.Output.tells c.push_all-4.new.output) c.in_ok-push_all-2.ensures.outcome.went c.in_ok-push_all-2.ensures.outcome.unfailed
    (tells_more c.args.text.now (codes "\n") (g.E.Output.tells c.push_all-2.new.output) (g.E.Output.tells c.push_all-3.new.output) (g.E.Output.tells c.push_all-4.new.output) c.in_ok-push_all-3.ensures.outcome.went c.in_ok-push_all-3.ensures.outcome.unfailed
    (told c.push_all-4.result (codes "\n") (g.E.Output.tells c.push_all-3.new.output) (g.E.Output.tells c.push_all-4.new.output) c.push_all-4.ensures.outcome)))
