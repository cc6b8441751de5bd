use Rattle.std.proofs.Common.{◌≡◌, ◌∙◌, List, ℕ, ◌++◌, codes, decimal, refl, sym, ap, subst, append_assoc}
use Rattle.mc_programs.specs.Lists.{bad_line_text}
use Rattle.mc_programs.proofs.Waited.{told}
use Rattle.stream_lemmas.proofs.Pushed.{tells_front, tells_more}
use Rattle.mc_stream.specs.Pushing.{PushesOrFails}
use Rattle.mc_stream.specs.Stream.{Outflow}
use Rattle.mc_programs.proofs.schedule.tell_bad_line.Goals as goal

-- what is pushed before the digits, and from them on
abbrev front : List ℕ
front = codes "mc_schedule: line "

abbrev digits_on : List ℕ → List ℕ
digits_on digits = digits ++ codes ": bad line\n"

whole : (line : ℕ) (digits : List ℕ) → digits ≡ decimal line → front ++ digits_on digits ≡ bad_line_text line
whole line digits is = ap (λ known. front ++ digits_on known) is ∙ ap (λ rest. front ++ rest) (sym (append_assoc (decimal line) (codes ": bad line") (codes "\n")))

tells_line : (line : ℕ) (digits : List ℕ) (before after : Outflow) → digits ≡ decimal line → PushesOrFails (front ++ digits_on digits) before after → PushesOrFails (bad_line_text line) before after
tells_line line digits before after is tells = subst (λ (text : List ℕ). PushesOrFails text before after) (whole line digits is) tells

pub returns-in_err-push_all : goal.returns-in_err-push_all
returns-in_err-push_all g c =
    tells_line c.args.line _ _ _ refl
    (tells_front front (digits_on (decimal c.args.line)) (g.E.Output.tells c.args.errors.now) (g.E.Output.tells c.push_all.new.output) c.in_err-push_all.ensures.outcome.front c.in_err-push_all.ensures.outcome.failed)

pub returns-in_err-push_all-2 : goal.returns-in_err-push_all-2
returns-in_err-push_all-2 g c =
    tells_line c.args.line c.as_bytes.result.now _ _ (c.as_bytes.ensures.value ∙ c.format.ensures.text)
    (tells_more front (digits_on c.as_bytes.result.now) (g.E.Output.tells c.args.errors.now) (g.E.Output.tells c.push_all.new.output) (g.E.Output.tells c.push_all-2.new.output) c.in_ok-push_all.ensures.outcome.went c.in_ok-push_all.ensures.outcome.unfailed
    (tells_front c.as_bytes.result.now (codes ": bad line\n") (g.E.Output.tells c.push_all.new.output) (g.E.Output.tells c.push_all-2.new.output) c.in_err-push_all-2.ensures.outcome.front c.in_err-push_all-2.ensures.outcome.failed))

pub returns : goal.returns
returns g c =
    tells_line c.args.line c.as_bytes.result.now _ _ (c.as_bytes.ensures.value ∙ c.format.ensures.text)
    (tells_more front (digits_on c.as_bytes.result.now) (g.E.Output.tells c.args.errors.now) (g.E.Output.tells c.push_all.new.output) (g.E.Output.tells c.push_all-3.new.output) c.in_ok-push_all.ensures.outcome.went c.in_ok-push_all.ensures.outcome.unfailed
    (tells_more c.as_bytes.result.now (codes ": bad line\n") (g.E.Output.tells c.push_all.new.output) (g.E.Output.tells c.push_all-2.new.output) (g.E.Output.tells c.push_all-3.new.output) c.in_ok-push_all-2.ensures.outcome.went c.in_ok-push_all-2.ensures.outcome.unfailed
    (told c.push_all-3.result (codes ": bad line\n") (g.E.Output.tells c.push_all-2.new.output) (g.E.Output.tells c.push_all-3.new.output) c.push_all-3.ensures.outcome)))
