use Rattle.std.proofs.Common.{List, ℕ, ◌++◌, codes, subst}
use Rattle.mc_stream.specs.Pushing.{PushesOrFails}
use Rattle.mc_server.proofs.Waited.{told}
use Rattle.mc_server.proofs.network_texts.tell_cannot_listen.Goals as goal

pub returns : goal.returns
returns g c =
    let P : List ℕ → Type 0 = λ name. PushesOrFails (codes "wfmc: cannot listen " ++ (name ++ codes "\n")) (g.E.Output.tells c.args.errors.now) (g.E.Output.tells c.push_line.new.output) in
    subst P c.as_bytes.ensures.value (told c.push_line.result _ _ _ c.push_line.ensures.outcome)
