use Rattle.std.proofs.Common.{◌≡◌, ◌+◌, ◌-◌, ◌≤◌, drop, length, refl, ap, arith, length-take}
use Rattle.std.proofs.lemmas.List.{drop-drop, drop-take}
use Rattle.mc_conn.proofs.run.Run.advance.Goals as goal

pub returns : goal.returns
returns c =
    let run = c.self.inside in
    let count = c.args.count in
    let here = drop run.start run.block in
    let few : count ≤ run.end - run.start = omega (arith, c.requires, ap length c.self.view_is, length-take (run.end - run.start) here) in
    let left : run.end - run.start ≡ count + (run.end - (run.start + count)) = omega (arith, few) in
    rw (← c.self.view_is, left, drop-take count (run.end - (run.start + count)) here, drop-drop count run.start run.block) refl
