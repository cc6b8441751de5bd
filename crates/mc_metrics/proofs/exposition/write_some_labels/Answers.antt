use Rattle.std.proofs.Common.{◌++◌, arith, codes}
use Rattle.std.proofs.lemmas.Grind.{common_steps}
use Rattle.mc_metrics.proofs.LabelLists.{flat_map_of_map}
use Rattle.mc_metrics.specs.Exposition.{LabelText, label_text}
use Rattle.mc_metrics.specs.declared.exposition.Label.{Label}
use Rattle.mc_metrics.proofs.exposition.write_some_labels.Goals as goal

pub returns : goal.returns
returns c =
    let joined = flat_map_of_map {X = Label} {Y = LabelText} (λ label. codes "," ++ label_text label) (λ label. (label.name.now, label.value.now)) c.args.others.now in
    rw joined (grind (arith, common_steps))
