use Rattle.std.proofs.Common.{◌≡◌, ◌++◌, codes, flat_map, take}
use Rattle.mc_metrics.specs.Exposition.{label_text}
use Rattle.mc_metrics.proofs.exposition.write_more_labels.Given as goal

abbrev pub invariant-loop-label : goal.invariant-loop-label
invariant-loop-label l = l.out.items ≡ l.initial.out.items ++ flat_map (λ label. codes "," ++ label_text (label.name.now, label.value.now)) (take l.label-index l.labels)
