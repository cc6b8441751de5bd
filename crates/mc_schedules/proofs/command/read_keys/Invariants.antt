use Rattle.std.proofs.Common.{◌≡◌, true, map, take}
use Rattle.std.specs.List.{list_all}
use Rattle.mc_model.specs.Key.{is_lawful_key}
use Rattle.mc_schedules.proofs.command.read_keys.Given as goal

-- the keys are the words so far, which are all valid
abbrev pub invariant-loop-word : goal.invariant-loop-word
invariant-loop-word l = record {
  keys : l.keys ≡ map (λ word. word.now) (take l.word-index l.words);
  lawful : list_all is_lawful_key (map (λ word. word.now) (take l.word-index l.words)) ≡ true;
}
