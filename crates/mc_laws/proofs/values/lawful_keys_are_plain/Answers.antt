use Rattle.mc_laws.proofs.Keys.{lawful_is_plain}
use Rattle.mc_laws.proofs.values.lawful_keys_are_plain.Goals as goal

pub returns : goal.returns
returns c = lawful_is_plain
