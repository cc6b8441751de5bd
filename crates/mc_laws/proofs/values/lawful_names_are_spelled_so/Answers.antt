use Rattle.mc_laws.proofs.Names.{lawful_is_spelled}
use Rattle.mc_laws.proofs.values.lawful_names_are_spelled_so.Goals as goal

pub returns : goal.returns
returns c = lawful_is_spelled
