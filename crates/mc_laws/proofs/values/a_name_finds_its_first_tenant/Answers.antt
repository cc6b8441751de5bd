use Rattle.mc_laws.proofs.Names.{named_is_first}
use Rattle.mc_laws.proofs.values.a_name_finds_its_first_tenant.Goals as goal

pub returns : goal.returns
returns c = named_is_first
