use Rattle.mc_read.proofs.Blocks.{block_goes_with_cas, block_goes_with_store, cas_goes_alone, store_goes_alone}
use Rattle.mc_read.proofs.laws.a_block_goes_with_its_line.Goals as goal

pub returns-clause-store : goal.returns-clause-store
returns-clause-store c = λ line verb key flags exptime size last at_most are number few. block_goes_with_store line key flags exptime size number few verb last at_most are

pub returns-clause-cas : goal.returns-clause-cas
returns-clause-cas c = λ line key flags exptime size unique last at_most are number few. block_goes_with_cas line key flags exptime size number few unique last at_most are

pub returns-clause-store_alone : goal.returns-clause-store_alone
returns-clause-store_alone c = λ line verb key flags exptime size last at_most are unreadable. store_goes_alone line key flags exptime size unreadable verb last at_most are

pub returns-clause-cas_alone : goal.returns-clause-cas_alone
returns-clause-cas_alone c = λ line key flags exptime size unique last at_most are unreadable. cas_goes_alone line key flags exptime size unreadable unique last at_most are
