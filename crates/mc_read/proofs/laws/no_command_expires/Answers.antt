use Rattle.mc_read.proofs.Exptimes.{cas_has_zero, flush_has_zero, storage_has_zero}
use Rattle.mc_read.proofs.laws.no_command_expires.Goals as goal

pub returns-clause-storage : goal.returns-clause-storage
returns-clause-storage c = λ line body key flags exptime more verb command quiet unbroken are no_append no_prepend is.
    storage_has_zero line body command quiet unbroken is verb key flags exptime more are no_append no_prepend

pub returns-clause-cas : goal.returns-clause-cas
returns-clause-cas c = λ line body key flags exptime more command quiet unbroken are is.
    cas_has_zero line body command quiet unbroken is key flags exptime more are

pub returns-clause-flush : goal.returns-clause-flush
returns-clause-flush c = λ line body exptime more command quiet unbroken are no_noreply is.
    flush_has_zero line body command quiet unbroken is exptime more are no_noreply
