use Rattle.mc_laws.proofs.Ends.{version_or_refusal, admin_quit_is_read, admin_version_is_read}
use Rattle.mc_laws.proofs.LimitWords.{no_long_admin_line, admin_quit_line, admin_told_line}
use Rattle.mc_model.specs.declared.reply.Reply.TheVariants.{Version}
use Rattle.mc_laws.proofs.lines.quit_and_version_are_administrators_lines_of_one_word.Goals as goal

pub returns-clause-quit : goal.returns-clause-quit
returns-clause-quit c = λ line. (admin_quit_line line, admin_quit_is_read line)

pub returns-clause-version : goal.returns-clause-version
returns-clause-version c = λ line quiet. (admin_told_line line Version quiet, admin_version_is_read line quiet)

pub returns-clause-refusals : goal.returns-clause-refusals
returns-clause-refusals c = λ line reply quiet is. version_or_refusal _ reply quiet (admin_told_line line reply quiet is)

pub returns-clause-long : goal.returns-clause-long
returns-clause-long c = no_long_admin_line
