-- What an administrator's line asks for, and whose lines a reader reads. `limit` is this project's
-- own command; `version` and `quit` are those of memcached's doc/protocol.txt, "Other commands".
-- No line of an administrator has a block.
use Rattle.std.specs.Prelude.{ℕ, Bool, true, false, ◌&&◌, if◌then◌else◌, List, [], ◌∷◌, Option, Some, None, codes}
use Rattle.mc_model.specs.declared.name.Name.{Name}
use Rattle.mc_model.specs.declared.reply.Reply.TheVariants.{Version}
use Rattle.mc_model.specs.declared.request.Request.TheVariants.{Limit, Local, Quit}
use Rattle.mc_model.specs.declared.settings.Limits.{Limits}
use Rattle.mc_model.specs.Name.{is_lawful_name}
use Rattle.mc_model.specs.Settings.{limits_named}
use Rattle.mc_read.specs.declared.line.Asked.{Asked}
use Rattle.mc_read.specs.declared.line.Asked.TheVariants.{LineOnly}
use Rattle.mc_read.specs.declared.speaker.Speaker.{Speaker}
use Rattle.mc_read.specs.declared.speaker.Speaker.TheVariants as speaker
use Rattle.mc_read.specs.Line.{asked, asked_of_name, malformed, no_command}
use Rattle.mc_read.specs.Text.{Lines}
use Rattle.mc_read.specs.Word.{is_noreply, is_word, words}

-- the quotas are to be set, if both words name numbers within their bounds
abbrev pub asked_of_quotas : Name → Option Limits → Bool → Asked
asked_of_quotas name None quiet = malformed
asked_of_quotas name (Some limits) quiet = LineOnly (Limit name limits quiet)

-- a name and two quotas; the word after these may have to be valid
abbrev pub asked_of_setting : Bool → List ℕ → List ℕ → List ℕ → Bool → Asked
asked_of_setting is_lawful name items bytes quiet =
    if is_lawful && is_lawful_name name
    then asked_of_quotas name (limits_named items bytes) quiet
    else malformed

-- limit <name> <items> <bytes> [noreply]
abbrev pub asked_of_limit : List (List ℕ) → Asked
asked_of_limit (name ∷ items ∷ bytes ∷ []) = asked_of_setting true name items bytes false
asked_of_limit (name ∷ items ∷ bytes ∷ last ∷ []) =
    asked_of_setting (is_noreply last) name items bytes true
asked_of_limit arguments = no_command

-- what an administrator's line asks for, by its words
abbrev pub asked_of_admin : List (List ℕ) → Asked
asked_of_admin [] = no_command
asked_of_admin (name ∷ arguments) =
    if is_word name (codes "limit") then asked_of_limit arguments
    else if is_word name (codes "version") then asked_of_name (Local Version false) arguments
    else if is_word name (codes "quit") then asked_of_name Quit arguments
    else no_command

-- what an administrator's line asks for; it comes without its line feed
abbrev pub asked_by_admin : List ℕ → Asked
asked_by_admin line = asked_of_admin (words line)

-- what each line of this speaker asks for
abbrev pub lines_spoken : Speaker → Lines
lines_spoken speaker.Tenant = asked
lines_spoken speaker.Admin = asked_by_admin
