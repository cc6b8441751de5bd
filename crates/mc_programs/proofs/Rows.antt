-- Worked rows, checked against the definitions: reply text, and what is owed if no table is asked.
use Rattle.std.specs.Prelude.{codes}
use Rattle.std.proofs.Common.{◌≡◌, true, false, [], ◌∷◌, refl}
use Rattle.mc_model.specs.declared.command.Command.TheVariants.{Get, Store}
use Rattle.mc_model.specs.declared.command.Verb.TheVariants.{Set}
use Rattle.mc_model.specs.declared.reply.Reply.TheVariants.{Stored, Values}
use Rattle.mc_model.specs.declared.reply.TheConstants.WireNo.{NO_EXPIRY, UNKNOWN_COMMAND}
use Rattle.mc_model.specs.declared.request.Request.TheVariants.{Logged, TooLong}
use Rattle.mc_model.specs.declared.settings.Limits.{Limits}
use Rattle.mc_model.specs.History.{answer}
use Rattle.mc_read.specs.Line.{refused}
use Rattle.clap.specs.Faults.{fault_of}
use Rattle.clap.specs.declared.error.kind.ErrorKind.TheVariants as kind
use Rattle.clap.proofs.OnLiterals.{clap_on_literals}
use Rattle.mc_conn.specs.declared.conn.TheConstants.{PULL_BYTES, QUEUE_BYTES}
use Rattle.mc_programs.specs.Options.{generations_asked, limits_asked, places_asked, stdin_app}
use Rattle.mc_conn.specs.Alone.{owed}
use Rattle.mc_programs.specs.Serving.{owed_by_logs}
use Rattle.mc_write.specs.Text.{text}

-- a get that shows no item
no_item : text (Values []) ≡ codes "END\r\n"
no_item = refl

-- the default quotas
abbrev plenty : Limits
plenty = record { items = 1048576; bytes = 67108864 }

-- quiet requests aren't answered, others are, and so is a line that is too long
refusals : owed plenty 65536 (refused NO_EXPIRY true ∷ Logged (Store Set (codes "a") 0 []) true ∷ refused UNKNOWN_COMMAND false ∷ TooLong ∷ [])
    ≡ codes "ERROR\r\nCLIENT_ERROR line too long\r\n"
refusals = refl

-- a set that the quotas have room for is answered
a_set : answer plenty [] (Store Set (codes "a") 5 (codes "abc")) ≡ Stored → owed plenty 65536 (Logged (Store Set (codes "a") 5 (codes "abc")) false ∷ []) ≡ codes "STORED\r\n"
a_set given = rw given refl

-- after the last place nothing is done, and a quiet command is not answered
full_log : owed plenty 1 (Logged (Store Set (codes "a") 0 []) true ∷ Logged (Get (codes "a" ∷ []) false) false ∷ Logged (Store Set (codes "a") 0 []) true ∷ refused UNKNOWN_COMMAND false ∷ [])
    ≡ codes "SERVER_ERROR log full\r\nERROR\r\n"
full_log = refl

-- two logs of one place owe what one log of two places owes
two_logs : owed_by_logs plenty 1 2 (Logged (Store Set (codes "a") 0 []) true ∷ Logged (Store Set (codes "a") 0 []) true ∷ Logged (Get (codes "a" ∷ []) false) false ∷ [])
    ≡ codes "SERVER_ERROR log full\r\n"
two_logs = refl

-- how much may be queued when a request is taken, and how much is pulled at once
queue_bytes : QUEUE_BYTES ≡ 1048576
queue_bytes = refl

pull_bytes : PULL_BYTES ≡ 16384
pull_bytes = refl

-- what words ask for
no_words : places_asked [] ≡ 65536
unfolding clap_on_literals
no_words = refl

no_generations : generations_asked [] ≡ 1
unfolding clap_on_literals
no_generations = refl

three_logs : generations_asked (codes "--places=2" ∷ codes "--generations" ∷ codes "3" ∷ []) ≡ 3
unfolding clap_on_literals
three_logs = refl

no_quotas : limits_asked [] ≡ plenty
unfolding clap_on_literals
no_quotas = refl

first_word : places_asked (codes "--places=2" ∷ []) ≡ 2
unfolding clap_on_literals
first_word = refl

program_name : fault_of stdin_app (codes "mc_stdin" ∷ []) ≡ kind.UnknownArgument ∷ []
unfolding clap_on_literals
program_name = refl

two_places : places_asked (codes "--places" ∷ codes "2" ∷ []) ≡ 2
unfolding clap_on_literals
two_places = refl

three_places : places_asked (codes "--places=3" ∷ []) ≡ 3
unfolding clap_on_literals
three_places = refl

small_quotas : limits_asked (codes "--items" ∷ codes "1" ∷ codes "--bytes=2" ∷ []) ≡ record { items = 1; bytes = 2 }
unfolding clap_on_literals
small_quotas = refl

taken : fault_of stdin_app (codes "--places" ∷ codes "0" ∷ []) ≡ []
unfolding clap_on_literals
taken = refl

no_number : fault_of stdin_app (codes "--places" ∷ codes "x" ∷ []) ≡ kind.ValueValidation ∷ []
unfolding clap_on_literals
no_number = refl

unknown : fault_of stdin_app (codes "--bogus" ∷ []) ≡ kind.UnknownArgument ∷ []
unfolding clap_on_literals
unknown = refl

help : fault_of stdin_app (codes "--help" ∷ []) ≡ kind.DisplayHelp ∷ []
unfolding clap_on_literals
help = refl

version : fault_of stdin_app (codes "-V" ∷ []) ≡ kind.DisplayVersion ∷ []
unfolding clap_on_literals
version = refl
