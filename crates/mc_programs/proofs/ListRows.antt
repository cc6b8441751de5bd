-- Worked rows of mc_schedule, checked against the definitions: what its words ask for, and the line
-- for a bad line.
use Rattle.std.specs.Prelude.{codes}
use Rattle.std.proofs.Common.{◌≡◌, true, false, [], ◌∷◌, refl}
use Rattle.std.specs.Fmt.{digits}
use Rattle.clap.specs.Faults.{fault_of}
use Rattle.clap.specs.declared.error.kind.ErrorKind.TheVariants as kind
use Rattle.clap.proofs.OnLiterals.{clap_on_literals}
use Rattle.mc_programs.specs.Lists.{asks_picture, asks_quiet, bad_line_text, schedule_app}

no_words : asks_quiet [] ≡ false
unfolding clap_on_literals
no_words = refl

no_picture : asks_picture (codes "--quiet" ∷ []) ≡ false
unfolding clap_on_literals
no_picture = refl

quiet : asks_quiet (codes "--quiet" ∷ []) ≡ true
unfolding clap_on_literals
quiet = refl

picture : asks_picture (codes "--quiet" ∷ codes "--picture" ∷ []) ≡ true
unfolding clap_on_literals
picture = refl

taken : fault_of schedule_app (codes "--picture" ∷ codes "--quiet" ∷ []) ≡ []
unfolding clap_on_literals
taken = refl

twice : fault_of schedule_app (codes "--quiet" ∷ codes "--quiet" ∷ []) ≡ kind.ArgumentConflict ∷ []
unfolding clap_on_literals
twice = refl

a_value : fault_of schedule_app (codes "--quiet=true" ∷ []) ≡ kind.TooManyValues ∷ []
unfolding clap_on_literals
a_value = refl

a_word : fault_of schedule_app (codes "list.txt" ∷ []) ≡ kind.UnknownArgument ∷ []
unfolding clap_on_literals
a_word = refl

help : fault_of schedule_app (codes "--help" ∷ []) ≡ kind.DisplayHelp ∷ []
unfolding clap_on_literals
help = refl

version : fault_of schedule_app (codes "--version" ∷ []) ≡ kind.DisplayVersion ∷ []
unfolding clap_on_literals
version = refl

bad_line : bad_line_text 12 ≡ codes "mc_schedule: line 12: bad line\n"
unfolding digits
bad_line = refl
