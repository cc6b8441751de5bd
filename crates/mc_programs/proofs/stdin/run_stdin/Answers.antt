use Rattle.std.proofs.Common.{◌≡◌, ◌⊎◌, refl, inl, inr, ⊎_elim, ap, map, string_bytes, subst, List, String, Global}
use Rattle.clap.specs.Words.{kind_of}
use Rattle.clap.specs.declared.error.kind.ErrorKind.TheVariants.{OutOfMemory}
use Rattle.mc_programs.specs.Options.{IsInRange, StdinAsksFor, stdin_app}
use Rattle.mc_programs.specs.Words.{ClapReturns}
use Rattle.mc_stream.specs.Stream.{both}
use Rattle.mc_programs.proofs.stdin.run_stdin.Goals as goal

-- the words ask for no service
pub returns-in-Err : goal.returns-in-Err
returns-in-Err g c =
    let failed : (kind_of c.in-Err.error ≡ OutOfMemory) ⊎ ClapReturns stdin_app (map string_bytes c.args.words.items) (kind_of c.in-Err.error) =
    subst (λ (words : List (String Global)). (kind_of c.in-Err.error ≡ OutOfMemory) ⊎ ClapReturns stdin_app (map string_bytes words) (kind_of c.in-Err.error)) c.deref.ensures.value c.in-Err.ensures.outcome in
    ⊎_elim
    (λ shown. inl (shown.0, inr shown.1, shown.2))
    (λ others. inr (⊎_elim
    (λ fails. inl (fails.0, inr fails.1))
    (λ mistake. inr (mistake.0, inr mistake.1, ap (both (g.I.Input.tells c.args.input.now)) mistake.2))
    others))
    (c.answer_words.ensures.words stdin_app _ (g.I.Input.tells c.args.input.now) failed)

-- a fault ended the service
pub returns : goal.returns
returns g c =
    let asks : StdinAsksFor (map string_bytes c.args.words.items) c.in-Ok.options =
    subst (λ (words : List (String Global)). StdinAsksFor (map string_bytes words) c.in-Ok.options) c.deref.ensures.value c.in-Ok.ensures.outcome in
    let in_range = rw (asks.places, asks.generations, asks.limits) at c.is_in_range.ensures.0 c.if-not-is_in_range.false in
    let stops = rw (asks.places, asks.generations, asks.limits) at c.in-Err-served.ensures.outcome in
    inr (inl (c.fail.ensures.status, inl ((asks.taken, in_range), record { fault = c.in-Err-served.fault; stops = stops; told = c.fail.ensures.told })))

-- a number is out of its range
pub returns-then-not-is_in_range : goal.returns-then-not-is_in_range
returns-then-not-is_in_range g c =
    let asks : StdinAsksFor (map string_bytes c.args.words.items) c.in-Ok.options =
    subst (λ (words : List (String Global)). StdinAsksFor (map string_bytes words) c.in-Ok.options) c.deref.ensures.value c.in-Ok.ensures.outcome in
    let out_of_range : ¬ (IsInRange (map string_bytes c.args.words.items)) =
    λ in_range. let yes = c.is_in_range.ensures.1 (rw (asks.places, asks.generations, asks.limits) in_range) in let no = c.if-not-is_in_range.true in cc in
    inr (inr (refl, inl ((asks.taken, out_of_range), c.tell_fault.ensures), refl))

-- the client was served
pub returns-in-Ok-served : goal.returns-in-Ok-served
returns-in-Ok-served g c =
    let asks : StdinAsksFor (map string_bytes c.args.words.items) c.in-Ok.options =
    subst (λ (words : List (String Global)). StdinAsksFor (map string_bytes words) c.in-Ok.options) c.deref.ensures.value c.in-Ok.ensures.outcome in
    let in_range = rw (asks.places, asks.generations, asks.limits) at c.is_in_range.ensures.0 c.if-not-is_in_range.false in
    let serves = rw (asks.places, asks.generations, asks.limits) at c.in-Ok-served.ensures.outcome in
    inl (refl, inl ((asks.taken, in_range), serves), refl)
