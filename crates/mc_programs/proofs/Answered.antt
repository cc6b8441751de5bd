-- How the answer to words that ask for no service agrees with clap's definitions of the words.
use Rattle.std.proofs.Common.{◌≡◌, ◌≢◌, ◌⊎◌, inl, inr, ⊎_elim, List, ℕ, refl}
use Rattle.clap.specs.Simple.{App}
use Rattle.clap.specs.Walk.{Text}
use Rattle.clap.specs.declared.error.kind.ErrorKind.{ErrorKind}
use Rattle.clap.specs.declared.error.kind.ErrorKind.TheVariants.{OutOfMemory}
use Rattle.mc_programs.specs.Words.{AnswersWords, AsksToShow, EndsUnserved, FailsToAnswer, FailsToShow, ClapReturns, IsShown}
use Rattle.mc_stream.specs.Stream.{Inflow, Outflow, both}

shown_there : (kind : ErrorKind) → IsShown kind → kind ≢ OutOfMemory
shown_there kind shown starved = ⊎_elim (λ help. cc) (λ version. cc) shown

module _ (app : App) (words : List Text) (kind : ErrorKind) (failed : (kind ≡ OutOfMemory) ⊎ ClapReturns app words kind) where
  -- clap names the kind for these words, if memory didn't run out
  is_answered : kind ≢ OutOfMemory → ClapReturns app words kind
  is_answered there = ⊎_elim (λ starved. absurd (there starved)) (λ among. among) failed

  asks_to_show : IsShown kind → AsksToShow app words
  asks_to_show shown = (kind, is_answered (shown_there kind shown), shown)

  -- a fault kept help, the version or a mistake from being reported
  fails_to_show : (program : List ℕ) (input : Inflow) (before after errors_before errors : Outflow)
      → FailsToAnswer program kind before after errors_before errors → FailsToShow program app words (both input before) (both input after) errors_before errors
  fails_to_show program input before after errors_before errors fails = record {
    fault = fails.fault;
    unread = refl;
    stops = ⊎_elim (λ starved. inl starved) (λ shown. inr (asks_to_show shown.0, shown.1)) fails.stops;
    told = fails.told;
  }

  -- help or the version was shown, or a fault or a mistake was reported
  pub answered : (program : List ℕ) (status : ℕ) (input : Inflow) (before after errors_before errors : Outflow) → AnswersWords program kind status before after errors_before errors →
      EndsUnserved program app words status (both input before) (both input after) errors_before errors
  answered program status input before after errors_before errors answers =
      ⊎_elim
      (λ shown. inl (shown.0, record { asks = asks_to_show shown.1; unread = refl; text = shown.2.0; went = shown.2.1 }, shown.3))
      (λ others. ⊎_elim
      (λ fails. inr (inl (fails.0, fails_to_show program input before after errors_before errors fails.1)))
      (λ mistake. inr (inr (mistake.0, record { mistaken = (kind, is_answered mistake.1.0, mistake.1.1); text = mistake.2.0; told = mistake.2.1 }, mistake.3)))
      others)
      answers
