-- By the kinds of event.
use Rattle.std.proofs.Common.{◌≡◌, ◌⊎◌, ℕ, true, true≢false, sym, refl, ap, inl, inr}
use Rattle.uc_core.specs.Step.{is_quiet}
use Rattle.uc_core.specs.declared.event.Event.{Event}
use Rattle.uc_core.specs.declared.event.Event.TheVariants.{Announce, Look, Propose, Read, Replay, Stop}
use Rattle.uc_core.proofs.theorem.quiet_events_are_by_name.Goals as goal

abbrev IsNamed : Event → ℕ → Type 0
IsNamed event number = (event ≡ Read number) ⊎ (event ≡ Look number) ⊎ (event ≡ Propose number) ⊎ (event ≡ Stop number)

named : (event : Event) → is_quiet event ≡ true → (number : ℕ) × IsNamed event number
named (Announce number tenant command) is = absurd (true≢false (sym is))
named (Read number) is = (number, inl refl)
named (Look number) is = (number, inr (inl refl))
named (Propose number) is = (number, inr (inr (inl refl)))
named (Replay number) is = absurd (true≢false (sym is))
named (Stop number) is = (number, inr (inr (inr refl)))

quiet : (event : Event) → (number : ℕ) × IsNamed event number → is_quiet event ≡ true
quiet event (number, inl is) = ap is_quiet is
quiet event (number, inr (inl is)) = ap is_quiet is
quiet event (number, inr (inr (inl is))) = ap is_quiet is
quiet event (number, inr (inr (inr is))) = ap is_quiet is

pub returns : goal.returns
returns c = λ event. (named event, quiet event)
