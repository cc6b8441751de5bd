-- Where a stream ends, and lines that are answered without the log.
use Rattle.std.proofs.Common.{◌≡◌, ◌⊎◌, inl, inr, ◌↔◌, ℕ, Bool, true, false, List, [], ◌∷◌, codes, refl, sym, ap, ◌∙◌, ⊎_elim}
use Rattle.std.proofs.lemmas.Bool.{false≢true}
use Rattle.mc_model.specs.declared.reply.Reply.{Reply}
use Rattle.mc_model.specs.declared.reply.Reply.TheVariants.{Refused, Version}
use Rattle.mc_model.specs.declared.reply.WireNo.{WireNo}
use Rattle.mc_model.specs.declared.request.Request.{Request}
use Rattle.mc_model.specs.declared.request.Request.TheVariants.{Limit, Local, Logged, Quit, TooLong}
use Rattle.mc_laws.proofs.LineWords.{IsTold}
use Rattle.mc_read.specs.declared.line.Asked.TheVariants.{LineOnly}
use Rattle.mc_read.specs.Administering.{asked_by_admin, asked_of_admin}
use Rattle.mc_read.specs.Line.{asked, asked_by}
use Rattle.mc_read.specs.Reading.{ends_stream}
use Rattle.mc_read.specs.Word.{words}

ends_at : (request : Request) → (request ≡ Quit) ⊎ (request ≡ TooLong) → ends_stream request ≡ true
ends_at request = ⊎_elim (ap ends_stream) (ap ends_stream)

pub ends_exactly : (request : Request) → (ends_stream request ≡ true) ↔ ((request ≡ Quit) ⊎ (request ≡ TooLong))
ends_exactly (Logged command quiet) = (λ ends. absurd (false≢true ends), ends_at (Logged command quiet))
ends_exactly (Local reply quiet) = (λ ends. absurd (false≢true ends), ends_at (Local reply quiet))
ends_exactly (Limit name limits quiet) = (λ ends. absurd (false≢true ends), ends_at (Limit name limits quiet))
ends_exactly Quit = (λ ends. inl refl, λ is. refl)
ends_exactly TooLong = (λ ends. inr refl, λ is. refl)

pub version_or_refusal : (parts : List (List ℕ)) (reply : Reply) (quiet : Bool) → IsTold parts reply quiet → (reply ≡ Version) ⊎ ((refusal : WireNo) × (reply ≡ Refused refusal))
version_or_refusal parts (Refused refusal) quiet told = inr (refusal, refl)
version_or_refusal parts Version quiet told = inl refl
version_or_refusal parts other quiet told = absurd told

module _ (line : List ℕ) where
  pub quit_is_read : words line ≡ codes "quit" ∷ [] → asked line ≡ LineOnly Quit
  quit_is_read is = ap asked_by is

  pub version_is_read : (quiet : Bool) → (words line ≡ codes "version" ∷ []) × (quiet ≡ false) → asked line ≡ LineOnly (Local Version quiet)
  version_is_read quiet is = ap asked_by is.0 ∙ ap (λ said. LineOnly (Local Version said)) (sym is.1)

  pub admin_quit_is_read : words line ≡ codes "quit" ∷ [] → asked_by_admin line ≡ LineOnly Quit
  admin_quit_is_read is = ap asked_of_admin is

  pub admin_version_is_read : (quiet : Bool) → (words line ≡ codes "version" ∷ []) × (quiet ≡ false) → asked_by_admin line ≡ LineOnly (Local Version quiet)
  admin_version_is_read quiet is = ap asked_of_admin is.0 ∙ ap (λ said. LineOnly (Local Version said)) (sym is.1)
