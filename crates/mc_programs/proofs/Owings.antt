-- What is owed for requests, one part after another.
use Rattle.std.proofs.Common.{◌≡◌, ℕ, List, [], ◌∷◌, ◌++◌, refl, sym, ◌∙◌, ap, append_assoc}
use Rattle.mc_model.specs.declared.command.Command.{Command}
use Rattle.mc_model.specs.declared.request.Request.{Request}
use Rattle.mc_model.specs.declared.request.Request.TheVariants.{Limit, Local, Logged, Quit, TooLong}
use Rattle.mc_model.specs.declared.reply.Reply.TheVariants.{Refused}
use Rattle.mc_model.specs.declared.reply.TheConstants.WireNo.{LINE_TOO_LONG, UNKNOWN_COMMAND}
use Rattle.mc_model.specs.declared.settings.Limits.{Limits}
use Rattle.mc_conn.specs.Alone.{applied_with, logged_reply, owed_after}
use Rattle.mc_conn.specs.Owed.{answered}
use Rattle.mc_write.specs.Text.{text}

behind : (text others rest more : List ℕ) → others ≡ rest ++ more → text ++ others ≡ (text ++ rest) ++ more
behind text others rest more is = ap (λ it. text ++ it) is ∙ sym (append_assoc text rest more)

-- what is owed for the first requests is the beginning of what is owed for all
pub owed-more : (limits : Limits) (base : List Command) (places : ℕ) (applied : List Command) (first second : List Request) →
    (more : List ℕ) × (owed_after limits base places applied (first ++ second) ≡ owed_after limits base places applied first ++ more)
owed-more limits base places applied [] second = (owed_after limits base places applied second, refl)
owed-more limits base places applied (Logged command quiet ∷ first) second =
    let rest = owed-more limits base places (applied_with places applied command) first second in
    (rest.0, behind (answered quiet (logged_reply limits base places applied command)) _ _ rest.0 rest.1)
owed-more limits base places applied (Limit name quotas quiet ∷ first) second =
    let rest = owed-more limits base places applied first second in (rest.0, behind (answered quiet (Refused UNKNOWN_COMMAND)) _ _ rest.0 rest.1)
owed-more limits base places applied (Local reply quiet ∷ first) second = let rest = owed-more limits base places applied first second in (rest.0, behind (answered quiet reply) _ _ rest.0 rest.1)
owed-more limits base places applied (Quit ∷ first) second = owed-more limits base places applied first second
owed-more limits base places applied (TooLong ∷ first) second = let rest = owed-more limits base places applied first second in (rest.0, behind (text (Refused LINE_TOO_LONG)) _ _ rest.0 rest.1)
