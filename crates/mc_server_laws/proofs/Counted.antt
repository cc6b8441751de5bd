-- What is counted for a request, whichever it is.
use Rattle.std.proofs.Common.{◌≡◌, ◌≢◌, ℕ, List, [], ◌∷◌, refl}
use Rattle.mc_conn.specs.Owed.{demand_of}
use Rattle.mc_conn.specs.Tallying.{CountsFor, IsOwedWith, asked_for}
use Rattle.mc_conn.specs.declared.conn.Role.{Role}
use Rattle.mc_counters.specs.Tallied.{CountedRequest}
use Rattle.mc_model.specs.declared.reply.Reply.{Reply}
use Rattle.mc_model.specs.declared.request.Request.{Request}
use Rattle.mc_model.specs.declared.request.Request.TheVariants.{Limit, Local, Logged, Quit, TooLong}

pub counted_once : (role : Role) (request : Request) (bytes : List ℕ) (counted : List CountedRequest) → request ≢ Quit → CountsFor role request bytes counted →
    (reply : Reply) × IsOwedWith (demand_of role request) reply bytes × (counted ≡ record { asked = asked_for (demand_of role request); reply = reply } ∷ [])
counted_once role (Logged command quiet) bytes counted other counts = counts
counted_once role (Local reply quiet) bytes counted other counts = counts
counted_once role (Limit name limits quiet) bytes counted other counts = counts
counted_once role Quit bytes counted other counts = absurd (other refl)
counted_once role TooLong bytes counted other counts = counts
