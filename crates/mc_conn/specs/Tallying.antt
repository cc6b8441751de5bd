-- What is counted of a connection's requests: each that gets a reply, by what its command asks for
-- and by that reply; this project's profile.
use Rattle.std.specs.Prelude.{◌≡◌, ℕ, Bool, List, [], ◌∷◌, ◌++◌, Option, Some, None}
use Rattle.mc_counters.specs.Kinds.{asked_for_by}
use Rattle.mc_counters.specs.Tallied.{CountedRequest, IsTallyOf}
use Rattle.mc_counters.specs.declared.kinds.Asked.{Asked}
use Rattle.mc_counters.specs.declared.tally.Tally.{Tally}
use Rattle.mc_model.specs.declared.fault.Fault.{Fault}
use Rattle.mc_model.specs.declared.fault.Fault.TheVariants.{Memory}
use Rattle.mc_model.specs.declared.reply.Reply.{Reply}
use Rattle.mc_model.specs.declared.reply.Reply.TheVariants.{Refused}
use Rattle.mc_model.specs.declared.reply.TheConstants.WireNo.{OUT_OF_MEMORY}
use Rattle.mc_model.specs.declared.request.Request.{Request}
use Rattle.mc_model.specs.declared.request.Request.TheVariants.{Quit}
use Rattle.mc_conn.specs.declared.conn.Role.{Role}
use Rattle.mc_conn.specs.Owed.{Demand, Logs, Says, answered, demand_of}

-- what the command asks for that is logged for a demand, if one is
abbrev pub asked_for : Demand → Option Asked
asked_for (Logs tenant command quiet) = Some (asked_for_by command)
asked_for (Says said) = None

-- The bytes are what is owed for a demand that gets this reply: its text, or nothing if the request
-- says noreply.
abbrev pub IsOwedWith : Demand → Reply → List ℕ → Type 0
IsOwedWith (Logs tenant command quiet) reply bytes = bytes ≡ answered quiet reply
IsOwedWith (Says said) reply bytes =
    (bytes ≡ said) × (quiet : Bool) × (said ≡ answered quiet reply)

-- what is counted for a request to which these bytes are owed: one reply, with which they are what
-- the request comes to; and nothing for quit, which gets no reply
abbrev pub CountsFor : Role → Request → List ℕ → List CountedRequest → Type 0
CountsFor role Quit bytes counted = (bytes ≡ []) × (counted ≡ [])
CountsFor role request bytes counted =
    (reply : Reply) × IsOwedWith (demand_of role request) reply bytes
    × (counted ≡ record { asked = asked_for (demand_of role request); reply = reply } ∷ [])

-- what is counted for requests to which these bytes are owed, one after another
abbrev pub AreTallied : Role → List Request → List ℕ → List CountedRequest → Type 0
AreTallied role [] bytes counted = (bytes ≡ []) × (counted ≡ [])
AreTallied role (request ∷ requests) bytes counted =
    (said : List ℕ) × (rest : List ℕ) × (one : List CountedRequest) × (others : List CountedRequest)
    × (bytes ≡ said ++ rest) × (counted ≡ one ++ others) × CountsFor role request said one
    × AreTallied role requests rest others

-- The tally counts the requests of a connection that got a reply between two times, and what it
-- counted before.
pub record HasCounted (before after : List CountedRequest) (old new : Tally) : Type 0 where
  pub counted : List CountedRequest
  pub past : after ≡ before ++ counted
  pub counts : (earlier : List CountedRequest) → IsTallyOf earlier old →
      IsTallyOf (earlier ++ counted) new

-- what is counted for a fault that ends a connection: where memory ran out the refusal that the
-- client gets in place of a reply, and nothing for any other
abbrev pub counted_at : Fault → List CountedRequest
counted_at Memory = record { asked = None; reply = Refused OUT_OF_MEMORY } ∷ []
counted_at fault = []

-- A fault has ended a connection: the tally counts the requests that got a reply before it, what is
-- counted for it, and what was counted before.
pub record HasCountedTo (before after : List CountedRequest) (old new : Tally)
    (fault : Fault) : Type 0 where
  pub counted : List CountedRequest
  pub past : after ≡ before ++ counted
  pub counts : (earlier : List CountedRequest) → IsTallyOf earlier old →
      IsTallyOf (earlier ++ (counted ++ counted_at fault)) new
