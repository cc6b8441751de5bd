-- Who, if anybody, asks for a reply when an entry takes effect: this project's profile.
use Rattle.std.specs.Prelude.{ℕ, ◌==◌, Bool, false, List, Option, Some, None}
use Rattle.mc_model.specs.declared.reply.Reply.{Reply}
use Rattle.mc_model.specs.declared.request.Entry.{Entry}
use Rattle.mc_model.specs.Replay.{answer_to, reply_from}
use Rattle.mc_model.specs.State.{TableState}

-- the entry's ticket is the asker's own; if nobody asks, it is nobody's
abbrev pub is_own : Option ℕ → Entry → Bool
is_own None entry = false
is_own (Some worker) entry = entry.ticket.worker == worker

-- what the asker is answered, by the tables; nothing if nobody asks
abbrev pub reply_for : Option ℕ → List TableState → Option Entry → Option Reply
reply_for None tables entry = None
reply_for (Some worker) tables entry = reply_from worker tables entry

-- the same after this log
abbrev pub answer_for : Option ℕ → List TableState → List (Option Entry) →
    Option Entry → Option Reply
answer_for None openings log entry = None
answer_for (Some worker) openings log entry = answer_to worker openings log entry
