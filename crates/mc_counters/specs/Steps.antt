-- The parts of counting one request, as `Tallied` counts it; this project's profile.
use Rattle.std.specs.Prelude.{ℕ, ◌+◌, Option, Some, None, List, slice_index, slice_set}
use Rattle.mc_model.specs.declared.reply.Reply.{Reply}
use Rattle.mc_model.specs.declared.reply.Reply.TheVariants.{Refused}
use Rattle.mc_counters.specs.Kinds.{place_of_kind, place_of_refusal}
use Rattle.mc_counters.specs.Tallied.{capped}
use Rattle.mc_counters.specs.declared.kinds.Asked.{Asked}

-- counts with one more at a place
abbrev pub more_at : List ℕ → ℕ → List ℕ
more_at counts place = slice_set counts place (capped (slice_index counts place + 1))

-- the counts after a command, if there was one
abbrev pub counts_with_command : Option Asked → List ℕ → List ℕ
counts_with_command None counts = counts
counts_with_command (Some asked) counts = more_at counts (place_of_kind asked.kind)

-- the counts after a reply
abbrev pub counts_with_reply : Reply → List ℕ → List ℕ
counts_with_reply (Refused refusal) counts = more_at counts (place_of_refusal refusal)
counts_with_reply _ counts = counts
