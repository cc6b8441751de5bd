-- What is counted of requests that were answered; this project's profile, after the counters of
-- memcached's doc/protocol.txt, "General-purpose statistics". There an item that isn't found is a
-- miss; so it is here, for each key of a line.
use Rattle.std.specs.Prelude.{◌≡◌, ℕ, ◌+◌, ◌-◌, ◌^◌, ◌<◌, ◌==◌, Bool, false, List, [], ◌∷◌, Option, Some, None, count_by, length, min, slice_index, sum_by}
use Rattle.mc_model.specs.declared.reply.Reply.{Reply}
use Rattle.mc_model.specs.declared.reply.Reply.TheVariants.{Refused, Values}
use Rattle.mc_counters.specs.Kinds.{place_of_kind, place_of_refusal}
use Rattle.mc_counters.specs.declared.kinds.Asked.{Asked}
use Rattle.mc_counters.specs.declared.kinds.TheConstants.{COMMANDS, REFUSALS}
use Rattle.mc_counters.specs.declared.tally.Tally.{Tally}

-- a request that was answered: what its command asked for, if it had one, and its reply
pub record CountedRequest : Type 0 where
  pub asked : Option Asked
  pub reply : Reply

-- its command is of the kind at this place
abbrev pub is_of_kind : ℕ → Option Asked → Bool
is_of_kind place None = false
is_of_kind place (Some asked) = place_of_kind asked.kind == place

-- it was refused, by the refusal at this place
abbrev pub is_refused : ℕ → Reply → Bool
is_refused place (Refused refusal) = place_of_refusal refusal == place
is_refused place _ = false

-- how many items it found
abbrev pub items_found : Reply → ℕ
items_found (Values values) = length values
items_found _ = 0

-- how many keys it asked for
abbrev pub keys_wanted : Option Asked → ℕ
keys_wanted None = 0
keys_wanted (Some asked) = asked.keys

-- how many of its keys had no item, if it was answered with items
abbrev pub keys_missed : Option Asked → Reply → ℕ
keys_missed asked (Values values) = keys_wanted asked - length values
keys_missed asked _ = 0

-- a number of 64 bits, which stops at the largest
abbrev pub capped : ℕ → ℕ
capped number = min number (2 ^ 64 - 1)

-- the tally counts these requests, and no others
pub record IsTallyOf (answered : List CountedRequest) (tally : Tally) : Type 0 where
  pub places : (length tally.commands ≡ COMMANDS) × (length tally.refusals ≡ REFUSALS)
  pub commands : (place : ℕ) → place < COMMANDS → slice_index tally.commands place
      ≡ capped (count_by (λ one. is_of_kind place one.asked) answered)
  pub refusals : (place : ℕ) → place < REFUSALS → slice_index tally.refusals place
      ≡ capped (count_by (λ one. is_refused place one.reply) answered)
  pub hits : tally.hits ≡ capped (sum_by (λ one. items_found one.reply) answered)
  pub misses : tally.misses ≡ capped (sum_by (λ one. keys_missed one.asked one.reply) answered)

-- the counts that two have together, place by place
abbrev pub counts_of_both : List ℕ → List ℕ → List ℕ
counts_of_both (one ∷ ones) (other ∷ others) = capped (one + other) ∷ counts_of_both ones others
counts_of_both _ _ = []

-- the counts of two tallies together
abbrev pub tally_of_both : Tally → Tally → Tally
tally_of_both one other = record {
  commands = counts_of_both one.commands other.commands;
  hits = capped (one.hits + other.hits);
  misses = capped (one.misses + other.misses);
  refusals = counts_of_both one.refusals other.refusals;
}
