-- The bytes of a queue, some of its own and others in runs that stand in replies' data; this
-- project's profile.
use Rattle.std.specs.Prelude.{◌≡◌, ℕ, ◌+◌, ◌^◌, ◌<◌, ◌≤◌, List, [], ◌∷◌, ◌++◌, length, take, drop, vec_len, All}
use Rattle.mc_conn.specs.declared.queue.Part.{Part}
use Rattle.mc_conn.specs.declared.queue.Queue.TheInside.{Inside}

-- the parts, each its own bytes and then its run, and the own bytes behind them
abbrev pub put_together : List Part → List ℕ → List ℕ
put_together [] own = own
put_together (part ∷ parts) own =
    take part.own own ++ (part.run ++ put_together parts (drop part.own own))

-- how many own bytes stand before the last run
abbrev pub own_before : List Part → ℕ
own_before [] = 0
own_before (part ∷ parts) = part.own + own_before parts

-- how many bytes stand in runs
abbrev pub bytes_in_runs : List Part → ℕ
bytes_in_runs [] = 0
bytes_in_runs (part ∷ parts) = length part.run + bytes_in_runs parts

-- what a queue holds
abbrev pub queued : Inside → List ℕ
queued queue = put_together queue.parts.items (drop queue.pushed queue.bytes.items)

-- What is true of a queue's fields: they count what they name, no run is empty, and the queue's
-- length can be counted.
pub record IsQueue (queue : Inside) : Type 0 where
  pub within : queue.within ≡ own_before queue.parts.items
  pub own : queue.pushed + queue.within ≤ vec_len queue.bytes
  pub some : All (λ part. 0 < length part.run) queue.parts.items
  pub in_runs : queue.in_runs ≡ bytes_in_runs queue.parts.items
  pub few : queue.in_runs < 2 ^ 63
