use Rattle.std.proofs.Common.{◌≡◌}
use Rattle.mc_stream.specs.Stream.{Streams}
use Rattle.mc_conn.specs.Parts.{AnswersWithin, Does, KeepsStreams}
use Rattle.mc_conn.specs.Held.{most_held}
use Rattle.mc_conn.specs.Tallying.{HasCounted}
use Rattle.mc_conn.specs.Turn.{holding_of, scene}
use Rattle.mc_conn.proofs.conn.Conn.take.Given as goal

-- what was taken so far is a part of the turn
abbrev pub invariant-loop-did : goal.invariant-loop-did
invariant-loop-did g l = record {
  does : (streams : Streams) → Does l.fn.until_done l.fn.allowed.requests (scene l.fn.self l.fn.worker streams) (scene l.self l.worker streams) l.did l.allowed.requests;
  keeps : KeepsStreams l.fn.self l.self l.fn.worker l.worker;
  answers : AnswersWithin l.fn.allowed.requests l.allowed.requests l.fn.self l.self;
  bytes : l.allowed.bytes ≡ l.fn.allowed.bytes;
  tally : HasCounted l.fn.self.past l.self.past l.fn.tally l.tally;
}

abbrev pub decreases-loop-did : goal.decreases-loop-did
decreases-loop-did g l = most_held (holding_of l.self)
