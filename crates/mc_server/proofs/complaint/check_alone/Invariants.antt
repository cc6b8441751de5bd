-- The words so far fit.
use Rattle.std.proofs.Common.{All, map, take}
use Rattle.mc_server.specs.Complaints.{FitsAlone}
use Rattle.mc_server.proofs.complaint.check_alone.Given as goal

abbrev pub invariant-loop-word : goal.invariant-loop-word
invariant-loop-word l = All FitsAlone (map (λ word. word.now) (take l.word-index l.words))
