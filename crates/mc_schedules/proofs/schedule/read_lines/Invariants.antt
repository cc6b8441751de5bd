use Rattle.std.proofs.Common.{◌≡◌, [], map, take, drop}
use Rattle.mc_schedules.specs.Draft.{IsDraftOf}
use Rattle.mc_schedules.specs.Place.{first_misplaced, statements}
use Rattle.mc_schedules.proofs.schedule.read_lines.Given as goal

-- the lines so far are in their places, and the draft is what they say
abbrev pub invariant-loop-line : goal.invariant-loop-line
invariant-loop-line l = record {
  number : l.number ≡ l.line-index;
  draft : IsDraftOf l.draft (take l.line-index (statements (map (λ line. line.now) l.lines)));
  in_place : first_misplaced [] (statements (map (λ line. line.now) l.lines))
      ≡ first_misplaced (take l.line-index (statements (map (λ line. line.now) l.lines))) (drop l.line-index (statements (map (λ line. line.now) l.lines)));
}
