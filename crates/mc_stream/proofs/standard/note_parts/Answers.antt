use Rattle.std.proofs.Common.{◌≡◌, ℕ, ◌+◌, ◌-◌, List, ◌++◌, length, take, drop, sym, ap, ◌∙◌, subst, arith}
use Rattle.std.proofs.lemmas.List.{take-append-le, drop-append-le, take_all, drop_all}
use Rattle.lists.proofs.Parts.{front_then}
use Rattle.mc_stream.specs.Event.{failures, moved, waits}
use Rattle.mc_stream.specs.declared.tape.Tape.{Tape}
use Rattle.mc_stream.proofs.standard.note_parts.Goals as goal

-- the first slice is noted whole, and then what was taken of those behind it
pub returns-else-count-first : goal.returns-else-count-first
returns-else-count-first c =
    let first = c.args.first.now in
    let rest = c.args.second.now ++ c.args.third.now in
    let all = first ++ rest in
    let before = c.args.tape.now.events in
    let behind = c.args.count - length first in
    let is_first : first ≡ take (length first) all = sym (take-append-le (length first) first rest (omega arith) ∙ take_all (length first) first (omega arith)) in
    let is_rest : rest ≡ drop (length first) all = sym (drop-append-le (length first) first rest (omega arith) ∙ ap (λ (none : List ℕ). none ++ rest) (drop_all (length first) first (omega arith))) in
    let count : length first + behind ≡ c.args.count = omega (arith, c.if-count-first.false) in
    let noted = c.moves-else-count-first.ensures in
    let others = c.note_both.ensures in
    let so_far : moved c.moves-else-count-first.new.self.events ≡ moved before ++ take (length first) all =
    ap (λ (tape : Tape). moved tape.events) noted ∙ ap (λ (bytes : List ℕ). moved before ++ bytes) is_first in (
      subst
          (λ (count : ℕ). moved c.note_both.new.tape.events ≡ moved before ++ take count all)
          count
          (front_then (moved before) (moved c.moves-else-count-first.new.self.events) (moved c.note_both.new.tape.events) all rest (length first) behind is_rest so_far others.0),
      others.1 ∙ ap (λ (tape : Tape). failures tape.events) noted,
      others.2 ∙ ap (λ (tape : Tape). waits tape.events) noted,
    )
