-- Each place's word gives its ticket, up to the first empty place (`Spelled`).
use Rattle.std.proofs.Common.{rules, ℕ, arith, ◌≡◌, ◌<◌, ◌+◌, ◌-◌, ◌%◌, ◌∷◌, ◌++◌, [], List, take, ap, sym, subst, ◌∙◌}
use Rattle.mc_model.specs.declared.id.TheConstants.{WORKERS}
use Rattle.core.specs.Mem.Slots.{slots_items}
use Rattle.mc_model.specs.declared.id.Ticket.{Ticket}
use Rattle.uc_places.proofs.Spelled.{get_is, spelled_all, spelled_end, spelled_step}
use Rattle.uc_places.proofs.whole.decided.Goals as goal
use Rattle.uc_places.proofs.whole.decided.Goals.{else-loop-place-test, then-loop-place-test+then-found-eq0}

pub loop-place-preserved : goal.loop-place-preserved
loop-place-preserved c = λ d h. let pushed : c.push.new.self.items ≡ c.loop-place.log.items ++ c.ticket_in.result ∷ [] = search rules in
    pushed ∙ (ap (λ (l : List Ticket). l ++ c.ticket_in.result ∷ []) (c.loop-place.invariant d h)
    ∙ spelled_step _ _ _ d h c.loop-place.place c.word-found.result (search rules) c.word-found.ensures c.if-found-eq0.false c.ticket_in.result c.ticket_in.ensures)

pub returns-clause-spelled : goal.returns-clause-spelled
returns-clause-spelled c = λ d h. elim c.loop-place-test.branch [
  | else-loop-place-test w ↦ c.loop-place.invariant d h
      ∙ (let end : c.loop-place.place ≡ c.args.places = omega arith in ap (λ (k : ℕ). take k d) end ∙ spelled_all _ _ _ d h)
  | then-loop-place-test+then-found-eq0 w ↦ c.loop-place.invariant d h
      ∙ spelled_end _ _ _ d h c.loop-place.place w.word-found.result (search rules) w.word-found.ensures w.if-found-eq0.true
]

pub ticket_in-requires-clause-worker : goal.ticket_in-requires-clause-worker
ticket_in-requires-clause-worker c = let same = get_is (slots_items c.args.closed.now.words)
    (c.args.first + c.loop-place.place) c.word-found.result c.word-found.ensures in
    subst (λ (n : ℕ). (n - 1) % 256 < WORKERS) same (c.requires.tickets c.loop-place.place (search rules) (λ none. c.if-found-eq0.false (sym same
    ∙ none)))
