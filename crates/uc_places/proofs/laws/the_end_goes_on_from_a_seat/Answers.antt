-- Others' events only add places, and each place's ticket was announced.
use Rattle.std.proofs.Common.{◌≡◌, ℕ, ◌<◌, List, Option, slice_get, sym, ap, ◌∙◌, subst}
use Rattle.std.specs.Option.{option_map_or}
use Rattle.lists.specs.Lists.{BeginsWith}
use Rattle.mc_model.specs.declared.id.Ticket.{Ticket}
use Rattle.mc_model.specs.declared.shown.WorkerState.{WorkerState}
use Rattle.mc_model.specs.Lawful.{announced_by}
use Rattle.model_lemmas.proofs.Waiting.{is_lawful}
use Rattle.uc_places.specs.Calls.{last_of, state_of, worker_of}
use Rattle.uc_places.specs.Seats.{desk_of}
use Rattle.uc_places.proofs.OwnEvents.{others_leave}
use Rattle.uc_places.proofs.laws.the_end_goes_on_from_a_seat.Goals as goal

pub returns-clause-begins : goal.returns-clause-begins
returns-clause-begins c = λ size tickets seat end. let log = end.0 in let desk = desk_of seat in
    subst (λ (it : List Ticket). BeginsWith it (last_of desk).decided) (sym end.2)
    (others_leave size (worker_of desk) (last_of desk) log end.3.1).1

pub returns-clause-own : goal.returns-clause-own
returns-clause-own c = λ size tickets seat place ticket end at mine. let log = end.0 in let desk = desk_of seat in
    let announced : ticket.number < announced_by log ticket.worker =
    (is_lawful size log end.1).announced place ticket (ap (λ (it : List Ticket). slice_get it place) (sym end.2) ∙ at) in
    let many : announced_by log ticket.worker ≡ (state_of desk).announced =
    ap (announced_by log) mine ∙ ap (λ (it : Option WorkerState). option_map_or (λ (w : WorkerState). w.announced) it 0) end.3.0 in
    subst (λ (it : ℕ). ticket.number < it) many announced
