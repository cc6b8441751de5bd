-- What is owed stays owed while the worker goes on, and adds up.
use Rattle.std.proofs.Common.{◌≡◌, ℕ, ◌+◌, ◌<◌, ◌≤◌, List, [], ◌∷◌, ◌++◌, length, take, slice_get, Some, sym, refl, ap, ◌∙◌, subst, inl, inr, ⊎_elim, arith, append_assoc}
use Rattle.mc_model.specs.declared.command.Command.{Command}
use Rattle.mc_model.specs.declared.id.Ticket.{Ticket}
use Rattle.mc_model.specs.declared.reply.Reply.{Reply}
use Rattle.mc_model.specs.declared.request.Request.{Request}
use Rattle.lists.specs.Lists.{BeginsWith}
use Rattle.mc_model.specs.Legal.{ticket_of}
use Rattle.mc_model.specs.Replay.{reply_to}
use Rattle.uc_worker.specs.Cited.{Sighting, entries}
use Rattle.uc_worker.specs.declared.worker.Worker.{Worker}
use Rattle.uc_worker.specs.Worker.{announced_of, history_of, seat_of, openings_of, sighting_of, IsFull}
use Rattle.lists.proofs.Public.{at_longer, begins_longer, begins_whole, take_longer}
use Rattle.mc_conn.specs.Onward.{own_entry, own_sighting}
use Rattle.uc_worker.specs.Going.{Continues}
use Rattle.mc_conn.specs.declared.conn.Role.{Role}
use Rattle.mc_conn.specs.Owed.{Demand, IsAnswered, IsPlaced, IsTurnedAway, Logs, Mark, Owes, OwesFor, Says, answered, demand_of, mark_of}

stays_at : (old new : List Sighting) (place : ℕ) (seen : Sighting) → BeginsWith new old → slice_get old place ≡ Some seen → slice_get new place ≡ Some seen
stays_at old new place seen begins at = ap (λ (list : List Sighting). slice_get list place) begins.1 ∙ at_longer old begins.0 place seen at

module _ (old new : Worker) (on : Continues old new) where
  pub same_entry : (number tenant : ℕ) (command : Command) → own_entry old number tenant command ≡ own_entry new number tenant command
  same_entry number tenant command = ap (λ worker. record { ticket = ticket_of worker number; tenant = tenant; command = command }) (sym on.same.1)

  pub same_sighting : (number tenant : ℕ) (command : Command) → own_sighting old number tenant command ≡ own_sighting new number tenant command
  same_sighting number tenant command = λ i. sighting_of (sym on.log i).now (same_entry number tenant command i)

  -- a full log stays as it is
  full_same : IsFull old → (seat_of new).state.learned ≡ (seat_of old).state.learned
  full_same full =
      let few = new.pass.desk.law.few in
      let places = ap (λ size. size.places) on.same.0 in
      let longer = begins_longer _ _ on.learned in
      sym (begins_whole (seat_of new).state.learned (seat_of old).state.learned on.learned (omega arith))

  grows_at : (number tenant place : ℕ) (command : Command) (list longer : List Sighting) → BeginsWith longer list →
      slice_get list place ≡ Some (own_sighting old number tenant command) → slice_get longer place ≡ Some (own_sighting new number tenant command)
  grows_at number tenant place command list longer begins at =
      stays_at list longer place _ begins at ∙ ap (λ (seen : Sighting). Some seen) (same_sighting number tenant command)

  placed_grows : (tenant : ℕ) (from : Mark) (command : Command) (reply : Reply) (to : Mark) → IsPlaced old tenant from command reply to → IsPlaced new tenant from command reply to
  placed_grows tenant from command reply to is = record {
    place = is.place;
    not_before = is.not_before;
    announced = grows_at from.number tenant from.number command (announced_of old) (announced_of new) on.announced is.announced;
    stands = grows_at from.number tenant is.place command (history_of old) (history_of new) on.history is.stands;
    reply_is =
        let front : take is.place (history_of new) ≡ take is.place (history_of old) =
        ap (λ (list : List Sighting). take is.place list) on.history.1 ∙ take_longer (history_of old) is.place _ on.history.0 is.stands
        in
        is.reply_is ∙ (λ i. reply_to (sym on.openings i) (entries (sym front i)) (Some (same_entry from.number tenant command i)));
    next = is.next;
  }

  full_grows : IsFull old → IsFull new
  full_grows full = ap (λ (list : List Ticket). length list) (full_same full) ∙ (full ∙ sym (ap (λ size. size.places) on.same.0))

  away_grows : (tenant : ℕ) (from : Mark) (command : Command) (reply : Reply) (to : Mark) → IsTurnedAway old tenant from command reply to → IsTurnedAway new tenant from command reply to
  away_grows tenant from command reply to is = record {
    full = full_grows is.full;
    before = λ place ticket at own. is.before place ticket (ap (λ (list : List Ticket). slice_get list place) (sym (full_same is.full)) ∙ at) (own ∙ on.same.1);
    reply_is = is.reply_is;
    next = ⊎_elim inl (λ announced. inr (grows_at from.number tenant from.number command (announced_of old) (announced_of new) on.announced announced.0, announced.1)) is.next;
  }

  answered_grows : (tenant : ℕ) (from : Mark) (command : Command) (reply : Reply) (to : Mark) → IsAnswered old tenant from command reply to → IsAnswered new tenant from command reply to
  answered_grows tenant from command reply to is =
      ⊎_elim (λ placed. inl (placed_grows tenant from command reply to placed)) (λ away. inr (away_grows tenant from command reply to away)) is

  for_grow : (from : Mark) (demand : Demand) (bytes : List ℕ) (P Q : Mark → List ℕ → Type 0) → ((next : Mark) (rest : List ℕ) → P next rest → Q next rest) →
      OwesFor old from demand bytes P → OwesFor new from demand bytes Q
  for_grow from (Logs tenant command quiet) bytes P Q then (reply, next, rest, is, are, more) =
      (reply, next, rest, answered_grows tenant from command reply next is, are, then next rest more)
  for_grow from (Says said) bytes P Q then (rest, are, more) = (rest, are, then from rest more)

  -- the worker goes on
  pub owes_grow : (role : Role) (from : Mark) (requests : List Request) (bytes : List ℕ) (to : Mark) → Owes old role from requests bytes to → Owes new role from requests bytes to
  owes_grow role from [] bytes to owes = owes
  owes_grow role from (request ∷ requests) bytes to owes =
      for_grow from (demand_of role request) bytes _ _ (λ next rest. owes_grow role next requests rest to) owes

module _ (worker : Worker) where
  -- one answer after an earlier mark
  answered_lower : (tenant : ℕ) (low from : Mark) (command : Command) (reply : Reply) (to : Mark) → from.number ≡ low.number → low.place ≤ from.place → IsAnswered worker tenant from command reply to →
      (next : Mark) × IsAnswered worker tenant low command reply next × (to.number ≡ next.number) × (next.place ≤ to.place)
  answered_lower tenant low from command reply to same before is =
      ⊎_elim
      (λ (placed : IsPlaced worker tenant from command reply to). (
        record { number = low.number + 1; place = placed.place + 1 },
        inl (record {
          place = placed.place;
          not_before = omega (arith, before, placed.not_before);
          announced = subst (λ number. slice_get (announced_of worker) number ≡ Some (own_sighting worker number tenant command)) same placed.announced;
          stands = subst (λ number. slice_get (history_of worker) placed.place ≡ Some (own_sighting worker number tenant command)) same placed.stands;
          reply_is = subst (λ number. Some reply ≡ reply_to (openings_of worker) (entries (take placed.place (history_of worker))) (Some (own_entry worker number tenant command))) same placed.reply_is;
          next = refl;
        }),
        ap (λ (mark : Mark). mark.number) placed.next ∙ ap (λ n. n + 1) same,
        omega (arith, ap (λ (mark : Mark). mark.place) placed.next),
      ))
      (λ (away : IsTurnedAway worker tenant from command reply to).
      let announced_before = subst (λ number. (place : ℕ) (ticket : Ticket) → slice_get (seat_of worker).state.learned place ≡ Some ticket → ticket.worker ≡ (seat_of worker).worker → ticket.number < number) same away.before in
      ⊎_elim
      (λ (stays : to ≡ from). (
        low,
        inr (record { full = away.full; before = announced_before; reply_is = away.reply_is; next = inl refl }),
        ap (λ (mark : Mark). mark.number) stays ∙ same,
        omega (arith, before, ap (λ (mark : Mark). mark.place) stays),
      ))
      (λ (announced : (slice_get (announced_of worker) from.number ≡ Some (own_sighting worker from.number tenant command)) × (to ≡ record { number = from.number + 1; place = from.place })). (
        record { number = low.number + 1; place = low.place },
        inr (record {
          full = away.full;
          before = announced_before;
          reply_is = away.reply_is;
          next = inr (subst (λ number. slice_get (announced_of worker) number ≡ Some (own_sighting worker number tenant command)) same announced.0, refl);
        }),
        ap (λ (mark : Mark). mark.number) announced.1 ∙ ap (λ n. n + 1) same,
        omega (arith, before, ap (λ (mark : Mark). mark.place) announced.1),
      ))
      away.next)
      is

  -- what is owed for a demand, after an earlier mark, and before more
  for_lower : (low from : Mark) (demand : Demand) (bytes : List ℕ) (P : Mark → List ℕ → Type 0) → from.number ≡ low.number → low.place ≤ from.place →
      ((next lower : Mark) (rest : List ℕ) → next.number ≡ lower.number → lower.place ≤ next.place → P next rest → P lower rest) →
      OwesFor worker from demand bytes P → OwesFor worker low demand bytes P
  for_lower low from (Logs tenant command quiet) bytes P same before then (reply, next, rest, is, are, more) =
      let lower = answered_lower tenant low from command reply next same before is in
      (reply, lower.0, rest, lower.1, are, then next lower.0 rest lower.2 lower.3 more)
  for_lower low from (Says said) bytes P same before then (rest, are, more) = (rest, are, then from low rest same before more)

  for_append : (from : Mark) (demand : Demand) (bytes more : List ℕ) (P Q : Mark → List ℕ → Type 0) → ((next : Mark) (rest : List ℕ) → P next rest → Q next (rest ++ more)) →
      OwesFor worker from demand bytes P → OwesFor worker from demand (bytes ++ more) Q
  for_append from (Logs tenant command quiet) bytes more P Q then (reply, next, rest, is, are, owes) =
      (reply, next, rest ++ more, is, ap (λ some. some ++ more) are ∙ append_assoc (answered quiet reply) rest more, then next rest owes)
  for_append from (Says said) bytes more P Q then (rest, are, owes) = (rest ++ more, ap (λ some. some ++ more) are ∙ append_assoc said rest more, then from rest owes)

module _ (worker : Worker) (role : Role) where
  owes_lower : (low from : Mark) (requests : List Request) (bytes : List ℕ) (to : Mark) → from.number ≡ low.number → low.place ≤ from.place → Owes worker role from requests bytes to →
      Owes worker role low requests bytes to
  owes_lower low from [] bytes to same before owes = (owes.0, owes.1 ∙ same, omega (arith, before, owes.2))
  owes_lower low from (request ∷ requests) bytes to same before owes =
      for_lower worker low from (demand_of role request) bytes (λ next rest. Owes worker role next requests rest to) same before
      (λ next lower rest. owes_lower lower next requests rest to) owes

  -- one part after another
  pub owes_append : (from : Mark) (first second : List Request) (bytes more : List ℕ) (between to : Mark) → Owes worker role from first bytes between →
      Owes worker role between second more to → Owes worker role from (first ++ second) (bytes ++ more) to
  owes_append from [] second bytes more between to owes later =
      subst (λ both. Owes worker role from second both to) (ap (λ none. none ++ more) (sym owes.0)) (owes_lower from between second more to owes.1 owes.2 later)
  owes_append from (request ∷ first) second bytes more between to owes later =
      for_append worker from (demand_of role request) bytes more (λ next rest. Owes worker role next first rest between) (λ next rest. Owes worker role next (first ++ second) rest to)
      (λ next rest owes. owes_append next first second rest more between to owes later) owes

  pub owes_nothing : Owes worker role (mark_of worker) [] [] (mark_of worker)
  owes_nothing = (refl, refl, omega arith)
