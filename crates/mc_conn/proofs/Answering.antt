-- What a submit says is an answer.
use Rattle.std.proofs.Common.{◌≡◌, ℕ, ◌+◌, ◌<◌, List, [], ◌∷◌, ◌++◌, length, take, slice_get, Some, sym, refl, ap, ◌∙◌, inl, inr, ⊎_elim, arith, length-append, length-take}
use Rattle.std.proofs.lemmas.List.Quantifiers.{position-Some}
use Rattle.std.specs.Cmp.Lexicographic.{pointwise}
use Rattle.std.specs.Prelude.{nat_eq}
use Rattle.mc_model.specs.declared.command.Command.{Command}
use Rattle.mc_model.specs.declared.fault.Fault.{Fault}
use Rattle.mc_model.specs.declared.fault.Fault.TheVariants.{LogFull}
use Rattle.mc_model.specs.declared.reply.Reply.TheVariants.{Refused}
use Rattle.mc_model.specs.declared.reply.TheConstants.WireNo.{LOG_FULL}
use Rattle.mc_model.specs.declared.id.TheConstants.{TENANTS}
use Rattle.mc_model.specs.Name.{tenant_named}
use Rattle.mc_model.specs.Replay.{reply_to}
use Rattle.uc_worker.specs.Cited.{SeatLaw, Sighting, entries, next_entry}
use Rattle.uc_worker.specs.declared.worker.Worker.{Worker}
use Rattle.uc_worker.specs.Steps.{Leaves}
use Rattle.uc_worker.specs.Worker.{announced_of, history_of, next_of, seat_of}
use Rattle.lists.proofs.Public.{begins_longer, last_at}
use Rattle.mc_conn.specs.Onward.{own_entry, own_sighting}
use Rattle.uc_worker.specs.declared.worker.Answer.{Answer}
use Rattle.uc_worker.specs.Going.{AnnouncesAtMost, Continues, Submits}
use Rattle.mc_conn.specs.Owed.{mark_of}
use Rattle.mc_conn.specs.Parts.{AnswersCommand, MayAnnounce}
use Rattle.mc_conn.proofs.Counts.{number_below}
use Rattle.mc_conn.proofs.Owings.{same_entry, same_sighting}

module _ (old new : Worker) (tenant : ℕ) (command : Command) (on : Continues old new) where
  number : ℕ
  number = length (announced_of old)

  -- the next command's number is how many were announced
  next_is : next_of old tenant command ≡ own_sighting old number tenant command
  unfolding number
  next_is = λ i. own_sighting old (sym old.pass.count i) tenant command

  next_now : next_of old tenant command ≡ own_sighting new number tenant command
  next_now = next_is ∙ same_sighting old new on number tenant command

  announced_at : announced_of new ≡ announced_of old ++ next_of old tenant command ∷ [] → slice_get (announced_of new) number ≡ Some (own_sighting new number tenant command)
  unfolding number
  announced_at more = ap (λ (list : List Sighting). slice_get list number) more ∙ (last_at (announced_of old) _ ∙ ap (λ (seen : Sighting). Some seen) next_now)

  one_more : announced_of new ≡ announced_of old ++ next_of old tenant command ∷ [] → length (announced_of new) ≡ number + 1
  unfolding number
  one_more more = ap (λ (list : List Sighting). length list) more ∙ length-append (announced_of old) (next_of old tenant command ∷ [])

  pub placed_answers : (answer : Answer) → Submits old new tenant command answer → AnswersCommand old new tenant command answer.reply
  unfolding number
  placed_answers answer submits = record {
    next = record { number = number + 1; place = answer.place + 1 };
    is = inl (record {
      place = answer.place;
      not_before = submits.place;
      announced = announced_at submits.announced;
      stands = submits.own ∙ ap (λ (seen : Sighting). Some seen) next_now;
      reply_is = submits.reply ∙ (λ i. reply_to (sym on.openings i) (entries (take answer.place (history_of new))) (Some (entry_is i)));
      next = refl;
    });
    number = one_more submits.announced;
    place = omega (arith, submits.last);
  }
    where
      entry_is : next_entry old.pass tenant command ≡ own_entry new (length (announced_of old)) tenant command
      entry_is = (λ i. own_entry old (sym old.pass.count i) tenant command) ∙ same_entry old new on (length (announced_of old)) tenant command

  pub may_announce : AnnouncesAtMost old new tenant command → MayAnnounce old new tenant command
  unfolding number
  may_announce kept = ⊎_elim inl (λ more. inr (more ∙ ap (λ (seen : Sighting). announced_of old ++ seen ∷ []) next_is)) kept

  pub full_answers : AnnouncesAtMost old new tenant command → (fault : Fault) → fault ≡ LogFull → Leaves fault (seat_of old) (seat_of new) → AnswersCommand old new tenant command (Refused LOG_FULL)
  unfolding number
  full_answers kept fault is leaves =
      let full = leaves.full is in
      let law : SeatLaw (seat_of new).size (seat_of new).worker (seat_of new).state = new.pass.desk.law in
      ⊎_elim
      (λ (none : announced_of new ≡ announced_of old). record {
        next = mark_of old;
        is = inr (record {
          full = full;
          before = λ place ticket at own.
              let below = law.own place ticket at own in
              let count : (seat_of new).state.announced ≡ number = sym new.pass.count ∙ ap (λ (list : List Sighting). length list) none in
              omega arith;
          reply_is = refl;
          next = inl refl;
        });
        number = ap (λ (list : List Sighting). length list) none;
        place = begins_longer _ _ on.history;
      })
      (λ (more : announced_of new ≡ announced_of old ++ next_of old tenant command ∷ []).
      let count : (seat_of new).state.announced ≡ number + 1 = sym new.pass.count ∙ one_more more in
      let grown : (seat_of new).state.announced ≡ (seat_of old).state.announced + 1 = count ∙ ap (λ n. n + 1) old.pass.count in
      record {
        next = record { number = number + 1; place = length (history_of old) };
        is = inr (record {
          full = full;
          before = λ place ticket at own.
              let below = number_below (seat_of new).state.learned (seat_of new).worker place ticket law.legal at own in
              let waits = law.pending (leaves.waits is grown) in
              omega arith;
          reply_is = refl;
          next = inr (announced_at more, refl);
        });
        number = one_more more;
        place = begins_longer _ _ on.history;
      })
      kept

-- a name that a tenant has is one of the names
pub named_among : (names : List (List ℕ)) (name : List ℕ) (tenant : ℕ) → tenant_named names name ≡ Some tenant → tenant < length names
named_among names name tenant is =
    let place = position-Some (λ other. pointwise nat_eq other name) (take TENANTS names) tenant [] is in
    omega (arith, place.0, length-take TENANTS names)
