-- What is owed over the history of a worker that has a log to itself.
use Rattle.std.proofs.Common.{◌≡◌, ◌⊎◌, ℕ, suc, ◌<◌, ◌≤◌, false, List, [], ◌∷◌, ◌++◌, length, take, slice_get, Some, sym, refl, ap, ◌∙◌, subst, inl, inr, ⊎_elim, arith, length-append}
use Rattle.std.specs.Bool.{nat_lt}
use Rattle.std.proofs.lemmas.Bool.Decides.{nat_tests}
use Rattle.std.proofs.lemmas.Bool.{lt-ltb}
use Rattle.std.proofs.lemmas.List.{map-append}
use Rattle.std.proofs.lemmas.Option.{slice_get_within}
use Rattle.mc_model.specs.declared.command.Command.{Command}
use Rattle.mc_model.specs.declared.reply.Reply.{Reply}
use Rattle.mc_model.specs.declared.reply.Reply.TheVariants.{Refused}
use Rattle.mc_model.specs.declared.reply.TheConstants.WireNo.{LINE_TOO_LONG, LOG_FULL, UNKNOWN_COMMAND}
use Rattle.mc_model.specs.declared.request.Request.{Request}
use Rattle.mc_model.specs.declared.request.Request.TheVariants.{Limit, Local, Logged, Quit, TooLong}
use Rattle.mc_model.specs.declared.settings.Limits.{Limits}
use Rattle.mc_model.specs.History.{answer, answer_from, state_after}
use Rattle.model_lemmas.proofs.Histories.{answer-more}
use Rattle.model_lemmas.proofs.Logs.{own-push}
use Rattle.mc_model.specs.Log.{own}
use Rattle.mc_write.specs.Text.{text}
use Rattle.uc_worker.specs.Cited.{Sighting, entries}
use Rattle.lists.proofs.Public.{take_more}
use Rattle.uc_worker.specs.declared.worker.Worker.{Worker}
use Rattle.uc_worker.specs.Worker.{history_of}
use Rattle.mc_conn.specs.declared.conn.Role.TheVariants.{Tenant}
use Rattle.mc_conn.specs.Alone.{IsAloneOver, applied_with, first_mark, logged_reply, owed_after}
use Rattle.mc_conn.specs.Onward.{own_entry, own_sighting}
use Rattle.mc_conn.specs.Owed.{IsPlaced, IsTurnedAway, Mark, Owes, answered}
use Rattle.mc_conn.proofs.Alone.{placed_in_order, turned_away_last}

not_less : (n m : ℕ) → m ≤ n → nat_lt n m ≡ false
not_less n m few = grind (arith, nat_tests, few)

-- the reply to a command and the commands applied with it, if a place is left for it
pub with_room : (limits : Limits) (base : List Command) (places : ℕ) (applied : List Command) (command : Command) → length applied < places →
    (logged_reply limits base places applied command ≡ answer limits (base ++ applied) command) × (applied_with places applied command ≡ applied ++ command ∷ [])
with_room limits base places applied command room = let is = lt-ltb _ _ room in (rw is refl, rw is refl)

-- and if none is
pub without_room : (limits : Limits) (base : List Command) (places : ℕ) (applied : List Command) (command : Command) → places ≤ length applied →
    (logged_reply limits base places applied command ≡ Refused LOG_FULL) × (applied_with places applied command ≡ applied)
without_room limits base places applied command full = let is = not_less (length applied) places full in (rw is refl, rw is refl)

module _ (limits : Limits) (base : List Command) (places : ℕ) (worker : Worker) (alone : IsAloneOver limits base places worker) where
  -- the worker's first commands, up to this number, are those applied; or the log was full before
  abbrev IsUpTo : ℕ → List Command → Type 0
  IsUpTo number applied =
      (own 0 (entries (take number (history_of worker))) ≡ applied) × (length applied ≡ number) × (number ≤ places)
      ⊎ (places ≤ number) × (length applied ≡ places)

  pub few : length (history_of worker) ≤ places
  few = let short = worker.short in let law = worker.pass.desk.law.few in omega (arith, short, law, alone.long)

  -- one more command's place
  pub own_later : (number : ℕ) (command : Command) → slice_get (history_of worker) number ≡ Some (own_sighting worker number 0 command) →
      own 0 (entries (take (suc number) (history_of worker))) ≡ own 0 (entries (take number (history_of worker))) ++ command ∷ []
  own_later number command stands =
      ap (λ (list : List Sighting). own 0 (entries list)) (take_more (history_of worker) number (own_sighting worker number 0 command) stands)
      ∙ (ap (own 0) (map-append (λ (one : Sighting). one.entry) (take number (history_of worker)) (own_sighting worker number 0 command ∷ []))
      ∙ own-push 0 (entries (take number (history_of worker))) (Some (own_entry worker number 0 command)))

  placed : (from to : Mark) (applied : List Command) (command : Command) (reply : Reply) → IsUpTo from.number applied → IsPlaced worker 0 from command reply to →
      (reply ≡ logged_reply limits base places applied command) × IsUpTo to.number (applied_with places applied command)
  placed from to applied command reply up is =
      let at : is.place ≡ from.number = placed_in_order worker alone.workers 0 from to command reply is in
      let stands : slice_get (history_of worker) from.number ≡ Some (own_sighting worker from.number 0 command) =
      subst (λ place. slice_get (history_of worker) place ≡ Some (own_sighting worker from.number 0 command)) at is.stands
      in
      let short = slice_get_within (history_of worker) from.number _ stands in
      ⊎_elim
      (λ (now : (own 0 (entries (take from.number (history_of worker))) ≡ applied) × (length applied ≡ from.number) × (from.number ≤ places)).
      let room = with_room limits base places applied command (omega (arith, short, few, now.1)) in
      let before : own 0 (entries (take is.place (history_of worker))) ≡ applied = ap (λ place. own 0 (entries (take place (history_of worker)))) at ∙ now.0 in
      let mine = own 0 (entries (take is.place (history_of worker))) in
      let first : Some reply ≡ Some (answer_from (state_after limits base) mine command) = rw (alone.openings) at is.reply_is in
      let over = answer-more limits base mine (state_after limits base) command refl in
      let given : Some reply ≡ Some (answer limits (base ++ applied) command) =
      first ∙ ap Some over ∙ ap (λ (list : List Command). Some (answer limits (base ++ list) command)) before in
      let said : reply ≡ answer limits (base ++ applied) command = cc in
      let next : to.number ≡ suc from.number = omega (arith, ap (λ (mark : Mark). mark.number) is.next) in (
        said ∙ sym room.0,
        subst (λ n. IsUpTo n (applied_with places applied command)) (sym next)
            (subst (λ list. IsUpTo (suc from.number) list) (sym room.1)
            (inl (
              own_later from.number command stands ∙ ap (λ (list : List Command). list ++ command ∷ []) now.0,
              omega (arith, length-append applied (command ∷ []), now.1),
              omega (arith, short, few),
            ))),
      ))
      (λ (full : (places ≤ from.number) × (length applied ≡ places)). absurd (omega (arith, short, few, full.0)))
      up

  away : (from to : Mark) (applied : List Command) (command : Command) (reply : Reply) → IsUpTo from.number applied → IsTurnedAway worker 0 from command reply to →
      (reply ≡ logged_reply limits base places applied command) × IsUpTo to.number (applied_with places applied command)
  away from to applied command reply up is =
      let last = turned_away_last worker alone.workers 0 from to command reply is in
      let long : length applied ≡ places =
      ⊎_elim
      (λ (now : (own 0 (entries (take from.number (history_of worker))) ≡ applied) × (length applied ≡ from.number) × (from.number ≤ places)). omega (arith, now.1, now.2, last, alone.long))
      (λ (full : (places ≤ from.number) × (length applied ≡ places)). full.1)
      up
      in
      let room = without_room limits base places applied command (omega (arith, long)) in
      let later : from.number ≤ to.number =
      ⊎_elim (λ (same : to ≡ from). omega (arith, ap (λ (mark : Mark). mark.number) same)) (λ more. omega (arith, ap (λ (mark : Mark). mark.number) more.1)) is.next
      in
      (is.reply_is ∙ sym room.0, subst (IsUpTo to.number) (sym room.1) (inr (omega (arith, last, later, alone.long), long)))

  in_order : (requests : List Request) (from to : Mark) (applied : List Command) (bytes : List ℕ) → IsUpTo from.number applied → Owes worker (Tenant 0) from requests bytes to →
      bytes ≡ owed_after limits base places applied requests
  in_order [] from to applied bytes up owes = owes.0
  in_order (Logged command quiet ∷ requests) from to applied bytes up (reply, next, rest, is, all, owes) =
      let one = ⊎_elim (placed from next applied command reply up) (away from next applied command reply up) is in
      let others = in_order requests next to (applied_with places applied command) rest one.1 owes in
      all ∙ (ap (λ it. answered quiet it ++ rest) one.0 ∙ ap (λ it. answered quiet (logged_reply limits base places applied command) ++ it) others)
  in_order (Limit name quotas quiet ∷ requests) from to applied bytes up (rest, all, owes) =
      all ∙ ap (λ it. answered quiet (Refused UNKNOWN_COMMAND) ++ it) (in_order requests from to applied rest up owes)
  in_order (Local reply quiet ∷ requests) from to applied bytes up (rest, all, owes) = all ∙ ap (λ it. answered quiet reply ++ it) (in_order requests from to applied rest up owes)
  in_order (Quit ∷ requests) from to applied bytes up (rest, all, owes) = all ∙ in_order requests from to applied rest up owes
  in_order (TooLong ∷ requests) from to applied bytes up (rest, all, owes) = all ∙ ap (λ it. text (Refused LINE_TOO_LONG) ++ it) (in_order requests from to applied rest up owes)

  pub owes_in_order : (requests : List Request) (bytes : List ℕ) (to : Mark) → Owes worker (Tenant 0) first_mark requests bytes to → bytes ≡ owed_after limits base places [] requests
  owes_in_order requests bytes to owes = in_order requests first_mark to [] bytes (inl (none_yet (history_of worker), refl, omega arith)) owes
    where
      none_yet : (history : List Sighting) → own 0 (entries (take 0 history)) ≡ []
      none_yet [] = refl
      none_yet (seen ∷ history) = refl
