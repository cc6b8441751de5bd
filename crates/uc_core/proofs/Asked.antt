-- What the events of a run say of the core that it leads to: by induction from the run's front, one
-- event after another.
use Rattle.std.proofs.Common.{◌≡◌, ◌≢◌, ℕ, ◌+◌, ◌≤◌, Bool, cond, if◌then◌else◌, List, [], ◌∷◌, ◌++◌, length, map, Option, Some, None, slice_get, slice_set, option_map, ⊎_elim, refl, sym, ap, ◌∙◌, arith, eq-eqb, ne_eqb, append-nil, append_assoc}
use Rattle.std.proofs.lemmas.Bool.{cases_eq}
use Rattle.std.proofs.lemmas.List.{length-map, length-replicate, map-append}
use Rattle.std.proofs.lemmas.List.Elements.{filter_map-append}
use Rattle.std.proofs.lemmas.Option.{none-some, same_Some, slice_get-map, slice_get_within}
use Rattle.std.specs.List.{cons_option, fold}
use Rattle.std.specs.Option.{option_and_then, option_map_or}
use Rattle.mc_model.specs.declared.command.Command.{Command}
use Rattle.mc_model.specs.declared.id.Ticket.{Ticket}
use Rattle.mc_model.specs.declared.reply.Reply.{Reply}
use Rattle.mc_model.specs.declared.request.Entry.{Entry}
use Rattle.mc_model.specs.declared.shown.LogSize.{LogSize}
use Rattle.mc_model.specs.declared.shown.ShownState.{ShownState}
use Rattle.mc_model.specs.declared.shown.WorkerState.{WorkerState}
use Rattle.mc_model.specs.Lawful.{announced_by, next, turn}
use Rattle.mc_model.specs.Legal.{ticket_of}
use Rattle.mc_model.specs.Settings.{Configuration}
use Rattle.mc_model.specs.Shown.{announce, look, new_worker, propose, read, stop}
use Rattle.uc_core.specs.Asked.{AnnouncementsStand, ByEvents, FewProposals, IsOfSettings, ReplaysCount, announcement_of, announcements, is_replay_of, proposals_with}
use Rattle.uc_core.specs.Core.{CoreState, ReplayState, entry_under, new_core, core_size}
use Rattle.uc_core.specs.Run.{Given, IsRun, Runs, replayed_by}
use Rattle.uc_core.specs.Step.{CoreStep, actor, announced_entry, with_entry}
use Rattle.uc_core.specs.declared.event.Event.{Event}
use Rattle.uc_core.specs.declared.event.Event.TheVariants.{Announce, Look, Propose, Read, Replay, Stop}
use Rattle.uc_core.proofs.Alone.{steps_are_alone}
use Rattle.uc_core.proofs.CoreLaws.{CoreLaw, grows, keeps, opens}
use Rattle.lists.proofs.Public.{at_replicated, set_elsewhere, set_here}
use Rattle.uc_core.proofs.Lookups.{there}
use Rattle.uc_core.proofs.Runs.{law_of}
use Rattle.uc_core.proofs.Soon.{shows_step}
use Rattle.model_lemmas.proofs.Waiting.{is_lawful}

-- what each event makes of a part of the core, the events of a run make of it one after another
abbrev EachMakes : {X : Type 0} → (CoreState → X) → (X → Event → X) → Type 0
EachMakes part make = (old : CoreState) (event : Event) (new : CoreState) (reply : Option Reply) → CoreLaw old → CoreStep old event new reply →
    part new ≡ make (part old) event

made : {X : Type 0} (part : CoreState → X) (make : X → Event → X) → EachMakes part make →
    (old new : CoreState) (events : List Event) (given : List Given) → CoreLaw old → Runs old events new given →
    part new ≡ fold make (part old) events
made part make each old new [] given law runs = ap part runs.0
made part make each old new (event ∷ events) given law runs =
    made part make each runs.0 new events runs.2 (keeps old runs.0 event runs.1 law runs.3) runs.4
    ∙ ap (λ it. fold make it events) (each old event runs.0 runs.1 law runs.3)

-- the settings: no event changes them
kept_size : EachMakes core_size (λ size event. size)
kept_size old event new reply law step = (shows_step old new event reply step).size

kept_openings : EachMakes (λ core. core.openings) (λ openings event. openings)
kept_openings old event new reply law step = (grows old new event reply law step).openings

nothing_made : {X : Type 0} (it : X) (events : List Event) → fold (λ it event. it) it events ≡ it
nothing_made it [] = refl
nothing_made it (event ∷ events) = nothing_made it events

pub is_of_settings : ByEvents (λ settings events core. IsOfSettings settings core)
is_of_settings settings events core given run =
    let size = made core_size (λ size event. size) kept_size (new_core settings) core events given (opens settings) run
    ∙ nothing_made (core_size (new_core settings)) events in record {
      workers = ap (λ (it : LogSize). it.workers) size ∙ length-replicate settings.workers new_worker;
      places = ap (λ (it : LogSize). it.places) size;
      tenants = made (λ core. core.openings) (λ openings event. openings) kept_openings (new_core settings) core events given (opens settings) run
          ∙ nothing_made settings.tenants events;
    }

-- the announcements: each worker's list of entries is determined by its announcements
abbrev told : Entry → ℕ × Command
told entry = (entry.tenant, entry.command)

abbrev listed_in : Option (List Entry) → List (ℕ × Command)
listed_in found = option_map_or (λ (announced : List Entry). map told announced) found []

abbrev listed : ℕ → CoreState → List (ℕ × Command)
listed number core = listed_in (slice_get core.entries number)

abbrev one : ℕ → Event → List (ℕ × Command)
one number event = announcements number (event ∷ [])

same_entries : (number : ℕ) (old new : CoreState) → new.entries ≡ old.entries → listed number new ≡ listed number old ++ []
same_entries number old new same = ap (λ (lists : List (List Entry)). listed_in (slice_get lists number)) same ∙ sym (append-nil (listed number old))

-- an announcement of a worker and of another
announced_own : (number worker tenant : ℕ) (command : Command) → worker ≡ number → one number (Announce worker tenant command) ≡ (tenant, command) ∷ []
announced_own number worker tenant command same =
    ap (λ (b : Bool). cons_option (if b then Some (tenant, command) else None) []) (eq-eqb worker number same)

announced_other : (number worker tenant : ℕ) (command : Command) → worker ≢ number → one number (Announce worker tenant command) ≡ []
announced_other number worker tenant command apart =
    ap (λ (b : Bool). cons_option (if b then Some (tenant, command) else None) []) (ne_eqb worker number apart)

announcement_listed : (number : ℕ) (old : CoreState) (worker tenant : ℕ) (command : Command) (new : CoreState) (reply : Option Reply) →
    CoreLaw old → CoreStep old (Announce worker tenant command) new reply →
    listed number new ≡ listed number old ++ one number (Announce worker tenant command)
announcement_listed number old worker tenant command new reply law step =
    let entry = announced_entry old worker tenant command in
    let list = there old.entries worker (omega (arith, law.listed, slice_get_within old.shown.workers worker step.1.0 step.1.1)) in
    let becomes = ap (λ (core : CoreState). listed_in (slice_get core.entries number)) step.2 in
    ⊎_elim
    (λ (here : number ≡ worker).
    let was = ap (slice_get old.entries) here ∙ list.1 in
    let is = ap (slice_get (with_entry old.entries entry)) here
    ∙ set_here old.entries worker (option_map_or (λ (announced : List Entry). announced ++ entry ∷ []) (slice_get old.entries worker) (entry ∷ []))
    (slice_get_within old.entries worker list.0 list.1)
    ∙ ap (λ found. Some (option_map_or (λ (announced : List Entry). announced ++ entry ∷ []) found (entry ∷ []))) list.1 in
    becomes ∙ ap listed_in is ∙ map-append told list.0 (entry ∷ [])
    ∙ ap (λ (front : List (ℕ × Command)). front ++ (tenant, command) ∷ []) (sym (ap listed_in was))
    ∙ ap (λ (back : List (ℕ × Command)). listed number old ++ back) (sym (announced_own number worker tenant command (sym here))))
    (λ apart.
    becomes ∙ ap listed_in (set_elsewhere old.entries worker number _ apart) ∙ sym (append-nil (listed number old))
    ∙ ap (λ (back : List (ℕ × Command)). listed number old ++ back) (sym (announced_other number worker tenant command (λ same. apart (sym same)))))
    (cases_eq number worker)

listed_more : (number : ℕ) (old : CoreState) (event : Event) (new : CoreState) (reply : Option Reply) → CoreLaw old → CoreStep old event new reply →
    listed number new ≡ listed number old ++ one number event
listed_more number old (Announce worker tenant command) new reply law step = announcement_listed number old worker tenant command new reply law step
listed_more number old (Read worker) new reply law step = same_entries number old new (ap (λ (it : CoreState). it.entries) step.1)
listed_more number old (Look worker) new reply law step = same_entries number old new (ap (λ (it : CoreState). it.entries) step.1)
listed_more number old (Propose worker) new reply law step = same_entries number old new (ap (λ (it : CoreState). it.entries) step.1)
listed_more number old (Replay worker) new reply law step = same_entries number old new (ap (λ (it : CoreState). it.entries) step.8)
listed_more number old (Stop worker) new reply law step = same_entries number old new (ap (λ (it : CoreState). it.entries) step.1)

listed_on : (number : ℕ) (old new : CoreState) (events : List Event) (given : List Given) → CoreLaw old → Runs old events new given →
    listed number new ≡ listed number old ++ announcements number events
listed_on number old new [] given law runs = ap (listed number) runs.0 ∙ sym (append-nil (listed number old))
listed_on number old new (event ∷ events) given law runs =
    listed_on number runs.0 new events runs.2 (keeps old runs.0 event runs.1 law runs.3) runs.4
    ∙ ap (λ (front : List (ℕ × Command)). front ++ announcements number events) (listed_more number old event runs.0 runs.1 law runs.3)
    ∙ append_assoc (listed number old) (one number event) (announcements number events)
    ∙ ap (λ (back : List (ℕ × Command)). listed number old ++ back) (sym (filter_map-append (announcement_of number) (event ∷ []) events))

none_listed : (settings : Configuration) (number : ℕ) → listed number (new_core settings) ≡ []
none_listed settings number = by_found (slice_get (new_core settings).entries number) refl
  where
    by_found : (found : Option (List Entry)) → slice_get (new_core settings).entries number ≡ found → listed_in found ≡ []
    by_found None at = refl
    by_found (Some announced) at = ap (map told) (sym (at_replicated settings.workers number [] announced at))

is_listed : (settings : Configuration) (events : List Event) (core : CoreState) (given : List Given) → IsRun settings events core given →
    (number : ℕ) → listed number core ≡ announcements number events
is_listed settings events core given run number =
    listed_on number (new_core settings) core events given (opens settings) run
    ∙ ap (λ (front : List (ℕ × Command)). front ++ announcements number events) (none_listed settings number)

-- a worker has as many entries as it has announced, and none where there is no such worker
module _ (core : CoreState) (law : CoreLaw core) (number : ℕ) where
  many_listed : announced_by core.shown number ≡ length (listed number core)
  many_listed = by_worker (slice_get core.shown.workers number) (slice_get core.entries number) refl refl
    where
      by_worker : (found : Option WorkerState) (list : Option (List Entry)) → slice_get core.shown.workers number ≡ found → slice_get core.entries number ≡ list →
          option_map_or (λ (worker : WorkerState). worker.announced) found 0 ≡ length (listed_in list)
      by_worker None None at is = refl
      by_worker None (Some announced) at is =
          let inside = slice_get_within core.entries number announced is in
          absurd (none-some _ (sym at ∙ (there core.shown.workers number (omega (arith, inside, law.listed))).1))
      by_worker (Some worker) None at is =
          let inside = slice_get_within core.shown.workers number worker at in
          absurd (none-some _ (sym is ∙ (there core.entries number (omega (arith, inside, law.listed))).1))
      by_worker (Some worker) (Some announced) at is =
          ap (λ found. option_map_or (λ (it : WorkerState). it.announced) found 0) (sym at)
          ∙ sym (law.entries number announced is).many ∙ sym (length-map announced told)

  found_listed : (k tenant : ℕ) (command : Command) → slice_get (listed number core) k ≡ Some (tenant, command) →
      entry_under core (ticket_of number k) ≡ Some (record { ticket = ticket_of number k; tenant = tenant; command = command })
  found_listed k tenant command at = by_list (slice_get core.entries number) refl at
    where
      by_entry : (announced : List Entry) (found : Option Entry) → slice_get core.entries number ≡ Some announced → slice_get announced k ≡ found →
          option_map told found ≡ Some (tenant, command) →
          found ≡ Some (record { ticket = ticket_of number k; tenant = tenant; command = command })
      by_entry announced None is here says = absurd (none-some _ says)
      by_entry announced (Some entry) is here says =
          let both = same_Some (told entry) (tenant, command) says in
          let ticket = (law.entries number announced is).tickets k entry here in
          λ i. Some (record { ticket = ticket i; tenant = (both i).0; command = (both i).1 })

      by_list : (found : Option (List Entry)) → slice_get core.entries number ≡ found → slice_get (listed_in found) k ≡ Some (tenant, command) →
          option_and_then (λ (announced : List Entry). slice_get announced k) found
          ≡ Some (record { ticket = ticket_of number k; tenant = tenant; command = command })
      by_list None is here = absurd (none-some _ here)
      by_list (Some announced) is here =
          by_entry announced (slice_get announced k) is refl (sym (slice_get-map told announced k) ∙ here)

pub announcements_stand : ByEvents (λ settings events core. AnnouncementsStand events core)
announcements_stand settings events core given run =
    let law = law_of settings events core given run in
    let same = is_listed settings events core given run in record {
      many = λ number. many_listed core law number ∙ ap (λ (list : List (ℕ × Command)). length list) (same number);
      each = λ number k tenant command at.
          found_listed core law number k tenant command (ap (λ (list : List (ℕ × Command)). slice_get list k) (same number) ∙ at);
    }

-- the replays of a worker
abbrev counted : ℕ → ℕ → Event → ℕ
counted number many event = many + cond (is_replay_of number event) 1 0

same_replays : (number : ℕ) (old new : CoreState) → new.replays ≡ old.replays → replayed_by new number ≡ replayed_by old number + 0
same_replays number old new same =
    let still = ap (λ (replays : List ReplayState). option_map_or (λ (it : ReplayState). it.replayed) (slice_get replays number) 0) same in omega (arith, still)

one_replay : (number : ℕ) (old : CoreState) (worker : ℕ) (new : CoreState) (reply : Option Reply) → CoreStep old (Replay worker) new reply →
    replayed_by new number ≡ counted number (replayed_by old number) (Replay worker)
one_replay number old worker new reply step =
    let replayed_in = λ (found : Option ReplayState). option_map_or (λ (it : ReplayState). it.replayed) found 0 in
    let becomes = ap (λ (core : CoreState). replayed_in (slice_get core.replays number)) step.8 in
    ⊎_elim
    (λ (here : number ≡ worker).
    let was = ap replayed_in (ap (slice_get old.replays) here ∙ step.4) in
    let is = ap replayed_in (ap (slice_get _) here ∙ set_here old.replays worker _ (slice_get_within old.replays worker step.3 step.4)) in
    becomes ∙ is ∙ ap (λ (n : ℕ). n + 1) (sym was)
    ∙ ap (λ (b : Bool). replayed_by old number + cond b 1 0) (sym (eq-eqb worker number (sym here))))
    (λ apart.
    let is = ap replayed_in (set_elsewhere old.replays worker number _ apart) in
    let none = ap (λ (b : Bool). replayed_by old number + cond b 1 0) (sym (ne_eqb worker number (λ same. apart (sym same)))) in
    becomes ∙ is ∙ nothing_more (replayed_by old number) ∙ none)
    (cases_eq number worker)
  where
    nothing_more : (n : ℕ) → n ≡ n + 0
    nothing_more n = omega arith

replays_counted : (number : ℕ) → EachMakes (λ core. replayed_by core number) (counted number)
replays_counted number old (Announce worker tenant command) new reply law step = same_replays number old new (ap (λ (it : CoreState). it.replays) step.2)
replays_counted number old (Read worker) new reply law step = same_replays number old new (ap (λ (it : CoreState). it.replays) step.1)
replays_counted number old (Look worker) new reply law step = same_replays number old new (ap (λ (it : CoreState). it.replays) step.1)
replays_counted number old (Propose worker) new reply law step = same_replays number old new (ap (λ (it : CoreState). it.replays) step.1)
replays_counted number old (Replay worker) new reply law step = one_replay number old worker new reply step
replays_counted number old (Stop worker) new reply law step = same_replays number old new (ap (λ (it : CoreState). it.replays) step.1)

none_replayed : (settings : Configuration) (number : ℕ) → replayed_by (new_core settings) number ≡ 0
none_replayed settings number = by_found (slice_get (new_core settings).replays number) refl
  where
    by_found : (found : Option ReplayState) → slice_get (new_core settings).replays number ≡ found →
        option_map_or (λ (it : ReplayState). it.replayed) found 0 ≡ 0
    by_found None at = refl
    by_found (Some replay) at = ap (λ (it : ReplayState). it.replayed) (sym (at_replicated settings.workers number _ replay at))

pub replays_count : ByEvents (λ settings events core. ReplaysCount events core)
replays_count settings events core given run number =
    made (λ it. replayed_by it number) (counted number) (replays_counted number) (new_core settings) core events given (opens settings) run
    ∙ ap (λ (n : ℕ). fold (counted number) n events) (none_replayed settings number)

-- the proposals of a worker since its latest announcement
abbrev proposals_in : Option WorkerState → ℕ
proposals_in found = option_map_or (λ (worker : WorkerState). worker.proposals) found 0

abbrev proposals_by : ℕ → CoreState → ℕ
proposals_by number core = proposals_in (slice_get core.shown.workers number)

-- what an event makes of its own worker's
module _ (number : ℕ) (old : CoreState) where
  others_propose : (event : Event) (new : CoreState) (reply : Option Reply) → CoreStep old event new reply → number ≢ actor event →
      proposals_by number new ≡ proposals_by number old
  others_propose event new reply step apart = ap proposals_in (steps_are_alone old event new reply number step apart).0

  own_proposals : (shown : ShownState) (was is : WorkerState) → slice_get old.shown.workers number ≡ Some was →
      shown.workers ≡ slice_set old.shown.workers number is → proposals_in (slice_get shown.workers number) ≡ is.proposals
  own_proposals shown was is at set =
      ap (λ (workers : List WorkerState). proposals_in (slice_get workers number)) set
      ∙ ap proposals_in (set_here old.shown.workers number is (slice_get_within old.shown.workers number was at))

  -- an event of this worker that makes `is` of it
  of_own : (worker : ℕ) (new : CoreState) (was is : WorkerState) → number ≡ worker → slice_get old.shown.workers worker ≡ Some was →
      new.shown.workers ≡ slice_set old.shown.workers worker is →
      (proposals_by number new ≡ is.proposals) × (proposals_by number old ≡ was.proposals)
  of_own worker new was is here at set =
      let mine = ap (slice_get old.shown.workers) here ∙ at in
      (own_proposals new.shown was is mine (set ∙ ap (λ (n : ℕ). slice_set old.shown.workers n is) (sym here)), ap proposals_in mine)

  -- an event that leaves its worker's proposals
  leaves_them : (event : Event) (new : CoreState) (reply : Option Reply) (was is : WorkerState) → CoreStep old event new reply →
      slice_get old.shown.workers (actor event) ≡ Some was → new.shown.workers ≡ slice_set old.shown.workers (actor event) is →
      is.proposals ≡ was.proposals → proposals_by number new ≡ proposals_by number old
  leaves_them event new reply was is step at set same = ⊎_elim
      (λ (here : number ≡ actor event). let both = of_own (actor event) new was is here at set in both.0 ∙ same ∙ sym both.1)
      (λ apart. others_propose event new reply step apart)
      (cases_eq number (actor event))

  announce_resets : (worker tenant : ℕ) (command : Command) (new : CoreState) (reply : Option Reply) → CoreStep old (Announce worker tenant command) new reply →
      proposals_by number new ≡ proposals_with number (proposals_by number old) (Announce worker tenant command)
  announce_resets worker tenant command new reply step = ⊎_elim
      (λ (here : number ≡ worker).
      (of_own worker new step.1.0 (announce step.1.0) here step.1.1 (ap (λ (it : ShownState). it.workers) step.1.4)).0
      ∙ ap (λ (b : Bool). if b then 0 else proposals_by number old) (sym (eq-eqb worker number (sym here))))
      (λ apart.
      others_propose (Announce worker tenant command) new reply step apart
      ∙ ap (λ (b : Bool). if b then 0 else proposals_by number old) (sym (ne_eqb worker number (λ same. apart (sym same)))))
      (cases_eq number worker)

  proposal_counts : (worker : ℕ) (new : CoreState) (reply : Option Reply) → CoreStep old (Propose worker) new reply →
      proposals_by number new ≡ proposals_with number (proposals_by number old) (Propose worker)
  proposal_counts worker new reply step = ⊎_elim
      (λ (here : number ≡ worker).
      let both = of_own worker new step.0.0 (propose worker (next old.shown step.0.0) step.0.0) here step.0.1 (ap (λ (it : ShownState). it.workers) step.0.3) in
      both.0 ∙ ap (λ (n : ℕ). n + 1) (sym both.1)
      ∙ ap (λ (b : Bool). if b then proposals_by number old + 1 else proposals_by number old) (sym (eq-eqb worker number (sym here))))
      (λ apart.
      others_propose (Propose worker) new reply step apart
      ∙ ap (λ (b : Bool). if b then proposals_by number old + 1 else proposals_by number old) (sym (ne_eqb worker number (λ same. apart (sym same)))))
      (cases_eq number worker)

reading_proposes : (number : ℕ) (found : Option Ticket) (worker : WorkerState) → (read number found worker).proposals ≡ worker.proposals
reading_proposes number None worker = refl
reading_proposes number (Some ticket) worker = refl

proposals_made : (number : ℕ) → EachMakes (proposals_by number) (proposals_with number)
proposals_made number old (Announce worker tenant command) new reply law step = announce_resets number old worker tenant command new reply step
proposals_made number old (Read worker) new reply law step =
    leaves_them number old (Read worker) new reply step.0.0 (read worker (next old.shown step.0.0) step.0.0) step step.0.1
    (ap (λ (it : ShownState). it.workers) step.0.4) (reading_proposes worker (next old.shown step.0.0) step.0.0)
proposals_made number old (Look worker) new reply law step =
    let whose = turn (core_size old) step.0.0 in
    leaves_them number old (Look worker) new reply step.0.0 (look whose (announced_by old.shown whose) step.0.0) step step.0.1
    (ap (λ (it : ShownState). it.workers) step.0.5) refl
proposals_made number old (Propose worker) new reply law step = proposal_counts number old worker new reply step
proposals_made number old (Replay worker) new reply law step = ap (λ (it : CoreState). proposals_by number it) step.8
proposals_made number old (Stop worker) new reply law step =
    leaves_them number old (Stop worker) new reply step.0.0 (stop step.0.0) step step.0.1 (ap (λ (it : ShownState). it.workers) step.0.3) refl

none_proposed : (settings : Configuration) (number : ℕ) → proposals_by number (new_core settings) ≡ 0
none_proposed settings number = by_found (slice_get (new_core settings).shown.workers number) refl
  where
    by_found : (found : Option WorkerState) → slice_get (new_core settings).shown.workers number ≡ found → proposals_in found ≡ 0
    by_found None at = refl
    by_found (Some worker) at = ap (λ (it : WorkerState). it.proposals) (sym (at_replicated settings.workers number new_worker worker at))

few_by : (core : CoreState) (law : CoreLaw core) (number : ℕ) → proposals_by number core ≤ length core.shown.workers + 1
few_by core law number = by_found (slice_get core.shown.workers number) refl
  where
    by_found : (found : Option WorkerState) → slice_get core.shown.workers number ≡ found → proposals_in found ≤ length core.shown.workers + 1
    by_found None at = omega arith
    by_found (Some worker) at = ((is_lawful (core_size core) core.shown law.reached).each number worker at).proposals

pub few_proposals : ByEvents (λ settings events core. FewProposals settings events)
few_proposals settings events core given run number =
    let law = law_of settings events core given run in
    let same = made (proposals_by number) (proposals_with number) (proposals_made number) (new_core settings) core events given (opens settings) run
    ∙ ap (λ (n : ℕ). fold (proposals_with number) n events) (none_proposed settings number) in
    omega (arith, same, few_by core law number, (is_of_settings settings events core given run).workers)
