-- Whose the numbers of commands are: each was announced as its worker served a connection, and is owned
-- by the place at which that one has ended.
use Rattle.std.proofs.Common.{◌++◌, ◌+◌, ◌<◌, ◌∙◌, ◌∷◌, ◌≡◌, ◌≤◌, ◌⊎◌, Bool, List, Some, [], ap, append_assoc, arith, inl, inr, length, length-append, refl, slice_get, subst, sym, ℕ}
use Rattle.std.proofs.lemmas.Bool.{eqb-true}
use Rattle.std.proofs.lemmas.Option.{none-some, same_Some}
use Rattle.lists.proofs.Public.{at_seam, begins_longer, begins_self, begins_through}
use Rattle.lists.specs.Lists.{BeginsWith}
use Rattle.mc_connections.proofs.Askings.{Asking, as_asked, asking_catching, asking_first, asking_on_next_log, asking_serving, asking_taking, below_or_above, view_of}
use Rattle.mc_connections.proofs.EachAnswered.{rest_of}
use Rattle.mc_connections.proofs.Lives.{IsSound, OfAny, PartsAddUp, WereAnsweredUnder, ends_anywhere, final_then, nothing_at, pick, picks_one, picks_other, same_key, sound_catching, sound_first, sound_in_turn, sound_on_next_log, sound_serving, sound_taking, sound_working}
use Rattle.mc_connections.proofs.Workings.{step_onward, works_onward}
use Rattle.mc_connections.specs.InTurn.{HaveServedInTurn, InTurn, followed_by, no_worker, nobody, one_on_next_log}
use Rattle.mc_connections.specs.Life.{IsSince, WasAnsweredUnder, WereAnsweredApart}
use Rattle.mc_connections.specs.Asking.{HaveBeenAsked, WereAnsweredAsAsked}
use Rattle.mc_connections.specs.Serving.{connection_at}
use Rattle.mc_connections.specs.Working.{IsEmpty, KeepsUp, ServesOne, Standing, TakesIn, Works, begins, goes_on, standing}
use Rattle.mc_connections.specs.declared.connection.Connection.{Connection}
use Rattle.mc_connections.specs.declared.connections.Connections.{Connections}
use Rattle.uc_worker.specs.Worker.{announced_of}
use Rattle.uc_worker.specs.declared.worker.Worker.{Worker}

-- who owns a number
abbrev OwnedBy : List Worker → (ℕ → ℕ → ℕ) → ℕ → ℕ → ℕ → Type 0
OwnedBy begun owner place log number = (owner log number ≡ place) × IsSince begun log number

-- an arrival was admitted, a connection was served, or the worker caught up
abbrev Step : Bool → Standing → Standing → Type 0
Step until before after = TakesIn before after ⊎ ServesOne until before after ⊎ KeepsUp before after

-- where connections end, before a step; and where the one that was served in it does
abbrev final_at : (until : Bool) (before after : Standing) → Step until before after → (ℕ → ℕ) → ℕ → ℕ
final_at until before after (inl takes) final = final
final_at until before after (inr (inl one)) final = final_then until before after one final
final_at until before after (inr (inr caught)) final = final

abbrev who_at : (until : Bool) (before after : Standing) → Step until before after → (ℕ → ℕ) → ℕ
who_at until before after (inl takes) final = 0
who_at until before after (inr (inl one)) final = final_then until before after one final one.key
who_at until before after (inr (inr caught)) final = 0

-- where connections end, before all of a worker's steps; and who owns the numbers of these
abbrev finals : (until : Bool) (first last : Standing) → Works until first last → (ℕ → ℕ) → ℕ → ℕ
finals until first _ begins final = final
finals until first _ (goes_on between last works step) final = finals until first between works (final_at until between last step final)

abbrev owners : (until : Bool) (first last : Standing) → Works until first last → (ℕ → ℕ) → ℕ → ℕ
owners until first _ begins final number = 0
owners until first _ (goes_on between last works step) final number =
    pick (owners until first between works (final_at until between last step final) number) (who_at until between last step final)
    (below_or_above number (length (announced_of between.worker)))

picks_below : (number high one other : ℕ) (either : (number < high) ⊎ ((i : ℕ) × (number ≡ high + i))) → number < high → pick one other either ≡ one
picks_below number high one other (inl below) low = refl
picks_below number high one other (inr above) low = let no : ⊥ = omega (arith, low, above.1) in absurd no

picks_above : (number high one other : ℕ) (either : (number < high) ⊎ ((i : ℕ) × (number ≡ high + i))) → high ≤ number → pick one other either ≡ other
picks_above number high one other (inl below) far = let no : ⊥ = omega (arith, far, below) in absurd no
picks_above number high one other (inr above) far = refl

asking_step : (owner : ℕ → ℕ → ℕ) (until : Bool) (past : InTurn) (from : ℕ) (before after : Standing) (step : Step until before after) (final : ℕ → ℕ) →
    IsSound OfAny ends_anywhere past.served before → Asking owner (final_at until before after step final) past from (view_of before) →
    ((number : ℕ) → length (announced_of before.worker) ≤ number → number < length (announced_of after.worker) → owner (length past.served) number ≡ who_at until before after step final) →
    Asking owner final past from (view_of after)
asking_step owner until past from before after (inl takes) final sound asking own = asking_taking owner final past from before after asking takes
asking_step owner until past from before after (inr (inl one)) final sound asking own = asking_serving owner final until past from before after sound one asking own
asking_step owner until past from before after (inr (inr caught)) final sound asking own = asking_catching owner final past from before after asking caught

module _ (begun : List Worker) (owner : ℕ → ℕ → ℕ) where
  owned_step : (until : Bool) (past : List Worker) (before after : Standing) (step : Step until before after) (final : ℕ → ℕ) →
      IsSound (OwnedBy begun owner) (final_at until before after step final) past before →
      ((number : ℕ) → length (announced_of before.worker) ≤ number → number < length (announced_of after.worker) →
      OwnedBy begun owner (who_at until before after step final) (length past) number) →
      IsSound (OwnedBy begun owner) final past after
  owned_step until past before after (inl takes) final sound own = sound_taking (OwnedBy begun owner) final past before after sound takes
  owned_step until past before after (inr (inl one)) final sound own = sound_serving (OwnedBy begun owner) final until past before after one sound own
  owned_step until past before after (inr (inr caught)) final sound own = sound_catching (OwnedBy begun owner) final past before after sound caught

  -- where somebody owns the numbers of a log so, all its connections do
  owned_working : (until : Bool) (past : List Worker) (first last : Standing) (works : Works until first last) (final : ℕ → ℕ) → slice_get begun (length past) ≡ Some first.worker →
      IsSound (OwnedBy begun owner) (finals until first last works final) past first →
      ((number : ℕ) → number < length (announced_of last.worker) → owner (length past) number ≡ owners until first last works final number) → IsSound (OwnedBy begun owner) final past last
  owned_working until past first _ begins final begins_so sound agrees = sound
  owned_working until past first _ (goes_on between last works step) final begins_so sound agrees =
      let high = length (announced_of between.worker) in
      let before = final_at until between last step final in
      let who = who_at until between last step final in
      let longer = begins_longer _ _ (step_onward until between last step).announced in
      let since = begins_longer _ _ (works_onward {until = until} first between works).announced in
      owned_step until past between last step final
      (owned_working until past first between works before begins_so sound
      (λ number low. agrees number (omega (arith, low, longer)) ∙ picks_below number high (owners until first between works before number) who (below_or_above number high) low))
      (λ number far low. (
        agrees number low ∙ picks_above number high (owners until first between works before number) who (below_or_above number high) far,
        λ worker at. omega (arith, far, since, ap (λ (worker : Worker). length (announced_of worker)) (same_Some worker first.worker (sym at ∙ begins_so))),
      ))

-- the same over logs
abbrev all_owners : (who : InTurn) (connections : Connections) → HaveServedInTurn who connections → (ℕ → ℕ) → ℕ → ℕ → ℕ
all_owners _ connections (no_worker _ new) final log number = 0
all_owners _ connections (one_on_next_log who first _ until before after served works) final log number =
    pick (owners until (standing before first) (standing after connections) works final number)
    (all_owners who first served (finals until (standing before first) (standing after connections) works final) log number) (same_key log (length who.served))

abbrev Agrees : (ℕ → ℕ → ℕ) → (ℕ → ℕ → ℕ) → ℕ → Type 0
Agrees owner other logs = (log number : ℕ) → log < logs → owner log number ≡ other log number

as_many : (who : InTurn) (connections : Connections) → HaveServedInTurn who connections → length who.begun ≡ length who.served
as_many _ connections (no_worker _ new) = refl
as_many _ connections (one_on_next_log who first _ until before after served works) =
    length-append who.begun (before ∷ []) ∙ ap (λ n. n + 1) (as_many who first served) ∙ sym (length-append who.served (after ∷ []))

module _ (laws : PartsAddUp) (begun : List Worker) (owner : ℕ → ℕ → ℕ) where
  -- the worker that is next began so
  begins_next : (who : InTurn) (connections : Connections) → HaveServedInTurn who connections → (worker : Worker) → BeginsWith begun (who.begun ++ worker ∷ []) →
      slice_get begun (length who.served) ≡ Some worker
  begins_next who connections served worker front =
      ap (slice_get begun) (sym (as_many who connections served)) ∙ ap (λ list. slice_get list (length who.begun)) (front.1 ∙ append_assoc who.begun (worker ∷ []) front.0)
      ∙ at_seam who.begun worker front.0

  owned_in_turn : (who : InTurn) (connections : Connections) (served : HaveServedInTurn who connections) (final : ℕ → ℕ) → BeginsWith begun who.begun →
      Agrees owner (all_owners who connections served final) (length who.served) → (next : Worker) → IsSound (OwnedBy begun owner) final who.served (standing next connections)
  owned_in_turn _ connections (no_worker _ new) final front agrees next = sound_first (OwnedBy begun owner) laws final (standing next connections) new
  owned_in_turn _ connections (one_on_next_log who first _ until before after served works) final front agrees next =
      let here = standing before first in
      let there = standing after connections in
      let longer = length-append who.served (after ∷ []) in
      sound_on_next_log (OwnedBy begun owner) final who.served after connections next
      (owned_working begun owner until who.served here there works final (begins_next who first served before front)
      (owned_in_turn who first served (finals until here there works final) (begins_through begun (who.begun ++ before ∷ []) who.begun front (before ∷ [], refl))
      (λ log number low. agrees log number (omega (arith, low, longer)) ∙ picks_other log (length who.served) _ _ (same_key log (length who.served)) (λ is. omega (arith, is, low)))
      before)
      (λ number low. agrees (length who.served) number (omega (arith, longer)) ∙ picks_one (length who.served) (length who.served) _ _ (same_key (length who.served) (length who.served)) refl))

-- one of the connections that were answered
answered_at : (Own : ℕ → ℕ → ℕ → Type 0) (workers : List Worker) (ended : List Connection) → WereAnsweredUnder Own workers ended → (later earlier : List Connection) (connection : Connection) →
    ended ≡ later ++ connection ∷ earlier → WasAnsweredUnder (Own (length earlier)) workers connection
answered_at Own workers [] all [] earlier connection is = let no : ⊥ = omega (arith, ap length is) in absurd no
answered_at Own workers [] all (y ∷ later) earlier connection is = let no : ⊥ = omega (arith, ap length is) in absurd no
answered_at Own workers (x ∷ list) all [] earlier connection is =
    subst (λ (connection : Connection). WasAnsweredUnder (Own (length earlier)) workers connection) (same_Some x connection (ap (λ (list : List Connection). slice_get list 0) is))
    (subst (λ (earlier : List Connection). WasAnsweredUnder (Own (length earlier)) workers x) (ap rest_of is) all.0)
answered_at Own workers (x ∷ list) all (y ∷ later) earlier connection is = answered_at Own workers list all.1 later earlier connection (ap rest_of is)

-- each connection that has ended was answered by commands that it owns
apart_answers : PartsAddUp → (who : InTurn) (connections : Connections) (served : HaveServedInTurn who connections) → (later earlier : List Connection) (connection : Connection) →
    connections.ended.connections ≡ later ++ connection ∷ earlier →
    WasAnsweredUnder (OwnedBy who.begun (all_owners who connections served ends_anywhere) (length earlier)) who.served connection
apart_answers laws _ connections (no_worker _ new) =
    let owner = all_owners nobody connections (no_worker connections new) ends_anywhere in
    answered_at (OwnedBy [] owner) [] connections.ended.connections (subst (WereAnsweredUnder (OwnedBy [] owner) []) (sym new.1) tt)
apart_answers laws _ connections (one_on_next_log who first _ until before after served works) =
    let here = standing before first in
    let there = standing after connections in
    let all = one_on_next_log who first connections until before after served works in
    let then = followed_by who before after in
    let owner = all_owners then connections all ends_anywhere in
    answered_at (OwnedBy then.begun owner) then.served connections.ended.connections
    (owned_working then.begun owner until who.served here there works ends_anywhere (begins_next laws then.begun owner who first served before (begins_self then.begun))
    (owned_in_turn laws then.begun owner who first served (finals until here there works ends_anywhere) (before ∷ [], refl)
    (λ log number low. picks_other log (length who.served) _ _ (same_key log (length who.served)) (λ is. omega (arith, is, low)))
    before)
    (λ number low. picks_one (length who.served) (length who.served) _ _ (same_key (length who.served) (length who.served)) refl)).ended

pub apart_in_turn : PartsAddUp → (who : InTurn) (connections : Connections) → HaveServedInTurn who connections → WereAnsweredApart who.begun who.served connections.ended.connections
apart_in_turn laws who connections served = record { owner = all_owners who connections served ends_anywhere; answered = apart_answers laws who connections served }

-- whoever owns a number has asked for its command
asking_working : (owner : ℕ → ℕ → ℕ) (until : Bool) (past : InTurn) (from : ℕ) (first last : Standing) (works : Works until first last) (final : ℕ → ℕ) →
    IsSound OfAny ends_anywhere past.served first → Asking owner (finals until first last works final) past from (view_of first) →
    ((number : ℕ) → number < length (announced_of last.worker) → owner (length past.served) number ≡ owners until first last works final number) → Asking owner final past from (view_of last)
asking_working owner until past from first _ begins final sound asking agrees = asking
asking_working owner until past from first _ (goes_on between last works step) final sound asking agrees =
    let high = length (announced_of between.worker) in
    let before = final_at until between last step final in
    let who = who_at until between last step final in
    let longer = begins_longer _ _ (step_onward until between last step).announced in
    let so_far =
    asking_working owner until past from first between works before sound asking
    (λ number low. agrees number (omega (arith, low, longer)) ∙ picks_below number high (owners until first between works before number) who (below_or_above number high) low)
    in
    asking_step owner until past from between last step final (sound_working until past.served first between sound works) so_far
    (λ number far low. agrees number low ∙ picks_above number high (owners until first between works before number) who (below_or_above number high) far)

asking_in_turn : PartsAddUp → (owner : ℕ → ℕ → ℕ) (who : InTurn) (connections : Connections) (served : HaveServedInTurn who connections) (final : ℕ → ℕ) →
    Agrees owner (all_owners who connections served final) (length who.served) → (next : Worker) → Asking owner final who (length (announced_of next)) (view_of (standing next connections))
asking_in_turn laws owner _ connections (no_worker _ new) final agrees next = asking_first owner final (standing next connections) new
asking_in_turn laws owner _ connections (one_on_next_log who first _ until before after served works) final agrees next =
    let here = standing before first in
    let there = standing after connections in
    let longer = length-append who.served (after ∷ []) in
    asking_on_next_log owner final who before after next (connection_at connections) connections.ended.connections
    (asking_working owner until who (length (announced_of before)) here there works final (sound_in_turn laws who first served before)
    (asking_in_turn laws owner who first served (finals until here there works final)
    (λ log number low. agrees log number (omega (arith, low, longer)) ∙ picks_other log (length who.served) _ _ (same_key log (length who.served)) (λ is. omega (arith, is, low)))
    before)
    (λ number low. agrees (length who.served) number (omega (arith, longer)) ∙ picks_one (length who.served) (length who.served) _ _ (same_key (length who.served) (length who.served)) refl))

pub as_asked_in_turn : PartsAddUp → (who : InTurn) (connections : Connections) → HaveServedInTurn who connections → IsEmpty connections →
    WereAnsweredAsAsked who.begun who.served connections.ended.connections
as_asked_in_turn laws _ connections (no_worker _ new) empty = record {
  apart = record {
    owner = all_owners nobody connections (no_worker connections new) ends_anywhere;
    answered = apart_answers laws nobody connections (no_worker connections new);
  };
  asked = record {
    asker = λ which. 0;
    request = λ which. 0;
    asked = λ which worker is. absurd (none-some worker is.is);
    in_order = λ one two first second a b earlier same. absurd (none-some first a.is);
  };
  owns = λ which worker is. absurd (none-some worker is.is);
}
as_asked_in_turn laws _ connections (one_on_next_log who first _ until before after served works) empty =
    let all = one_on_next_log who first connections until before after served works in
    let then = followed_by who before after in
    let owner = all_owners then connections all ends_anywhere in
    as_asked owner ends_anywhere then (length (announced_of after)) (view_of (standing after connections)) (asking_in_turn laws owner then connections all ends_anywhere (λ log number low. refl) after)
    (nothing_at connections.by_key.slots (eqb-true _ 0 empty)) (apart_answers laws then connections all)

-- all that workers have announced, one after another, was asked for by those whom they have served
pub asked_in_turn : PartsAddUp → (who : InTurn) (connections : Connections) → HaveServedInTurn who connections → IsEmpty connections →
    HaveBeenAsked who.begun who.served connections.ended.connections
asked_in_turn laws who connections served empty = (as_asked_in_turn laws who connections served empty).asked
