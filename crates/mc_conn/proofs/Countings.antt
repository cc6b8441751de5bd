-- Lemmas on what is counted of requests.
use Rattle.std.proofs.Common.{◌≡◌, ◌≢◌, ℕ, cond, List, [], ◌∷◌, ◌++◌, length, ◌+◌, ◌≤◌, Option, Some, None, Bool, false, sym, refl, ap, ◌∙◌, subst, arith, append-nil, append_assoc, length-append, sum_by}
use Rattle.std.proofs.lemmas.List.Sums.{sum_by-cons, sum_by_push}
use Rattle.mc_counters.specs.Kinds.{asked_for_by}
use Rattle.mc_counters.specs.Tallied.{CountedRequest, IsTallyOf, capped, is_of_kind, is_refused, items_found, keys_missed}
use Rattle.mc_counters.specs.declared.kinds.Asked.{Asked}
use Rattle.mc_counters.specs.declared.tally.Tally.{Tally}
use Rattle.mc_model.specs.Name.{tenant_named}
use Rattle.mc_model.specs.declared.command.Command.{Command}
use Rattle.mc_model.specs.declared.command.Command.TheVariants as command
use Rattle.mc_model.specs.declared.fault.Fault.{Fault}
use Rattle.mc_model.specs.declared.fault.Fault.TheVariants.{BadEvent, BadSettings, Input, LogFull, Memory, Output, Taken}
use Rattle.mc_model.specs.declared.reply.Reply.{Reply}
use Rattle.mc_model.specs.declared.reply.Reply.TheVariants.{Refused}
use Rattle.mc_model.specs.declared.reply.TheConstants.WireNo.{BAD_FORMAT, LINE_TOO_LONG, UNKNOWN_COMMAND}
use Rattle.mc_model.specs.declared.request.Request.{Request}
use Rattle.mc_model.specs.declared.request.Request.TheVariants.{Limit, Local, Logged, Quit, TooLong}
use Rattle.mc_model.specs.declared.settings.Limits.{Limits}
use Rattle.mc_conn.specs.declared.conn.Role.{Role}
use Rattle.mc_conn.specs.declared.conn.Role.TheVariants.{Admin, Tenant}
use Rattle.mc_conn.specs.Owed.{answered, setting_of}
use Rattle.mc_conn.specs.Parts.{Counts, GivesReply}
use Rattle.mc_conn.specs.Tallying.{AreTallied, CountsFor, HasCounted, HasCountedTo, IsOwedWith, asked_for, counted_at}

-- one request
pub counted_one : (role : Role) (request : Request) (bytes : List ℕ) (counted : List CountedRequest) → CountsFor role request bytes counted → AreTallied role (request ∷ []) bytes counted
counted_one role request bytes counted is = (bytes, [], counted, [], sym (append-nil bytes), sym (append-nil counted), is, (refl, refl))

-- one part after another
pub counted_append : (role : Role) (first second : List Request) (bytes more : List ℕ) (one two : List CountedRequest) → AreTallied role first bytes one →
    AreTallied role second more two → AreTallied role (first ++ second) (bytes ++ more) (one ++ two)
counted_append role [] second bytes more one two first later =
    subst (λ (all : List ℕ). AreTallied role second all (one ++ two)) (ap (λ (none : List ℕ). none ++ more) (sym first.0))
    (subst (λ (all : List CountedRequest). AreTallied role second more all) (ap (λ (none : List CountedRequest). none ++ two) (sym first.1)) later)
counted_append role (request ∷ requests) second bytes more one two (said, rest, a, others, bytes_are, counted_are, is, first) later = (
  said,
  rest ++ more,
  a,
  others ++ two,
  ap (λ (all : List ℕ). all ++ more) bytes_are ∙ append_assoc said rest more,
  ap (λ (all : List CountedRequest). all ++ two) counted_are ∙ append_assoc a others two,
  is,
  counted_append role requests second rest more others two first later,
)

-- nothing is counted
pub tallies_self : (past : List CountedRequest) (tally : Tally) → HasCounted past past tally tally
tallies_self past tally = record {
  counted = [];
  past = sym (append-nil past);
  counts = λ earlier is. subst (λ (all : List CountedRequest). IsTallyOf all tally) (sym (append-nil earlier)) is;
}

pub tallies_same : (old new : List CountedRequest) (tally : Tally) → new ≡ old → HasCounted old new tally tally
tallies_same old new tally same = subst (λ past. HasCounted old past tally tally) (sym same) (tallies_self old tally)

-- one part after another
pub tallies_trans : (a b c : List CountedRequest) (one two three : Tally) → HasCounted a b one two → HasCounted b c two three → HasCounted a c one three
tallies_trans a b c one two three first second = record {
  counted = first.counted ++ second.counted;
  past = second.past ∙ (ap (λ (all : List CountedRequest). all ++ second.counted) first.past ∙ append_assoc a first.counted second.counted);
  counts = λ earlier is. subst (λ (all : List CountedRequest). IsTallyOf all three) (append_assoc earlier first.counted second.counted)
      (second.counts (earlier ++ first.counted) (first.counts earlier is));
}

-- a part before which and after which nothing is counted
pub tallies_within : (a b c d : List CountedRequest) (one two : Tally) → b ≡ a → HasCounted b c one two → d ≡ c → HasCounted a d one two
tallies_within a b c d one two before is after =
    subst (λ past. HasCounted a past one two) (sym after) (subst (λ past. HasCounted past c one two) before is)

-- a number that counts the latest first counts it last as well
moved : (f : CountedRequest → ℕ) (one : CountedRequest) (earlier : List CountedRequest) → sum_by f (one ∷ earlier) ≡ sum_by f (earlier ++ one ∷ [])
moved f one earlier = let first = sum_by-cons f one earlier in let last = sum_by_push f earlier one in omega (arith, first, last)

pub latest_last : (one : CountedRequest) (earlier : List CountedRequest) (tally : Tally) → IsTallyOf (one ∷ earlier) tally → IsTallyOf (earlier ++ one ∷ []) tally
latest_last one earlier tally is = record {
  places = is.places;
  commands = λ place below. is.commands place below ∙ ap (λ (number : ℕ). capped number) (moved (λ one. cond (is_of_kind place one.asked) 1 0) one earlier);
  refusals = λ place below. is.refusals place below ∙ ap (λ (number : ℕ). capped number) (moved (λ one. cond (is_refused place one.reply) 1 0) one earlier);
  hits = is.hits ∙ ap (λ (number : ℕ). capped number) (moved (λ one. items_found one.reply) one earlier);
  misses = is.misses ∙ ap (λ (number : ℕ). capped number) (moved (λ one. keys_missed one.asked one.reply) one earlier);
}

-- one request is counted
pub tallies_one : (one : CountedRequest) (before after : List CountedRequest) (old new : Tally) → after ≡ before ++ one ∷ [] →
    ((earlier : List CountedRequest) → IsTallyOf earlier old → IsTallyOf (one ∷ earlier) new) → HasCounted before after old new
tallies_one one before after old new past counts = record {
  counted = one ∷ [];
  past = past;
  counts = λ earlier is. latest_last one earlier new (counts earlier is);
}

-- a reply was given to a request that is counted by it
counts_given : (role : Role) (request : Request) (asked : Option Asked) (quiet : Bool) (reply : Reply) (before after : List ℕ) (old new : List CountedRequest) →
    CountsFor role request (answered quiet reply) (record { asked = asked; reply = reply } ∷ []) → GivesReply asked quiet reply before after old new → Counts role request before after old new
counts_given role request asked quiet reply before after old new fits gives = record {
  bytes = answered quiet reply;
  counted = record { asked = asked; reply = reply } ∷ [];
  queued = gives.queued;
  past = gives.past;
  is = fits;
}

module _ (before after : List ℕ) (old new : List CountedRequest) where
  pub counts_logged : (tenant : ℕ) (asks : Command) (quiet : Bool) (reply : Reply) → GivesReply (Some (asked_for_by asks)) quiet reply before after old new →
      Counts (Tenant tenant) (Logged asks quiet) before after old new
  counts_logged tenant asks quiet reply = counts_given (Tenant tenant) (Logged asks quiet) (Some (asked_for_by asks)) quiet reply before after old new (reply, refl, refl)

  pub counts_unknown : (names : List (List ℕ)) (asks : Command) (quiet : Bool) → GivesReply None quiet (Refused UNKNOWN_COMMAND) before after old new →
      Counts (Admin names) (Logged asks quiet) before after old new
  counts_unknown names asks quiet =
      counts_given (Admin names) (Logged asks quiet) None quiet (Refused UNKNOWN_COMMAND) before after old new (Refused UNKNOWN_COMMAND, (refl, quiet, refl), refl)

  pub counts_tenants_limit : (tenant : ℕ) (name : List ℕ) (limits : Limits) (quiet : Bool) → GivesReply None quiet (Refused UNKNOWN_COMMAND) before after old new →
      Counts (Tenant tenant) (Limit name limits quiet) before after old new
  counts_tenants_limit tenant name limits quiet =
      counts_given (Tenant tenant) (Limit name limits quiet) None quiet (Refused UNKNOWN_COMMAND) before after old new (Refused UNKNOWN_COMMAND, (refl, quiet, refl), refl)

  pub counts_setting : (names : List (List ℕ)) (name : List ℕ) (limits : Limits) (quiet : Bool) (tenant : ℕ) (reply : Reply) → tenant_named names name ≡ Some tenant →
      GivesReply (Some (asked_for_by (command.Limit limits))) quiet reply before after old new → Counts (Admin names) (Limit name limits quiet) before after old new
  counts_setting names name limits quiet tenant reply is =
      let asked = Some (asked_for_by (command.Limit limits)) in
      counts_given (Admin names) (Limit name limits quiet) asked quiet reply before after old new (
        reply,
        subst (λ named. IsOwedWith (setting_of named limits quiet) reply (answered quiet reply)) (sym is) refl,
        ap (λ named. record { asked = asked_for (setting_of named limits quiet); reply = reply } ∷ []) (sym is),
      )

  pub counts_unnamed : (names : List (List ℕ)) (name : List ℕ) (limits : Limits) (quiet : Bool) → tenant_named names name ≡ None →
      GivesReply None false (Refused BAD_FORMAT) before after old new → Counts (Admin names) (Limit name limits quiet) before after old new
  counts_unnamed names name limits quiet is =
      let refusal = Refused BAD_FORMAT in
      counts_given (Admin names) (Limit name limits quiet) None false refusal before after old new (
        refusal,
        subst (λ named. IsOwedWith (setting_of named limits quiet) refusal (answered false refusal)) (sym is) (refl, false, refl),
        ap (λ named. record { asked = asked_for (setting_of named limits quiet); reply = refusal } ∷ []) (sym is),
      )

  pub counts_local : (role : Role) (said : Reply) (quiet : Bool) → GivesReply None quiet said before after old new → Counts role (Local said quiet) before after old new
  counts_local (Tenant tenant) said quiet = counts_given (Tenant tenant) (Local said quiet) None quiet said before after old new (said, (refl, quiet, refl), refl)
  counts_local (Admin names) said quiet = counts_given (Admin names) (Local said quiet) None quiet said before after old new (said, (refl, quiet, refl), refl)

  pub counts_long : (role : Role) → GivesReply None false (Refused LINE_TOO_LONG) before after old new → Counts role TooLong before after old new
  counts_long (Tenant tenant) = counts_given (Tenant tenant) TooLong None false (Refused LINE_TOO_LONG) before after old new (Refused LINE_TOO_LONG, (refl, false, refl), refl)
  counts_long (Admin names) = counts_given (Admin names) TooLong None false (Refused LINE_TOO_LONG) before after old new (Refused LINE_TOO_LONG, (refl, false, refl), refl)

-- nothing is counted for quit
pub counts_quit : (role : Role) (queue : List ℕ) (past : List CountedRequest) → Counts role Quit queue queue past past
counts_quit role queue past = record { bytes = []; counted = []; queued = sym (append-nil queue); past = sym (append-nil past); is = (refl, refl) }

-- nothing is counted for another fault than that memory ran out
pub counts_no_other : (fault : Fault) → fault ≢ Memory → counted_at fault ≡ []
counts_no_other Memory isnt = absurd (isnt refl)
counts_no_other LogFull isnt = refl
counts_no_other Taken isnt = refl
counts_no_other Input isnt = refl
counts_no_other Output isnt = refl
counts_no_other BadEvent isnt = refl
counts_no_other BadSettings isnt = refl

-- what is counted before a fault, and for it
pub tallies_to : (a b : List CountedRequest) (one two three : Tally) (fault : Fault) → HasCounted a b one two →
    ((earlier : List CountedRequest) → IsTallyOf earlier two → IsTallyOf (earlier ++ counted_at fault) three) → HasCountedTo a b one three fault
tallies_to a b one two three fault first later = record {
  counted = first.counted;
  past = first.past;
  counts = λ earlier is. subst (λ (all : List CountedRequest). IsTallyOf all three) (append_assoc earlier first.counted (counted_at fault))
      (later (earlier ++ first.counted) (first.counts earlier is));
}

-- a part without a fault, and then one that met it
pub tallies_later : (fault : Fault) (a b c : List CountedRequest) (one two three : Tally) → HasCounted a b one two → HasCountedTo b c two three fault → HasCountedTo a c one three fault
tallies_later fault a b c one two three first second = record {
  counted = first.counted ++ second.counted;
  past = second.past ∙ (ap (λ (all : List CountedRequest). all ++ second.counted) first.past ∙ append_assoc a first.counted second.counted);
  counts = λ earlier is. subst (λ (all : List CountedRequest). IsTallyOf all three)
      (append_assoc earlier first.counted (second.counted ++ counted_at fault) ∙ ap (λ (all : List CountedRequest). earlier ++ all) (sym (append_assoc first.counted second.counted (counted_at fault))))
      (second.counts (earlier ++ first.counted) (first.counts earlier is));
}

-- one request counts as one reply at most
pub counts_few : (role : Role) (request : Request) (bytes : List ℕ) (counted : List CountedRequest) → CountsFor role request bytes counted → length counted ≤ 1
counts_few role (Logged command quiet) bytes counted is = omega (arith, ap length is.2)
counts_few role (Limit name limits quiet) bytes counted is = omega (arith, ap length is.2)
counts_few role (Local reply quiet) bytes counted is = omega (arith, ap length is.2)
counts_few role Quit bytes counted is = omega (arith, ap length is.1)
counts_few role TooLong bytes counted is = omega (arith, ap length is.2)

-- a request that was taken: one fewer may be taken, and one more got a reply, or none did
pub answers_one : (role : Role) (request : Request) (before after : List ℕ) (old new : List CountedRequest) (most left : ℕ) → Counts role request before after old new →
    left + 1 ≡ most → length new + left ≤ length old + most
answers_one role request before after old new most left counts one_less =
    omega (arith, ap length counts.past, length-append old counts.counted, counts_few role request counts.bytes counts.counted counts.is, one_less)
