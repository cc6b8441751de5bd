-- What is printed while tenants are served adds up, and the workers that come back are of the log.
use Rattle.std.proofs.Common.{◌≡◌, ◌∙◌, ℕ, true, false, inl, inr, ⊎_elim, refl, Contains, List, [], ◌∷◌, ◌++◌, All, Option, Some, None, Result, Ok, Err, length, map, ap, sym, subst, arith}
use Rattle.std.proofs.lemmas.List.{map-append}
use Rattle.std.proofs.lemmas.List.Elements.{Contains-append_left, Contains-append_right, All-cons, All-head, All-nil, All-tail}
use Rattle.std.proofs.lemmas.Slice.Zip.{AllZip-long}
use Rattle.std.specs.List.{AllZip}
use Rattle.std.specs.declared.net.socket_addr.SocketAddrV4.{SocketAddrV4}
use Rattle.std.specs.Prelude.{MatchResult}
use Rattle.clap.specs.Walk.{Text}
use Rattle.mc_conn.specs.Owed.{IsAmong}
use Rattle.mc_conn.specs.declared.conn.Role.{Role}
use Rattle.uc_worker.specs.Going.{Continues}
use Rattle.mc_model.specs.declared.fault.Fault.{Fault}
use Rattle.mc_model.specs.Settings.{Configuration}
use Rattle.mc_net.specs.Beginning.{HaltsServing}
use Rattle.mc_programs.specs.Waiting.{FailsToPush, PushesAll}
use Rattle.mc_server.proofs.Waited.{all_more, fails_more}
use Rattle.mc_server.proofs.Numbered.{asked_roles}
use Rattle.mc_server.proofs.TenantLists.{mapped}
use Rattle.mc_server.specs.Listeners.{AreAsked, CountsFrom, StopsListening, asked_at, clients_asked, listener_if, roles_asked}
use Rattle.mc_server.specs.Crew.{AreWorkersOf, number_of}
use Rattle.mc_server.specs.Network.{IsReady, EndsServing, StopsRun, StopsServing, names_of}
use Rattle.mc_server.specs.Logs.{WereServed}
use Rattle.mc_server.specs.NetworkTexts.{done_line, ready_text}
use Rattle.mc_server.specs.Checking.{ChecksWords}
use Rattle.mc_server.specs.NetworkWords.{Asks, WordsGive, AsksForCheck, AsksForNone, AsksForService, AsksInVain, IsChecked, NetworkAsked, NetworkGiven, given_by_words, given_in, metrics_name, name_if, served_by}
use Rattle.mc_server.specs.declared.network_words.NetworkWords.{NetworkWords}
use Rattle.mc_server.specs.declared.network_words.Service.{Service}
use Rattle.mc_server.specs.declared.listeners.Stop.{Stop}
use Rattle.mc_server.specs.declared.listeners.Stop.TheVariants.{CannotListen, Failed}
use Rattle.mc_server.specs.declared.network_texts.Listening.{Listening}
use Rattle.mc_server.specs.declared.wanted.Wanted.{Wanted}
use Rattle.mc_stream.specs.Stream.{Outflow}
use Rattle.uc_log.specs.declared.log.Log.{Log}
use Rattle.uc_worker.specs.declared.worker.Worker.{Worker}
use Rattle.uc_worker.specs.AllWorkers.{AreOfLog}

-- a fault ended the service before the tenants had been served
pub serving_halts : {O : Type 0} (tells : O → Outflow) (settings : Configuration) (most : ℕ) (fault : Fault) (text : List ℕ) (listening : List Listening) (before after : O) → text ≡ ready_text listening
    → HaltsServing (λ (one other : O). PushesAll text (tells one) (tells other)) (λ (one other : O) (stop : Fault). FailsToPush text (tells one) (tells other) stop) before after fault
    → StopsServing settings most listening (tells before) (tells after) fault
serving_halts tells settings most fault text listening before after is halts =
    ⊎_elim
    (λ failed. ⊎_elim
    (λ nothing. inl (failed.0, ap tells nothing))
    (λ ready. inr (inl (failed.0, subst (λ known. PushesAll known (tells before) (tells after)) is ready)))
    failed.1)
    (λ stopped. inr (inr (inl (subst (λ known. FailsToPush known (tells before) (tells after) fault) is stopped))))
    halts

-- how many places were used was printed after the listeners' lines, or a fault came
pub finished : (settings : Configuration) (most number : ℕ) → WereServed settings most number → (result : Result (Unit {0}) Fault) (listening : List Listening) (before now after : Outflow) →
    IsReady listening before now → MatchResult result (λ _. PushesAll (done_line number) now after) (FailsToPush (done_line number) now after) →
    MatchResult result (λ _. EndsServing settings most listening before after) (StopsServing settings most listening before after)
finished settings most number were (Ok nothing) listening before now after ready done =
    (number, were, all_more (ready_text listening) (done_line number) before now after ready done)
finished settings most number were (Err fault) listening before now after ready fails =
    inr (inr (inr (number, were, fails_more (ready_text listening) (done_line number) before now after ready fault fails)))

-- the workers that come back are of the log, and as many
back_of : (log : Log) (workers back : List Worker) → AllZip Continues workers back → AreOfLog log workers → AreOfLog log back
back_of log [] [] onward of = of
back_of log [] (y ∷ ys) onward of = absurd onward
back_of log (x ∷ xs) [] onward of = absurd onward
back_of log (x ∷ xs) (y ∷ ys) onward of =
    let P = λ (worker : Worker). worker.log.now ≡ log in
    All-cons P y ys (ap (λ lent. lent.now) onward.0.log ∙ All-head P x xs of) (back_of log xs ys onward.1 (All-tail P x xs of))

pub back_numbers : (workers back : List Worker) → AllZip Continues workers back → map number_of back ≡ map number_of workers
back_numbers [] [] onward = refl
back_numbers [] (y ∷ ys) onward = absurd onward
back_numbers (x ∷ xs) [] onward = absurd onward
back_numbers (x ∷ xs) (y ∷ ys) onward = let rest = back_numbers xs ys onward.1 in λ i. onward.0.same.1 i ∷ rest i

-- so they are all the workers of the log
pub are_workers : (settings : Configuration) (log : Log) (workers back : List Worker) → AllZip Continues workers back → AreWorkersOf settings log workers → AreWorkersOf settings log back
are_workers settings log workers back onward all = record {
  opened = all.opened;
  of = back_of log workers back onward all.of;
  many = omega (arith, AllZip-long Continues workers back onward, all.many);
  numbers = subst (CountsFrom 0) (sym (back_numbers workers back onward)) all.numbers;
}

-- the log has each listener's role
from_map : {A B : Type 0} (f : A → B) (P : B → Type 0) (xs : List A) → All P (map f xs) → All (λ x. P (f x)) xs
from_map f P [] h = All-nil (λ x. P (f x))
from_map f P (x ∷ xs) h = All-cons (λ x. P (f x)) x xs (All-head P (f x) (map f xs) h) (from_map f P xs (All-tail P (f x) (map f xs) h))

pub are_among : {A : Type 0} (role : A → Role) (listeners : List A) (asked : NetworkAsked) (count : ℕ) → map role listeners ≡ roles_asked asked → length asked.tenants ≡ count
    → All (λ listener. IsAmong (role listener) count) listeners
are_among role listeners asked count e long = from_map role (λ one. IsAmong one count) listeners (subst (All (λ one. IsAmong one count)) (sym e) (asked_roles asked count long))

-- what is to be bound is what is asked for
pub names_wanted : (asked : NetworkAsked) (wanted : List Wanted) → AreAsked asked wanted → map (λ (one : Wanted). one.name.now) wanted ≡ map (λ listener. listener.name) (clients_asked asked)
names_wanted asked wanted are = sym (mapped asked_at (λ listener. listener.name) wanted) ∙ ap (map (λ listener. listener.name)) are.listeners

-- the names of the listeners of clients, and that of the one for metrics
names_are : (asked : NetworkAsked) → names_of asked ≡ map (λ listener. listener.name) (clients_asked asked) ++ name_if metrics_name asked.metrics
names_are asked = map-append (λ listener. listener.name) (clients_asked asked) (listener_if metrics_name asked.metrics) ∙ ap (λ names. map (λ listener. listener.name) (clients_asked asked) ++ names) (named asked.metrics)
  where
    named : (address : Option SocketAddrV4) → map (λ listener. listener.name) (listener_if metrics_name address) ≡ name_if metrics_name address
    named None = refl
    named (Some address) = refl

-- not all listeners were bound, and nothing was printed
pub listening_stops : (names : List (List ℕ)) (asked : NetworkAsked) (stop : Stop) (before : Outflow) → names ≡ map (λ listener. listener.name) (clients_asked asked)
    → StopsListening names stop → StopsRun asked before before stop
listening_stops names asked (CannotListen name) before e stops =
    let among = subst (λ (known : List (List ℕ)). Contains known name.now) e stops in
    (subst (λ (known : List (List ℕ)). Contains known name.now) (sym (names_are asked)) (Contains-append_left _ (name_if metrics_name asked.metrics) name.now among), refl)
listening_stops names asked (Failed fault) before e stops = inl (stops, refl)

-- nor was the one for metrics
pub metrics_stop : (asked : NetworkAsked) (stop : Stop) (before : Outflow) → StopsListening (name_if metrics_name asked.metrics) stop → StopsRun asked before before stop
metrics_stop asked (CannotListen name) before stops = (
  subst (λ (known : List (List ℕ)). Contains known name.now) (sym (names_are asked))
      (Contains-append_right (map (λ listener. listener.name) (clients_asked asked)) (name_if metrics_name asked.metrics) name.now stops),
  refl,
)
metrics_stop asked (Failed fault) before stops = inl (stops, refl)

-- what the words that were read ask for is what the words ask for
pub for_service : (words : List Text) (read : NetworkWords) (service : Service) → WordsGive words read → read.check ≡ false → Asks (given_in read) (served_by service) → IsChecked service
    → AsksForService words (served_by service)
for_service words read service reads serve asks checked =
    (reads.taken, sym reads.check ∙ serve, subst (λ (known : NetworkGiven). Asks known (served_by service)) reads.given asks, checked.servable)

pub for_none : (words : List Text) (read : NetworkWords) → WordsGive words read → read.check ≡ false → AsksInVain (given_in read) → AsksForNone words
for_none words read reads serve vain = (reads.taken, sym reads.check ∙ serve, subst AsksInVain reads.given vain)

-- what a check of the words that were read says is said of the words
pub for_check : (words : List Text) (read : NetworkWords) (status : ℕ) (before after errors_before errors : Outflow) → WordsGive words read → read.check ≡ true
    → ChecksWords (given_in read) status before after errors_before errors
    → AsksForCheck words × ChecksWords (given_by_words words) status before after errors_before errors
for_check words read status before after errors_before errors reads check says =
    ((reads.taken, sym reads.check ∙ check), subst (λ (known : NetworkGiven). ChecksWords known status before after errors_before errors) reads.given says)
