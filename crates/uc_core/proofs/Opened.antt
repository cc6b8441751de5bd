-- A core before any event.
use Rattle.std.proofs.Common.{◌≡◌, ℕ, ◌≤◌, List, [], ◌∷◌, ◌++◌, length, replicate, refl, sym, ap, ◌∙◌, subst, arith, vec_capacity}
use Rattle.std.specs.Global.{Vec}
use Rattle.std.proofs.lemmas.Option.{none-some}
use Rattle.mc_model.specs.declared.request.Entry.{Entry}
use Rattle.mc_model.specs.declared.settings.Limits.{Limits}
use Rattle.mc_model.specs.Replay.{empty_tables}
use Rattle.mc_model.specs.Settings.{Configuration, IsLawful}
use Rattle.mc_model.specs.Shown.{new_worker}
use Rattle.uc_core.specs.Core.{ReplayState, new_core}
use Rattle.uc_core.specs.Fields.{IsCore, core_of}
use Rattle.uc_core.specs.Kept.{AreEmpty, AreFresh, IsFresh, IsInOrder, replay_of, shown_worker}
use Rattle.uc_core.specs.declared.machine.Core.TheInside.{Inside}
use Rattle.uc_core.specs.declared.worker.Worker.{Worker}
use Rattle.uc_core.proofs.Each.{EachIs-push, map-alike}

pub AreEmpty-none : AreEmpty []
AreEmpty-none number announced is = absurd (none-some announced is)

pub AreEmpty-push : (entries : List (Vec Entry)) (announced : Vec Entry) → AreEmpty entries → announced.items ≡ [] → AreEmpty (entries ++ announced ∷ [])
AreEmpty-push = EachIs-push (λ (announced : Vec Entry). announced.items ≡ [])

pub AreFresh-none : (many : ℕ) (openings : List Limits) → AreFresh many openings []
AreFresh-none many openings number worker is = absurd (none-some worker is)

pub AreFresh-push : (many : ℕ) (openings : List Limits) (workers : List Worker) (worker : Worker) → AreFresh many openings workers →
    IsFresh many openings worker → AreFresh many openings (workers ++ worker ∷ [])
AreFresh-push many openings = EachIs-push (IsFresh many openings)

-- fields of these settings, before any event
pub record IsNew (settings : Configuration) (s : Inside) : Type 0 where
  pub places : s.places ≡ settings.places
  pub openings : s.openings.items ≡ settings.tenants
  pub decided : s.decided.items ≡ []
  pub empty : AreEmpty s.entries.items
  pub lists : length s.entries.items ≡ settings.workers
  pub fresh : AreFresh settings.workers settings.tenants s.workers.items
  pub count : length s.workers.items ≡ settings.workers

as_many : {X Y : Type 0} (xs : List X) (n : ℕ) (y : Y) → length xs ≡ n → replicate (length xs) y ≡ replicate n y
as_many xs n y is = ap (λ k. replicate k y) is

module _ (settings : Configuration) (s : Inside) (new : IsNew settings s) where
  pub new_core-is : core_of s ≡ new_core settings
  new_core-is =
      let workers = s.workers.items in
      let entries = s.entries.items in
      let before : ReplayState = record { replayed = 0; tables = empty_tables settings.tenants } in
      let shown = map-alike (shown_worker []) new_worker workers (λ k worker is. (new.fresh k worker is).shown [])
      ∙ as_many workers settings.workers new_worker new.count in
      let announced = map-alike (λ (announced : Vec Entry). announced.items) [] entries new.empty ∙ as_many entries settings.workers [] new.lists in
      let replays = map-alike replay_of before workers (λ k worker is. (new.fresh k worker is).replay) ∙ as_many workers settings.workers before new.count in
      rw (new.places, new.openings, new.decided, shown, announced, replays)

  pub IsCore-new : IsLawful settings → settings.places ≤ vec_capacity s.decided → IsCore s
  IsCore-new lawful room = record {
    tenants = omega (arith, ap (λ (them : List Limits). length them) new.openings, lawful.tenants.1);
    few = omega (arith, new.count, lawful.workers.1);
    lists = new.lists ∙ sym new.count;
    reserved = omega (arith, new.places, room);
    each = λ number worker is.
        subst (λ many. IsInOrder many s.places s.decided.items worker) (sym new.count) ((new.fresh number worker is).order s.places s.decided.items);
    reached = (settings, [], [], (new_core-is, refl));
  }
