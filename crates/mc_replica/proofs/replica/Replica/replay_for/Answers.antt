use Rattle.std.proofs.Common.{arith, rules, ◌<◌, [], ◌∷◌, ◌++◌, length, refl, sym, true≢false}
use Rattle.std.proofs.lemmas.List.{length-map}
use Rattle.uc_cells.specs.Sighting.{Sighting, entries}
use Rattle.mc_replica.specs.Replica.{opened_by}
use Rattle.model_lemmas.proofs.Replays.{uniques-few}
use Rattle.mc_replica.proofs.Effects.{EachStands-seen, TakeEffect-nobody, tables-stay}
use Rattle.mc_replica.proofs.replica.Replica.replay_for.Goals as goal

pub take_effect-requires : goal.take_effect-requires
take_effect-requires c = λ _. (
  (refl, tt),
  λ tenant state at.
      let few = uniques-few (opened_by c.self.inside.opening) (entries c.self.inside.history.items) c.self.inside.tables.items c.self.invariant.stands tenant state at in
      let same = length-map c.self.inside.history.items (λ (one : Sighting). one.entry) in
      let room = c.self.invariant.uniques tenant few.0 few.1 in
      let below : length c.self.inside.history.items < c.self.inside.places = search rules in
      omega (arith, few.2, same, room, below),
)

pub invariant_of-self-2 : goal.invariant_of-self-2
invariant_of-self-2 c = record {
  few = search rules;
  reserved = search rules;
  uniques = c.self.invariant.uniques;
  stands =
      rw c.push_reserved.ensures.items (EachStands-seen (opened_by c.self.inside.opening) c.self.inside.history.items c.args.seen _ c.self.inside.tables.items c.take_effect.new.tables.items
      c.entry.ensures.entry c.self.invariant.stands c.in_ok-reply.ensures.tables);
}

pub returns-clause-reply : goal.returns-clause-reply
returns-clause-reply c =
    rw (← c.self.view_is, ← c.entry.ensures.entry) (c.in_ok-reply.ensures.reply (opened_by c.self.inside.opening) (entries c.self.inside.history.items) c.self.invariant.stands)

pub returns-in_err-reply-clause-replays : goal.returns-in_err-reply-clause-replays
returns-in_err-reply-clause-replays c = record {
  history = search rules;
  tables = search rules;
  untouched = search rules;
  tenants = search rules;
  stands = rw c.in_err-reply.ensures.unchanged c.self.invariant.stands;
  openings = search rules;
  worker = search rules;
  places = search rules;
  no_memory = search rules;
  reads = search rules;
  refused = rw (← c.self.view_is, ← c.entry.ensures.entry) (λ refused.
      absurd (true≢false (sym (c.in_err-reply.ensures.refused (opened_by c.self.inside.opening) (entries c.self.inside.history.items)
      c.self.invariant.stands refused))));
  memory = search rules;
  unchanged = search rules;
}

pub returns-clause-replays : goal.returns-clause-replays
returns-clause-replays c =
    let stands = EachStands-seen (opened_by c.self.inside.opening) c.self.inside.history.items c.args.seen _ c.self.inside.tables.items
    c.take_effect.new.tables.items c.entry.ensures.entry c.self.invariant.stands c.in_ok-reply.ensures.tables in
    rw (← c.self.view_is, c.push_reserved.ensures.items) record {
      history = refl;
      tables = search rules;
      untouched = rw (← c.entry.ensures.entry) (TakeEffect-nobody (opened_by c.self.inside.opening) (entries c.self.inside.history.items) _
          c.self.inside.tables.items c.take_effect.new.tables.items c.self.invariant.stands c.in_ok-reply.ensures.tables);
      tenants = tables-stay (opened_by c.self.inside.opening) (entries c.self.inside.history.items)
          (entries (c.self.inside.history.items ++ c.args.seen ∷ [])) c.self.inside.tables.items c.take_effect.new.tables.items c.self.invariant.stands stands;
      stands = stands;
      openings = refl;
      worker = refl;
      places = refl;
      no_memory = search rules;
      reads = search rules;
      refused = search rules;
      memory = search rules;
      unchanged = search rules;
    }
