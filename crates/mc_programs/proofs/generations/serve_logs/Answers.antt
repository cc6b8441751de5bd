use Rattle.std.proofs.Common.{◌+◌, ◌≤◌, inl, inr, ⊎_elim, sym, arith}
use Rattle.std.proofs.lemmas.Bool.{eqb-false, eqb-true}
use Rattle.std.proofs.lemmas.Result.{err_from_is_err_and}
use Rattle.mc_programs.proofs.Beginnings.{ended_by}
use Rattle.mc_programs.proofs.Openings.{stops_within}
use Rattle.mc_programs.proofs.generations.serve_logs.Goals as goal

pub returns-in_err-first : goal.returns-in_err-first
returns-in_err-first g c =
    let out = err_from_is_err_and c.from_residual.result c.from_residual.ensures.1 in
    record {
      served = λ limits places begun settings.
          rw (out.1, out.2) (stops_within limits places 1 c.args.service.now.generations _ _ c.in_err-first.field-0.0 c.requires.generations (c.in_err-first.ensures.served limits places begun settings));
    }

pub returns-in_default : goal.returns-in_default
returns-in_default g c = record {
  served = λ limits places begun settings.
      ended_by g.T.TurnOver.refused limits places 0 c.args.service.now.generations _ _ _ _ c.in_ok-first.first c.requires.generations (λ last. sym (eqb-true c.args.service.now.generations 1 last)) c.in_default.not-Some (c.in_ok-first.ensures.served limits places begun settings);
}

pub loop-earlier-init : goal.loop-earlier-init
loop-earlier-init g c =
    let ready = rw c.in-Some.is at c.in_ok-first.ensures.ready in
    let going = rw c.in-Some.is at c.in_ok-first.ensures.going in
    record {
      some = omega arith;
      below = omega (arith, eqb-false c.args.service.now.generations 1 ready.0, c.requires.generations);
      ready = ready.1;
      role = going.0;
      going = going.1;
      served = λ limits places begun settings. let served = rw c.in-Some.is at c.in_ok-first.ensures.served limits places begun settings in served.1;
    }

pub returns-in_err-after : goal.returns-in_err-after
returns-in_err-after g c =
    let out = err_from_is_err_and c.from_residual-in_err-after.result c.from_residual-in_err-after.ensures.1 in
    let so_far = c.loop-earlier.invariant in
    record {
      served = λ limits places begun settings.
          let before = so_far.served limits places begun settings in
          let enough : c.loop-earlier.earlier + 1 ≤ c.args.service.now.generations = omega (arith, so_far.below) in
          rw (out.1, out.2) (stops_within limits places (c.loop-earlier.earlier + 1) c.args.service.now.generations _ _ c.in_err-after.field-0.0 enough
          (c.in_err-after.ensures.served limits places c.loop-earlier.earlier _ before.0 before.1 so_far.some));
    }

pub returns-in-None : goal.returns-in-None
returns-in-None g c =
    let so_far = c.loop-earlier.invariant in
    record {
      served = λ limits places begun settings.
          let before = so_far.served limits places begun settings in
          let serves = rw c.in-None.is at c.in_ok-after.ensures.served limits places c.loop-earlier.earlier _ before.0 before.1 so_far.some in (
            c.loop-earlier.earlier + 1,
            (omega arith, omega (arith, so_far.below)),
            serves.0,
            ⊎_elim (λ last. inl (eqb-true (c.loop-earlier.earlier + 1) c.args.service.now.generations last)) (λ why. inr why) serves.1,
          );
    }

pub loop-earlier-preserved : goal.loop-earlier-preserved
loop-earlier-preserved g c =
    let so_far = c.loop-earlier.invariant in
    let ready = rw c.in-Some-2.is at c.in_ok-after.ensures.ready in
    let going = rw c.in-Some-2.is at c.in_ok-after.ensures.going in
    record {
      some = omega arith;
      below = omega (arith, eqb-false (c.loop-earlier.earlier + 1) c.args.service.now.generations ready.0, so_far.below);
      ready = ready.1;
      role = going.0;
      going = going.1;
      served = λ limits places begun settings.
          let before = so_far.served limits places begun settings in
          let serves = rw c.in-Some-2.is at c.in_ok-after.ensures.served limits places c.loop-earlier.earlier _ before.0 before.1 so_far.some in
          serves.1;
    }
