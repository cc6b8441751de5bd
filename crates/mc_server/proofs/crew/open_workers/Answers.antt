use Rattle.std.proofs.Common.{◌∙◌, refl, sym}
use Rattle.std.proofs.lemmas.Option.{slice_get_read}
use Rattle.mc_server.specs.Logs.{tables_over}
use Rattle.mc_server.proofs.Crews.{opened_over}
use Rattle.mc_server.proofs.crew.open_workers.Goals as goal

pub map_vec-requires-after_bounds : goal.map_vec-requires-after_bounds
map_vec-requires-after_bounds g c κs within = λ place pass inside read. (c.requires.unused place pass (slice_get_read c.args.passes.items _ place pass refl inside read), c.requires.base)

pub returns : goal.returns
returns g c = record {
  outcome =
      opened_over c.args.log.now (tables_over c.args.log.now c.args.base.now) c.args.passes.items c.in_ok-opened.opened.items
      (sym c.in_ok-opened.opened.ok.0 ∙ (c.in_ok-opened.ensures.len ∙ c.args.passes.ok.0)) c.requires.count c.requires.passes c.requires.unused
      (λ place other inside.
      let at = (c.in_ok-opened.ensures.each place other inside).1 in
      (at.job, slice_get_read c.args.passes.items _ place at.job refl inside at.job_read, at.call.met))
      c.all_opened.result c.all_opened.ensures.outcome;
}
