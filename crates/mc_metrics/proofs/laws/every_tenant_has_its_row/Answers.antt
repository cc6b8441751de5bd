use Rattle.std.proofs.Common.{◌∙◌, ◌++◌, codes, decimal, flat_map}
use Rattle.mc_metrics.specs.Page.{log_numbers, number_cell, page_text, tenant_row}
use Rattle.mc_metrics.specs.declared.page.TheConstants.{PAGE_BACK, PAGE_FRONT, PAGE_MIDDLE}
use Rattle.mc_metrics.proofs.Samples.{in_cells, in_row, page_around_log, page_with, page_without}
use Rattle.mc_metrics.proofs.laws.every_tenant_has_its_row.Goals as goal

pub returns-clause-rows : goal.returns-clause-rows
unfolding page_text
returns-clause-rows c before after tenant more fewer has lacks same =
    let front = PAGE_FRONT.now ++ flat_map tenant_row before in
    let back = flat_map tenant_row after ++ (PAGE_MIDDLE.now ++ (flat_map number_cell (log_numbers fewer.log) ++ PAGE_BACK.now)) in (
      front,
      back,
      page_with PAGE_FRONT.now PAGE_MIDDLE.now PAGE_BACK.now before after tenant more fewer has same,
      page_without PAGE_FRONT.now PAGE_MIDDLE.now PAGE_BACK.now before after fewer lacks,
    )

pub returns-clause-row : goal.returns-clause-row
unfolding tenant_row
returns-clause-row c tenant =
    in_row (codes "<tr><th>") tenant.name (codes "<td>") (decimal tenant.items) (decimal tenant.quotas.items) (decimal tenant.bytes) (decimal tenant.quotas.bytes) (decimal tenant.connections) (codes "\n")

pub returns-clause-log : goal.returns-clause-log
unfolding page_text
returns-clause-log c snapshot =
    let before = (PAGE_FRONT.now ++ flat_map tenant_row snapshot.tenants.items) ++ PAGE_MIDDLE.now in
    let log = snapshot.log in (
      before,
      PAGE_BACK.now,
      page_around_log PAGE_FRONT.now PAGE_MIDDLE.now PAGE_BACK.now snapshot
          ∙ in_cells (codes "<td>") before (decimal log.generation) (decimal log.used_places) (decimal log.places) (decimal log.bytes) (decimal log.turn_overs) PAGE_BACK.now,
    )
