-- The page that people get: a row for each tenant, and one for the log; this project's profile. A
-- name has only letters, digits, dashes and underscores, so nothing in it needs an escape.
use Rattle.std.specs.Prelude.{ℕ, List, [], ◌∷◌, ◌++◌, codes, decimal, flat_map}
use Rattle.mc_metrics.specs.declared.page.TheConstants.{PAGE_BACK, PAGE_FRONT, PAGE_MIDDLE}
use Rattle.mc_metrics.specs.declared.snapshot.LogNumbers.{LogNumbers}
use Rattle.mc_metrics.specs.declared.snapshot.Snapshot.{Snapshot}
use Rattle.mc_metrics.specs.declared.snapshot.TenantNumbers.{TenantNumbers}

-- a cell with a number
abbrev pub number_cell : ℕ → List ℕ
number_cell number = codes "<td>" ++ decimal number

-- the row of a tenant
unfoldable pub tenant_row : TenantNumbers → List ℕ
tenant_row tenant =
    codes "<tr><th>" ++ (tenant.name ++ (flat_map number_cell (tenant.items ∷ tenant.quotas.items
    ∷ tenant.bytes ∷ tenant.quotas.bytes ∷ tenant.connections ∷ []) ++ codes "\n"))

-- the numbers in the row of the log
abbrev pub log_numbers : LogNumbers → List ℕ
log_numbers log = log.generation ∷ log.used_places ∷ log.places ∷ log.bytes ∷ log.turn_overs ∷ []

-- a page of these parts, with the rows of tenants and the numbers of the log between them
unfoldable pub page_of : List ℕ → List ℕ → List ℕ → Snapshot → List ℕ
page_of front middle back snapshot =
    front ++ (flat_map tenant_row snapshot.tenants.items ++ (middle
    ++ (flat_map number_cell (log_numbers snapshot.log) ++ back)))

-- the page
unfoldable pub page_text : Snapshot → List ℕ
page_text = page_of PAGE_FRONT.now PAGE_MIDDLE.now PAGE_BACK.now
