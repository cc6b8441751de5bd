-- Lemmas on what stands in the text of a scrape and on the page.
use Rattle.std.proofs.Common.{◌≡◌, ◌∙◌, ◌++◌, ℕ, zero, suc, List, [], ◌∷◌, Contains, ap, append_assoc, arith, codes, flat_map, refl, sym}
use Rattle.std.proofs.lemmas.Grind.{flat_map-append}
use Rattle.std.proofs.lemmas.List.{append-nil}
use Rattle.mc_metrics.specs.Exposition.{sample_line}
use Rattle.mc_metrics.specs.Page.{log_numbers, number_cell, page_of, tenant_row}
use Rattle.mc_metrics.specs.declared.metric.Metric.{Metric}
use Rattle.mc_metrics.specs.declared.metric.Metric.TheVariants.{OfTenant, Commands, Refusals, OfWorker, OfServer, TurnOvers, Build}
use Rattle.mc_metrics.specs.declared.metric.ServerMetric.TheVariants.{Places, UsedPlaces, LogBytes, Generation, ResidentBytes}
use Rattle.mc_metrics.specs.declared.metric.TenantMetric.TheVariants.{Items, Bytes, ItemQuota, ByteQuota, Hits, Misses, Connections}
use Rattle.mc_metrics.specs.declared.metric.WorkerMetric.TheVariants as worker
use Rattle.mc_metrics.specs.declared.metric.TheConstants.{METRICS}
use Rattle.mc_metrics.specs.declared.snapshot.Snapshot.{Snapshot}
use Rattle.mc_metrics.specs.declared.snapshot.TenantNumbers.{TenantNumbers}

-- what is made of two lists is made of the one and then of the other
pub of_both : {X : Type 0} (f : X → List ℕ) (one other both : List X) → both ≡ one ++ other → flat_map f both ≡ flat_map f one ++ flat_map f other
of_both f one other both is = ap (flat_map f) is ∙ flat_map-append f one other

-- what is made of a list of one element is made of this
pub of_one : {X : Type 0} (f : X → List ℕ) (x : X) (xs : List X) → xs ≡ x ∷ [] → flat_map f xs ≡ f x
of_one f x xs is = ap (flat_map f) is ∙ append-nil (f x)

-- what is made of an element stands in what is made of the list
pub of_each : {X : Type 0} (f : X → List ℕ) (xs : List X) (x : X) → Contains xs x → (before after : List ℕ) × (flat_map f xs ≡ before ++ (f x ++ after))
of_each f [] x (place, within, is) = absurd (omega (arith, within))
of_each f (y ∷ xs) x (zero, within, is) = ([], flat_map f xs, ap (λ z. f z ++ flat_map f xs) is)
of_each f (y ∷ xs) x (suc place, within, is) =
    let rest = of_each f xs x (place, omega (arith, within), is) in
    (f y ++ rest.0, rest.1, ap (λ t. f y ++ t) rest.2 ∙ sym (append_assoc (f y) rest.0 (f x ++ rest.1)))

-- what stands after a head within a text stands within this text
pub within_after : (text before head one after : List ℕ) → text ≡ before ++ ((head ++ one) ++ after) → text ≡ (before ++ head) ++ one ++ after
within_after text before head one after is = is ∙ simp append_assoc

-- all metrics are written
pub is_written : (metric : Metric) → Contains METRICS metric
is_written (OfTenant Items) = (0, omega arith, refl)
is_written (OfTenant Bytes) = (1, omega arith, refl)
is_written (OfTenant ItemQuota) = (2, omega arith, refl)
is_written (OfTenant ByteQuota) = (3, omega arith, refl)
is_written Commands = (4, omega arith, refl)
is_written (OfTenant Hits) = (5, omega arith, refl)
is_written (OfTenant Misses) = (6, omega arith, refl)
is_written Refusals = (7, omega arith, refl)
is_written (OfTenant Connections) = (8, omega arith, refl)
is_written (OfWorker worker.Lag) = (9, omega arith, refl)
is_written (OfWorker worker.Connections) = (10, omega arith, refl)
is_written (OfServer Places) = (11, omega arith, refl)
is_written (OfServer UsedPlaces) = (12, omega arith, refl)
is_written (OfServer LogBytes) = (13, omega arith, refl)
is_written (OfServer Generation) = (14, omega arith, refl)
is_written TurnOvers = (15, omega arith, refl)
is_written (OfServer ResidentBytes) = (16, omega arith, refl)
is_written Build = (17, omega arith, refl)

-- lines of samples with labels
pub tenant_line : (name tenant number : List ℕ) → sample_line name ((codes "tenant", tenant) ∷ []) number ≡ name ++ codes "{tenant=\"" ++ tenant ++ codes "\"} " ++ number ++ codes "\n"
unfolding sample_line
tenant_line name tenant number = simp append_assoc

pub command_line : (name tenant command number : List ℕ) → sample_line name ((codes "tenant", tenant) ∷ (codes "command", command) ∷ []) number
    ≡ name ++ (codes "{tenant=\"" ++ (tenant ++ (codes "\",command=\"" ++ (command ++ (codes "\"} " ++ (number ++ codes "\n"))))))
unfolding sample_line
command_line name tenant command number = simp append_assoc

pub refusal_line : (name tenant refusal number : List ℕ) → sample_line name ((codes "tenant", tenant) ∷ (codes "refusal", refusal) ∷ []) number
    ≡ name ++ (codes "{tenant=\"" ++ (tenant ++ (codes "\",refusal=\"" ++ (refusal ++ (codes "\"} " ++ (number ++ codes "\n"))))))
unfolding sample_line
refusal_line name tenant refusal number = simp append_assoc

-- texts that follow each other
pub in_seven : (a b c d e f g : List ℕ) → a ++ (b ++ (c ++ (d ++ (e ++ (f ++ g))))) ≡ a ++ b ++ c ++ d ++ e ++ f ++ g
in_seven a b c d e f g = simp append_assoc

-- cells of a table with these numbers, between these texts
module _ (cell before a b c d e after : List ℕ) where
  pub in_cells : before ++ (((cell ++ a) ++ ((cell ++ b) ++ ((cell ++ c) ++ ((cell ++ d) ++ ((cell ++ e) ++ []))))) ++ after)
      ≡ before ++ cell ++ a ++ cell ++ b ++ cell ++ c ++ cell ++ d ++ cell ++ e ++ after
  in_cells = simp append_assoc

pub in_row : (front name cell a b c d e after : List ℕ) → front ++ (name ++ (((cell ++ a) ++ ((cell ++ b) ++ ((cell ++ c) ++ ((cell ++ d) ++ ((cell ++ e) ++ []))))) ++ after))
    ≡ front ++ name ++ cell ++ a ++ cell ++ b ++ cell ++ c ++ cell ++ d ++ cell ++ e ++ after
in_row front name cell a b c d e after = sym (append_assoc front name _) ∙ in_cells cell (front ++ name) a b c d e after

-- the page with the numbers of the log, and what is around them
pub page_around_log : (front middle back : List ℕ) (snapshot : Snapshot) →
    page_of front middle back snapshot ≡ ((front ++ flat_map tenant_row snapshot.tenants.items) ++ middle) ++ (flat_map number_cell (log_numbers snapshot.log) ++ back)
unfolding page_of
page_around_log front middle back snapshot =
    sym (append_assoc front (flat_map tenant_row snapshot.tenants.items) (middle ++ (flat_map number_cell (log_numbers snapshot.log) ++ back)))
    ∙ sym (append_assoc (front ++ flat_map tenant_row snapshot.tenants.items) middle (flat_map number_cell (log_numbers snapshot.log) ++ back))

-- the page with a tenant's row, and without it
module _ (front middle back : List ℕ) (before after : List TenantNumbers) where
  abbrev rest_of : Snapshot → List ℕ
  rest_of snapshot = flat_map tenant_row after ++ (middle ++ (flat_map number_cell (log_numbers snapshot.log) ++ back))

  pub page_with : (tenant : TenantNumbers) (more fewer : Snapshot) → more.tenants.items ≡ before ++ tenant ∷ after → more.log ≡ fewer.log →
      page_of front middle back more ≡ (front ++ flat_map tenant_row before) ++ tenant_row tenant ++ rest_of fewer
  unfolding page_of
  page_with tenant more fewer has same =
      (λ i. front ++ (flat_map tenant_row (has i) ++ (middle ++ (flat_map number_cell (log_numbers (same i)) ++ back))))
      ∙ (ap (λ rows. front ++ (rows ++ (middle ++ (flat_map number_cell (log_numbers fewer.log) ++ back)))) (flat_map-append tenant_row before (tenant ∷ after)) ∙ simp append_assoc)

  pub page_without : (fewer : Snapshot) → fewer.tenants.items ≡ before ++ after → page_of front middle back fewer ≡ (front ++ flat_map tenant_row before) ++ rest_of fewer
  unfolding page_of
  page_without fewer lacks =
      ap (λ tenants. front ++ (flat_map tenant_row tenants ++ (middle ++ (flat_map number_cell (log_numbers fewer.log) ++ back)))) lacks
      ∙ (ap (λ rows. front ++ (rows ++ (middle ++ (flat_map number_cell (log_numbers fewer.log) ++ back)))) (flat_map-append tenant_row before after) ∙ simp append_assoc)
