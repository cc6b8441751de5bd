-- Names that are distinct stand at one place each.
use Rattle.std.proofs.Common.{◌≡◌, ◌≢◌, ℕ, ◌+◌, ◌<◌, zero, suc, true, false, List, [], ◌∷◌, ◌++◌, length, map, Option, Some, None, slice_get, refl, sym, ap, subst, ◌∙◌, arith}
use Rattle.std.proofs.lemmas.Bool.{false≢true}
use Rattle.std.proofs.lemmas.Option.{none-some, same_Some, slice_get-map}
use Rattle.std.proofs.lemmas.Slice.Eq.{bytes_eq-Decides}
use Rattle.std.specs.List.{AllByRecursion, IsDistinct}
use Rattle.std.specs.Option.{option_map}
use Rattle.std.specs.Prelude.{codes}
use Rattle.std.specs.Str.{bytes_eq}
use Rattle.mc_server.specs.NetworkWords.{IsServable, NetworkAsked, admin_name, metrics_name, name_if, reserved_names}
use Rattle.mc_server.specs.TenantWord.{TenantAsked}

all_at : {X : Type 0} (P : X → Type 0) (list : List X) (place : ℕ) (x : X) → AllByRecursion P list → slice_get list place ≡ Some x → P x
all_at P [] place x all at = absurd (none-some x at)
all_at P (y ∷ list) zero x all at = subst P (same_Some y x at) all.0
all_at P (y ∷ list) (suc place) x all at = all_at P list place x all.1 at

same_text : (text : List ℕ) → bytes_eq text text ≡ true
same_text text = (bytes_eq-Decides text text).1 refl

unlike : (one other : List ℕ) → bytes_eq one other ≡ false → one ≢ other
unlike one other apart same = false≢true (sym apart ∙ (bytes_eq-Decides one other).1 same)

at_one_place : (names : List (List ℕ)) → IsDistinct bytes_eq names → (one other : ℕ) (first second : List ℕ) →
    slice_get names one ≡ Some first → slice_get names other ≡ Some second → first ≡ second → one ≡ other
unfolding IsDistinct
at_one_place [] apart one other first second here there same = absurd (none-some first here)
at_one_place (name ∷ names) apart zero zero first second here there same = refl
at_one_place (name ∷ names) apart zero (suc other) first second here there same =
    absurd (unlike name second (all_at (λ it. bytes_eq name it ≡ false) names other second apart.0 there) (same_Some name first here ∙ same))
at_one_place (name ∷ names) apart (suc one) zero first second here there same =
    absurd (unlike name first (all_at (λ it. bytes_eq name it ≡ false) names one first apart.0 here) (same_Some name second there ∙ sym same))
at_one_place (name ∷ names) apart (suc one) (suc other) first second here there same = ap suc (at_one_place names apart.1 one other first second here there same)

behind : {X : Type 0} (front list : List X) (place : ℕ) → slice_get (front ++ list) (length front + place) ≡ slice_get list place
behind [] list place = ap (slice_get list) (omega arith)
behind (x ∷ front) list place =
    let next : length (x ∷ front) + place ≡ suc (length front + place) = omega arith in
    ap (slice_get (x ∷ front ++ list)) next ∙ behind front list place

module _ (asked : NetworkAsked) (servable : IsServable asked) where
  abbrev reserved : List (List ℕ)
  reserved = reserved_names asked.admin asked.metrics

  -- where a tenant's name stands among all names
  name_at : (number : ℕ) (tenant : TenantAsked) → slice_get asked.tenants number ≡ Some tenant →
      slice_get (reserved ++ map (λ (it : TenantAsked). it.name) asked.tenants) (length reserved + number) ≡ Some tenant.name
  name_at number tenant at =
      behind reserved (map (λ (it : TenantAsked). it.name) asked.tenants) number
      ∙ (slice_get-map (λ (it : TenantAsked). it.name) asked.tenants number ∙ ap (option_map (λ (it : TenantAsked). it.name)) at)

  own : (one other : ℕ) (first second : TenantAsked) → slice_get asked.tenants one ≡ Some first → slice_get asked.tenants other ≡ Some second →
      first.name ≡ second.name → one ≡ other
  own one other first second here there same =
      let place = at_one_place _ servable.names (length reserved + one) (length reserved + other) first.name second.name (name_at one first here) (name_at other second there) same in
      omega (arith, place)

  -- a name that is kept for a listener stands before them all
  not_kept : (place : ℕ) (name : List ℕ) → slice_get (reserved ++ map (λ (it : TenantAsked). it.name) asked.tenants) place ≡ Some name → place < length reserved →
      (number : ℕ) (tenant : TenantAsked) → slice_get asked.tenants number ≡ Some tenant → tenant.name ≢ name
  not_kept place name here before number tenant at same =
      let both = at_one_place _ servable.names place (length reserved + number) name tenant.name here (name_at number tenant at) (sym same) in
      omega (arith, both, before)

-- where the names stand that are kept for listeners
module _ {A : Type 0} (rest : List (List ℕ)) where
  admin_first : (admin metrics : Option A) → admin ≢ None →
      (slice_get (reserved_names admin metrics ++ rest) 0 ≡ Some admin_name) × (0 < length (reserved_names admin metrics))
  admin_first None metrics there = absurd (there refl)
  admin_first (Some one) metrics there = (refl, omega arith)

  metrics_next : (admin metrics : Option A) → metrics ≢ None →
      (slice_get (reserved_names admin metrics ++ rest) (length (name_if admin_name admin)) ≡ Some metrics_name)
      × (length (name_if admin_name admin) < length (reserved_names admin metrics))
  metrics_next admin None there = absurd (there refl)
  metrics_next None (Some other) there = (refl, omega arith)
  metrics_next (Some one) (Some other) there = (refl, omega arith)

pub names_are_own : (asked : NetworkAsked) (one other : ℕ) (first second : TenantAsked) → IsServable asked →
    slice_get asked.tenants one ≡ Some first → slice_get asked.tenants other ≡ Some second → first.name ≡ second.name → one ≡ other
names_are_own asked one other first second servable here there same = own asked servable one other first second here there same

pub admin_is_reserved : (asked : NetworkAsked) (number : ℕ) (tenant : TenantAsked) → IsServable asked →
    slice_get asked.tenants number ≡ Some tenant → asked.admin ≢ None → tenant.name ≢ codes "admin"
admin_is_reserved asked number tenant servable at there =
    let kept = admin_first (map (λ (it : TenantAsked). it.name) asked.tenants) asked.admin asked.metrics there in
    not_kept asked servable 0 admin_name kept.0 kept.1 number tenant at

pub metrics_is_reserved : (asked : NetworkAsked) (number : ℕ) (tenant : TenantAsked) → IsServable asked →
    slice_get asked.tenants number ≡ Some tenant → asked.metrics ≢ None → tenant.name ≢ codes "metrics"
metrics_is_reserved asked number tenant servable at there =
    let kept = metrics_next (map (λ (it : TenantAsked). it.name) asked.tenants) asked.admin asked.metrics there in
    not_kept asked servable (length (name_if admin_name asked.admin)) metrics_name kept.0 kept.1 number tenant at
