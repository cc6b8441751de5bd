use Rattle.std.proofs.Common.{◌≡◌, ◌∙◌, ap, true, false, Bool, Option, Some, None}
use Rattle.mc_model.specs.Name.{is_lawful_name}
use Rattle.mc_server.proofs.TenantForms.{is_found, parts_of, reads_address}
use Rattle.mc_server.proofs.tenant_word.read_tenant.Goals as goal

apart : (b : Bool) → b ≡ true → b ≡ false → ⊥
apart b passes fails = cc

nothing : {X : Type 0} (read meant : Option X) (x : X) → read ≡ meant → meant ≡ Some x → read ≡ None → ⊥
nothing read meant x is some none = cc

same : {X : Type 0} (read meant : Option X) (x y : X) → read ≡ meant → meant ≡ Some x → read ≡ Some y → y ≡ x
same read meant x y is some given = cc

pub returns-in_err-parts-clause-only : goal.returns-in_err-parts-clause-only
returns-in_err-parts-clause-only c asked says = absurd (is_found c.args.word.now _ asked c.cut.ensures.only says c.in_err-parts.was)

pub returns-then-not-is_lawful-clause-only : goal.returns-then-not-is_lawful-clause-only
returns-then-not-is_lawful-clause-only c asked says =
    let parts = parts_of c.args.word.now _ asked _ c.cut.ensures.only says c.in_ok-parts.was in
    let passes : c.is_lawful.result ≡ true = c.is_lawful.ensures ∙ ap is_lawful_name c.as_bytes.ensures.value ∙ parts.is_name in
    apart _ passes c.if-not-is_lawful.true

pub returns-in_err-address-clause-only : goal.returns-in_err-address-clause-only
returns-in_err-address-clause-only c asked says =
    let parts = parts_of c.args.word.now _ asked _ c.cut.ensures.only says c.in_ok-parts.was in
    absurd (nothing _ _ _ c.ok.ensures.value (reads_address _ asked.address _ parts.address c.parse.ensures.value) c.in_err-address.was)

pub returns-in_err-items-clause-only : goal.returns-in_err-items-clause-only
returns-in_err-items-clause-only c asked says =
    let parts = parts_of c.args.word.now _ asked _ c.cut.ensures.only says c.in_ok-parts.was in
    absurd (nothing _ _ _ c.read_number.ensures parts.items c.in_err-items.was)

pub returns-in_err-bytes-clause-only : goal.returns-in_err-bytes-clause-only
returns-in_err-bytes-clause-only c asked says =
    let parts = parts_of c.args.word.now _ asked _ c.cut.ensures.only says c.in_ok-parts.was in
    absurd (nothing _ _ _ c.read_number-2.ensures parts.bytes c.in_err-bytes.was)

pub returns-clause-only : goal.returns-clause-only
returns-clause-only c asked says =
    let parts = parts_of c.args.word.now _ asked _ c.cut.ensures.only says c.in_ok-parts.was in
    let address : c.in_ok-address.address ≡ asked.address = same _ _ _ _ c.ok.ensures.value (reads_address _ asked.address _ parts.address c.parse.ensures.value) c.in_ok-address.was in
    let items : c.in_ok-items.items ≡ asked.limits.items = same _ _ _ _ c.read_number.ensures parts.items c.in_ok-items.was in
    let bytes : c.in_ok-bytes.bytes ≡ asked.limits.bytes = same _ _ _ _ c.read_number-2.ensures parts.bytes c.in_ok-bytes.was in
    λ i. record { name = parts.name i; address = address i; limits = record { items = items i; bytes = bytes i } }
