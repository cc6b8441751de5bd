use Rattle.std.proofs.Common.{◌≡◌, ◌∙◌, ap, sym, true, false, Bool}
use Rattle.mc_model.specs.Name.{is_lawful_name}
use Rattle.mc_model.specs.declared.settings.TheConstants.{MAX_BYTES, MAX_ITEMS}
use Rattle.mc_server.proofs.Complaints.{address_read, is_cut_into, none_read, parts_in, quota_of}
use Rattle.mc_server.proofs.complaint.wrong_part.Goals as goal

apart : (b : Bool) → b ≡ true → b ≡ false → ⊥
apart b passes fails = cc

pub returns-then-not-is_lawful : goal.returns-then-not-is_lawful
returns-then-not-is_lawful c =
    let lawful = c.is_lawful.ensures ∙ ap is_lawful_name c.as_bytes.ensures.value in
    (parts_in c.in-Some.parts, is_cut_into _ c.in-Some.parts c.in-Some.ensures.whole c.in-Some.ensures.first, λ is. apart _ (lawful ∙ is) c.if-not-is_lawful.true)

pub returns-then-is_err : goal.returns-then-is_err
returns-then-is_err c =
    let none = none_read _ _ (sym c.is_err.ensures.value ∙ c.if-is_err.true) c.parse.ensures.value in
    (parts_in c.in-Some.parts, is_cut_into _ c.in-Some.parts c.in-Some.ensures.whole c.in-Some.ensures.first, none)

pub returns-then-not-is_quota : goal.returns-then-not-is_quota
returns-then-not-is_quota c =
    (parts_in c.in-Some.parts, is_cut_into _ c.in-Some.parts c.in-Some.ensures.whole c.in-Some.ensures.first, λ spells. apart _ (c.is_quota.ensures.1 spells) c.if-not-is_quota.true)

pub returns-then-not-is_quota-2 : goal.returns-then-not-is_quota-2
returns-then-not-is_quota-2 c =
    (parts_in c.in-Some.parts, is_cut_into _ c.in-Some.parts c.in-Some.ensures.whole c.in-Some.ensures.first, λ spells. apart _ (c.is_quota-2.ensures.1 spells) c.if-not-is_quota-2.true)

pub returns : goal.returns
returns c =
    let parts = c.in-Some.parts in
    let address = address_read parts.address.now _ (sym c.is_err.ensures.value ∙ c.if-is_err.false) c.parse.ensures.value in
    let items = quota_of MAX_ITEMS parts.items.now (c.is_quota.ensures.0 c.if-not-is_quota.false) in
    let bytes = quota_of MAX_BYTES parts.bytes.now (c.is_quota-2.ensures.0 c.if-not-is_quota-2.false) in
    let name = sym (ap is_lawful_name c.as_bytes.ensures.value) ∙ (sym c.is_lawful.ensures ∙ c.if-not-is_lawful.false) in (
      record { name = parts.name.now; address = address.0; limits = record { items = items.0; bytes = bytes.0 } },
      record {
        address = parts.address.now;
        items = parts.items.now;
        bytes = parts.bytes.now;
        spelled = c.in-Some.ensures.whole;
        is_name = name;
        is_address = address.1;
        is_items = items.1;
        is_bytes = bytes.1;
      },
      record { items = items.2; bytes = bytes.2 },
    )
