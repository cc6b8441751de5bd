use Rattle.std.proofs.Common.{◌≡◌, ◌∙◌, All, Bor, List, ℕ, ap, length, map, refl, subst, sym, vec_len}
use Rattle.std.proofs.lemmas.List.{length-map}
use Rattle.std.proofs.lemmas.Result.{err_from_is_err_and}
use Rattle.mc_model.specs.Settings.{IsBetween}
use Rattle.mc_model.specs.declared.id.TheConstants.{TENANTS}
use Rattle.mc_server.specs.Complaints.{FitsAlone}
use Rattle.mc_server.specs.NetworkWords.{AreReservesWithin, given_in}
use Rattle.mc_server.specs.declared.network_words.NetworkWords.{NetworkWords}
use Rattle.mc_server.proofs.Complaints.{can_be_served, ends}
use Rattle.mc_server.proofs.complaint.check.Goals as goal

-- as many tenants as words
count : (words : NetworkWords) → length (given_in words).tenants ≡ vec_len words.tenants
count words = length-map words.tenants.items (λ (word : Bor (List ℕ)). word.now) ∙ sym words.tenants.ok.0

pub returns-in_err-check : goal.returns-in_err-check
returns-in_err-check c =
    let left = err_from_is_err_and c.from_residual.result c.from_residual.ensures.1 in
    rw (left.1, left.2) (c.in_err-check.ensures (given_in c.args.words.now) refl)

pub returns-in_err-check-2 : goal.returns-in_err-check-2
returns-in_err-check-2 c =
    let left = err_from_is_err_and c.from_residual-in_err-check-2.result c.from_residual-in_err-check-2.ensures.1 in
    rw (left.1, left.2) (c.in_err-check-2.ensures (given_in c.args.words.now) refl)

pub returns-in_err-check-3 : goal.returns-in_err-check-3
returns-in_err-check-3 c =
    let left = err_from_is_err_and c.from_residual-in_err-check-3.result c.from_residual-in_err-check-3.ensures.1 in
    rw (left.1, left.2) (c.in_err-check-3.ensures (given_in c.args.words.now) refl)

pub returns-in_err-check-4 : goal.returns-in_err-check-4
returns-in_err-check-4 c =
    let left = err_from_is_err_and c.from_residual-in_err-check-4.result c.from_residual-in_err-check-4.ensures.1 in
    rw (left.1, left.2) (c.in_err-check-4.ensures (given_in c.args.words.now) refl)

pub returns-in_err-check_address : goal.returns-in_err-check_address
returns-in_err-check_address c =
    let left = err_from_is_err_and c.from_residual-in_err-check_address.result c.from_residual-in_err-check_address.ensures.1 in
    rw (left.1, left.2) (c.in_err-check_address.ensures (given_in c.args.words.now) refl)

pub returns-in_err-check_address-2 : goal.returns-in_err-check_address-2
returns-in_err-check_address-2 c =
    let left = err_from_is_err_and c.from_residual-in_err-check_address-2.result c.from_residual-in_err-check_address-2.ensures.1 in
    rw (left.1, left.2) (c.in_err-check_address-2.ensures (given_in c.args.words.now) refl)

pub returns-in_err-check-5 : goal.returns-in_err-check-5
returns-in_err-check-5 c =
    let left = err_from_is_err_and c.from_residual-in_err-check-5.result c.from_residual-in_err-check-5.ensures.1 in
    rw (left.1, left.2) (c.in_err-check-5.ensures (given_in c.args.words.now) (count c.args.words.now ∙ sym c.len.ensures))

pub returns-in_err-check_reserve : goal.returns-in_err-check_reserve
returns-in_err-check_reserve c =
    let left = err_from_is_err_and c.from_residual-in_err-check_reserve.result c.from_residual-in_err-check_reserve.ensures.1 in
    rw (left.1, left.2) (c.in_err-check_reserve.ensures (given_in c.args.words.now) refl (count c.args.words.now ∙ sym c.len-2.ensures))

pub returns-in_err-check_alone : goal.returns-in_err-check_alone
returns-in_err-check_alone c =
    let left = err_from_is_err_and c.from_residual-in_err-check_alone.result c.from_residual-in_err-check_alone.ensures.1 in
    rw (left.1, left.2) (c.in_err-check_alone.ensures (given_in c.args.words.now) (ap (map (λ word. word.now)) (sym c.deref.ensures.value)))

pub returns : goal.returns
returns c =
    let given = given_in c.args.words.now in
    let many = subst (IsBetween 1 TENANTS) (sym (count c.args.words.now ∙ sym c.len.ensures)) c.in_ok-check-5.ensures in
    let reserves = subst (AreReservesWithin c.args.words.now.reserve) (sym (count c.args.words.now ∙ sym c.len-2.ensures)) c.in_ok-check_reserve.ensures in
    let fit = subst (λ texts. All FitsAlone texts) (ap (map (λ word. word.now)) c.deref.ensures.value) c.in_ok-check_alone.ensures in
    ends given c.check_all_names.result
    (can_be_served given c.in_ok-check_address.ensures.0 c.in_ok-check_address-2.ensures.0 c.in_ok-check.ensures c.in_ok-check-2.ensures c.in_ok-check-3.ensures c.in_ok-check-4.ensures many reserves c.in_ok-check_address.ensures.1 c.in_ok-check_address-2.ensures.1 fit)
    c.check_all_names.ensures
