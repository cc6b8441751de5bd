use Rattle.std.proofs.Common.{◌++◌, ◌∷◌, lit<}
use Rattle.mc_server.proofs.TenantParts.{front_lacks, is_cut, is_cut_at}
use Rattle.mc_server.proofs.tenant_word.cut.Goals as goal

pub returns-in_err-name-clause-only : goal.returns-in_err-name-clause-only
returns-in_err-name-clause-only c name address items bytes no_equals no_comma none e =
    absurd (is_cut 61 c.args.word.now name (address ++ (44 ∷ (items ++ (44 ∷ bytes)))) c.split_once.result c.split_once.ensures.cases (lit< tt) e no_equals c.in_err-name.was)

pub returns-in_err-address-clause-only : goal.returns-in_err-address-clause-only
returns-in_err-address-clause-only c name address items bytes no_equals no_comma none e =
    let first = is_cut_at 61 c.args.word.now name (address ++ (44 ∷ (items ++ (44 ∷ bytes)))) c.split_once.result _ _ c.split_once.ensures.cases (lit< tt) e no_equals c.in_ok-name.was in
    absurd (is_cut 44 c.in_ok-name.rest.now address (items ++ (44 ∷ bytes)) c.split_once-2.result c.split_once-2.ensures.cases (lit< tt) first.1 no_comma c.in_err-address.was)

pub returns-in_err-items-clause-only : goal.returns-in_err-items-clause-only
returns-in_err-items-clause-only c name address items bytes no_equals no_comma none e =
    let first = is_cut_at 61 c.args.word.now name (address ++ (44 ∷ (items ++ (44 ∷ bytes)))) c.split_once.result _ _ c.split_once.ensures.cases (lit< tt) e no_equals c.in_ok-name.was in
    let second = is_cut_at 44 c.in_ok-name.rest.now address (items ++ (44 ∷ bytes)) c.split_once-2.result _ _ c.split_once-2.ensures.cases (lit< tt) first.1 no_comma c.in_ok-address.was in
    absurd (is_cut 44 c.in_ok-address.rest.now items bytes c.split_once-3.result c.split_once-3.ensures.cases (lit< tt) second.1 none c.in_err-items.was)

pub returns-clause-only : goal.returns-clause-only
returns-clause-only c name address items bytes no_equals no_comma none e =
    let first = is_cut_at 61 c.args.word.now name (address ++ (44 ∷ (items ++ (44 ∷ bytes)))) c.split_once.result _ _ c.split_once.ensures.cases (lit< tt) e no_equals c.in_ok-name.was in
    let second = is_cut_at 44 c.in_ok-name.rest.now address (items ++ (44 ∷ bytes)) c.split_once-2.result _ _ c.split_once-2.ensures.cases (lit< tt) first.1 no_comma c.in_ok-address.was in
    let third = is_cut_at 44 c.in_ok-address.rest.now items bytes c.split_once-3.result _ _ c.split_once-3.ensures.cases (lit< tt) second.1 none c.in_ok-items.was in
    (first.0, second.0, third.0, third.1)

pub returns-clause-first : goal.returns-clause-first
returns-clause-first c = (
  front_lacks 61 c.args.word.now c.split_once.result _ _ c.split_once.ensures.cases (lit< tt) c.in_ok-name.was,
  front_lacks 44 c.in_ok-name.rest.now c.split_once-2.result _ _ c.split_once-2.ensures.cases (lit< tt) c.in_ok-address.was,
  front_lacks 44 c.in_ok-address.rest.now c.split_once-3.result _ _ c.split_once-3.ensures.cases (lit< tt) c.in_ok-items.was,
)
