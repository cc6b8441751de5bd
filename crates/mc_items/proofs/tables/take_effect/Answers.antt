use Rattle.std.proofs.Common.{◌≡◌, ◌<◌, length, get_or, sym, ◌∙◌, true, rules}
use Rattle.mc_items.specs.Asker.{is_own}
use Rattle.mc_items.proofs.Effects.{TakeEffect-set, answer_for-own, own_reply, reply_for-own}
use Rattle.mc_model.specs.State.{next_state}
use Rattle.mc_items.proofs.tables.take_effect.Goals as goal

pub returns-in_ok-reply-clause-tables : goal.returns-in_ok-reply-clause-tables
returns-in_ok-reply-clause-tables g c =
    let old = c.index_mut-table.result.now in
    let own : c.from-number.result ≡ c.in-Some.entry.now.tenant = search rules in
    let inside : c.from-number.result < length c.args.tables.now.items = search rules in
    let at : old ≡ get_or c.args.tables.now.items c.from-number.result old = search rules in
    let next : c.apply.new.self ≡ next_state old c.in-Some.entry.now.command = search rules in
    rw c.in-Some.is (TakeEffect-set c.args.tables.now.items c.from-number.result old c.apply.new.self c.in-Some.entry.now own inside at next)

pub returns-in_ok-advance-clause-tables : goal.returns-in_ok-advance-clause-tables
returns-in_ok-advance-clause-tables g c =
    let old = c.index_mut-table.result.now in
    let own : c.from-number.result ≡ c.in-Some.entry.now.tenant = search rules in
    let inside : c.from-number.result < length c.args.tables.now.items = search rules in
    let at : old ≡ get_or c.args.tables.now.items c.from-number.result old = search rules in
    let next : c.advance.new.self ≡ next_state old c.in-Some.entry.now.command = search rules in
    rw c.in-Some.is (TakeEffect-set c.args.tables.now.items c.from-number.result old c.advance.new.self c.in-Some.entry.now own inside at next)

pub returns-in_ok-reply-clause-answer : goal.returns-in_ok-reply-clause-answer
returns-in_ok-reply-clause-answer g c =
    let old = c.index_mut-table.result.now in let entry = c.in-Some.entry.now in let tables = c.args.tables.now.items in
    let here : c.from-number.result ≡ entry.tenant = search rules in
    let inside : c.from-number.result < length tables = search rules in
    let at : old ≡ get_or tables c.from-number.result old = search rules in
    let own : is_own c.args.asker entry ≡ true = sym c.is_own.ensures ∙ c.if-is_own.true in
    let reply = own_reply c.args.asker entry tables own c.from-number.result old c.in_ok-reply.reply here inside at c.in_ok-reply.ensures.reply in
    rw c.in-Some.is (reply ∙ sym (reply_for-own c.args.asker entry tables own))

pub returns-in_ok-reply-clause-reply : goal.returns-in_ok-reply-clause-reply
returns-in_ok-reply-clause-reply g c = λ openings log stands.
    let old = c.index_mut-table.result.now in let entry = c.in-Some.entry.now in let tables = c.args.tables.now.items in
    let here : c.from-number.result ≡ entry.tenant = search rules in
    let inside : c.from-number.result < length tables = search rules in
    let at : old ≡ get_or tables c.from-number.result old = search rules in
    let own : is_own c.args.asker entry ≡ true = sym c.is_own.ensures ∙ c.if-is_own.true in
    let reply = own_reply c.args.asker entry tables own c.from-number.result old c.in_ok-reply.reply here inside at c.in_ok-reply.ensures.reply in
    rw c.in-Some.is (reply ∙ sym (answer_for-own c.args.asker entry tables own openings log stands))
