use Rattle.std.proofs.Common.{◌≡◌, ◌+◌, ◌-◌, true, false, nat_le, length, refl, ap, sym, ◌∙◌}
use Rattle.std.specs.FinMap as map
use Rattle.mc_tables.proofs.Totals.{all_fits, no_place, no_room, with_put}
use Rattle.mc_tables.proofs.meter.Meter.with.Goals as goal

pub returns-then-not-has_room : goal.returns-then-not-has_room
returns-then-not-has_room c table item totals is len_is =
    let meter = c.args.self.now in
    let key = c.args.key.now in
    let under = c.weight_found.result in
    let added = c.weight_with-needed.result in
    let under_is = c.weight_found.ensures table is in
    let added_is = c.weight_with-needed.ensures ∙ ap (λ n. length key + n) (sym len_is) in
    let full : false ≡ nat_le (meter.used - under + added) meter.limits.bytes =
    sym c.if-not-has_room.true ∙ c.has_room.ensures ∙ ap (λ n. nat_le (n + added) meter.limits.bytes) c.saturating_sub-others.ensures in
    (no_room table key item meter.used meter.count under added c.args.old totals is under_is added_is meter.limits full, tt)

pub returns-then-not-has_place : goal.returns-then-not-has_place
returns-then-not-has_place c table item totals is len_is =
    let meter = c.args.self.now in
    let key = c.args.key.now in
    let under = c.weight_found.result in
    let added = c.weight_with-needed.result in
    let under_is = c.weight_found.ensures table is in
    let added_is = c.weight_with-needed.ensures ∙ ap (λ n. length key + n) (sym len_is) in
    let room : true ≡ nat_le (meter.used - under + added) meter.limits.bytes =
    sym c.if-not-has_room.false ∙ c.has_room.ensures ∙ ap (λ n. nat_le (n + added) meter.limits.bytes) c.saturating_sub-others.ensures in
    let full = sym c.if-not-has_place.true ∙ c.has_place.ensures in
    (no_place table key item meter.used meter.count under added c.args.old totals is under_is added_is meter.limits room full, tt)

pub returns : goal.returns
returns c table item totals is len_is =
    let meter = c.args.self.now in
    let key = c.args.key.now in
    let under = c.weight_found.result in
    let added = c.weight_with-needed.result in
    let under_is = c.weight_found.ensures table is in
    let added_is = c.weight_with-needed.ensures ∙ ap (λ n. length key + n) (sym len_is) in
    let room : true ≡ nat_le (meter.used - under + added) meter.limits.bytes =
    sym c.if-not-has_room.false ∙ c.has_room.ensures ∙ ap (λ n. nat_le (n + added) meter.limits.bytes) c.saturating_sub-others.ensures in
    let place = sym c.if-not-has_place.false ∙ c.has_place.ensures in
    let new = with_put table key item meter.used meter.count under added c.args.old totals is under_is added_is (map.insert table key item) refl in
    let fits = all_fits table key item meter.used meter.count under added c.args.old totals is under_is added_is meter.limits room place in
    (fits, (refl, (ap (λ n. n + added) c.saturating_sub-others.ensures ∙ new.0, c.count_with.ensures ∙ new.1)))
