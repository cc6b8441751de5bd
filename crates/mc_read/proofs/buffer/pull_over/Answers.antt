use Rattle.std.proofs.Common.{refl, sym, arith, length-take}
use Rattle.mc_read.proofs.Pullings.{pulls_behind}
use Rattle.mc_read.proofs.buffer.pull_over.Goals as goal

pub returns-in-Bytes-clause-pulls : goal.returns-in-Bytes-clause-pulls
returns-in-Bytes-clause-pulls g c =
    let split = c.split_at_mut-behind in
    let said = c.in-Bytes.ensures in
    let few = length-take c.args.most split.result.1.now in
    pulls_behind _ _ _ _ split.result.0.now c.pull.new.buffer _ c.args.most c.args.start c.in-Bytes.count (record { count = said.count; event = said.event; rest = said.rest; no_more = said.no_more })
    (omega (arith, few, c.pull.auto.buffer)) (sym split.ensures.front) (omega (arith, split.ensures.front_len)) said.count.1 refl

pub returns-in-Empty-clause-pulls : goal.returns-in-Empty-clause-pulls
returns-in-Empty-clause-pulls g c =
    let split = c.split_at_mut-behind in
    let said = c.in-Empty.ensures in
    let few = length-take c.args.most split.result.1.now in
    pulls_behind _ _ _ _ split.result.0.now c.pull.new.buffer _ c.args.most c.args.start 0 (record { count = said.count; event = said.event; rest = said.rest; no_more = said.no_more })
    (omega (arith, few, c.pull.auto.buffer)) (sym split.ensures.front) (omega (arith, split.ensures.front_len)) (omega arith) refl

pub returns-in-Ended-clause-pulls : goal.returns-in-Ended-clause-pulls
returns-in-Ended-clause-pulls g c =
    let split = c.split_at_mut-behind in
    let said = c.in-Ended.ensures in
    let few = length-take c.args.most split.result.1.now in
    pulls_behind _ _ _ _ split.result.0.now c.pull.new.buffer _ c.args.most c.args.start 0 (record { count = said.count; event = said.event; rest = said.rest; no_more = said.no_more })
    (omega (arith, few, c.pull.auto.buffer)) (sym split.ensures.front) (omega (arith, split.ensures.front_len)) (omega arith) refl

pub returns-in-Failed-clause-pulls : goal.returns-in-Failed-clause-pulls
returns-in-Failed-clause-pulls g c =
    let split = c.split_at_mut-behind in
    let said = c.in-Failed.ensures in
    let few = length-take c.args.most split.result.1.now in
    pulls_behind _ _ _ _ split.result.0.now c.pull.new.buffer _ c.args.most c.args.start 0 (record { count = said.count; event = said.event; rest = said.rest; no_more = said.no_more })
    (omega (arith, few, c.pull.auto.buffer)) (sym split.ensures.front) (omega (arith, split.ensures.front_len)) (omega arith) refl
