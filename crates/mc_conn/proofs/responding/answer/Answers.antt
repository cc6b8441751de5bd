use Rattle.std.proofs.Common.{inl, inr, refl}
use Rattle.mc_conn.proofs.Answering.{full_answers, may_announce, placed_answers}
use Rattle.mc_conn.proofs.responding.answer.Goals as goal

pub returns-in-Ok : goal.returns-in-Ok
returns-in-Ok g c =
    let on = c.submit.ensures.continues in let submits = c.in-Ok.ensures.submits in
    record {
      onward = on;
      outcome = placed_answers _ _ _ _ on c.in-Ok.answer submits;
      announced = may_announce _ _ _ _ on (inr submits.announced);
    }

pub returns-in-Err-LogFull : goal.returns-in-Err-LogFull
returns-in-Err-LogFull g c =
    let on = c.submit.ensures.continues in
    record {
      onward = on;
      outcome = full_answers _ _ _ _ on c.in-Err-LogFull.ensures.kept c.in-Err-LogFull.field-0 c.in-Err-LogFull.field-0-is c.in-Err-LogFull.ensures.faults;
      announced = may_announce _ _ _ _ on c.in-Err-LogFull.ensures.kept;
    }

pub returns-in-Err-Memory : goal.returns-in-Err-Memory
returns-in-Err-Memory g c =
    let on = c.submit.ensures.continues in
    record { onward = on; outcome = inl refl; announced = may_announce _ _ _ _ on c.in-Err-Memory.ensures.kept }

pub returns-in-Err-Taken : goal.returns-in-Err-Taken
returns-in-Err-Taken g c =
    let on = c.submit.ensures.continues in
    record { onward = on; outcome = inr refl; announced = may_announce _ _ _ _ on c.in-Err-Taken.ensures.kept }
