-- The parts of a queue put together, and what is done at their ends.
use Rattle.std.proofs.Common.{◌≡◌, ℕ, ◌+◌, ◌-◌, ◌<◌, ◌≤◌, List, [], ◌∷◌, ◌++◌, length, take, drop, refl, sym, ap, ◌∙◌, arith, append_assoc, length-append, length-drop, All}
use Rattle.std.proofs.lemmas.List.{take-append-le, drop-append-le, take_all, drop_all, take-append-drop, drop-take, drop-drop, length-take-le, append-nil, drop_at, take-take}
use Rattle.std.proofs.lemmas.List.Elements.{All-tail, All-cons, All-append, All-nil, All-take}
use Rattle.std.specs.Io.{StartsWith}
use Rattle.mc_conn.specs.declared.queue.Part.{Part}
use Rattle.mc_conn.specs.Queued.{bytes_in_runs, own_before, put_together}

-- more own bytes come at the end
pub joined-more : (parts : List Part) (own more : List ℕ) → own_before parts ≤ length own → put_together parts (own ++ more) ≡ put_together parts own ++ more
joined-more [] own more h = refl
joined-more (part ∷ parts) own more h =
    let few : part.own ≤ length own = omega arith in
    let e = joined-more parts (drop part.own own) more (omega (arith, length-drop part.own own)) in
    rw (take-append-le part.own own more few, drop-append-le part.own own more few, e) (simp append_assoc)

-- own bytes are dropped from the front of a part
pub joined-skip : (own : ℕ) (t : ℕ) (bytes run : List ℕ) (parts : List Part) → t ≤ own → own ≤ length bytes →
    take (own - t) (drop t bytes) ++ (run ++ put_together parts (drop (own - t) (drop t bytes))) ≡ drop t (take own bytes ++ (run ++ put_together parts (drop own bytes)))
joined-skip own t bytes run parts h few =
    let e : t + (own - t) ≡ own = omega arith in
    let f = drop-take t (own - t) bytes in
    let g : drop t (take own bytes) ≡ take (own - t) (drop t bytes) = (rw e at f) in
    let d : drop (own - t) (drop t bytes) ≡ drop own bytes = (rw e at (drop-drop (own - t) t bytes)) in
    rw (drop-append-le t (take own bytes) (run ++ put_together parts (drop own bytes)) (omega (arith, length-take-le own bytes few)), g, d) refl

pub own_before-more : (parts more : List Part) → own_before (parts ++ more) ≡ own_before parts + own_before more
own_before-more [] more = omega arith
own_before-more (part ∷ parts) more = omega (arith, own_before-more parts more)

-- a last part with all own bytes that are left
pub joined-last : (parts : List Part) (part : Part) (own : List ℕ) → own_before parts + part.own ≡ length own → put_together (parts ++ part ∷ []) own ≡ put_together parts own ++ part.run
joined-last [] part own h = rw (take_all part.own own (omega arith), drop_all part.own own (omega arith), append-nil) refl
joined-last (first ∷ parts) part own h =
    rw (joined-last parts part (drop first.own own) (omega (arith, length-drop first.own own))) (simp append_assoc)

-- what is put behind own bytes
pub queued-put : (parts : List Part) (pushed : ℕ) (bytes more all : List ℕ) → all ≡ bytes ++ more → pushed + own_before parts ≤ length bytes →
    put_together parts (drop pushed all) ≡ put_together parts (drop pushed bytes) ++ more
queued-put parts pushed bytes more all e h =
    rw (e, drop-append-le pushed bytes more (omega arith)) (joined-more parts (drop pushed bytes) more (omega (arith, length-drop pushed bytes)))

-- a run comes behind all own bytes
pub queued-run : (parts all : List Part) (part : Part) (pushed : ℕ) (bytes : List ℕ) → all ≡ parts ++ part ∷ [] → pushed + own_before parts + part.own ≡ length bytes →
    put_together all (drop pushed bytes) ≡ put_together parts (drop pushed bytes) ++ part.run
queued-run parts all part pushed bytes e h = rw e (joined-last parts part (drop pushed bytes) (omega (arith, length-drop pushed bytes)))

pub own-last : (parts all : List Part) (part : Part) → all ≡ parts ++ part ∷ [] → own_before all ≡ own_before parts + part.own
own-last parts all part e = omega (arith, ap own_before e, own_before-more parts (part ∷ []))

-- own bytes are dropped from the front
pub queued-skip : (parts all rest : List Part) (first part : Part) (pushed t : ℕ) (bytes : List ℕ) → parts ≡ first ∷ rest → all ≡ part ∷ rest →
    part.run ≡ first.run → part.own + t ≡ first.own → pushed + own_before parts ≤ length bytes →
    put_together all (drop (pushed + t) bytes) ≡ drop t (put_together parts (drop pushed bytes))
queued-skip parts all rest first part pushed t bytes e f l o h =
    let few : first.own ≤ length (drop pushed bytes) = omega (arith, length-drop pushed bytes, ap own_before e) in
    let d = joined-skip first.own t (drop pushed bytes) first.run rest (omega arith) few in
    let own : part.own ≡ first.own - t = omega arith in
    rw (e, f, own, l, ← drop-drop t pushed bytes) d

-- bytes of a run are dropped from the front
pub queued-cut : (parts all rest : List Part) (first part : Part) (t : ℕ) (own : List ℕ) → parts ≡ first ∷ rest → all ≡ part ∷ rest →
    part.run ≡ drop t first.run → part.own ≡ 0 → first.own ≡ 0 → t ≤ length first.run →
    put_together all own ≡ drop t (put_together parts own)
queued-cut parts all rest first part t own e f l o z h =
    rw (e, f, o, z, l) (sym (drop-append-le t first.run (put_together rest own) h))

-- a run is dropped from the front
pub queued-past : (parts rest : List Part) (first : Part) (own : List ℕ) → parts ≡ first ∷ rest → first.own ≡ 0 →
    put_together rest own ≡ drop (length first.run) (put_together parts own)
queued-past parts rest first own e z =
    rw (e, z) (sym (drop_at first.run (put_together rest own) (length first.run) refl))

-- no run is empty
pub some-tail : (parts rest : List Part) (first : Part) → parts ≡ first ∷ rest → All (λ part. 0 < length part.run) parts → All (λ part. 0 < length part.run) rest
some-tail parts rest first e h = All-tail (λ part. 0 < length part.run) first rest (rw e at h)

pub some-front : (rest all : List Part) (part : Part) → all ≡ part ∷ rest → 0 < length part.run → All (λ part. 0 < length part.run) rest → All (λ part. 0 < length part.run) all
some-front rest all part e here h = rw e (All-cons (λ part. 0 < length part.run) part rest here h)

pub some-but_last : (parts rest : List Part) (part : Part) → parts ≡ rest ++ part ∷ [] → All (λ part. 0 < length part.run) parts → All (λ part. 0 < length part.run) rest
some-but_last parts rest part e h =
    let s = (rw e at h) in
    let t = All-take (λ part. 0 < length part.run) (length rest) (rest ++ part ∷ []) s in
    (rw (take-append-le (length rest) rest (part ∷ []) (omega arith), take_all (length rest) rest (omega arith)) at t)

pub some-last : (rest all : List Part) (part : Part) → all ≡ rest ++ part ∷ [] → 0 < length part.run → All (λ part. 0 < length part.run) rest → All (λ part. 0 < length part.run) all
some-last rest all part e here h = rw e (All-append (λ part. 0 < length part.run) rest (part ∷ []) h (All-cons (λ part. 0 < length part.run) part [] here (All-nil (λ part. 0 < length part.run))))

-- what is left where the end is taken off
pub take-but_last : (all front back : List ℕ) → all ≡ front ++ back → take (length all - length back) all ≡ front
take-but_last all front back e =
    let n : length all - length back ≡ length front = omega (arith, length-append front back, ap length e) in
    rw (n, e, take-append-le (length front) front back (omega arith)) (take_all (length front) front (omega arith))

-- own bytes are taken off the end
pub queued-shorter : (parts : List Part) (pushed t : ℕ) (bytes all : List ℕ) → bytes ≡ take (length all - t) all → t + pushed + own_before parts ≤ length all →
    put_together parts (drop pushed bytes) ≡ take (length (put_together parts (drop pushed all)) - t) (put_together parts (drop pushed all))
queued-shorter parts pushed t bytes all e h =
    let back = drop (length all - t) all in
    let whole : all ≡ bytes ++ back = rw e (sym (take-append-drop (length all - t) all)) in
    let count : length back ≡ t = omega (arith, length-drop (length all - t) all) in
    let few : pushed + own_before parts ≤ length bytes = omega (arith, ap length whole, length-append bytes back) in
    let q = queued-put parts pushed bytes back all whole few in
    let r = take-but_last (put_together parts (drop pushed all)) (put_together parts (drop pushed bytes)) back q in
    sym (rw count at r)

-- the last run is taken off
pub queued-without : (parts rest : List Part) (part : Part) (pushed : ℕ) (bytes : List ℕ) → parts ≡ rest ++ part ∷ [] → pushed + own_before parts ≡ length bytes →
    put_together rest (drop pushed bytes) ≡ take (length (put_together parts (drop pushed bytes)) - length part.run) (put_together parts (drop pushed bytes))
queued-without parts rest part pushed bytes e h =
    let o = own-last rest parts part e in
    sym (take-but_last (put_together parts (drop pushed bytes)) (put_together rest (drop pushed bytes)) part.run
    (queued-run rest parts part pushed bytes e (omega arith)))

-- the last run is made shorter
pub queued-trimmed : (parts all rest : List Part) (part last : Part) (pushed t : ℕ) (bytes : List ℕ) → parts ≡ rest ++ part ∷ [] → all ≡ rest ++ last ∷ [] →
    last.own ≡ part.own → last.run ≡ take (length part.run - t) part.run → t ≤ length part.run → pushed + own_before parts ≡ length bytes →
    put_together all (drop pushed bytes) ≡ take (length (put_together parts (drop pushed bytes)) - t) (put_together parts (drop pushed bytes))
queued-trimmed parts all rest part last pushed t bytes e f o l few h =
    let own = own-last rest parts part e in
    let back = drop (length part.run - t) part.run in
    let count : length back ≡ t = omega (arith, length-drop (length part.run - t) part.run) in
    let whole : part.run ≡ last.run ++ back = rw l (sym (take-append-drop (length part.run - t) part.run)) in
    let before = queued-run rest parts part pushed bytes e (omega arith) in
    let after = queued-run rest all last pushed bytes f (omega arith) in
    let r = take-but_last (put_together parts (drop pushed bytes)) (put_together all (drop pushed bytes)) back (rw (before, after, append_assoc, ← whole) refl) in
    sym (rw count at r)

-- how many bytes there are
pub length-together : (parts : List Part) (own : List ℕ) → own_before parts ≤ length own → length (put_together parts own) ≡ length own + bytes_in_runs parts
length-together [] own h = omega arith
length-together (part ∷ parts) own h =
    let few : part.own ≤ length own = omega arith in
    let rest = drop part.own own in
    let e = length-together parts rest (omega (arith, length-drop part.own own)) in
    omega (arith, e, length-append (take part.own own) (part.run ++ put_together parts rest), length-append part.run (put_together parts rest), length-take-le part.own own few, length-drop part.own own)

pub bytes_in_runs-more : (parts more : List Part) → bytes_in_runs (parts ++ more) ≡ bytes_in_runs parts + bytes_in_runs more
bytes_in_runs-more [] more = omega arith
bytes_in_runs-more (part ∷ parts) more = omega (arith, bytes_in_runs-more parts more)

pub runs-last : (parts all : List Part) (part : Part) → all ≡ parts ++ part ∷ [] → bytes_in_runs all ≡ bytes_in_runs parts + length part.run
runs-last parts all part e = omega (arith, ap bytes_in_runs e, bytes_in_runs-more parts (part ∷ []))

-- what begins with more begins with less
pub begins-shorter : (bytes longer front more : List ℕ) → StartsWith bytes longer → longer ≡ front ++ more → StartsWith bytes front
begins-shorter bytes longer front more begun e =
    let fits : length front ≤ length longer = omega (arith, length-append front more, ap length e) in
    let whole : take (length front) longer ≡ front = rw (e, take-append-le (length front) front more (omega arith)) (take_all (length front) front (omega arith)) in
    sym (take-take (length front) (length longer) bytes fits) ∙ (ap (take (length front)) begun ∙ whole)

-- the first of the parts that are left, and the others
pub together-first : (parts : List Part) (index : ℕ) (part : Part) (own before run behind : List ℕ) → drop index parts ≡ part ∷ drop (index + 1) parts → before ≡ take part.own own → run ≡ part.run → behind ≡ drop part.own own →
    put_together (drop index parts) own ≡ (before ++ run) ++ put_together (drop (index + 1) parts) behind
together-first parts index part own before run behind at b r d = rw (at, b, r, d) (simp append_assoc)
