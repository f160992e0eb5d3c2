use Rattle.std.proofs.Common.{arith}
use Rattle.multistage_gen.proofs.Counts.{read_more, writes_small}
use Rattle.multistage_gen.proofs.traffic.read_at.Goals as goal

pub overflow_add-index_mut : goal.overflow_add-index_mut
overflow_add-index_mut c =
    let old = c.args.places.now in
    let new = c.reach.new.places in
    let there = c.in_ok-reach.ensures.there in
    let s = c.requires.small in
    let small = writes_small s.0 s.1 old.items new.items c.args.place c.index_mut.result.now s.2 (omega (arith, new.ok, there.0))
    (λ p h. c.in_ok-reach.ensures.old p (omega (arith, old.ok))) (λ p h g. c.in_ok-reach.ensures.new p (omega (arith, old.ok)) (omega (arith, new.ok))) c.index_mut.ensures.value in
    let few = small.1 in
    let short = s.3 in
    record { fits = omega arith }

pub returns-clause-ok : goal.returns-clause-ok
returns-clause-ok c = λ ws rs t.
    let old = c.args.places.now in
    let new = c.reach.new.places in
    let there = c.in_ok-reach.ensures.there in
    read_more ws rs old.items new.items c.args.place c.index_mut.result.now t
    (omega (arith, old.ok, c.requires.near)) (omega (arith, new.ok, there.0)) (omega (arith, old.ok, new.ok, there.1)) (omega (arith, old.ok, new.ok, c.in_ok-reach.ensures.few))
    (λ p h. c.in_ok-reach.ensures.old p (omega (arith, old.ok))) (λ p h g. c.in_ok-reach.ensures.new p (omega (arith, old.ok)) (omega (arith, new.ok)))
    c.index_mut.ensures.value
