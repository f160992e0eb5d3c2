use Rattle.std.proofs.Common.{length, ap, arith}
use Rattle.rv_pages.proofs.Numbers.{seen_numbers}
use Rattle.rv_pages.proofs.PageInvariant.{zero_seen, marked_inside}
use Rattle.rv_pages.proofs.pages.Pages.next_touched.Goals as goal

pub returns-in-Some-clause-index : goal.returns-in-Some-clause-index
returns-in-Some-clause-index c =
    let next = c.in-Some.ensures in
    let mapped = ap length (seen_numbers c.self.inside.numbers.items c.self.inside.bytes.items _ c.self.invariant.kept c.self.view_is) in
    let inside = marked_inside c.self.inside.numbers.items _ _ c.self.inside.bytes.items c.self.inside.written.words c.self.invariant c.in-Some.index next.2 in
    (next.0, omega (arith, mapped, inside))

pub returns-in-Some-clause-zero : goal.returns-in-Some-clause-zero
returns-in-Some-clause-zero c = λ k from to.
    let next = c.in-Some.ensures in
    let inside = marked_inside c.self.inside.numbers.items _ _ c.self.inside.bytes.items c.self.inside.written.words c.self.invariant c.in-Some.index next.2 in
    zero_seen c.self.inside.numbers.items _ _ c.self.inside.bytes.items c.self.inside.written.words c.self.invariant c.args.self.now c.self.view_is k (omega arith) (next.3 k from to)

pub returns-in-None-clause-zero : goal.returns-in-None-clause-zero
returns-in-None-clause-zero c = λ k from to.
    let mapped = ap length (seen_numbers c.self.inside.numbers.items c.self.inside.bytes.items _ c.self.invariant.kept c.self.view_is) in
    zero_seen c.self.inside.numbers.items _ _ c.self.inside.bytes.items c.self.inside.written.words c.self.invariant c.args.self.now c.self.view_is k (omega arith) (c.in-None.ensures k from)
