use Rattle.std.proofs.Common.{◌<◌, ◌^◌, ℕ, List, length, get_or, Some, None, sym, subst, arith}
use Rattle.rv_pages.specs.Memory.{IsPlaceOf}
use Rattle.rv_pages.proofs.Numbers.{seen_numbers}
use Rattle.rv_pages.proofs.pages.Pages.index_of.Goals as goal

pub returns-then-number-ge-NUMBERS-clause-place : goal.returns-then-number-ge-NUMBERS-clause-place
returns-then-number-ge-NUMBERS-clause-place c = λ k low is.
    let mapped = seen_numbers c.self.inside.numbers.items c.self.inside.bytes.items _ c.self.invariant.kept c.self.view_is in
    let below = subst (λ (ns : List ℕ). get_or ns k 0 < 2 ^ 20) (sym mapped) (c.self.invariant.kept.below k 0 (subst (λ (ns : List ℕ). k < length ns) mapped low)) in
    omega (arith, below, is)

pub returns-in-Some-clause-place : goal.returns-in-Some-clause-place
returns-in-Some-clause-place c =
    let mapped = seen_numbers c.self.inside.numbers.items c.self.inside.bytes.items _ c.self.invariant.kept c.self.view_is in
    subst (λ (ns : List ℕ). IsPlaceOf ns c.args.number (Some c.in-Some.index)) (sym mapped) (c.in-Some.ensures c.self.inside.numbers.items c.self.invariant.found)

pub returns-in-None-clause-place : goal.returns-in-None-clause-place
returns-in-None-clause-place c =
    let mapped = seen_numbers c.self.inside.numbers.items c.self.inside.bytes.items _ c.self.invariant.kept c.self.view_is in
    subst (λ (ns : List ℕ). IsPlaceOf ns c.args.number None) (sym mapped) (c.in-None.ensures c.self.inside.numbers.items c.self.invariant.found)

pub returns-in-Some-clause-few : goal.returns-in-Some-clause-few
returns-in-Some-clause-few c =
    let found = c.in-Some.ensures c.self.inside.numbers.items c.self.invariant.found in
    let few = c.self.invariant.kept.few in
    omega (arith, found.0, few)
