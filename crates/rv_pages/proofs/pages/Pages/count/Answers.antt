use Rattle.std.proofs.Common.{ap, length, arith}
use Rattle.rv_pages.proofs.Numbers.{seen_numbers}
use Rattle.rv_pages.proofs.pages.Pages.count.Goals as goal

pub returns-clause-value : goal.returns-clause-value
returns-clause-value c =
    let mapped = ap length (seen_numbers c.self.inside.numbers.items c.self.inside.bytes.items _ c.self.invariant.kept c.self.view_is) in
    omega (arith, mapped)
