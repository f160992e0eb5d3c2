use Rattle.std.proofs.Common.{◌≡◌, ℕ, ◌+◌, Some, ◌∙◌, ap, arith}
use Rattle.binomials.specs.Advances.{least_advances}
use Rattle.binomials.proofs.LeastAdvances.{with_slot, least_advances_one}
use Rattle.pebble_bound.proofs.BoundLaws.{no_fewer_than_steps, none_below, none_with}
use Rattle.pebble_bound.proofs.least.least_forward.Goals as goal

pub returns-then-steps-le1-clause-value : goal.returns-then-steps-le1-clause-value
returns-then-steps-le1-clause-value c = λ some slots.
    let one : c.args.steps ≡ 1 = omega arith in
    let none : least_advances c.args.steps c.args.slots ≡ 0 =
    ap (λ steps. least_advances steps c.args.slots) one ∙ least_advances_one c.args.slots (with_slot 1 c.args.slots (omega arith) slots) in
    let same : c.from.result ≡ c.args.steps + least_advances c.args.steps c.args.slots = omega (arith, c.from.ensures) in
    ap (λ (n : ℕ). Some n) same

pub returns-then-steps-le1-clause-least : goal.returns-then-steps-le1-clause-least
returns-then-steps-le1-clause-least c = λ book list is. omega (arith, c.from.ensures, no_fewer_than_steps c.args.steps book c.args.slots list is)

pub returns-then-slots-eq0-clause-least : goal.returns-then-slots-eq0-clause-least
returns-then-slots-eq0-clause-least c = λ book list is. none_with c.args.steps book c.args.slots list c.if-slots-eq0.true (omega arith) is

pub returns-clause-least : goal.returns-clause-least
returns-clause-least c = λ book list is. omega (arith, none_below c.args.steps book c.args.slots list is)
