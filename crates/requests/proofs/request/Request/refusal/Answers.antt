use Rattle.std.proofs.Common.{ℕ, List, MatchOption, subst, arith}
use Rattle.std.specs.List.{AllByRecursion, flat_map}
use Rattle.requests.specs.Request.{Choice, unit_count}
use Rattle.requests.specs.Bounds.{option_numbers, command_numbers, IsWithin, RefusesFirst}
use Rattle.requests.specs.RequestModel.{as_command}
use Rattle.requests.proofs.NumberTests.{first_front, both_tested, unit_within}
use Rattle.requests.proofs.request.Request.refusal.Goals as goal

pub returns-in-Some : goal.returns-in-Some
returns-in-Some c =
    let P : List Choice → Type 0 = λ l. RefusesFirst (flat_map option_numbers l) c.in-Some.refusal in
    first_front _ (command_numbers (unit_count c.args.self.now.options) (as_command c.args.self.now.command)) c.in-Some.refusal (subst P c.words.ensures c.in-Some.ensures)

pub returns-in-None : goal.returns-in-None
returns-in-None c =
    let P : List Choice → Type 0 = λ l. AllByRecursion IsWithin (flat_map option_numbers l) in
    let M : ℕ → Type 0 = λ unit. MatchOption c.refusal.result (AllByRecursion IsWithin (command_numbers unit (as_command c.args.self.now.command))) (RefusesFirst (command_numbers unit (as_command c.args.self.now.command))) in
    both_tested _ _ c.refusal.result (subst P c.words.ensures c.in-None.ensures) (subst M c.unit_count.ensures c.refusal.ensures)

pub refusal-requires : goal.refusal-requires
refusal-requires c =
    let P : List Choice → Type 0 = λ l. AllByRecursion IsWithin (flat_map option_numbers l) in
    let within = unit_within c.args.self.now.options (subst P c.words.ensures c.in-None.ensures) in
    let same = c.unit_count.ensures in
    omega (arith, within.1, same)
