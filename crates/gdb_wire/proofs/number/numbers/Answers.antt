use Rattle.std.proofs.Common.{◌+◌, sym, ap, ◌∙◌}
use Rattle.std.proofs.lemmas.List.{take_rest}
use Rattle.gdb_wire.specs.RequestParser.{number_of}
use Rattle.gdb_wire.proofs.Numbers.{numbers_none, numbers_at}
use Rattle.gdb_wire.proofs.number.numbers.Goals as goal

pub returns-in_err-comma : goal.returns-in_err-comma
returns-in_err-comma c = c.from_residual.ensures ∙ sym (numbers_none c.args.text.now c.in_err-comma.ensures)

pub returns-in_err-number : goal.returns-in_err-number
returns-in_err-number c =
    let found = c.in_ok-comma.ensures in
    let read = numbers_at c.args.text.now c.in_ok-comma.comma found.1 found.0 found.2 in
    let none = c.in_err-number.ensures in
    c.from_residual-in_err-number.ensures ∙ sym (rw (← none) at read)

pub returns-in_err-number-2 : goal.returns-in_err-number-2
returns-in_err-number-2 c =
    let found = c.in_ok-comma.ensures in
    let read = numbers_at c.args.text.now c.in_ok-comma.comma found.1 found.0 found.2 in
    let first = c.in_ok-number.ensures in
    let none = c.in_err-number-2.ensures ∙ ap number_of (take_rest c.args.text.now (c.in_ok-comma.comma + 1)) in
    c.from_residual-in_err-number-2.ensures ∙ sym (rw (← first, ← none) at read)

pub returns : goal.returns
returns c =
    let found = c.in_ok-comma.ensures in
    let read = numbers_at c.args.text.now c.in_ok-comma.comma found.1 found.0 found.2 in
    let first = c.in_ok-number.ensures in
    let second = c.in_ok-number-2.ensures ∙ ap number_of (take_rest c.args.text.now (c.in_ok-comma.comma + 1)) in
    sym (rw (← first, ← second) at read)
