use Rattle.std.proofs.Common.{get_or, arith, sym, ◌∙◌}
use Rattle.gdb_wire.proofs.Numbers.{digit_small, next_below, next_fits, number_short, number_step, number_end}
use Rattle.gdb_wire.proofs.number.number.Goals as goal

pub overflow_mul-n : goal.overflow_mul-n
overflow_mul-n c =
    let fits = next_fits c.loop-byte.n 0 c.loop-byte.byte-index c.loop-byte.invariant.small (omega arith) (omega arith) in
    omega (arith, fits)

pub returns-in_err-n : goal.returns-in_err-n
returns-in_err-n c =
    let short = number_short c.args.digits.now (sym c.is_empty.ensures ∙ c.if-is_empty.false) c.if-digits-gt-MOST_DIGITS.false in
    let step = number_step c.loop-byte.n c.args.digits.now c.loop-byte.byte-index c.loop-byte-test.true in
    let none = c.in_err-n.ensures in
    c.from_residual.ensures ∙ sym (short ∙ (sym c.loop-byte.invariant.rest ∙ rw (← none) at step))

pub overflow_add-n : goal.overflow_add-n
overflow_add-n c =
    let small = digit_small (get_or c.args.digits.now c.loop-byte.byte-index 0) c.in_ok-n.field-0 (sym c.in_ok-n.ensures) in
    let fits = next_fits c.loop-byte.n c.in_ok-n.field-0 c.loop-byte.byte-index c.loop-byte.invariant.small (omega arith) small in
    omega (arith, fits)

pub loop-byte-preserved : goal.loop-byte-preserved
loop-byte-preserved c =
    let small = digit_small (get_or c.args.digits.now c.loop-byte.byte-index 0) c.in_ok-n.field-0 (sym c.in_ok-n.ensures) in
    let step = number_step c.loop-byte.n c.args.digits.now c.loop-byte.byte-index c.loop-byte-test.true in
    let some = c.in_ok-n.ensures in
    record {
      small = next_below c.loop-byte.n c.in_ok-n.field-0 c.loop-byte.byte-index c.loop-byte.invariant.small small;
      rest = sym (rw (← some) at step) ∙ c.loop-byte.invariant.rest;
    }

pub returns : goal.returns
returns c =
    let short = number_short c.args.digits.now (sym c.is_empty.ensures ∙ c.if-is_empty.false) c.if-digits-gt-MOST_DIGITS.false in
    sym (number_end c.loop-byte.n c.args.digits.now c.loop-byte.byte-index c.loop-byte-test.false) ∙ (c.loop-byte.invariant.rest ∙ sym short)
