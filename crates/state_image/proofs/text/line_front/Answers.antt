use Rattle.std.proofs.Common.{◌++◌, ℕ, length, drop, ap, ◌∙◌, arith}
use Rattle.std.proofs.lemmas.List.{length-append}
use Rattle.std.specs.Prelude.{codes, decimal}
use Rattle.std.specs.List.{flat_map}
use Rattle.rv_machine.specs.StateFields.{machine_state}
use Rattle.state_image.specs.Line.{line_front, hex_word, status_word}
use Rattle.state_image.proofs.DigitLengths.{short_32}
use Rattle.state_image.proofs.text.line_front.Goals as goal

pub push_decimal-requires : goal.push_decimal-requires
push_decimal-requires c = omega (arith, ap length c.clear.ensures, short_32 c.args.n c.ranges.n.fits)

pub push_word-requires : goal.push_word-requires
push_word-requires c = omega (arith, length-append {A = ℕ}, ap length c.clear.ensures, ap length c.push_decimal.ensures, short_32 c.args.n c.ranges.n.fits)

pub push_registers-requires : goal.push_registers-requires
push_registers-requires c = omega (arith, length-append {A = ℕ}, ap length c.clear.ensures, ap length c.push_decimal.ensures, short_32 c.args.n c.ranges.n.fits)

pub push_status-requires : goal.push_status-requires
push_status-requires c = omega (arith, length-append {A = ℕ}, ap length c.clear.ensures, ap length c.push_decimal.ensures, short_32 c.args.n c.ranges.n.fits)

pub push_place-requires : goal.push_place-requires
push_place-requires c = omega (arith, length-append {A = ℕ}, ap length c.clear.ensures, ap length c.push_decimal.ensures, short_32 c.args.n c.ranges.n.fits)

pub returns-clause-text : goal.returns-clause-text
returns-clause-text c =
    let s = machine_state c.state.inside in
    let number = c.push_decimal.ensures ∙ ap (λ xs. xs ++ decimal c.args.n) c.clear.ensures in
    let pc = c.push_word.ensures.text ∙ ap (λ xs. xs ++ codes " " ++ hex_word s.pc) number in
    let registers = c.push_registers.ensures.text ∙ ap (λ xs. xs ++ flat_map (λ word. codes " " ++ hex_word word) (drop 1 s.registers)) pc in
    let status = c.push_status.ensures.text ∙ ap (λ xs. xs ++ codes " " ++ status_word s.status) registers in
    let place = c.push_place.ensures.text ∙ ap (λ xs. xs ++ codes " " ++ decimal s.item ++ codes ":" ++ decimal s.offset ++ codes " " ++ decimal s.written) status in
    place ∙ ap (line_front c.args.n) c.state.view_is

pub returns-clause-short : goal.returns-clause-short
returns-clause-short c =
    omega (arith, length-append {A = ℕ}, ap length c.clear.ensures, ap length c.push_decimal.ensures, short_32 c.args.n c.ranges.n.fits, c.push_word.ensures.room, c.push_registers.ensures.room, c.push_status.ensures.room, c.push_place.ensures.room)
