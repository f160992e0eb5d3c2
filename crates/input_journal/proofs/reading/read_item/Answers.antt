use Rattle.std.proofs.Common.{◌+◌, ◌-◌, length, take, drop, sym, ◌∙◌, ap, arith, Ok}
use Rattle.std.proofs.lemmas.List.{take_all, length-drop}
use Rattle.input_journal.proofs.Fields.{item_read}
use Rattle.input_journal.proofs.reading.read_item.Goals as goal

pub returns-clause-value : goal.returns-clause-value
returns-clause-value c =
    let bytes = c.args.bytes.now in
    let from = c.args.at + 4 in
    let rest = drop from bytes in
    let len = c.in_ok-len.len in
    let all = take_all (length bytes - from) rest (omega (arith, length-drop from bytes)) in
    item_read c.args.at len bytes c.in_ok-len.ensures.value (omega arith) (omega (arith, ap length all, length-drop from bytes, c.in_ok-len.ensures.within))
    ∙ ap (λ xs. Ok (take len xs)) (sym all)
