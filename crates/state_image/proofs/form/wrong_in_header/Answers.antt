use Rattle.std.proofs.Common.{List, [], ◌∷◌, ◌++◌, None, sym, ◌∙◌, ap}
use Rattle.state_image.specs.ImageForm.{Field, magic, version, pc, registers, kind, value, item, offset, written, count, is_wrong, start_or}
use Rattle.state_image.proofs.FirstWrongField.{start_some, find_later}
use Rattle.state_image.proofs.form.wrong_in_header.Goals as goal

pub returns-in-Some-wrong_in_status-clause-value : goal.returns-in-Some-wrong_in_status-clause-value
returns-in-Some-wrong_in_status-clause-value c =
    let front : List Field = magic ∷ version ∷ pc ∷ registers ∷ [] in
    let status : List Field = kind ∷ value ∷ [] in
    let rest : List Field = item ∷ offset ∷ written ∷ count ∷ [] in
    start_some (is_wrong c.args.bytes.now) status rest _ None c.in-Some-wrong_in_status.ensures
    ∙ ap (λ o. start_or o None) (sym (find_later (is_wrong c.args.bytes.now) front (status ++ rest) (sym c.in_default.ensures)))

pub returns-clause-value : goal.returns-clause-value
returns-clause-value c =
    let front : List Field = magic ∷ version ∷ pc ∷ registers ∷ [] in
    let status : List Field = kind ∷ value ∷ [] in
    let rest : List Field = item ∷ offset ∷ written ∷ count ∷ [] in
    c.wrong_in_rest.ensures.value
    ∙ ap (λ o. start_or o None) (sym (find_later (is_wrong c.args.bytes.now) front (status ++ rest) (sym c.in_default.ensures)
    ∙ find_later (is_wrong c.args.bytes.now) status rest (sym c.in_default-wrong_in_status.ensures)))
