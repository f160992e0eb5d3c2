use Rattle.std.proofs.Common.{refl, length, ◌∷◌}
use Rattle.std.specs.Prelude.{decimal, replicate}
use Rattle.std.proofs.lemmas.Result.{err_from_is_err_and}
use Rattle.cert_text.specs.Grammar.{this_word, an_entry}
use Rattle.cert_text.proofs.TextMeaning.{wrong_later}
use Rattle.cert_text.proofs.rows.row_words.Goals as goal

pub returns-in_err-this_word : goal.returns-in_err-this_word
returns-in_err-this_word c =
    let p = err_from_is_err_and c.from_residual.result c.from_residual.ensures.1 in
    rw (p.1, p.2) (c.in_err-this_word.ensures (this_word (decimal c.args.k) ∷ this_word (decimal c.args.m) ∷ replicate (length c.args.row.now) an_entry))

pub returns-in_err-this_number : goal.returns-in_err-this_number
returns-in_err-this_number c =
    let p = err_from_is_err_and c.from_residual-in_err-this_number.result c.from_residual-in_err-this_number.ensures.1 in
    rw (p.1, p.2) (wrong_later (this_word c.args.letter.now) (this_word (decimal c.args.k) ∷ this_word (decimal c.args.m) ∷ replicate (length c.args.row.now) an_entry) c.args.letter.now c.args.words.now c.this_word.new.self _ _
    c.in_ok-this_word.ensures refl (c.in_err-this_number.ensures (this_word (decimal c.args.m) ∷ replicate (length c.args.row.now) an_entry)))
