use Rattle.std.proofs.Common.{refl, [], ◌∷◌}
use Rattle.std.specs.Prelude.{decimal}
use Rattle.std.proofs.lemmas.Result.{err_from_is_err_and}
use Rattle.cert_text.specs.Grammar.{number_to, greatest}
use Rattle.cert_text.proofs.TextMeaning.{wrong_later}
use Rattle.cert_text.proofs.reading.repeats.Goals as goal

pub returns-in_err-k : goal.returns-in_err-k
returns-in_err-k c =
    let p = err_from_is_err_and c.from_residual.result c.from_residual.ensures.1 in
    rw (p.1, p.2) (c.in_err-k.ensures (number_to greatest ∷ []))

pub returns-in_err-value : goal.returns-in_err-value
returns-in_err-value c =
    let p = err_from_is_err_and c.from_residual-in_err-value.result c.from_residual-in_err-value.ensures.1 in
    rw (p.1, p.2) (wrong_later (number_to 1000000) (number_to greatest ∷ []) (decimal c.in_ok-k.k) c.args.words.now c.number.new.self _ _
    c.in_ok-k.ensures.1 (c.in_ok-k.k, c.in_ok-k.ensures.0, refl) (c.in_err-value.ensures []))
