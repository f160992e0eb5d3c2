use Rattle.std.proofs.Common.{length}
use Rattle.std.specs.Prelude.{replicate}
use Rattle.std.proofs.lemmas.Result.{err_from_is_err_and}
use Rattle.cert_text.specs.Grammar.{an_entry}
use Rattle.cert_text.proofs.rows.column_words.Goals as goal

pub returns-in_err-this_word : goal.returns-in_err-this_word
returns-in_err-this_word c =
    let p = err_from_is_err_and c.from_residual.result c.from_residual.ensures.1 in
    rw (p.1, p.2) (c.in_err-this_word.ensures (replicate (length c.args.row.now) an_entry))
