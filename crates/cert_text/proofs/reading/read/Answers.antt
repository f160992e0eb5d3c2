use Rattle.std.proofs.Common.{◌≡◌, true, false, Err, inl, inr, refl, sym, subst}
use Rattle.line_texts.specs.declared.fault.Fault.{Fault}
use Rattle.cert_text.specs.MarkedLines.{CertificateLine}
use Rattle.cert_text.specs.Words.{words_of, end_of}
use Rattle.cert_text.specs.Faults.{first_column}
use Rattle.cert_text.specs.ReaderState.{IsAt, IsSizedFault}
use Rattle.cert_text.proofs.TextMeaning.{no_certificate, no_kind, answered, sized}
use Rattle.cert_text.proofs.reading.read.Goals as goal

pub returns-in-Err : goal.returns-in-Err
returns-in-Err c = inr (no_certificate c.args.steps c.args.book.now c.args.bytes.now c.new-reader.result c.new-reader.ensures c.in-Err.ensures.0)

pub returns-then-not-fits : goal.returns-then-not-fits
returns-then-not-fits c =
    let line : CertificateLine = record { number = c.in-Ok.first.number; text = c.in-Ok.first.text.now } in
    let F : Fault → Type 0 = λ f. IsAt (IsSizedFault c.in-Ok-kind.kind c.args.steps c.args.book.now line.number (first_column (words_of line) (end_of line)) c.kind.new.self c.line.new.self) f in
    answered c.args.steps c.args.book.now c.args.bytes.now c.in-Ok.first.text.now c.in-Ok-kind.kind c.in-Ok.first.number c.new-reader.result c.line.new.self c.new-words.result c.kind.new.self (Err c.too_large.result)
    c.new-reader.ensures c.in-Ok.ensures.0 c.in-Ok.ensures.1 c.new-words.ensures c.in-Ok-kind.ensures
    (inr (subst F (sym c.too_large.ensures) (inl ((λ fit. let e : false ≡ true = c.if-not-fits.ensures.1 fit in cc), refl, refl, refl))))

pub returns-else-not-fits : goal.returns-else-not-fits
returns-else-not-fits c =
    let line : CertificateLine = record { number = c.in-Ok.first.number; text = c.in-Ok.first.text.now } in
    answered c.args.steps c.args.book.now c.args.bytes.now c.in-Ok.first.text.now c.in-Ok-kind.kind c.in-Ok.first.number c.new-reader.result c.line.new.self c.new-words.result c.kind.new.self c.read_rest.result
    c.new-reader.ensures c.in-Ok.ensures.0 c.in-Ok.ensures.1 c.new-words.ensures c.in-Ok-kind.ensures
    (sized c.in-Ok-kind.kind c.args.steps c.args.book.now c.in-Ok.first.number (first_column (words_of line) (end_of line)) c.kind.new.self c.line.new.self c.read_rest.result
    (λ large. large (c.if-not-fits.ensures.0 refl)) c.read_rest.ensures)

pub returns-in-Err-kind : goal.returns-in-Err-kind
returns-in-Err-kind c =
    inr (no_kind c.args.steps c.args.book.now c.args.bytes.now c.in-Ok.first.text.now c.new-reader.result c.line.new.self.lines c.new-words.result c.in-Ok.first.number c.in-Err-kind.column
    c.new-reader.ensures c.in-Ok.ensures.0 c.new-words.ensures c.in-Err-kind.ensures.0 c.in-Err-kind.ensures.1)
