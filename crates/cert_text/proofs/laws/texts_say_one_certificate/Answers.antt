use Rattle.cert_text.proofs.TextLaws.{one_certificate}
use Rattle.cert_text.proofs.laws.texts_say_one_certificate.Goals as goal

pub returns : goal.returns
returns c = one_certificate
