use Rattle.cert_text.proofs.TextLaws.{certificate_or_fault}
use Rattle.cert_text.proofs.laws.bytes_say_a_certificate_or_have_a_fault.Goals as goal

pub returns : goal.returns
returns c = certificate_or_fault
