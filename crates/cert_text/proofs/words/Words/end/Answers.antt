use Rattle.std.proofs.Common.{ap}
use Rattle.cert_text.specs.ReaderState.{Left}
use Rattle.cert_text.proofs.words.Words.end.Goals as goal

pub returns : goal.returns
returns c = ap (λ (l : Left). l.end) c.self.view_is
