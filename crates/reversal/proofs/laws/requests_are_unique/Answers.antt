use Rattle.requests.proofs.Requests.{one_request}
use Rattle.reversal.proofs.laws.requests_are_unique.Goals as goal

pub returns : goal.returns
returns c = one_request
