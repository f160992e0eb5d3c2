use Rattle.requests.proofs.Requests.{found_said, none_said}
use Rattle.requests.proofs.request.read_request.Goals as goal

pub returns-clause-found : goal.returns-clause-found
returns-clause-found c = found_said _ c.request_in.result c.request_in.ensures

pub returns-clause-none : goal.returns-clause-none
returns-clause-none c = none_said _ c.request_in.result c.request_in.ensures
