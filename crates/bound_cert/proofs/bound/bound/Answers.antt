use Rattle.std.proofs.Common.{◌+◌, ◌*◌, ◌∙◌, arith}
use Rattle.bound_cert.proofs.Numbers.{found, none_there, many, all_at}
use Rattle.bound_cert.proofs.bound.bound.Goals as goal

pub returns-then-slots-eq0 : goal.returns-then-slots-eq0
returns-then-slots-eq0 c =
    found c.args.steps c.args.slots c.args.k (c.from.result * (c.from-2.result + 1)) c.from-then-slots-eq0.result c.checked_sub.result
    (all_at c.args.steps c.args.k c.from.result c.from-2.result c.from.ensures c.from-2.ensures)
    (c.from-then-slots-eq0.ensures ∙ none_there c.args.slots c.args.k c.if-slots-eq0.true) c.checked_sub.ensures

pub returns-then-k-steps : goal.returns-then-k-steps
returns-then-k-steps c = many c.args.steps c.args.slots c.args.k (omega arith) (omega arith)
