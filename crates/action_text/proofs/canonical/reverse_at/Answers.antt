use Rattle.action_text.proofs.CanonicalSpelling.{reverse_written, last_true}
use Rattle.action_text.proofs.canonical.reverse_at.Goals as goal

pub returns : goal.returns
returns c = λ names.
    reverse_written names c.args.bytes.now c.in_ok-from.behind_from.now c.in_ok-second.second.now c.in_ok-to.behind_to.now c.in_ok-rest.rest.now c.in_ok-from.from c.in_ok-to.to
    c.in_ok-from.ensures.value c.in_ok-second.ensures c.in_ok-to.ensures.value
    (last_true c.in_ok-to.behind_to.now c.in_ok-last.last.now c.in_ok-rest.rest.now c.in_ok-last.ensures c.in_ok-rest.ensures) c.if-from-to.false
