use Rattle.std.proofs.Common.{◌≡◌, length}
use Rattle.cert_text.proofs.nested.empty_row.Given as goal

abbrev pub invariant-loop : goal.invariant-loop
invariant-loop l = length l.row.items ≡ l.counter
