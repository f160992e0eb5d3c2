use Rattle.std.proofs.Common.{◌≡◌, ◌*◌, replicate}
use Rattle.rv_pages.proofs.pages.zero_pages.Given as goal

abbrev pub invariant-loop-page : goal.invariant-loop-page
invariant-loop-page l = l.bytes.items ≡ replicate (4096 * l._page) 0
