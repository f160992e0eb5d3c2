use Rattle.std.proofs.Common.{◌≡◌, take, Some}
use Rattle.rv_pages.specs.Memory.{bytes_at}
use Rattle.rv_pages.proofs.pages.Pages.load_bytes.Given as goal

abbrev pub invariant-loop-k : goal.invariant-loop-k
invariant-loop-k l = bytes_at l.self l.at l.k ≡ Some (take l.k l.into)
