use Rattle.std.proofs.Common.{◌≡◌, ◌+◌, ◌-◌, ◌++◌}
use Rattle.hex.specs.Hex.{encode_lower}
use Rattle.gdb_replies.specs.StateTexts.{mapped_bytes}
use Rattle.gdb_replies.proofs.state_texts.push_bytes.Given as goal

-- what is there and what is still to be added make what is to be there at the end
abbrev pub invariant-loop-k : goal.invariant-loop-k
invariant-loop-k l =
    l.out.items ++ encode_lower (mapped_bytes l.pages (l.at + l.k) (l.count - l.k)) ≡ l.fn.out.items ++ encode_lower (mapped_bytes l.pages l.at l.count)
