use Rattle.std.proofs.Common.{◌≡◌, ◌==◌, take}
use Rattle.std.specs.List.{list_all}
use Rattle.state_image.proofs.image.is_zero_piece.Given as goal

abbrev pub invariant-loop-byte : goal.invariant-loop-byte
invariant-loop-byte l = (l.seen == 0) ≡ list_all (λ b. b == 0) (take l.byte-index l.bytes)
