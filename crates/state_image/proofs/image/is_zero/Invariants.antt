use Rattle.std.proofs.Common.{◌≡◌, ◌==◌}
use Rattle.std.specs.List.{list_all}
use Rattle.std.specs.Slice.Iter.{chunks_rest, chunks_size}
use Rattle.state_image.proofs.image.is_zero.Given as goal

abbrev pub invariant-loop-piece : goal.invariant-loop-piece
invariant-loop-piece l = (chunks_size l.piece-iterator ≡ 256) × (list_all (λ b. b == 0) (chunks_rest l.piece-iterator) ≡ list_all (λ b. b == 0) l.bytes)
