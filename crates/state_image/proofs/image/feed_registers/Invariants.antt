use Rattle.std.proofs.Common.{take}
use Rattle.std.specs.List.{flat_map}
use Rattle.std.specs.Int.{to_le_bytes, w32}
use Rattle.state_image.specs.HashInput.{Feeds}
use Rattle.state_image.proofs.image.feed_registers.Given as goal

abbrev pub invariant-loop-word : goal.invariant-loop-word
invariant-loop-word l = Feeds l.initial.hasher l.hasher (flat_map (to_le_bytes w32) (take l.word-index l.word-items))
