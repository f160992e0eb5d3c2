use Rattle.std.proofs.Common.{◌≡◌, ◌≤◌, ◌+◌, ◌*◌, ◌++◌, take}
use Rattle.std.specs.List.{flat_map}
use Rattle.std.specs.Int.{to_le_bytes, w32}
use Rattle.std.specs.Vec.{vec_len, vec_capacity}
use Rattle.state_image.proofs.encoding.push_registers.Given as goal

abbrev pub invariant-loop-word : goal.invariant-loop-word
invariant-loop-word l = record {
  items : l.into.items ≡ l.initial.into.items ++ flat_map (to_le_bytes w32) (take l.word-index l.word-items);
  len : vec_len l.into ≡ vec_len l.initial.into + 4 * l.word-index;
  reserved : vec_capacity l.initial.into ≤ vec_capacity l.into;
}
