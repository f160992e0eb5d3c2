use Rattle.std.proofs.Common.{arith}
use Rattle.std.proofs.lemmas.Grind.{common_steps}
use Rattle.hex.specs.Hex.{encode_with}
use Rattle.gdb_wire.proofs.Digits.{encode_more}
use Rattle.gdb_wire.proofs.replies.push_hex.Goals as goal

pub loop-byte-init : goal.loop-byte-init
unfolding encode_with
loop-byte-init c = grind (arith, common_steps)

pub loop-byte-preserved : goal.loop-byte-preserved
loop-byte-preserved c =
    let more = encode_more c.args.bytes.now c.loop-byte.byte-index c.loop-byte-test.true in
    grind (arith, common_steps)
