use Rattle.std.proofs.Common.{◌≡◌, ◌≤◌, ◌<◌, ◌-◌, ℕ, length, take, arith, refl, subst}
use Rattle.std.specs.Io.KnownBytes.{Consumes}
use Rattle.std.proofs.lemmas.Slice.{take-put_mid_below}
use Rattle.keepers.proofs.ReadsAndWrites.{consumes_more, consumes_kept, room_stays, room_read, read_full, read_end}
use Rattle.keepers.proofs.transfer.read_first.Goals as goal
use Rattle.keepers.proofs.transfer.read_first.Goals.{in-Ok, in-Err+else-ne}

pub loop-preserved : goal.loop-preserved
loop-preserved g c =
    let front = c.loop.invariant.0 in
    let full : length c.read.new.buf ≡ length c.loop.room - c.loop.at = omega arith in
    elim c.match-read.branch [
      | in-Ok w ↦
          let more = consumes_more _ _ _ _ _ c.loop.invariant.1 w.in-Ok.ensures.bytes.0 in
          let fits : w.in-Ok.count ≤ length c.read.new.buf = w.in-Ok.ensures.bound.0 in
          let stays = room_stays c.loop.at _ w.in-Ok.count c.loop.room c.read.new.buf front refl full fits in
          rw w.at-is (omega (arith, stays, front, full, fits), rw (room_read c.loop.at _ w.in-Ok.count c.loop.room c.read.new.buf front refl full fits) more)
      | in-Err+else-ne w ↦
          let kept = consumes_kept _ _ _ _ c.loop.invariant.1 w.in-Err.ensures.bytes in
          let stays = room_stays c.loop.at _ 0 c.loop.room c.read.new.buf front refl full (omega arith) in
          rw w.at-is (omega (arith, stays, front), rw (take-put_mid_below c.loop.at _ c.loop.room c.read.new.buf c.loop.at (omega arith) front) kept)
    ]

pub returns-then-at-room-clause-bytes : goal.returns-then-at-room-clause-bytes
returns-then-at-room-clause-bytes g c = read_full _ _ _ _ _ c.loop.invariant.1 c.if-at-room.true c.loop.auto.room

pub returns-in-Ok-eq0-clause-bytes : goal.returns-in-Ok-eq0-clause-bytes
returns-in-Ok-eq0-clause-bytes g c =
    let front = c.loop.invariant.0 in
    let full : length c.read.new.buf ≡ length c.loop.room - c.loop.at = omega arith in
    let P : ℕ → Type 0 = λ n. Consumes (g.F.Read.remaining c.loop.file) (g.F.Read.remaining c.read.new.self) (take n c.read.new.buf) in
    let none = subst P c.in-Ok-eq0.field-0-test c.in-Ok-eq0.ensures.bytes.0 in
    let some : 0 < length c.read.new.buf = omega (arith, full, front, c.if-at-room.false) in
    let end = c.in-Ok-eq0.ensures.bytes.1 c.in-Ok-eq0.field-0-test some in
    read_end _ _ _ _ _ c.loop.room c.read.new.buf _ c.loop.invariant.1 none end front c.loop.auto.room
    (take-put_mid_below c.loop.at _ c.loop.room c.read.new.buf c.loop.at (omega arith) front)
