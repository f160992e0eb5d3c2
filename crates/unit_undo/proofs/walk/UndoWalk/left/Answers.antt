use Rattle.std.proofs.Common.{[], length, ap, arith}
use Rattle.unit_undo.proofs.EntryStack.{length-kept}
use Rattle.unit_undo.proofs.walk.UndoWalk.left.Goals as goal

pub returns : goal.returns
returns c =
    let kept = length-kept c.self.inside.entries.now c.self.inside.bytes.now [] in
    let seen = ap length c.self.view_is in
    omega (arith, kept, seen)
