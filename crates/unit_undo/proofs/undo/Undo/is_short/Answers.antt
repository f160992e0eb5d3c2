use Rattle.std.proofs.Common.{[], length, ap, arith}
use Rattle.unit_undo.specs.UndoState.{UndoState}
use Rattle.unit_undo.proofs.EntryStack.{length-kept}
use Rattle.unit_undo.proofs.undo.Undo.is_short.Goals as goal

pub returns-clause-entries : goal.returns-clause-entries
returns-clause-entries c =
    let kept = length-kept c.self.inside.entries.items c.self.inside.bytes.items [] in
    let seen = ap (λ (u : UndoState). length u.entries) c.self.view_is in
    let unit = ap (λ (u : UndoState). u.unit) c.self.view_is in
    omega (arith, kept, seen, unit, c.self.invariant.few_entries)
