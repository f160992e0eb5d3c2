use Rattle.std.proofs.Common.{sym, ap, ◌∙◌, arith}
use Rattle.unit_undo.specs.UndoState.{UndoState}
use Rattle.unit_undo.proofs.UndoTrail.{can_go, gone}
use Rattle.library_tests.proofs.undo_tests.go_back.Goals as goal

pub back-requires : goal.back-requires
back-requires c = can_go c.loop-undo.undo.entries c.loop-undo.state (omega (arith, c.count.ensures, c.loop-undo-test.true)) c.loop-undo.invariant.leads

pub loop-undo-preserved : goal.loop-undo-preserved
loop-undo-preserved c =
    let p = c.back.ensures.back in
    record {
      leads = gone c.loop-undo.undo c.back.new.self p.0 c.loop-undo.state c.back.new.state p.1.0 p.1.1 c.loop-undo.invariant.leads;
      unit = sym (ap (λ (u : UndoState). u.unit) p.1.0) ∙ c.loop-undo.invariant.unit;
      room = sym (ap (λ (u : UndoState). u.room) p.1.0) ∙ c.loop-undo.invariant.room;
    }
