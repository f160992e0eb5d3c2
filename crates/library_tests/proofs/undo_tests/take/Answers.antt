use Rattle.std.proofs.Common.{◌+◌, ap, sym, subst, ◌∙◌, arith}
use Rattle.rv_machine.specs.MachineState.{MachineState}
use Rattle.rv_machine.specs.StepTable.{next}
use Rattle.rv_machine.proofs.Runs.{state_number-add-one}
use Rattle.unit_undo.specs.Entry.{Undoes}
use Rattle.unit_undo.specs.UndoState.{UndoState, HasRoomFor}
use Rattle.unit_undo.specs.UndoTrail.{HasSteps, IsMadeFor}
use Rattle.unit_undo.proofs.UndoTrail.{fits, pushed}
use Rattle.library_tests.proofs.undo_tests.take.Goals as goal

pub push-requires : goal.push-requires
push-requires g c =
    let h = c.loop.invariant in
    let made : IsMadeFor c.args.journal.now c.loop.undo = omega (arith, h.unit, h.room, c.requires.made) in
    subst (λ (s : MachineState). HasRoomFor c.loop.undo s c.args.journal.now) (sym h.state)
    (fits c.loop.undo c.args.state.now c.args.journal.now c.loop.counter made h.has (omega (arith, h.unit, c.loop-test.true, c.requires.few)))

pub loop-preserved : goal.loop-preserved
loop-preserved g c =
    let h = c.loop.invariant in
    let p = c.push.ensures in
    let undoes = subst (λ (s : MachineState). Undoes p.0 s c.args.journal.now) h.state p.1.1 in
    record {
      has = subst (λ (u : UndoState). HasSteps u c.args.state.now c.args.journal.now (c.loop.counter + 1)) (sym p.1.0) (pushed c.loop.undo c.args.state.now c.args.journal.now c.loop.counter p.0 h.has undoes);
      state = c.step.ensures.next ∙ ap (λ (s : MachineState). next s c.args.journal.now) h.state ∙ sym (state_number-add-one c.args.state.now c.args.journal.now c.loop.counter);
      unit = ap (λ (u : UndoState). u.unit) p.1.0 ∙ h.unit;
      room = ap (λ (u : UndoState). u.room) p.1.0 ∙ h.room;
    }
