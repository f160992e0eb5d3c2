use Rattle.std.proofs.Common.{sym, subst}
use Rattle.rv_machine.specs.MachineState.{MachineState}
use Rattle.unit_undo.specs.UndoTrail.{LeadsBack, led_back}
use Rattle.unit_undo.proofs.UndoTrail.{leads_there}
use Rattle.library_tests.proofs.undo_tests.check_unit.Goals as goal

pub go_back-requires : goal.go_back-requires
go_back-requires g c =
    subst (λ (s : MachineState). LeadsBack c.take.new.undo.entries s (led_back c.take.new.undo.entries s)) (sym c.take.ensures.state) (leads_there _ _ _ c.take.ensures.has.back)
