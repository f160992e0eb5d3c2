use Rattle.std.proofs.Common.{sym, subst}
use Rattle.rv_machine.specs.MachineState.{MachineState}
use Rattle.unit_undo.specs.UndoTrail.{LeadsBack, led_back}
use Rattle.unit_undo.proofs.UndoTrail.{leads_there}
use Rattle.library_tests.proofs.digest_tests.take_digests.Goals as goal

pub known_before-requires-clause-back : goal.known_before-requires-clause-back
known_before-requires-clause-back g c κs inside =
    subst (λ (s : MachineState). LeadsBack c.take.new.undo.entries s (led_back c.take.new.undo.entries s)) (sym c.take.ensures.state) (leads_there _ _ _ c.take.ensures.has.back)

pub digest-requires-clause-back : goal.digest-requires-clause-back
digest-requires-clause-back g c κs inside =
    subst (λ (s : MachineState). LeadsBack c.take.new.undo.entries s (led_back c.take.new.undo.entries s)) (sym c.take.ensures.state) (leads_there _ _ _ c.take.ensures.has.back)

pub check_digests-requires : goal.check_digests-requires
check_digests-requires g c =
    subst (λ (s : MachineState). LeadsBack c.take.new.undo.entries s (led_back c.take.new.undo.entries s)) (sym c.take.ensures.state) (leads_there _ _ _ c.take.ensures.has.back)
