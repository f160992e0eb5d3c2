use Rattle.requests.specs.Forms.{command_of}
use Rattle.requests.proofs.FormValues.{gives_then}
use Rattle.requests.proofs.reading.read_command.Goals as goal

pub returns : goal.returns
unfolding command_of
returns c =
    gives_then _ _ _ _ _ c.or-16.ensures (gives_then _ _ _ _ _ c.or-15.ensures (gives_then _ _ _ _ _ c.or-14.ensures (gives_then _ _ _ _ _ c.or-13.ensures (gives_then _ _ _ _ _ c.or-12.ensures (gives_then _ _ _ _ _ c.or-11.ensures (gives_then _ _ _ _ _ c.or-10.ensures (gives_then _ _ _ _ _ c.or-9.ensures (gives_then _ _ _ _ _ c.or-8.ensures (gives_then _ _ _ _ _ c.or-7.ensures (gives_then _ _ _ _ _ c.or-6.ensures (gives_then _ _ _ _ _ c.or-5.ensures (gives_then _ _ _ _ _ c.or-4.ensures (gives_then _ _ _ _ _ c.or-3.ensures (gives_then _ _ _ _ _ c.or-2.ensures (gives_then _ _ _ _ _ c.or.ensures c.read_run.ensures c.read_plan.ensures) c.read_plan-2.ensures) c.read_plan-3.ensures) c.read_plan-4.ensures) c.read_plan_periodic.ensures) c.read_check.ensures) c.read_certify.ensures) c.read_cost.ensures) c.read_ask_state.ensures) c.read_ask_last_write.ensures) c.read_ask_last_change.ensures) c.read_find.ensures) c.read_asm.ensures) c.read_disasm.ensures) c.read_console.ensures) c.read_demo.ensures
