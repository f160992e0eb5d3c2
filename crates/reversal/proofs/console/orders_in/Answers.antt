use Rattle.reversal.proofs.Refusals.{script_refused}
use Rattle.reversal.proofs.console.orders_in.Goals as goal

pub returns-in-Err-clause-refused : goal.returns-in-Err-clause-refused
returns-in-Err-clause-refused c = script_refused c.args.steps c.args.bytes.now c.in-Err.fault c.bad_script.result c.in-Err.ensures.refused c.bad_script.ensures
