-- How a script is refused, without the number of its order.
use Rattle.std.specs.Prelude.{Result, Ok, Err}
use Rattle.reverse_runner.specs.declared.fault.RunFault.{RunFault}
use Rattle.reverse_console.specs.declared.script.Stop.{Stop}

abbrev pub fault_of : Result (Unit {0}) Stop → Result (Unit {0}) RunFault
fault_of (Ok x) = Ok x
fault_of (Err stop) = Err stop.fault
