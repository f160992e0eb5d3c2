use Rattle.reverse_console.proofs.ScriptWhole.{script_or_fault}
use Rattle.reverse_console.proofs.laws.bytes_are_a_script_or_have_a_fault.Goals as goal

pub returns : goal.returns
returns c = script_or_fault
