use Rattle.reverse_console.proofs.ScriptWhole.{one_script}
use Rattle.reverse_console.proofs.laws.scripts_give_one_list.Goals as goal

pub returns : goal.returns
returns c = one_script
