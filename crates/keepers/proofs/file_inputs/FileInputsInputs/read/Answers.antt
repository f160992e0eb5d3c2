use Rattle.keepers.specs.Claims.{bytes_in}
use Rattle.keepers.proofs.EmptyPrefix.{none_begin}
use Rattle.keepers.proofs.file_inputs.FileInputsInputs.read.Goals as goal

pub returns-then-is_err-clause-begun : goal.returns-then-is_err-clause-begun
returns-then-is_err-clause-begun g c = none_begin (g.D.Disk.told c.args.self.now.disk) c.clear.new.self.items (λ files. bytes_in files c.args.name.now) c.clear.ensures.items

pub returns-in-Err-clause-cause : goal.returns-in-Err-clause-cause
returns-in-Err-clause-cause g c = (λ _. c.in-Err.ensures.cause (λ kind. cc (c.is_fault.ensures.memory kind)))
