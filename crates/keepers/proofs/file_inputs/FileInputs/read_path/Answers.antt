use Rattle.keepers.specs.Claims.{bytes_in}
use Rattle.keepers.proofs.EmptyPrefix.{none_begin}
use Rattle.keepers.proofs.file_inputs.FileInputs.read_path.Goals as goal

pub returns-in_default-clause-begun : goal.returns-in_default-clause-begun
returns-in_default-clause-begun g c = none_begin (g.D.Disk.told c.args.self.now.disk) c.clear.new.self.items (λ files. bytes_in files c.args.name.now) c.clear.ensures.items
