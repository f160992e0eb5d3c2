use Rattle.std.proofs.Common.{◌++◌, sym, ap}
use Rattle.keepers.specs.Claims.{bytes_in}
use Rattle.memory_disk.specs.Changes.{files_after}
use Rattle.memory_disk.proofs.MemoryDiskDisk.read_whole.Goals as goal

pub returns-then-bytes-limit-clause-begun : goal.returns-then-bytes-limit-clause-begun
returns-then-bytes-limit-clause-begun c = (let bytes = bytes_in (files_after c.args.self.now.changes.items) c.args.path.now in (bytes, ap (λ front. front ++ bytes) (sym c.clear.ensures.items)))

pub returns-in_err-call-clause-begun : goal.returns-in_err-call-clause-begun
returns-in_err-call-clause-begun c = (let bytes = bytes_in (files_after c.args.self.now.changes.items) c.args.path.now in (bytes, ap (λ front. front ++ bytes) (sym c.clear.ensures.items)))
