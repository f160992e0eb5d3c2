use Rattle.std.proofs.Common.{◌+◌, ◌*◌}
use Rattle.hrevolve_gen.proofs.writing.+writing.Given as goal

abbrev pub decreases-write_fresh : goal.decreases-write_fresh
decreases-write_fresh l = 256 * l.stretch.steps + l.stretch.level

abbrev pub decreases-write_held : goal.decreases-write_held
decreases-write_held l = 256 * l.stretch.steps + l.stretch.level
