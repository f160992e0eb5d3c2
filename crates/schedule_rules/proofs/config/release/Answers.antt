use Rattle.std.proofs.Common.{arith}
use Rattle.std.specs.FinSet as set
use Rattle.std.specs.Ordering.{nat_cmp}
use Rattle.schedule_rules.proofs.LevelLemmas.{slots_kept-set, images_kept-set}
use Rattle.schedule_rules.proofs.config.release.Goals as goal

pub returns-clause-slots : goal.returns-clause-slots
returns-clause-slots c = slots_kept-set c.args.levels.now.items c.args.level c.index_mut.result.now c.remove.new.self c.index_mut.ensures.value

pub returns-clause-held : goal.returns-clause-held
returns-clause-held c =
    images_kept-set c.args.levels.now.items c.args.level c.index_mut.result.now c.remove.new.self (λ (s : set.FinSet nat_cmp). set.remove s c.args.n)
    (omega (arith, c.requires.level, c.args.levels.now.ok)) c.index_mut.ensures.value c.remove.ensures.set
