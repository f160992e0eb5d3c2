use Rattle.class_rules.proofs.RevolveComparison.{Walked}
use Rattle.class_rules.proofs.multistage.levels_of.Given as goal

abbrev pub invariant-loop-action : goal.invariant-loop-action
invariant-loop-action l = Walked l.initial.expected l.list l.action-index l.held l.expected l.levels.items
