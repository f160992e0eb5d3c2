use Rattle.std.proofs.Common.{sym, ◌∙◌, ap, arith}
use Rattle.std.specs.FinSet as set
use Rattle.std.specs.Ordering.{nat_cmp}
use Rattle.schedule_rules.proofs.LevelLemmas.{held_on_past}
use Rattle.schedule_rules.proofs.config.Config.held.Goals as goal

pub returns-in-None : goal.returns-in-None
returns-in-None c =
    let nothing = held_on_past c.self.inside _ c.args.level c.self.view_is (omega (arith, c.in-None.ensures.lookup.3, c.deref.ensures.len, c.self.inside.levels.ok)) in
    sym (ap (λ s. set.contains s c.args.n) nothing ∙ set.contains-empty nat_cmp c.args.n)
