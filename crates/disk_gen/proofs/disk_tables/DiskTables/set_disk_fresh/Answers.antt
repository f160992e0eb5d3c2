use Rattle.std.proofs.Common.{◌-◌, ◌≤◌, arith, sym, ap, ◌∙◌, subst, get_or}
use Rattle.level_book.specs.UnderTable.{number}
use Rattle.disk_gen.specs.DiskRows.{DiskRows}
use Rattle.disk_gen.proofs.DiskEntryUpdate.{cost_set, cost_kept}
use Rattle.disk_gen.proofs.disk_tables.DiskTables.set_disk_fresh.Goals as goal

pub returns-clause-entry : goal.returns-clause-entry
returns-clause-entry c =
    let t = c.self.inside in let r = c.args.l - 1 in
    let L : DiskRows → Type 0 = λ v. c.args.l ≤ v.fast.steps in
    let within = subst L (sym c.self.view_is) c.requires.1 in
    cost_set t.disk_fresh.items r c.args.cost (omega (arith, c.requires.0, c.self.invariant.fresh_count))

pub returns-clause-others : goal.returns-clause-others
returns-clause-others c = λ j one ne.
    let t = c.self.inside in let r = c.args.l - 1 in
    cost_kept t.disk_fresh.items r (j - 1) c.args.cost (λ same. ne (omega (arith, one, same, c.requires.0))) ∙ ap (λ (v : DiskRows). get_or v.disk_fresh (j - 1) (number 0)) c.self.view_is
