use Rattle.std.proofs.Common.{◌-◌, ◌≤◌, arith, sym, ap, ◌∙◌, subst, get_or}
use Rattle.level_book.specs.UnderTable.{number}
use Rattle.disk_gen.specs.DiskRows.{DiskRows}
use Rattle.disk_gen.proofs.DiskEntryUpdate.{cost_read}
use Rattle.disk_gen.proofs.disk_tables.DiskTables.disk_held.Goals as goal

pub returns : goal.returns
returns c =
    let t = c.self.inside in let r = c.args.l - 1 in
    let L : DiskRows → Type 0 = λ v. c.args.l ≤ v.fast.steps in
    let within = subst L (sym c.self.view_is) c.requires.1 in
    cost_read t.disk_held.items r c.index.result.now (omega (arith, c.requires.0, c.self.invariant.held_count)) c.index.ensures ∙ ap (λ (v : DiskRows). get_or v.disk_held r (number 0)) c.self.view_is
