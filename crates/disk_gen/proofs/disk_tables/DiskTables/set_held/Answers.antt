use Rattle.std.proofs.Common.{ap, sym, ◌∙◌, List, ℕ, length}
use Rattle.cost_tables.specs.TableRows.{tables_in}
use Rattle.disk_gen.specs.DiskRows.{DiskRows}
use Rattle.disk_gen.proofs.disk_tables.DiskTables.set_held.Goals as goal

pub invariant_of-self : goal.invariant_of-self
invariant_of-self c = record {
  one_level = ap (λ (rooms : List ℕ). length rooms) c.set_held.ensures.rooms ∙ c.self.invariant.one_level;
  fresh_count = c.self.invariant.fresh_count ∙ sym c.set_held.ensures.steps;
  held_count = c.self.invariant.held_count ∙ sym c.set_held.ensures.steps;
}

pub returns-clause-others : goal.returns-clause-others
returns-clause-others c = λ j n one other. c.set_held.ensures.others 0 j n one other ∙ ap (λ (v : DiskRows). (tables_in v.fast).held 0 j n) c.self.view_is
