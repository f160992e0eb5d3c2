use Rattle.std.proofs.Common.{◌≡◌, ◌≢◌, ℕ, ◌+◌, ◌-◌, ◌*◌, arith, inl, inr, subst}
use Rattle.std.proofs.lemmas.Bool.{cases_lt}
use Rattle.level_book.specs.UnderTable.{sum_of}
use Rattle.cost_tables.specs.TableRows.{value_of}
use Rattle.disk_gen.specs.DiskRows.{disk_tables_in}
use Rattle.disk_gen.proofs.disk_reading.fresh_split.Goals as goal

pub loop-j-preserved : goal.loop-j-preserved
loop-j-preserved c = λ i one lt.
    let P : ℕ → Type 0 = λ i. value_of c.args.own ≢ sum_of (c.args.write + i * c.args.forward) ((disk_tables_in c.args.tables.now).disk_fresh (c.args.l - i)) ((disk_tables_in c.args.tables.now).disk_held i) in
    elim (cases_lt i c.loop-j.j) [
      | inl before ↦ c.loop-j.invariant i one before
      | inr ge ↦ let same : c.loop-j.j ≡ i = omega arith in subst P same (c.is_fresh_split.ensures.no c.if-is_fresh_split.false)
    ]
