use Rattle.std.proofs.Common.{◌≡◌, ◌≢◌, ℕ, ◌+◌, ◌-◌, ◌*◌, slice_index, arith, inl, inr, subst}
use Rattle.std.proofs.lemmas.Bool.{cases_lt}
use Rattle.level_book.specs.UnderTable.{sum_of}
use Rattle.cost_tables.specs.TableRows.{value_of}
use Rattle.disk_gen.specs.DiskRows.{disk_tables_in}
use Rattle.disk_gen.proofs.disk_reading.held_split.Goals as goal

pub loop-i-preserved : goal.loop-i-preserved
loop-i-preserved c = λ i one lt.
    let P : ℕ → Type 0 = λ i. value_of c.args.own ≢ sum_of (c.args.read + i * c.args.forward) ((disk_tables_in c.args.tables.now).fresh (c.args.l - i) (slice_index c.args.tables.now.fast.rooms 0)) ((disk_tables_in c.args.tables.now).disk_held i) in
    elim (cases_lt i c.loop-i.i) [
      | inl before ↦ c.loop-i.invariant i one before
      | inr ge ↦ let same : c.loop-i.i ≡ i = omega arith in subst P same (c.is_held_split.ensures.no c.if-is_held_split.false)
    ]
