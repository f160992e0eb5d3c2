use Rattle.std.proofs.Common.{◌<◌, length, arith, sym, ◌∙◌}
use Rattle.std.proofs.lemmas.List.{length-take}
use Rattle.cost_tables.specs.TableRows.{fastest}
use Rattle.disk_gen.specs.declared.disk_tables.DiskTables.TheInside.{Inside}
use Rattle.disk_gen.proofs.DiskNeverTables.{all_never}
use Rattle.disk_gen.proofs.disk_tables.DiskTables.never.Goals as goal

pub invariant_of-result : goal.invariant_of-result
invariant_of-result c =
    let sizes = c.in_ok-fast.ensures.sizes in
    record {
      one_level = omega (arith, sizes.level_count, length-take 1 c.args.book.now.levels, c.levels-levels.ensures.value);
      fresh_count = c.in_ok-disk_fresh.ensures.count ∙ sym sizes.steps_are;
      held_count = c.in_ok-disk_held.ensures.count ∙ sym sizes.steps_are;
    }

pub returns-clause-never : goal.returns-clause-never
returns-clause-never c =
    let book = c.args.book.now in
    let made : Inside = record { fast = c.in_ok-fast.fast; disk_fresh = c.in_ok-disk_fresh.disk_fresh; disk_held = c.in_ok-disk_held.disk_held } in
    let known : 0 < length (fastest book).levels = omega (arith, length-take 1 book.levels, c.levels-levels.ensures.value) in
    all_never c.args.steps book made known c.in_ok-fast.ensures.never c.in_ok-disk_fresh.ensures.count c.in_ok-disk_held.ensures.count c.in_ok-disk_fresh.ensures.never c.in_ok-disk_held.ensures.never
