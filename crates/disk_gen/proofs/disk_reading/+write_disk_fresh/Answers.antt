use Rattle.std.proofs.Common.{ℕ, arith, sym, ◌∙◌, subst, get_or, false}
use Rattle.cost_tables.specs.TableRows.{TableRows}
use Rattle.cost_tables.proofs.LevelExtension.{read_level}
use Rattle.hrevolve_gen.specs.ReadableTables.{IsMore}
use Rattle.hrevolve_gen.proofs.PartReads.{if_ok}
use Rattle.std.specs.Result.{IfOk}
use Rattle.disk_gen.specs.ReadableDiskTables.{IsHeldMore, IsDiskMore}
use Rattle.disk_gen.proofs.DiskReads.{some_fresh, more_fast, more_split}
use Rattle.disk_gen.proofs.disk_reading.+write_disk_fresh.Goals as goal

pub returns-then-is_fast_fresh : goal.returns-then-is_fast_fresh
returns-then-is_fast_fresh t c =
    let a = c.args in let book = a.book.now in let tables = a.tables.now in let old = a.list.now.items in
    let new = c.write_fresh.new.list.items in
    let own = c.disk_fresh-own.ensures in
    let yes = c.is_fast_fresh.ensures.yes c.if-is_fast_fresh.true in
    let room = get_or tables.fast.rooms 0 0 in
    let V : TableRows → Type 0 = λ v. IfOk c.write_fresh.result (λ _. IsMore book v false 0 a.b a.l c.room.result old new) in
    let R : ℕ → Type 0 = λ m. IfOk c.write_fresh.result (λ _. IsMore book tables.fast false 0 a.b a.l m old new) in
    if_ok c.write_fresh.result (IsMore book tables.fast false 0 a.b a.l room old new) (IsDiskMore book tables a.b a.l old new) (subst R c.room.ensures (subst V c.fast.ensures.value c.write_fresh.ensures))
    (more_fast book tables c.requires.ready a.b a.l old new (sym own ∙ yes))

pub fresh_split-j-requires-clause-some : goal.fresh_split-j-requires-clause-some
fresh_split-j-requires-clause-some t c =
    let a = c.args in let book = a.book.now in let tables = a.tables.now in
    let write = read_level (λ level. level.write) book.levels 1 0 c.level.result.now c.level.ensures in
    let own = c.disk_fresh-own.ensures in
    let no = c.is_fast_fresh.ensures.no c.if-is_fast_fresh.false in
    let by = some_fresh book tables c.requires.ready a.l c.level.result.now.write c.forward.result c.requires.l (omega arith) (sym write) c.forward.ensures (λ same. no (own ∙ same)) in
    (by.0, by.1, by.2, own ∙ by.3)

pub returns : goal.returns
returns t c =
    let a = c.args in let book = a.book.now in let tables = a.tables.now in let old = a.list.now.items in
    let xs = c.push.new.self.items in let ys = c.write_disk_fresh.new.list.items in let new = c.write_disk_held.new.list.items in
    let write = read_level (λ level. level.write) book.levels 1 0 c.level.result.now c.level.ensures in
    let own = c.disk_fresh-own.ensures in
    let no = c.is_fast_fresh.ensures.no c.if-is_fast_fresh.false in
    let j = c.fresh_split-j.result in
    if_ok c.write_disk_held.result (IsHeldMore book tables a.b j ys new) (IsDiskMore book tables a.b a.l old new) c.write_disk_held.ensures
    (more_split book tables c.requires.ready a.b a.l j c.level.result.now.write c.forward.result old xs ys new c.fresh_split-j.ensures.range.0 c.fresh_split-j.ensures.range.1 (sym write) c.forward.ensures
    (sym own ∙ c.fresh_split-j.ensures.equal) (λ same. no (own ∙ same)) (λ q lo lt same. c.fresh_split-j.ensures.least q lo lt (own ∙ same)) c.in_ok-push.ensures.items c.in_ok-write_disk_fresh.ensures)
