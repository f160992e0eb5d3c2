use Rattle.std.proofs.Common.{ℕ, ◌+◌, ◌-◌, arith, sym, ◌∙◌, subst, get_or, false}
use Rattle.cost_tables.specs.TableRows.{TableRows}
use Rattle.cost_tables.proofs.LevelExtension.{read_level}
use Rattle.hrevolve_gen.specs.ReadableTables.{IsMore}
use Rattle.hrevolve_gen.proofs.PartReads.{if_ok}
use Rattle.std.specs.Result.{IfOk}
use Rattle.disk_gen.specs.ReadableDiskTables.{IsHeldMore}
use Rattle.disk_gen.proofs.DiskReads.{some_held, more_moved, more_copied}
use Rattle.disk_gen.proofs.disk_reading.+write_disk_held.Goals as goal

pub returns-then-is_fast_held : goal.returns-then-is_fast_held
returns-then-is_fast_held t c =
    let a = c.args in let book = a.book.now in let tables = a.tables.now in let old = a.list.now.items in
    let xs = c.push.new.self.items in let new = c.write_fresh.new.list.items in
    let read = read_level (λ level. level.read) book.levels 1 0 c.level.result.now c.level.ensures in
    let own = c.disk_held-own.ensures in
    let yes = c.is_fast_held.ensures.yes c.if-is_fast_held.true in
    let room = get_or tables.fast.rooms 0 0 in
    let V : TableRows → Type 0 = λ v. IfOk c.write_fresh.result (λ _. IsMore book v false 0 a.b a.l c.room.result xs new) in
    let R : ℕ → Type 0 = λ m. IfOk c.write_fresh.result (λ _. IsMore book tables.fast false 0 a.b a.l m xs new) in
    if_ok c.write_fresh.result (IsMore book tables.fast false 0 a.b a.l room xs new) (IsHeldMore book tables a.b a.l old new) (subst R c.room.ensures (subst V c.fast.ensures.value c.write_fresh.ensures))
    (more_moved book tables c.requires.ready a.b a.l c.level.result.now.read old xs new (sym read) (sym own ∙ yes) c.in_ok-push.ensures.items)

pub held_split-i-requires-clause-some : goal.held_split-i-requires-clause-some
held_split-i-requires-clause-some t c =
    let a = c.args in let book = a.book.now in let tables = a.tables.now in
    let read = read_level (λ level. level.read) book.levels 1 0 c.level.result.now c.level.ensures in
    let own = c.disk_held-own.ensures in
    let no = c.is_fast_held.ensures.no c.if-is_fast_held.false in
    let by = some_held book tables c.requires.ready a.l c.level.result.now.read c.forward.result c.requires.l (omega arith) (sym read) c.forward.ensures (λ same. no (own ∙ same)) in
    (by.0, by.1, by.2, own ∙ by.3)

pub returns : goal.returns
returns t c =
    let a = c.args in let book = a.book.now in let tables = a.tables.now in let old = a.list.now.items in
    let xs = c.extend_from_slice.new.self.items in let ys = c.write_fresh-2.new.list.items in let new = c.write_disk_held.new.list.items in
    let read = read_level (λ level. level.read) book.levels 1 0 c.level.result.now c.level.ensures in
    let own = c.disk_held-own.ensures in
    let no = c.is_fast_held.ensures.no c.if-is_fast_held.false in
    let i = c.held_split-i.result in let room = get_or tables.fast.rooms 0 0 in
    let V : TableRows → Type 0 = λ v. IsMore book v false 0 (a.b + i) (a.l - i) c.room.result xs ys in
    let R : ℕ → Type 0 = λ m. IsMore book tables.fast false 0 (a.b + i) (a.l - i) m xs ys in
    let first = subst R c.room.ensures (subst V c.fast-2.ensures.value c.in_ok-write_fresh.ensures) in
    if_ok c.write_disk_held.result (IsHeldMore book tables a.b i ys new) (IsHeldMore book tables a.b a.l old new) c.write_disk_held.ensures
    (more_copied book tables c.requires.ready a.b a.l i c.level.result.now.read c.forward.result old xs ys new c.held_split-i.ensures.range.0 c.held_split-i.ensures.range.1 (sym read) c.forward.ensures
    (sym own ∙ c.held_split-i.ensures.equal) (λ same. no (own ∙ same)) (λ q lo lt same. c.held_split-i.ensures.least q lo lt (own ∙ same)) c.in_ok-extend_from_slice.ensures.items first)
