use Rattle.std.proofs.Common.{◌-◌, true, false, arith, sym, ◌∙◌}
use Rattle.cost_tables.specs.TableRows.{value_of}
use Rattle.cost_tables.proofs.LevelExtension.{read_level}
use Rattle.hrevolve_gen.specs.ReadableTables.{IsMore}
use Rattle.hrevolve_gen.proofs.PartReads.{if_ok, fresh_some, held_some, more_faster_fresh, more_faster_held, more_split_fresh, more_split_held}
use Rattle.hrevolve_gen.proofs.writing.+writing.Goals as goal

pub write_fresh-returns-then-is_faster_fresh : goal.write_fresh-returns-then-is_faster_fresh
write_fresh-returns-then-is_faster_fresh t c =
    let a = c.args in let s = a.stretch in let book = a.book.now in let tables = a.tables.now in let old = a.list.now.items in let new = c.write_fresh.new.list.items in
    let yes = c.is_faster_fresh.ensures.yes c.if-is_faster_fresh.true in
    if_ok c.write_fresh.result (IsMore book tables false (s.level - 1) s.first s.steps c.room.result old new) (IsMore book tables false s.level s.first s.steps s.free old new) c.write_fresh.ensures
    (more_faster_fresh book tables c.requires.ready s.level (s.level - 1) s.first s.steps s.free c.room.result old new (omega (arith, yes.0)) c.requires.level (omega arith) c.room.ensures (sym c.fresh-own.ensures ∙ yes.1))

pub write_fresh-split-j-requires-clause-some : goal.write_fresh-split-j-requires-clause-some
write_fresh-split-j-requires-clause-some t c =
    let a = c.args in let s = a.stretch in let book = a.book.now in let tables = a.tables.now in
    let no = c.is_faster_fresh.ensures.no c.if-is_faster_fresh.false in
    let write = read_level (λ level. level.write) book.levels s.level 0 c.level.result.now c.level.ensures in
    (fresh_some book tables c.requires.ready s.level s.steps s.free c.level.result.now.write c.forward.result (value_of c.fresh-own.result) c.requires.level (omega arith) (omega arith) c.requires.free
    c.fresh-own.ensures c.requires.number no (sym write) c.forward.ensures).1

pub write_fresh-returns : goal.write_fresh-returns
write_fresh-returns t c =
    let a = c.args in let s = a.stretch in let book = a.book.now in let tables = a.tables.now in let old = a.list.now.items in
    let xs = c.push.new.self.items in let ys = c.write_fresh-2.new.list.items in let new = c.write_held.new.list.items in
    let no = c.is_faster_fresh.ensures.no c.if-is_faster_fresh.false in
    let write = read_level (λ level. level.write) book.levels s.level 0 c.level.result.now c.level.ensures in
    let some = (fresh_some book tables c.requires.ready s.level s.steps s.free c.level.result.now.write c.forward.result (value_of c.fresh-own.result) c.requires.level (omega arith) (omega arith) c.requires.free
    c.fresh-own.ensures c.requires.number no (sym write) c.forward.ensures).0 in
    let j = c.split-j.result in
    if_ok c.write_held.result (IsMore book tables true s.level s.first j (s.free - 1) ys new) (IsMore book tables false s.level s.first s.steps s.free old new) c.write_held.ensures
    (more_split_fresh book tables c.requires.ready s.level s.first s.steps s.free (s.free - 1) j c.level.result.now.write c.forward.result (value_of c.fresh-own.result) old xs ys new (omega arith)
    c.split-j.ensures.range.0 c.split-j.ensures.range.1 (sym write) c.forward.ensures c.fresh-own.ensures c.split-j.ensures.equal no c.split-j.ensures.least c.requires.level c.in_ok-push.ensures.items c.in_ok-write_fresh.ensures)

pub write_held-returns-then-is_faster_held : goal.write_held-returns-then-is_faster_held
write_held-returns-then-is_faster_held t c =
    let a = c.args in let s = a.stretch in let book = a.book.now in let tables = a.tables.now in let old = a.list.now.items in let xs = c.push.new.self.items in let new = c.write_fresh.new.list.items in
    let yes = c.is_faster_held.ensures.yes c.if-is_faster_held.true in
    let read = read_level (λ level. level.read) book.levels s.level 0 c.level.result.now c.level.ensures in
    if_ok c.write_fresh.result (IsMore book tables false (s.level - 1) s.first s.steps c.room.result xs new) (IsMore book tables true s.level s.first s.steps s.free old new) c.write_fresh.ensures
    (more_faster_held book tables c.requires.ready s.level (s.level - 1) s.first s.steps s.free c.room.result c.level.result.now.read old xs new (omega (arith, yes.0)) c.requires.level (omega arith) c.room.ensures (sym read)
    (sym c.held-own.ensures ∙ yes.1) c.in_ok-push.ensures.items)

pub write_held-split-j-requires-clause-some : goal.write_held-split-j-requires-clause-some
write_held-split-j-requires-clause-some t c =
    let a = c.args in let s = a.stretch in let book = a.book.now in let tables = a.tables.now in
    let no = c.is_faster_held.ensures.no c.if-is_faster_held.false in
    let read = read_level (λ level. level.read) book.levels s.level 0 c.level.result.now c.level.ensures in
    held_some book tables c.requires.ready s.level s.steps s.free c.level.result.now.read c.forward.result (value_of c.held-own.result) c.requires.level (omega arith) (omega arith) c.requires.free
    c.held-own.ensures no (sym read) c.forward.ensures

pub write_held-returns : goal.write_held-returns
write_held-returns t c =
    let a = c.args in let s = a.stretch in let book = a.book.now in let tables = a.tables.now in let old = a.list.now.items in
    let xs = c.extend_from_slice-2.new.self.items in let ys = c.write_fresh-2.new.list.items in let new = c.write_held.new.list.items in
    let read = read_level (λ level. level.read) book.levels s.level 0 c.level.result.now c.level.ensures in
    let j = c.split-j.result in
    if_ok c.write_held.result (IsMore book tables true s.level s.first j s.free ys new) (IsMore book tables true s.level s.first s.steps s.free old new) c.write_held.ensures
    (more_split_held book tables c.requires.ready s.level s.first s.steps s.free j c.level.result.now.read c.forward.result (value_of c.held-own.result) old xs ys new
    c.split-j.ensures.range.0 c.split-j.ensures.range.1 (sym read) c.forward.ensures c.held-own.ensures c.split-j.ensures.equal (c.is_faster_held.ensures.no c.if-is_faster_held.false) c.split-j.ensures.least c.requires.level c.in_ok-extend_from_slice.ensures.items c.in_ok-write_fresh.ensures)
