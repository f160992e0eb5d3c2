use Rattle.std.proofs.Common.{ℕ, List, [], ◌∷◌, arith}
use Rattle.level_book.specs.UnderTable.{Entry}
use Rattle.keepers.specs.LineWrites.{seen, StopsIn}
use Rattle.keepers.proofs.LineSequences.{err_always}
use Rattle.cert_text.specs.WordLines.{row_line}
use Rattle.cert_text.specs.LineWrites.{writes}
use Rattle.cert_text.specs.Stretches.{column_of, disk_entries_of}
use Rattle.cert_text.proofs.RowWrites.{put_none, put_entry, head_stopped, entry_stopped, entry_words, row_ended, row_stopped}
use Rattle.cert_text.proofs.printing_disk.print_column.Goals as goal

pub loop-l-init : goal.loop-l-init
loop-l-init g c =
    let look = seen g.O.Sink in
    let q = c.word.new.self in
    put_none q.room q.text (look c.word.new.out)

pub loop-l-preserved : goal.loop-l-preserved
loop-l-preserved g c =
    let look = seen g.O.Sink in
    let f : ℕ → Entry = disk_entries_of c.args.stretches c.args.tables.now in
    let q = c.word.new.self in let r = c.loop-l.piece in let s = c.put_cost.new.piece in
    put_entry f c.loop-l.l c.disk_entry.result q.room r.room s.room q.text r.text s.text (look c.word.new.out) (look c.loop-l.out) (look c.put_cost.new.out) c.disk_entry.ensures c.loop-l.invariant c.in_ok-put_cost.ensures.ok

pub returns-in_err-word-clause-stopped : goal.returns-in_err-word-clause-stopped
returns-in_err-word-clause-stopped g c =
    let look = seen g.O.Sink in
    let f : ℕ → Entry = disk_entries_of c.args.stretches c.args.tables.now in
    let head : List (List ℕ) = column_of c.args.stretches ∷ [] in
    let p = c.new-piece.result in let steps = c.args.tables.now.fast.steps in
    let a = look c.args.out.now in let b = look c.word.new.out in
    err_always c.from_residual.result (StopsIn (writes (row_line head steps f ∷ [])) a b)
    (head_stopped head (entry_words f steps) p.room p.text a b c.new-piece.ensures.room c.new-piece.ensures.text (rw c.letters.ensures.value at c.in_err-word.ensures.stopped))

pub returns-in_err-put_cost-clause-stopped : goal.returns-in_err-put_cost-clause-stopped
returns-in_err-put_cost-clause-stopped g c =
    let look = seen g.O.Sink in
    let f : ℕ → Entry = disk_entries_of c.args.stretches c.args.tables.now in
    let head : List (List ℕ) = column_of c.args.stretches ∷ [] in
    let p = c.new-piece.result in let q = c.word.new.self in let r = c.loop-l.piece in let steps = c.args.tables.now.fast.steps in
    let a = look c.args.out.now in let b = look c.word.new.out in let d = look c.loop-l.out in let e = look c.put_cost.new.out in
    err_always c.from_residual-in_err-put_cost.result (StopsIn (writes (row_line head steps f ∷ [])) a e)
    (entry_stopped head f c.loop-l.l steps c.disk_entry.result p.room q.room r.room p.text q.text r.text a b d e (omega arith) c.disk_entry.ensures c.new-piece.ensures.room c.new-piece.ensures.text
    (rw c.letters.ensures.value at c.in_ok-word.ensures.ok) c.loop-l.invariant c.in_err-put_cost.ensures.stopped)

pub returns-clause-ok : goal.returns-clause-ok
returns-clause-ok g c =
    let look = seen g.O.Sink in
    let f : ℕ → Entry = disk_entries_of c.args.stretches c.args.tables.now in
    let head : List (List ℕ) = column_of c.args.stretches ∷ [] in
    let p = c.new-piece.result in let q = c.word.new.self in let r = c.loop-l.piece in
    row_ended c.end.result head f c.loop-l.l c.args.tables.now.fast.steps p.room q.room r.room p.text q.text r.text (look c.args.out.now) (look c.word.new.out) (look c.loop-l.out) (look c.end.new.out) (omega arith)
    c.new-piece.ensures.room c.new-piece.ensures.text (rw c.letters.ensures.value at c.in_ok-word.ensures.ok) c.loop-l.invariant c.end.ensures.ok

pub returns-clause-stopped : goal.returns-clause-stopped
returns-clause-stopped g c =
    let look = seen g.O.Sink in
    let f : ℕ → Entry = disk_entries_of c.args.stretches c.args.tables.now in
    let head : List (List ℕ) = column_of c.args.stretches ∷ [] in
    let p = c.new-piece.result in let q = c.word.new.self in let r = c.loop-l.piece in
    row_stopped c.end.result head f c.loop-l.l c.args.tables.now.fast.steps p.room q.room r.room p.text q.text r.text (look c.args.out.now) (look c.word.new.out) (look c.loop-l.out) (look c.end.new.out) (omega arith)
    c.new-piece.ensures.room c.new-piece.ensures.text (rw c.letters.ensures.value at c.in_ok-word.ensures.ok) c.loop-l.invariant c.end.ensures.stopped
