use Rattle.std.proofs.Common.{ℕ, List, [], ◌∷◌, arith}
use Rattle.std.specs.Prelude.{decimal}
use Rattle.level_book.specs.UnderTable.{Entry}
use Rattle.keepers.specs.LineWrites.{seen, StopsIn}
use Rattle.keepers.proofs.LineSequences.{err_always}
use Rattle.cert_text.specs.WordLines.{row_line}
use Rattle.cert_text.specs.LineWrites.{writes}
use Rattle.cert_text.specs.Stretches.{letter_of, entries_of}
use Rattle.cert_text.proofs.RowWrites.{put_none, put_entry, head_stopped, entry_stopped, entry_words, row_ended, row_stopped}
use Rattle.cert_text.proofs.printing_rows.print_row.Goals as goal

pub loop-l-init : goal.loop-l-init
loop-l-init g c =
    let look = seen g.O.Sink in
    let q = c.put_head.new.piece in
    put_none q.room q.text (look c.put_head.new.out)

pub loop-l-preserved : goal.loop-l-preserved
loop-l-preserved g c =
    let look = seen g.O.Sink in
    let f : ℕ → Entry = entries_of c.args.stretches c.args.tables.now c.args.k c.args.m in
    let q = c.put_head.new.piece in let r = c.loop-l.piece in let s = c.put_cost.new.piece in
    put_entry f c.loop-l.l c.entry.result q.room r.room s.room q.text r.text s.text (look c.put_head.new.out) (look c.loop-l.out) (look c.put_cost.new.out) c.entry.ensures c.loop-l.invariant c.in_ok-put_cost.ensures.ok

pub returns-in_err-put_head-clause-stopped : goal.returns-in_err-put_head-clause-stopped
returns-in_err-put_head-clause-stopped g c =
    let look = seen g.O.Sink in
    let f : ℕ → Entry = entries_of c.args.stretches c.args.tables.now c.args.k c.args.m in
    let head : List (List ℕ) = letter_of c.args.stretches ∷ decimal c.args.k ∷ decimal c.args.m ∷ [] in
    let p = c.new-piece.result in let steps = c.args.tables.now.steps in
    let a = look c.args.out.now in let b = look c.put_head.new.out in
    err_always c.from_residual.result (StopsIn (writes (row_line head steps f ∷ [])) a b)
    (head_stopped head (entry_words f steps) p.room p.text a b c.new-piece.ensures.room c.new-piece.ensures.text (rw c.letter.ensures.value at c.in_err-put_head.ensures.stopped))

pub returns-in_err-put_cost-clause-stopped : goal.returns-in_err-put_cost-clause-stopped
returns-in_err-put_cost-clause-stopped g c =
    let look = seen g.O.Sink in
    let f : ℕ → Entry = entries_of c.args.stretches c.args.tables.now c.args.k c.args.m in
    let head : List (List ℕ) = letter_of c.args.stretches ∷ decimal c.args.k ∷ decimal c.args.m ∷ [] in
    let p = c.new-piece.result in let q = c.put_head.new.piece in let r = c.loop-l.piece in let steps = c.args.tables.now.steps in
    let a = look c.args.out.now in let b = look c.put_head.new.out in let d = look c.loop-l.out in let e = look c.put_cost.new.out in
    err_always c.from_residual-in_err-put_cost.result (StopsIn (writes (row_line head steps f ∷ [])) a e)
    (entry_stopped head f c.loop-l.l steps c.entry.result p.room q.room r.room p.text q.text r.text a b d e (omega arith) c.entry.ensures c.new-piece.ensures.room c.new-piece.ensures.text
    (rw c.letter.ensures.value at c.in_ok-put_head.ensures.ok) c.loop-l.invariant c.in_err-put_cost.ensures.stopped)

pub returns-clause-ok : goal.returns-clause-ok
returns-clause-ok g c =
    let look = seen g.O.Sink in
    let f : ℕ → Entry = entries_of c.args.stretches c.args.tables.now c.args.k c.args.m in
    let head : List (List ℕ) = letter_of c.args.stretches ∷ decimal c.args.k ∷ decimal c.args.m ∷ [] in
    let p = c.new-piece.result in let q = c.put_head.new.piece in let r = c.loop-l.piece in
    row_ended c.end.result head f c.loop-l.l c.args.tables.now.steps p.room q.room r.room p.text q.text r.text (look c.args.out.now) (look c.put_head.new.out) (look c.loop-l.out) (look c.end.new.out) (omega arith)
    c.new-piece.ensures.room c.new-piece.ensures.text (rw c.letter.ensures.value at c.in_ok-put_head.ensures.ok) c.loop-l.invariant c.end.ensures.ok

pub returns-clause-stopped : goal.returns-clause-stopped
returns-clause-stopped g c =
    let look = seen g.O.Sink in
    let f : ℕ → Entry = entries_of c.args.stretches c.args.tables.now c.args.k c.args.m in
    let head : List (List ℕ) = letter_of c.args.stretches ∷ decimal c.args.k ∷ decimal c.args.m ∷ [] in
    let p = c.new-piece.result in let q = c.put_head.new.piece in let r = c.loop-l.piece in
    row_stopped c.end.result head f c.loop-l.l c.args.tables.now.steps p.room q.room r.room p.text q.text r.text (look c.args.out.now) (look c.put_head.new.out) (look c.loop-l.out) (look c.end.new.out) (omega arith)
    c.new-piece.ensures.room c.new-piece.ensures.text (rw c.letter.ensures.value at c.in_ok-put_head.ensures.ok) c.loop-l.invariant c.end.ensures.stopped
