use Rattle.std.proofs.Common.{◌≡◌, ℕ, ◌+◌, arith, sym, ap, subst, ◌∙◌, OnOk, OnErr}
use Rattle.level_book.specs.UnderTable.{Entry}
use Rattle.keepers.specs.LineWrites.{seen, AddsLines, StopsIn}
use Rattle.keepers.proofs.LineSequences.{err_always}
use Rattle.cert_text.specs.WordLines.{row_lines}
use Rattle.cert_text.specs.LineWrites.{writes}
use Rattle.cert_text.specs.declared.stretches.Stretches.{Stretches}
use Rattle.cert_text.specs.Stretches.{letter_of, rows_of, entries_of}
use Rattle.cert_text.proofs.RowWrites.{no_rows, rows_more, rows_stopped, last_row, last_row_stopped, below_rows}
use Rattle.cert_text.proofs.printing_rows.print_rows.Goals as goal

pub loop-m-init : goal.loop-m-init
loop-m-init g c =
    let look = seen g.O.Sink in
    let f : ℕ → ℕ → Entry = entries_of c.args.stretches c.args.tables.now c.args.k in
    no_rows (letter_of c.args.stretches) c.args.k c.args.tables.now.steps f (look c.args.out.now)

pub loop-m-preserved : goal.loop-m-preserved
loop-m-preserved g c =
    let look = seen g.O.Sink in
    let f : ℕ → ℕ → Entry = entries_of c.args.stretches c.args.tables.now c.args.k in
    rows_more (letter_of c.args.stretches) c.args.k c.args.tables.now.steps c.loop-m.m f (look c.args.out.now) (look c.loop-m.out) (look c.print_row.new.out) c.loop-m.invariant c.in_ok-print_row.ensures.ok

pub returns-in_err-print_row-clause-stopped : goal.returns-in_err-print_row-clause-stopped
returns-in_err-print_row-clause-stopped g c =
    let look = seen g.O.Sink in
    let f : ℕ → ℕ → Entry = entries_of c.args.stretches c.args.tables.now c.args.k in
    let steps = c.args.tables.now.steps in let count = rows_of c.args.stretches c.args.tables.now c.args.k in
    let a = look c.args.out.now in let b = look c.loop-m.out in let d = look c.print_row.new.out in
    err_always c.from_residual.result (StopsIn (writes (row_lines (letter_of c.args.stretches) c.args.k steps count f)) a d)
    (rows_stopped (letter_of c.args.stretches) c.args.k steps c.loop-m.m count f a b d (below_rows c.args.stretches c.args.tables.now c.args.k c.loop-m.m (omega (arith, c.room-room.ensures))) c.loop-m.invariant c.in_err-print_row.ensures.stopped)

pub returns-in-Fresh-clause-ok : goal.returns-in-Fresh-clause-ok
returns-in-Fresh-clause-ok g c =
    let look = seen g.O.Sink in
    let s = c.args.stretches in let t = c.args.tables.now in let k = c.args.k in
    let f = entries_of s t k in
    let room = c.room-room.result in
    let r = c.print_row-in-Fresh.result in
    let a = look c.args.out.now in let b = look c.loop-m.out in let d = look c.print_row-in-Fresh.new.out in
    let here : c.loop-m.m ≡ room = omega arith in
    let count : room + 1 ≡ rows_of s t k = ap (λ (n : ℕ). n + 1) c.room-room.ensures ∙ sym (ap (λ (s : Stretches). rows_of s t k) c.in-Fresh.is) in
    let P : ℕ → Type 0 = λ n. AddsLines (writes (row_lines (letter_of s) k t.steps n f)) a b in
    let Q : ℕ → Type 0 = λ n. OnOk r (AddsLines (writes (row_lines (letter_of s) k t.steps n f)) a d) in
    subst Q count (last_row r (letter_of s) k t.steps room f a b d (subst P here c.loop-m.invariant) c.print_row-in-Fresh.ensures.ok)

pub returns-in-Fresh-clause-stopped : goal.returns-in-Fresh-clause-stopped
returns-in-Fresh-clause-stopped g c =
    let look = seen g.O.Sink in
    let s = c.args.stretches in let t = c.args.tables.now in let k = c.args.k in
    let f = entries_of s t k in
    let room = c.room-room.result in
    let r = c.print_row-in-Fresh.result in
    let a = look c.args.out.now in let b = look c.loop-m.out in let d = look c.print_row-in-Fresh.new.out in
    let here : c.loop-m.m ≡ room = omega arith in
    let count : room + 1 ≡ rows_of s t k = ap (λ (n : ℕ). n + 1) c.room-room.ensures ∙ sym (ap (λ (s : Stretches). rows_of s t k) c.in-Fresh.is) in
    let P : ℕ → Type 0 = λ n. AddsLines (writes (row_lines (letter_of s) k t.steps n f)) a b in
    let Q : ℕ → Type 0 = λ n. OnErr r (StopsIn (writes (row_lines (letter_of s) k t.steps n f)) a d) in
    subst Q count (last_row_stopped r (letter_of s) k t.steps room f a b d (subst P here c.loop-m.invariant) c.print_row-in-Fresh.ensures.stopped)
