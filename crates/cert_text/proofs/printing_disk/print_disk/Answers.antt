use Rattle.std.proofs.Common.{◌≡◌, List, ℕ, [], ◌∷◌, ◌++◌, refl, ap, length, append_assoc, ◌∙◌}
use Rattle.std.specs.Prelude.{codes}
use Rattle.std.specs.List.{range_with_len, flat_map}
use Rattle.disk_gen.specs.DiskRows.{disk_tables_in}
use Rattle.keepers.specs.LineWrites.{seen, StopsIn}
use Rattle.keepers.proofs.LineSequences.{err_always, none_added}
use Rattle.cert_text.specs.declared.certificate.Certificate.TheVariants.{Disk}
use Rattle.cert_text.specs.WordLines.{row_line, level_lines}
use Rattle.cert_text.specs.Canonical.{pieces}
use Rattle.cert_text.proofs.RowWrites.{written_then, writes_stopped, last_written, last_stopped}
use Rattle.cert_text.proofs.printing_disk.print_disk.Goals as goal

pub returns-in_err-print_word-clause-stopped : goal.returns-in_err-print_word-clause-stopped
returns-in_err-print_word-clause-stopped g c =
    let look = seen g.O.Sink in
    let t = c.args.tables.now in
    let first : List (List (List ℕ)) = (codes "disk" ∷ []) ∷ [] in
    let levels = flat_map (level_lines t.fast) (range_with_len 0 (length t.fast.rooms)) in
    let fresh : List (List (List ℕ)) = row_line (codes "Fd" ∷ []) t.fast.steps (disk_tables_in t).disk_fresh ∷ [] in
    let held : List (List (List ℕ)) = row_line (codes "Hd" ∷ []) t.fast.steps (disk_tables_in t).disk_held ∷ [] in
    let last : List (List (List ℕ)) = (codes "end" ∷ []) ∷ [] in
    let whole = first ++ (levels ++ (fresh ++ (held ++ last))) in
    let a = look c.args.out.now in
    let b = look c.print_word.new.out in
    err_always c.from_residual.result (StopsIn (pieces (Disk t)) a b)
    (writes_stopped [] first (levels ++ (fresh ++ (held ++ last))) whole a a b refl (none_added a) c.in_err-print_word.ensures.stopped)

pub returns-in_err-print_levels-clause-stopped : goal.returns-in_err-print_levels-clause-stopped
returns-in_err-print_levels-clause-stopped g c =
    let look = seen g.O.Sink in
    let t = c.args.tables.now in
    let first : List (List (List ℕ)) = (codes "disk" ∷ []) ∷ [] in
    let levels = flat_map (level_lines t.fast) (range_with_len 0 (length t.fast.rooms)) in
    let fresh : List (List (List ℕ)) = row_line (codes "Fd" ∷ []) t.fast.steps (disk_tables_in t).disk_fresh ∷ [] in
    let held : List (List (List ℕ)) = row_line (codes "Hd" ∷ []) t.fast.steps (disk_tables_in t).disk_held ∷ [] in
    let last : List (List (List ℕ)) = (codes "end" ∷ []) ∷ [] in
    let whole = first ++ (levels ++ (fresh ++ (held ++ last))) in
    let a = look c.args.out.now in
    let b = look c.print_word.new.out in let d = look c.print_levels.new.out in
    err_always c.from_residual-in_err-print_levels.result (StopsIn (pieces (Disk t)) a d)
    (writes_stopped first levels (fresh ++ (held ++ last)) whole a b d refl c.in_ok-print_word.ensures.ok (rw c.fast.ensures.value at c.in_err-print_levels.ensures.stopped))

pub returns-in_err-print_column-clause-stopped : goal.returns-in_err-print_column-clause-stopped
returns-in_err-print_column-clause-stopped g c =
    let look = seen g.O.Sink in
    let t = c.args.tables.now in
    let first : List (List (List ℕ)) = (codes "disk" ∷ []) ∷ [] in
    let levels = flat_map (level_lines t.fast) (range_with_len 0 (length t.fast.rooms)) in
    let fresh : List (List (List ℕ)) = row_line (codes "Fd" ∷ []) t.fast.steps (disk_tables_in t).disk_fresh ∷ [] in
    let held : List (List (List ℕ)) = row_line (codes "Hd" ∷ []) t.fast.steps (disk_tables_in t).disk_held ∷ [] in
    let last : List (List (List ℕ)) = (codes "end" ∷ []) ∷ [] in
    let whole = first ++ (levels ++ (fresh ++ (held ++ last))) in
    let a = look c.args.out.now in
    let b = look c.print_word.new.out in let d = look c.print_levels.new.out in let e = look c.print_column.new.out in
    let all : ((first ++ levels) ++ fresh) ++ (held ++ last) ≡ whole = ap (λ (l : List (List (List ℕ))). first ++ l) (append_assoc levels fresh (held ++ last)) in
    err_always c.from_residual-in_err-print_column.result (StopsIn (pieces (Disk t)) a e)
    (writes_stopped (first ++ levels) fresh (held ++ last) whole a d e all (written_then first levels a b d c.in_ok-print_word.ensures.ok (rw c.fast.ensures.value at c.in_ok-print_levels.ensures.ok)) c.in_err-print_column.ensures.stopped)

pub returns-in_err-print_column-2-clause-stopped : goal.returns-in_err-print_column-2-clause-stopped
returns-in_err-print_column-2-clause-stopped g c =
    let look = seen g.O.Sink in
    let t = c.args.tables.now in
    let first : List (List (List ℕ)) = (codes "disk" ∷ []) ∷ [] in
    let levels = flat_map (level_lines t.fast) (range_with_len 0 (length t.fast.rooms)) in
    let fresh : List (List (List ℕ)) = row_line (codes "Fd" ∷ []) t.fast.steps (disk_tables_in t).disk_fresh ∷ [] in
    let held : List (List (List ℕ)) = row_line (codes "Hd" ∷ []) t.fast.steps (disk_tables_in t).disk_held ∷ [] in
    let last : List (List (List ℕ)) = (codes "end" ∷ []) ∷ [] in
    let whole = first ++ (levels ++ (fresh ++ (held ++ last))) in
    let a = look c.args.out.now in
    let b = look c.print_word.new.out in let d = look c.print_levels.new.out in let e = look c.print_column.new.out in let f = look c.print_column-2.new.out in
    let all : (((first ++ levels) ++ fresh) ++ held) ++ last ≡ whole =
    ap (λ (l : List (List (List ℕ))). first ++ l) (append_assoc (levels ++ fresh) held last ∙ append_assoc levels fresh (held ++ last)) in
    err_always c.from_residual-in_err-print_column-2.result (StopsIn (pieces (Disk t)) a f)
    (writes_stopped ((first ++ levels) ++ fresh) held last whole a e f all (written_then (first ++ levels) fresh a d e (written_then first levels a b d c.in_ok-print_word.ensures.ok (rw c.fast.ensures.value at c.in_ok-print_levels.ensures.ok)) c.in_ok-print_column.ensures.ok) c.in_err-print_column-2.ensures.stopped)

pub returns-clause-ok : goal.returns-clause-ok
returns-clause-ok g c =
    let look = seen g.O.Sink in
    let t = c.args.tables.now in
    let first : List (List (List ℕ)) = (codes "disk" ∷ []) ∷ [] in
    let levels = flat_map (level_lines t.fast) (range_with_len 0 (length t.fast.rooms)) in
    let fresh : List (List (List ℕ)) = row_line (codes "Fd" ∷ []) t.fast.steps (disk_tables_in t).disk_fresh ∷ [] in
    let held : List (List (List ℕ)) = row_line (codes "Hd" ∷ []) t.fast.steps (disk_tables_in t).disk_held ∷ [] in
    let last : List (List (List ℕ)) = (codes "end" ∷ []) ∷ [] in
    let whole = first ++ (levels ++ (fresh ++ (held ++ last))) in
    let a = look c.args.out.now in
    let b = look c.print_word.new.out in let d = look c.print_levels.new.out in let e = look c.print_column.new.out in let f = look c.print_column-2.new.out in
    let all : (((first ++ levels) ++ fresh) ++ held) ++ last ≡ whole =
    ap (λ (l : List (List (List ℕ))). first ++ l) (append_assoc (levels ++ fresh) held last ∙ append_assoc levels fresh (held ++ last)) in
    last_written c.print_word-2.result (((first ++ levels) ++ fresh) ++ held) last whole a f (look c.print_word-2.new.out) all
    (written_then ((first ++ levels) ++ fresh) held a e f (written_then (first ++ levels) fresh a d e (written_then first levels a b d c.in_ok-print_word.ensures.ok (rw c.fast.ensures.value at c.in_ok-print_levels.ensures.ok)) c.in_ok-print_column.ensures.ok) c.in_ok-print_column-2.ensures.ok) c.print_word-2.ensures.ok

pub returns-clause-stopped : goal.returns-clause-stopped
returns-clause-stopped g c =
    let look = seen g.O.Sink in
    let t = c.args.tables.now in
    let first : List (List (List ℕ)) = (codes "disk" ∷ []) ∷ [] in
    let levels = flat_map (level_lines t.fast) (range_with_len 0 (length t.fast.rooms)) in
    let fresh : List (List (List ℕ)) = row_line (codes "Fd" ∷ []) t.fast.steps (disk_tables_in t).disk_fresh ∷ [] in
    let held : List (List (List ℕ)) = row_line (codes "Hd" ∷ []) t.fast.steps (disk_tables_in t).disk_held ∷ [] in
    let last : List (List (List ℕ)) = (codes "end" ∷ []) ∷ [] in
    let whole = first ++ (levels ++ (fresh ++ (held ++ last))) in
    let a = look c.args.out.now in
    let b = look c.print_word.new.out in let d = look c.print_levels.new.out in let e = look c.print_column.new.out in let f = look c.print_column-2.new.out in
    let all : (((first ++ levels) ++ fresh) ++ held) ++ last ≡ whole =
    ap (λ (l : List (List (List ℕ))). first ++ l) (append_assoc (levels ++ fresh) held last ∙ append_assoc levels fresh (held ++ last)) in
    last_stopped c.print_word-2.result (((first ++ levels) ++ fresh) ++ held) last whole a f (look c.print_word-2.new.out) all
    (written_then ((first ++ levels) ++ fresh) held a e f (written_then (first ++ levels) fresh a d e (written_then first levels a b d c.in_ok-print_word.ensures.ok (rw c.fast.ensures.value at c.in_ok-print_levels.ensures.ok)) c.in_ok-print_column.ensures.ok) c.in_ok-print_column-2.ensures.ok) c.print_word-2.ensures.stopped
