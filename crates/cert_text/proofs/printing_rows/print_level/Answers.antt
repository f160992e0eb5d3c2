use Rattle.std.proofs.Common.{◌+◌, refl, [], ◌++◌}
use Rattle.std.specs.Prelude.{codes, slice_index_or}
use Rattle.cost_tables.specs.TableRows.{tables_in}
use Rattle.keepers.specs.LineWrites.{seen, StopsIn}
use Rattle.keepers.proofs.LineSequences.{err_always, none_added}
use Rattle.cert_text.specs.WordLines.{row_lines, level_lines}
use Rattle.cert_text.specs.LineWrites.{writes}
use Rattle.cert_text.proofs.RowWrites.{writes_stopped, last_written, last_stopped}
use Rattle.cert_text.proofs.printing_rows.print_level.Goals as goal

pub returns-in_err-print_rows-clause-stopped : goal.returns-in_err-print_rows-clause-stopped
unfolding level_lines
returns-in_err-print_rows-clause-stopped g c =
    let look = seen g.O.Sink in
    let t = c.args.tables.now in let k = c.args.k in
    let fresh = row_lines (codes "F") k t.steps (slice_index_or t.rooms k 0 + 1) (λ m l. (tables_in t).fresh k l m) in
    let held = row_lines (codes "H") k t.steps (slice_index_or t.rooms k 0) (λ m l. (tables_in t).held k l m) in
    let a = look c.args.out.now in let b = look c.print_rows.new.out in
    err_always c.from_residual.result (StopsIn (writes (level_lines t k)) a b)
    (writes_stopped [] fresh held (fresh ++ held) a a b refl (none_added a) c.in_err-print_rows.ensures.stopped)

pub returns-clause-ok : goal.returns-clause-ok
unfolding level_lines
returns-clause-ok g c =
    let look = seen g.O.Sink in
    let t = c.args.tables.now in let k = c.args.k in
    let fresh = row_lines (codes "F") k t.steps (slice_index_or t.rooms k 0 + 1) (λ m l. (tables_in t).fresh k l m) in
    let held = row_lines (codes "H") k t.steps (slice_index_or t.rooms k 0) (λ m l. (tables_in t).held k l m) in
    last_written c.print_rows-2.result fresh held (fresh ++ held) (look c.args.out.now) (look c.print_rows.new.out) (look c.print_rows-2.new.out) refl c.in_ok-print_rows.ensures.ok c.print_rows-2.ensures.ok

pub returns-clause-stopped : goal.returns-clause-stopped
unfolding level_lines
returns-clause-stopped g c =
    let look = seen g.O.Sink in
    let t = c.args.tables.now in let k = c.args.k in
    let fresh = row_lines (codes "F") k t.steps (slice_index_or t.rooms k 0 + 1) (λ m l. (tables_in t).fresh k l m) in
    let held = row_lines (codes "H") k t.steps (slice_index_or t.rooms k 0) (λ m l. (tables_in t).held k l m) in
    last_stopped c.print_rows-2.result fresh held (fresh ++ held) (look c.args.out.now) (look c.print_rows.new.out) (look c.print_rows-2.new.out) refl c.in_ok-print_rows.ensures.ok c.print_rows-2.ensures.stopped
