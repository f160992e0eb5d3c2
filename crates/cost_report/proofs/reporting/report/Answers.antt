use Rattle.std.proofs.Common.{[], ◌∷◌, ◌++◌, ap}
use Rattle.std.specs.Prelude.{codes}
use Rattle.std.specs.List.{concat}
use Rattle.keepers.specs.Claims.{Tells, AddsPrefix}
use Rattle.cost_fold.specs.CountsOf.{price}
use Rattle.cost_report.specs.Report.{count_line, step_lines, level_lines, report_lines}
use Rattle.keepers.specs.LineWrites.{seen, StopsIn}
use Rattle.keepers.proofs.LineSequences.{added_then, stopped_then, stopped_before, stopped_prefix, err_always, last_told, last_stopped, last_prefix}
use Rattle.cost_report.proofs.reporting.report.Goals as goal

pub returns-in_err-write_steps-clause-stopped : goal.returns-in_err-write_steps-clause-stopped
returns-in_err-write_steps-clause-stopped g c =
    let look = seen g.O.Sink in
    let counts = c.args.counts.now in let book = c.args.book.now in
    let a = look c.args.out.now in let b = look c.write_steps.new.out in
    err_always c.from_residual.result (StopsIn (report_lines book counts) a b)
    (stopped_before (step_lines counts) (level_lines book counts ++ count_line (codes "total ") (price counts book) ∷ []) a b c.in_err-write_steps.ensures.stopped)

pub returns-in_err-write_steps-clause-refused : goal.returns-in_err-write_steps-clause-refused
returns-in_err-write_steps-clause-refused g c =
    let look = seen g.O.Sink in
    let counts = c.args.counts.now in let book = c.args.book.now in let lines = report_lines book counts in
    let a = look c.args.out.now in let b = look c.write_steps.new.out in
    err_always c.from_residual.result (Tells a.told b.told (AddsPrefix (concat lines)))
    (stopped_prefix lines a b (stopped_before (step_lines counts) (level_lines book counts ++ count_line (codes "total ") (price counts book) ∷ []) a b c.in_err-write_steps.ensures.stopped))

pub returns-in_err-write_levels-clause-stopped : goal.returns-in_err-write_levels-clause-stopped
returns-in_err-write_levels-clause-stopped g c =
    let look = seen g.O.Sink in
    let counts = c.args.counts.now in let book = c.args.book.now in
    let steps = step_lines counts in let levels = level_lines book counts in
    let a = look c.args.out.now in let b = look c.write_steps.new.out in let d = look c.write_levels.new.out in
    err_always c.from_residual-in_err-write_levels.result (StopsIn (report_lines book counts) a d)
    (stopped_before (steps ++ levels) (count_line (codes "total ") (price counts book) ∷ []) a d
    (stopped_then steps levels a b d c.in_ok-write_steps.ensures.ok c.in_err-write_levels.ensures.stopped))

pub returns-in_err-write_levels-clause-refused : goal.returns-in_err-write_levels-clause-refused
returns-in_err-write_levels-clause-refused g c =
    let look = seen g.O.Sink in
    let counts = c.args.counts.now in let book = c.args.book.now in let lines = report_lines book counts in
    let steps = step_lines counts in let levels = level_lines book counts in
    let a = look c.args.out.now in let b = look c.write_steps.new.out in let d = look c.write_levels.new.out in
    err_always c.from_residual-in_err-write_levels.result (Tells a.told d.told (AddsPrefix (concat lines)))
    (stopped_prefix lines a d (stopped_before (steps ++ levels) (count_line (codes "total ") (price counts book) ∷ []) a d
    (stopped_then steps levels a b d c.in_ok-write_steps.ensures.ok c.in_err-write_levels.ensures.stopped)))

pub returns-clause-ok : goal.returns-clause-ok
returns-clause-ok g c =
    let look = seen g.O.Sink in
    let counts = c.args.counts.now in let book = c.args.book.now in
    let steps = step_lines counts in let levels = level_lines book counts in
    let a = look c.args.out.now in let b = look c.write_steps.new.out in let d = look c.write_levels.new.out in
    let priced = ap (λ n. (steps ++ levels) ++ count_line (codes "total ") n ∷ []) c.total.ensures.price in
    last_told c.write_count.result (steps ++ levels) (count_line (codes "total ") c.total.result ∷ []) (report_lines book counts) a d (look c.write_count.new.out) priced
    (added_then steps levels a b d c.in_ok-write_steps.ensures.ok c.in_ok-write_levels.ensures.ok) c.write_count.ensures.ok

pub returns-clause-stopped : goal.returns-clause-stopped
returns-clause-stopped g c =
    let look = seen g.O.Sink in
    let counts = c.args.counts.now in let book = c.args.book.now in
    let steps = step_lines counts in let levels = level_lines book counts in
    let a = look c.args.out.now in let b = look c.write_steps.new.out in let d = look c.write_levels.new.out in
    let priced = ap (λ n. (steps ++ levels) ++ count_line (codes "total ") n ∷ []) c.total.ensures.price in
    last_stopped c.write_count.result (steps ++ levels) (count_line (codes "total ") c.total.result ∷ []) (report_lines book counts) a d (look c.write_count.new.out) priced
    (added_then steps levels a b d c.in_ok-write_steps.ensures.ok c.in_ok-write_levels.ensures.ok) c.write_count.ensures.stopped

pub returns-clause-refused : goal.returns-clause-refused
returns-clause-refused g c =
    let look = seen g.O.Sink in
    let counts = c.args.counts.now in let book = c.args.book.now in
    let steps = step_lines counts in let levels = level_lines book counts in
    let a = look c.args.out.now in let b = look c.write_steps.new.out in let d = look c.write_levels.new.out in
    let priced = ap (λ n. (steps ++ levels) ++ count_line (codes "total ") n ∷ []) c.total.ensures.price in
    last_prefix c.write_count.result (steps ++ levels) (count_line (codes "total ") c.total.result ∷ []) (report_lines book counts) a d (look c.write_count.new.out) priced
    (added_then steps levels a b d c.in_ok-write_steps.ensures.ok c.in_ok-write_levels.ensures.ok) c.write_count.ensures.stopped
