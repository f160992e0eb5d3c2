use Rattle.std.proofs.Common.{ℕ, ◌+◌, List, [], ◌∷◌, ◌++◌, map, take, sym, ap, subst, ◌∙◌}
use Rattle.std.specs.List.{enumerate_from}
use Rattle.cost_report.specs.Report.{level_line, level_lines}
use Rattle.keepers.specs.LineWrites.{seen, AddsLines, StopsIn}
use Rattle.keepers.proofs.LineSequences.{added_then, stopped_then, stopped_before, err_always}
use Rattle.cost_report.proofs.LevelLines.{lines_more, lines_from}
use Rattle.cost_report.proofs.reporting.write_levels.Goals as goal

pub loop-k-preserved : goal.loop-k-preserved
loop-k-preserved g c =
    let look = seen g.O.Sink in
    let line = level_line c.args.counts.now in
    let levels = c.args.book.now.levels in let k = c.loop-k.k in let level = c.level.result.now in
    let a = look c.args.out.now in let b = look c.loop-k.out in let d = look c.write_level.new.out in
    let P : List (List ℕ) → Type 0 = λ lines. AddsLines lines a d in
    subst P (sym (lines_more line k levels level c.level.ensures))
    (added_then (map line (enumerate_from 0 (take k levels))) (line (k, level) ∷ []) a b d c.loop-k.invariant c.in_ok-write_level.ensures.ok)

pub returns-in_err-write_level-clause-stopped : goal.returns-in_err-write_level-clause-stopped
returns-in_err-write_level-clause-stopped g c =
    let look = seen g.O.Sink in
    let line = level_line c.args.counts.now in
    let levels = c.args.book.now.levels in let k = c.loop-k.k in let level = c.level.result.now in
    let a = look c.args.out.now in let b = look c.loop-k.out in let d = look c.write_level.new.out in
    let P : List (List ℕ) → Type 0 = λ lines. StopsIn lines a d in
    let before = map line (enumerate_from 0 (take k levels)) in
    let rest = lines_from line 0 (k + 1) levels in
    let all = rest.1 ∙ ap (λ (lines : List (List ℕ)). lines ++ rest.0) (lines_more line k levels level c.level.ensures) in
    err_always c.from_residual.result (StopsIn (level_lines c.args.book.now c.args.counts.now) a d)
    (subst P (sym all) (stopped_before (before ++ line (k, level) ∷ []) rest.0 a d (stopped_then before (line (k, level) ∷ []) a b d c.loop-k.invariant c.in_err-write_level.ensures.stopped)))
