use Rattle.std.proofs.Common.{refl, [], ◌∷◌}
use Rattle.std.specs.Prelude.{codes}
use Rattle.cost_report.specs.Report.{count_line, step_lines}
use Rattle.keepers.specs.LineWrites.{seen, StopsIn}
use Rattle.keepers.proofs.LineSequences.{added_then, stopped_then, stopped_before, err_always, last_stopped}
use Rattle.cost_report.proofs.reporting.write_steps.Goals as goal

pub returns-in_err-write_count-clause-stopped : goal.returns-in_err-write_count-clause-stopped
returns-in_err-write_count-clause-stopped g c =
    let look = seen g.O.Sink in
    let counts = c.args.counts.now in
    let a = look c.args.out.now in let b = look c.write_count.new.out in
    err_always c.from_residual.result (StopsIn (step_lines counts) a b)
    (stopped_before (count_line (codes "forward ") counts.forward ∷ []) (count_line (codes "taped ") counts.taped ∷ count_line (codes "reversed ") counts.reversed ∷ []) a b c.in_err-write_count.ensures.stopped)

pub returns-in_err-write_count-2-clause-stopped : goal.returns-in_err-write_count-2-clause-stopped
returns-in_err-write_count-2-clause-stopped g c =
    let look = seen g.O.Sink in
    let counts = c.args.counts.now in
    let forward = count_line (codes "forward ") counts.forward in let taped = count_line (codes "taped ") counts.taped in
    let a = look c.args.out.now in let b = look c.write_count.new.out in let d = look c.write_count-2.new.out in
    err_always c.from_residual-in_err-write_count-2.result (StopsIn (step_lines counts) a d)
    (stopped_before (forward ∷ taped ∷ []) (count_line (codes "reversed ") counts.reversed ∷ []) a d (stopped_then (forward ∷ []) (taped ∷ []) a b d c.in_ok-write_count.ensures.ok c.in_err-write_count-2.ensures.stopped))

pub returns-clause-stopped : goal.returns-clause-stopped
returns-clause-stopped g c =
    let look = seen g.O.Sink in
    let counts = c.args.counts.now in
    let forward = count_line (codes "forward ") counts.forward in let taped = count_line (codes "taped ") counts.taped in
    let a = look c.args.out.now in let b = look c.write_count.new.out in let d = look c.write_count-2.new.out in
    last_stopped c.write_count-3.result (forward ∷ taped ∷ []) (count_line (codes "reversed ") counts.reversed ∷ []) (step_lines counts) a d (look c.write_count-3.new.out) refl
    (added_then (forward ∷ []) (taped ∷ []) a b d c.in_ok-write_count.ensures.ok c.in_ok-write_count-2.ensures.ok) c.write_count-3.ensures.stopped
