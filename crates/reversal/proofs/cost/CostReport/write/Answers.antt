use Rattle.std.proofs.Common.{◌++◌, List, ℕ, refl, subst}
use Rattle.std.proofs.lemmas.List.Concat.{concat_is}
use Rattle.keepers.specs.Claims.{Tells, AddsPrefix}
use Rattle.cost_report.specs.Report.{report_lines}
use Rattle.reversal.specs.Output.{Adds}
use Rattle.reversal.proofs.Pieces.{texts_done, texts_cut}
use Rattle.reversal.proofs.cost.CostReport.write.Goals as goal

pub returns-in-Ok : goal.returns-in-Ok
returns-in-Ok g c other steps =
    let lines = report_lines c.args.self.book c.args.self.counts in
    let P : List ℕ → Type 0 = λ l. Tells (g.O.Sink.told c.args.out.now) (g.O.Sink.told c.report.new.out) (Adds l) in
    texts_done lines _ _ _ (record { steps = refl; calls = refl }) (record { sink = c.in-Ok.ensures.quiet; keepers = λ k. refl }) refl (subst P (concat_is lines) c.in-Ok.ensures.ok) c.in-Ok.ensures.calls

pub returns-in-Err : goal.returns-in-Err
returns-in-Err g c other steps =
    let stop = c.in-Err.ensures.stopped in
    let P : List ℕ → Type 0 = λ l. Tells (g.O.Sink.told c.args.out.now) (g.O.Sink.told c.report.new.out) (λ a b. AddsPrefix stop.line (a ++ l) b) in
    texts_cut stop.before stop.line stop.after (report_lines c.args.self.book c.args.self.counts) _ _ _ (record { steps = refl; calls = refl }) (record { sink = c.in-Err.ensures.cause; keepers = λ k. refl })
    stop.in_order refl (subst P (concat_is stop.before) stop.told) stop.calls
