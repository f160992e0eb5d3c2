use Rattle.std.proofs.Common.{[], List, ℕ, cond, sym, ap, ◌∙◌}
use Rattle.std.specs.Prelude.{position}
use Rattle.rv_machine.specs.StateChanges.{addresses}
use Rattle.rv_machine.specs.SystemCalls.{are_mapped}
use Rattle.run_timeline.specs.Moves.{StopList}
use Rattle.run_timeline.specs.Ranges.{writes_in}
use Rattle.run_timeline.proofs.Overlap.{nothing_first}
use Rattle.run_timeline.proofs.stops.Stops.writes.Goals as goal

pub returns-then-aim-eq0 : goal.returns-then-aim-eq0
returns-then-aim-eq0 c =
    let aim = c.aim-aim.result in
    let m = are_mapped c.args.state.now.memory aim.at aim.count in
    sym (nothing_first c.args.self.now.ranges _ aim.at aim.count m c.aim-aim.ensures c.if-aim-eq0.true)

pub returns : goal.returns
returns c =
    let aim = c.aim-aim.result in
    let m = are_mapped c.args.state.now.memory aim.at aim.count in
    c.first_written.ensures
    ∙ ap (λ rs. position (writes_in (cond m (addresses aim.at aim.count) [])) rs) (c.deref.ensures.value ∙ ap (λ (s : StopList). s.ranges) c.self.view_is)
    ∙ ap (λ (ws : List ℕ). position (writes_in ws) c.args.self.now.ranges) (sym c.aim-aim.ensures)
