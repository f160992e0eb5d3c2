use Rattle.std.proofs.Common.{◌≡◌, Bool, Some, None, cond, [], sym, ap, ◌∙◌, refl}
use Rattle.std.specs.Prelude.{position}
use Rattle.rv_machine.specs.MachineState.{MachineState}
use Rattle.rv_machine.specs.StateChanges.{addresses}
use Rattle.rv_machine.specs.SystemCalls.{are_mapped}
use Rattle.run_timeline.specs.Ranges.{writes_in}
use Rattle.run_timeline.proofs.Overlap.{written_first, none_either, some_or_none, then_some_is}
use Rattle.run_timeline.proofs.ranges.first_written.Goals as goal

pub returns-in_err-first : goal.returns-in_err-first
returns-in_err-first c =
    let aim = c.args.aim.now in
    let ranges = c.args.ranges.now in
    let m = are_mapped c.args.state.now.memory aim.at aim.count in
    let first : position (writes_in (addresses aim.at aim.count)) ranges ≡ None = sym c.first_met.ensures ∙ c.in_err-first.was in
    c.from_residual.ensures ∙ sym (written_first ranges (cond m (addresses aim.at aim.count) []) aim.at aim.count m refl ∙ none_either m _ first)

pub returns : goal.returns
returns c =
    let aim = c.args.aim.now in
    let ranges = c.args.ranges.now in
    let m = are_mapped c.args.state.now.memory aim.at aim.count in
    let first : position (writes_in (addresses aim.at aim.count)) ranges ≡ Some c.in_ok-first.first = sym c.first_met.ensures ∙ c.in_ok-first.was in
    some_or_none m c.in_ok-first.first _ c.then_some.result first (
    c.then_some.ensures
    ∙ then_some_is c.are_mapped.result c.in_ok-first.first
    ∙ ap (λ (b : Bool). cond b (Some c.in_ok-first.first) None) (c.are_mapped.ensures ∙ ap (λ (s : MachineState). are_mapped s.memory aim.at aim.count) c.state.view_is)
    )
    ∙ sym (written_first ranges (cond m (addresses aim.at aim.count) []) aim.at aim.count m refl)
