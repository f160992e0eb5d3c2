use Rattle.std.proofs.Common.{ℕ, ◌-◌, sym, ◌∙◌, ap, arith}
use Rattle.rv_machine.specs.MachineState.{MachineState}
use Rattle.rv_machine.specs.States.{state_number}
use Rattle.reverse_console.specs.StateSources.{HasPc}
use Rattle.reverse_console.proofs.StepSearch.{one_step, none_more}
use Rattle.reverse_console.proofs.seeking.seek_first.Goals as goal

pub returns-then-state-address-clause-first : goal.returns-then-state-address-clause-first
returns-then-state-address-clause-first g c =
    let so_far = c.loop-n.invariant in
    let at = one_step c.args.work.now c.loop-n.work c.advance.new.self c.args.journal.now c.args.from c.loop-n.n c.loop-n.auto.n so_far.work c.advance.ensures.states in
    let pc : MachineState → ℕ = λ s. s.pc in
    let low = c.loop-n.auto.n in
    let below = c.loop-n-test.true in (
      ap pc (sym at) ∙ ap pc (sym (c.behind-work.view_is ∙ c.state.ensures)) ∙ c.if-state-address.true,
      omega (arith, low),
      omega (arith, below),
      λ n above under h. so_far.none n above (omega (arith, under)) h,
    )

pub loop-n-preserved : goal.loop-n-preserved
loop-n-preserved g c =
    let so_far = c.loop-n.invariant in
    let at = one_step c.args.work.now c.loop-n.work c.advance.new.self c.args.journal.now c.args.from c.loop-n.n c.loop-n.auto.n so_far.work c.advance.ensures.states in
    let pc : MachineState → ℕ = λ s. s.pc in
    let low = c.loop-n.auto.n in
    let counted = so_far.counted in
    let more = c.advance.ensures.counted in
    let P : ℕ → Type 0 = λ m. HasPc c.args.address (state_number c.args.work.now c.args.journal.now (m - c.args.from)) in
    record {
      work = at;
      none = none_more P c.args.from c.loop-n.n so_far.none (λ h. c.if-state-address.false (ap pc (c.behind-work.view_is ∙ c.state.ensures) ∙ ap pc at ∙ h));
      mapped = c.advance.ensures.mapped ∙ so_far.mapped;
      counted = omega (arith, counted, more, low);
    }
