use Rattle.std.proofs.Common.{get_or, arith, ◌∙◌}
use Rattle.plan_types.specs.declared.action.Keep.TheVariants.{Nothing}
use Rattle.plan_types.specs.declared.action.Action.TheVariants.{Forward}
use Rattle.cost_fold.proofs.CountBounds.{whole, can_at, steps_of-le, counted_more, room_so_far, all_fit}
use Rattle.cost_fold.proofs.counting.tally.Goals as goal

pub add-requires-clause-plain : goal.add-requires-clause-plain
add-requires-clause-plain c = can_at c.args.list.now c.loop-action.action-index _ c.requires.plain c.loop-action-test.true

pub add-requires-clause-room : goal.add-requires-clause-room
add-requires-clause-room c =
    room_so_far c.args.list.now c.loop-action.action-index c.loop-action.so_far c.loop-action.auto.action-index-end c.requires.few
    c.loop-action.invariant.counted c.loop-action.invariant.steps

pub loop-action-preserved : goal.loop-action-preserved
loop-action-preserved c =
    let so_far = c.loop-action.invariant in
    record {
      counted = counted_more c.args.list.now c.loop-action.action-index _ c.loop-action.so_far c.add.new.self c.loop-action-test.true so_far.counted
          c.add.ensures.forward c.add.ensures.taped c.add.ensures.reversed c.add.ensures.writes c.add.ensures.reads;
      steps = omega (arith, c.add.ensures.forward, steps_of-le (get_or c.args.list.now c.loop-action.action-index (Forward 0 0 Nothing)) (can_at c.args.list.now c.loop-action.action-index _ c.requires.plain c.loop-action-test.true));
      writes_four = c.add.ensures.levels.0 ∙ so_far.writes_four;
      reads_four = c.add.ensures.levels.1 ∙ so_far.reads_four;
    }

pub invariant_of-result : goal.invariant_of-result
invariant_of-result c =
    let so_far = c.loop-action.invariant in
    let all = whole c.args.list.now c.loop-action.so_far c.loop-action.action-index c.loop-action-test.false so_far.counted in
    record { payable = all_fit c.args.list.now c.loop-action.so_far c.requires.few so_far.writes_four so_far.reads_four all (omega (arith, so_far.steps)) }

pub returns-clause-forward : goal.returns-clause-forward
returns-clause-forward c = (whole c.args.list.now c.loop-action.so_far c.loop-action.action-index c.loop-action-test.false c.loop-action.invariant.counted).forward

pub returns-clause-taped : goal.returns-clause-taped
returns-clause-taped c = (whole c.args.list.now c.loop-action.so_far c.loop-action.action-index c.loop-action-test.false c.loop-action.invariant.counted).taped

pub returns-clause-reversed : goal.returns-clause-reversed
returns-clause-reversed c = (whole c.args.list.now c.loop-action.so_far c.loop-action.action-index c.loop-action-test.false c.loop-action.invariant.counted).reversed

pub returns-clause-writes : goal.returns-clause-writes
returns-clause-writes c = (whole c.args.list.now c.loop-action.so_far c.loop-action.action-index c.loop-action-test.false c.loop-action.invariant.counted).writes

pub returns-clause-reads : goal.returns-clause-reads
returns-clause-reads c = (whole c.args.list.now c.loop-action.so_far c.loop-action.action-index c.loop-action-test.false c.loop-action.invariant.counted).reads

pub returns-clause-bounded : goal.returns-clause-bounded
returns-clause-bounded c =
    let so_far = c.loop-action.invariant in
    all_fit c.args.list.now c.loop-action.so_far c.requires.few so_far.writes_four so_far.reads_four (whole c.args.list.now c.loop-action.so_far c.loop-action.action-index c.loop-action-test.false c.loop-action.invariant.counted) (omega (arith, so_far.steps))
