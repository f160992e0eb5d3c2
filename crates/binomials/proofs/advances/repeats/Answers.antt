use Rattle.std.proofs.Common.{arith}
use Rattle.binomials.proofs.LeastAdvances.{with_slot, repeats_between}
use Rattle.binomials.proofs.advances.repeats.Goals as goal

pub returns-clause-value : goal.returns-clause-value
returns-clause-value c =
    let s = with_slot c.args.l c.args.c c.requires.some c.requires.slots in
    omega (arith, (repeats_between c.args.l c.args.c s).1 c.climb_to.result.repeats c.climb_to.ensures.repeated)
