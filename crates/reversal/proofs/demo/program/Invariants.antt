use Rattle.reversal.proofs.DemoProgram.{HasDrawn}
use Rattle.reversal.proofs.demo.program.Given as goal

-- so many instructions were drawn
abbrev pub invariant-loop : goal.invariant-loop
invariant-loop l = HasDrawn 62 l.counter l.number l.v l.bytes.items
