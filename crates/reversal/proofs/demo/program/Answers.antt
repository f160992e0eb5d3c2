use Rattle.std.proofs.Common.{arith, ap, ◌∙◌, ◌++◌, ℕ, List}
use Rattle.rv_decode.specs.declared.instruction.Inst.TheVariants.{Lui}
use Rattle.reversal.proofs.DemoProgram.{first_drawn, next_drawn, last_drawn, bytes_of}
use Rattle.reversal.proofs.demo.program.Goals as goal

pub loop-init : goal.loop-init
loop-init c = first_drawn 62 c.args.number _ (c.in_ok-push_instruction.ensures ∙ ap (λ (l : List ℕ). l ++ bytes_of (Lui 5 0x11000)) c.in_ok-bytes.ensures.items)

pub loop-preserved : goal.loop-preserved
loop-preserved c =
    next_drawn 62 c.loop.counter c.args.number c.loop.v c.drawn-v.result c.instruction.result c.loop.bytes.items c.push_instruction-in-loop.new.bytes.items c.loop-test.true c.loop.invariant c.drawn-v.ensures
    c.instruction.ensures.instruction c.in_ok-push_instruction-2.ensures

pub returns : goal.returns
returns c =
    last_drawn 62 c.loop.counter c.args.number c.loop.v c.loop.bytes.items c.push_instruction-2.new.bytes.items c.resize.new.self.items 7936 8192 _ (omega (arith, c.loop-test.false, c.loop.auto.counter-end))
    c.loop.invariant c.in_ok-push_instruction-3.ensures (omega arith) (omega (arith, c.push_instruction-2.new.bytes.ok.0)) c.in_ok-resize.ensures.items
