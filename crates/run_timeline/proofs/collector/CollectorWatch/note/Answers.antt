use Rattle.std.proofs.Common.{sym, subst}
use Rattle.rv_pages.specs.Memory.{IsMapped}
use Rattle.rv_pages.proofs.MemoryReads.{bytes_mapped}
use Rattle.rv_machine.specs.MachineState.{MachineState}
use Rattle.rv_machine.specs.Output.{output}
use Rattle.run_timeline.proofs.collector.CollectorWatch.note.Goals as goal

-- what a step writes is mapped
pub push_span-requires : goal.push_span-requires
push_span-requires c =
    let span = c.output-span.result in
    subst (λ (s : MachineState). IsMapped s.memory span.at span.count) (sym c.state.view_is)
    (bytes_mapped c.args.state.now.memory span.count span.at (output c.args.state.now) c.output-span.ensures)
