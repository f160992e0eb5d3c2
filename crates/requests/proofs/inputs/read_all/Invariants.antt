use Rattle.std.proofs.Common.{◌≡◌, ◌++◌, ℕ, List, map, take}
use Rattle.requests.specs.Inputs.{names}
use Rattle.requests.specs.InputOutcome.{input_of, contents_of}
use Rattle.requests.proofs.InputSequence.{SoFar}
use Rattle.requests.proofs.inputs.read_all.Given as goal

-- The inputs so far were read, and asked for in their order.
abbrev pub invariant-loop-i : goal.invariant-loop-i
invariant-loop-i g l = record {
  so_far : (read : List (List ℕ)) × SoFar (map input_of l.wanted) (g.I.Inputs.told l.fn.inputs) read (contents_of l.loaded) l.i;
  same : g.I.Inputs.told l.inputs ≡ g.I.Inputs.told l.fn.inputs;
  asked : g.I.Inputs.asked l.inputs ≡ g.I.Inputs.asked l.fn.inputs ++ take l.i (names (map input_of l.wanted));
  quiet : g.I.Inputs.fault_count l.inputs ≡ g.I.Inputs.fault_count l.fn.inputs;
}
