-- No public clause cites this file. Instructions that were decoded.
use Rattle.std.specs.Prelude.{◌≡◌, ℕ, ◌<◌, List, Some, slice_index, slice_index_or}
use Rattle.rv_decode.specs.declared.instruction.Inst.{Inst}
use Rattle.rv_decode.specs.Rows.{decoded}

-- each word decodes to the instruction at its place
abbrev pub AreDecoded : List ℕ → List Inst → Type 0
AreDecoded words insts = (k : ℕ) (inst : Inst) → k < 1024 → decoded (slice_index words k) ≡ Some (slice_index_or insts k inst)
