use Rattle.std.proofs.Common.{◌≡◌, ℕ, ◌<◌, filter}
use Rattle.std.specs.List.{range_with_len}
use Rattle.elf_load.specs.Elf.{is_load, header_at, IsSoundIfLoaded}
use Rattle.elf_load.specs.HeaderFields.{segments_of}
use Rattle.elf_load.proofs.segment.read_segments.Given as goal

abbrev pub invariant-loop-index : goal.invariant-loop-index
invariant-loop-index l = record {
  segments : l.segments.items ≡ segments_of l.file (filter (λ i. is_load (header_at l.file i)) (range_with_len 0 l.index));
  fit : (i : ℕ) → i < l.index → IsSoundIfLoaded l.file l.stack i;
}
