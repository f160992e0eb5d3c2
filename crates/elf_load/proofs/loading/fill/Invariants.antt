use Rattle.std.proofs.Common.{◌≡◌, map, take}
use Rattle.std.specs.List.{All}
use Rattle.rv_pages.specs.Memory.{IsMapped}
use Rattle.elf_load.specs.Program.{with_pieces}
use Rattle.elf_load.specs.HeaderFields.{piece_in}
use Rattle.elf_load.specs.declared.segment.Segment.{Segment}
use Rattle.elf_load.proofs.loading.fill.Given as goal

abbrev pub invariant-loop-segment : goal.invariant-loop-segment
invariant-loop-segment l = record {
  stored : l.pages ≡ with_pieces l.initial.pages (map (piece_in l.file) (take l.segment-index l.segments));
  mapped : All (λ (s : Segment). IsMapped l.pages s.address s.file_size) l.segments;
}
