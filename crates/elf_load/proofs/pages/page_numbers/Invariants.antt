use Rattle.std.proofs.Common.{◌≡◌, ◌++◌, drop}
use Rattle.elf_load.specs.Spans.{pages_from}
use Rattle.elf_load.proofs.pages.page_numbers.Given as goal

abbrev pub invariant-loop-span : goal.invariant-loop-span
invariant-loop-span l = l.numbers.items ++ pages_from l.next (drop l.span-index l.spans) ≡ pages_from 0 l.spans
