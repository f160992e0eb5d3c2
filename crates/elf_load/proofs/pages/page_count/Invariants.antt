use Rattle.std.proofs.Common.{◌≡◌, ◌+◌, ◌≤◌, ◌^◌, length, drop}
use Rattle.elf_load.specs.Spans.{pages_from}
use Rattle.elf_load.proofs.pages.page_count.Given as goal

abbrev pub invariant-loop-span : goal.invariant-loop-span
invariant-loop-span l = record {
  count : l.count + length (pages_from l.next (drop l.span-index l.spans)) ≡ length (pages_from 0 l.spans);
  few : l.count ≤ l.next;
  next : l.next ≤ 2 ^ 63;
}
