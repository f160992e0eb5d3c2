use Rattle.std.proofs.Common.{◌≡◌, ◌-◌, ◌≤◌, ◌++◌, max}
use Rattle.std.specs.List.{range_with_len}
use Rattle.elf_load.proofs.pages.push_pages.Given as goal

abbrev pub invariant-loop-page : goal.invariant-loop-page
invariant-loop-page l = record {
  pushed : l.numbers.items ≡ l.initial.numbers.items ++ range_with_len l.from (l.page - l.from);
  within : l.page ≤ max l.from l.to;
}
