use Rattle.std.proofs.Common.{◌≡◌, ◌≤◌, ◌-◌, take, length}
use Rattle.rv_pages.specs.Memory.{page_numbers, with_bytes}
use Rattle.rv_pages.proofs.pages.Pages.store_bytes.Given as goal

abbrev pub decreases-loop-done : goal.decreases-loop-done
decreases-loop-done l = length l.bytes - l.done

abbrev pub invariant-loop-done : goal.invariant-loop-done
invariant-loop-done l = record {
  within : l.done ≤ length l.bytes;
  stored : l.self ≡ with_bytes l.initial.self l.at (take l.done l.bytes);
  pages : page_numbers l.self ≡ page_numbers l.initial.self;
}
