use Rattle.std.proofs.Common.{◌≡◌}
use Rattle.rv_pages.specs.Memory.{page_numbers}
use Rattle.library_tests.proofs.machine_tests.store_words.Given as goal

abbrev pub invariant-loop-at : goal.invariant-loop-at
invariant-loop-at g l = page_numbers l.pages ≡ page_numbers l.initial.pages
