use Rattle.std.proofs.Common.{◌≡◌, take}
use Rattle.level_book.specs.BookCosts.{slots_of}
use Rattle.level_book.specs.Configuration.{start}
use Rattle.level_book.specs.Valid.{Leads}
use Rattle.schedule_rules.proofs.whole_list.check.Given as goal

-- the actions so far lead from the start to the configuration
abbrev pub invariant-loop-i : goal.invariant-loop-i
invariant-loop-i l = record {
  steps : l.config.steps ≡ l.steps;
  slots : l.config.slots ≡ slots_of l.book;
  leads : Leads l.steps (slots_of l.book) (start l.steps (slots_of l.book)) (take l.i l.list) l.config.at;
}
