-- No public clause cites this file. Which lists are valid and short enough to be counted.
use Rattle.std.specs.Prelude.{◌≤◌, length}
use Rattle.plan_types.specs.declared.limits.TheConstants.{MOST_ACTIONS, MOST_STEPS}
use Rattle.level_book.specs.BookCosts.{slots_of}
use Rattle.level_book.specs.Valid.{Valid}
use Rattle.bound_cert.specs.declared.listed.Listed.{Listed}

-- the list is valid for its steps and book, and no longer than a list may be
pub record IsValid (listed : Listed) : Type 0 where
  pub short : listed.steps ≤ MOST_STEPS
  pub few : length listed.list.now ≤ MOST_ACTIONS
  pub valid : Valid listed.steps (slots_of listed.book.now) listed.list.now
