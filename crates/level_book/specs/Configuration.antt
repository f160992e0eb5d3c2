-- What a schedule has done so far. The form is our own, after the manual of checkpoint_schedules. It has the working
-- state, the stored states of each level, and the adjoint data of one step. It also says how far the reversal has come.
use Rattle.std.specs.Prelude.{ℕ, Bool, false, List, map, slice_index_or, slice_set}
use Rattle.std.specs.Prelude.{Option, None}
use Rattle.std.specs.Ordering.{nat_cmp}
use Rattle.std.specs.FinSet as set
use Rattle.level_book.specs.declared.book.Slots.{Slots}

pub record Configuration : Type 0 where
  -- the number of the state in work
  pub work : ℕ
  -- for each level of the book the numbers of the states whose images it holds
  pub held : List (set.FinSet nat_cmp)
  -- the number of the state on the tape, if there is one
  pub tape : Option ℕ
  -- how many steps are still to be reversed
  pub reverse : ℕ
  -- whether EndForward was done, and whether EndReverse was
  pub forward_ended : Bool
  pub ended : Bool

-- the start: state 0 in work, nothing held, an empty tape, and all steps still to be reversed
abbrev pub start : ℕ → List Slots → Configuration
start steps slots = record {
  work = 0;
  held = map (λ _. set.empty) slots;
  tape = None;
  reverse = steps;
  forward_ended = false;
  ended = false;
}

-- the numbers of the states held on level k
abbrev pub held_on : Configuration → ℕ → set.FinSet nat_cmp
held_on c k = slice_index_or c.held k set.empty

-- the configuration with the image of state n held on level k as well
abbrev pub with_held : Configuration → ℕ → ℕ → Configuration
with_held c n k = record c { held = slice_set c.held k (set.insert (held_on c k) n) }

-- the configuration after level k drops its image of state n
abbrev pub without_held : Configuration → ℕ → ℕ → Configuration
without_held c n k = record c { held = slice_set c.held k (set.remove (held_on c k) n) }
