-- What a list is judged for, and its progress: all that a validator knows.
use Rattle.std.specs.Prelude.{ℕ, Bool, List, Option, refl}
use Rattle.std.specs.Ordering.{nat_cmp}
use Rattle.std.specs.FinSet as set
use Rattle.std.specs.Coded.{Coded, code_by, coded×, coded_ℕ, coded_bool, coded_list, coded_option}
use Rattle.level_book.specs.declared.book.Slots.{Slots}
use Rattle.level_book.specs.contracts.book.Slots as slots_row
use Rattle.level_book.specs.Configuration.{Configuration}

pub record Situation : Type 0 where
  -- the number of steps to reverse
  pub steps : ℕ
  -- the slots of each level of the book
  pub slots : List Slots
  -- what the actions so far led to
  pub at : Configuration

-- a configuration and a situation are stored as the tuples of their fields
abbrev pub configuration_code : Coded Configuration
configuration_code =
    code_by (ℕ × (List (set.FinSet nat_cmp) × (Option ℕ × (ℕ × (Bool × Bool)))))
    (coded× coded_ℕ (coded× (coded_list (set.code coded_ℕ)) (coded× (coded_option coded_ℕ) (coded× coded_ℕ (coded× coded_bool coded_bool)))))
    (λ c. (c.work, (c.held, (c.tape, (c.reverse, (c.forward_ended, c.ended))))))
    (λ p. record { work = p.0; held = p.1.0; tape = p.1.1.0; reverse = p.1.1.1.0; forward_ended = p.1.1.1.1.0; ended = p.1.1.1.1.1 })
    (λ _. refl)

abbrev pub situation_code : Coded Situation
situation_code =
    code_by (ℕ × (List Slots × Configuration))
    (coded× coded_ℕ (coded× (coded_list slots_row.the_row.coded) configuration_code))
    (λ s. (s.steps, (s.slots, s.at)))
    (λ p. record { steps = p.0; slots = p.1.0; at = p.1.1 })
    (λ _. refl)
