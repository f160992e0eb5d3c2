-- What a list costs: five counts, each summed over the list, which know neither tables nor the validator.
use Rattle.std.specs.Prelude.{ℕ, ◌+◌, ◌-◌, ◌*◌, ◌==◌, Bool, true, false, List, sum_by, count_by}
use Rattle.std.specs.List.{enumerate_from}
use Rattle.plan_types.specs.declared.action.Keep.TheVariants.{Store, Tape}
use Rattle.plan_types.specs.declared.action.Dest.TheVariants.{Level}
use Rattle.plan_types.specs.declared.action.Action.{Action}
use Rattle.plan_types.specs.declared.action.Action.TheVariants.{Forward, Reverse, Copy, Move}
use Rattle.level_book.specs.BookCosts.{BookCosts}

-- the forward steps of an action; in a valid list a Forward leads on, so `from` is below `to`
abbrev pub steps_of : Action → ℕ
steps_of (Forward from to keep) = to - from
steps_of _ = 0

-- whether an action tapes a step, and whether it reverses one
abbrev pub is_taped : Action → Bool
is_taped (Forward from to Tape) = true
is_taped _ = false

abbrev pub is_reversed : Action → Bool
is_reversed (Reverse from to) = true
is_reversed _ = false

-- whether an action writes an image on level k, and whether it reads one there
abbrev pub is_write : ℕ → Action → Bool
is_write k (Forward from to (Store j)) = j == k
is_write k (Copy n from (Level j)) = j == k
is_write k (Move n from (Level j)) = j == k
is_write k _ = false

abbrev pub is_read : ℕ → Action → Bool
is_read k (Copy n from to) = from == k
is_read k (Move n from to) = from == k
is_read k _ = false

-- the forward steps of a list, taped ones included
abbrev pub forward : List Action → ℕ
forward list = sum_by steps_of list

abbrev pub taped : List Action → ℕ
taped list = count_by is_taped list

abbrev pub reversed : List Action → ℕ
reversed list = count_by is_reversed list

abbrev pub writes : ℕ → List Action → ℕ
writes k list = count_by (is_write k) list

abbrev pub reads : ℕ → List Action → ℕ
reads k list = count_by (is_read k) list

-- the steps at their costs, and each level's writes and reads at its costs
abbrev pub cost : List Action → BookCosts → ℕ
cost list book =
    forward list * book.forward + reversed list * book.reverse
    + sum_by (λ level. writes level.0 list * level.1.write + reads level.0 list * level.1.read) (enumerate_from 0 book.levels)
