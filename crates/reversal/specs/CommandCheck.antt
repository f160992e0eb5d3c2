-- `check`: whether a schedule is valid.
use Rattle.std.specs.Prelude.{ℕ, ◌++◌, List, [], ◌∷◌, length, codes, decimal}
use Rattle.reversal.specs.Job.{write}
use Rattle.reversal.specs.Table.{Decision, Table, does, Decided}
use Rattle.reversal.specs.InputMeaning.{over_valid}

-- the judgement of a schedule
abbrev pub check_table : ℕ → List ℕ → List ℕ → Table
check_table steps book schedule = over_valid steps book schedule (λ b list. does (write ((codes "valid " ++ decimal (length list) ++ codes "\n") ∷ [])))

abbrev pub DecidesCheck : ℕ → List ℕ → List ℕ → Decision → Type 0
DecidesCheck steps book schedule d = Decided (check_table steps book schedule) d
