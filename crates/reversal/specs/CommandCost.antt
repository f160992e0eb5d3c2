-- `cost`: what a valid schedule costs.
use Rattle.std.specs.Prelude.{ℕ, List}
use Rattle.reversal.specs.Job.{write}
use Rattle.reversal.specs.Table.{Decision, Table, does, Decided}
use Rattle.reversal.specs.CostReport.{list_report}
use Rattle.reversal.specs.InputMeaning.{over_valid}

-- what a valid schedule costs
abbrev pub cost_table : ℕ → List ℕ → List ℕ → Table
cost_table steps book schedule = over_valid steps book schedule (λ b list. does (write (list_report b list)))

abbrev pub DecidesCost : ℕ → List ℕ → List ℕ → Decision → Type 0
DecidesCost steps book schedule d = Decided (cost_table steps book schedule) d
