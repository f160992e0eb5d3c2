-- The report of a list's cost: the counts of its cost fold, a line each.
use Rattle.std.specs.Prelude.{ℕ, List, [], ◌∷◌, ◌++◌, map, codes, decimal}
use Rattle.std.specs.List.{enumerate_from}
use Rattle.plan_types.specs.declared.action.Action.{Action}
use Rattle.level_book.specs.declared.book.Level.{Level}
use Rattle.level_book.specs.BookCosts.{BookCosts}
use Rattle.level_book.specs.CostFold.{forward, taped, reversed, writes, reads, cost}
use Rattle.cost_report.specs.Report.{count_line}

-- how often the list writes and reads images on a level, after its name
abbrev pub level_report : List Action → ℕ × Level → List ℕ
level_report list level =
    level.1.name ++ codes " writes " ++ decimal (writes level.0 list) ++ codes " reads " ++ decimal (reads level.0 list) ++ 10 ∷ []

-- the steps, each level from the fastest on, and the total cost
abbrev pub list_report : BookCosts → List Action → List (List ℕ)
list_report book list =
    (count_line (codes "forward ") (forward list) ∷ count_line (codes "taped ") (taped list) ∷ count_line (codes "reversed ") (reversed list) ∷ [])
    ++ map (level_report list) (enumerate_from 0 book.levels)
    ++ count_line (codes "total ") (cost list book) ∷ []
