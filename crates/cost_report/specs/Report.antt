-- The report of what counts cost: the steps, the images of each level, and the total.
use Rattle.std.specs.Prelude.{ℕ, List, [], ◌∷◌, ◌++◌, map, codes, decimal, slice_index}
use Rattle.std.specs.List.{enumerate_from, concat}
use Rattle.level_book.specs.declared.book.Level.{Level}
use Rattle.level_book.specs.BookCosts.{BookCosts}
use Rattle.cost_fold.specs.declared.counts.Counts.{Counts}
use Rattle.cost_fold.specs.CountsOf.{price}

-- a word and a count, and byte 10, which ends a line
abbrev pub count_line : List ℕ → ℕ → List ℕ
count_line word n = word ++ decimal n ++ 10 ∷ []

-- the name of level k, its writes and its reads
abbrev pub level_line : Counts → ℕ × Level → List ℕ
level_line counts level =
    level.1.name ++ codes " writes " ++ decimal (slice_index counts.writes level.0) ++ codes " reads " ++ decimal (slice_index counts.reads level.0) ++ 10 ∷ []

-- the lines of the steps
abbrev pub step_lines : Counts → List (List ℕ)
step_lines counts = count_line (codes "forward ") counts.forward ∷ count_line (codes "taped ") counts.taped ∷ count_line (codes "reversed ")
    counts.reversed ∷ []

-- the lines of the levels, the fastest first
abbrev pub level_lines : BookCosts → Counts → List (List ℕ)
level_lines book counts = map (level_line counts) (enumerate_from 0 book.levels)

-- The lines of the report. The last has the total cost.
abbrev pub report_lines : BookCosts → Counts → List (List ℕ)
report_lines book counts = step_lines counts ++ level_lines book counts ++ count_line (codes "total ") (price counts book) ∷ []

-- the text of the report
abbrev pub report_text : BookCosts → Counts → List ℕ
report_text book counts = concat (report_lines book counts)
