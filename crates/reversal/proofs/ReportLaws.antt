-- What a report of a list's counts says of the list.
use Rattle.std.proofs.Common.{◌≡◌, ℕ, ◌+◌, ◌*◌, ◌<◌, ◌≤◌, ◌++◌, List, [], ◌∷◌, length, map, refl, sym, ◌∙◌, arith, sum_by, slice_index}
use Rattle.std.specs.Prelude.{codes, decimal}
use Rattle.std.specs.List.{enumerate_from}
use Rattle.std.proofs.lemmas.List.Sums.{sum_by-cons}
use Rattle.plan_types.specs.declared.action.Action.{Action}
use Rattle.level_book.specs.declared.book.Level.{Level}
use Rattle.level_book.specs.BookCosts.{BookCosts}
use Rattle.level_book.specs.CostFold.{writes, reads, cost}
use Rattle.cost_fold.specs.declared.counts.Counts.{Counts}
use Rattle.cost_fold.specs.CountsOf.{AreCountsOf, price}
use Rattle.cost_report.specs.Report.{count_line, level_line, report_lines}
use Rattle.reversal.specs.CostReport.{level_report, list_report}

module _ (list : List Action) (counts : Counts) (are : AreCountsOf list counts) where
  level_same : (k : ℕ) (level : Level) → k < 4 → level_line counts (k, level) ≡ level_report list (k, level)
  level_same k level within = λ i. level.name ++ codes " writes " ++ decimal (are.writes k within i) ++ codes " reads " ++ decimal (are.reads k within i) ++ 10 ∷ []

  levels_same : (k : ℕ) (levels : List Level) → k + length levels ≤ 4 → map (level_line counts) (enumerate_from k levels) ≡ map (level_report list) (enumerate_from k levels)
  levels_same k [] within = refl
  levels_same k (level ∷ levels) within =
      let one = level_same k level (omega (arith, within)) in
      let more = levels_same (k + 1) levels (omega (arith, within)) in
      λ i. one i ∷ more i

  -- what a level's images cost by the counts, and by the list
  abbrev counted : ℕ × Level → ℕ
  counted level = slice_index counts.writes level.0 * level.1.write + slice_index counts.reads level.0 * level.1.read

  abbrev done_there : ℕ × Level → ℕ
  done_there level = writes level.0 list * level.1.write + reads level.0 list * level.1.read

  sums_same : (k : ℕ) (levels : List Level) → k + length levels ≤ 4 → sum_by counted (enumerate_from k levels) ≡ sum_by done_there (enumerate_from k levels)
  sums_same k [] within = refl
  sums_same k (level ∷ levels) within =
      let one : counted (k, level) ≡ done_there (k, level) = λ i. are.writes k (omega (arith, within)) i * level.write + are.reads k (omega (arith, within)) i * level.read in
      let more = sums_same (k + 1) levels (omega (arith, within)) in
      sum_by-cons counted (k, level) (enumerate_from (k + 1) levels) ∙ (λ i. one i + more i) ∙ sym (sum_by-cons done_there (k, level) (enumerate_from (k + 1) levels))

  price_same : (book : BookCosts) → length book.levels ≤ 4 → price counts book ≡ cost list book
  price_same book four =
      let levels = sums_same 0 book.levels (omega (arith, four)) in
      λ i. are.forward i * book.forward + are.reversed i * book.reverse + levels i

  -- the report of a list's counts is that of the list
  pub report_same : (book : BookCosts) → length book.levels ≤ 4 → report_lines book counts ≡ list_report book list
  report_same book four =
      let levels = levels_same 0 book.levels (omega (arith, four)) in
      let total = price_same book four in
      λ i.
      (count_line (codes "forward ") (are.forward i) ∷ count_line (codes "taped ") (are.taped i) ∷ count_line (codes "reversed ") (are.reversed i) ∷ [])
      ++ levels i ++ count_line (codes "total ") (total i) ∷ []
