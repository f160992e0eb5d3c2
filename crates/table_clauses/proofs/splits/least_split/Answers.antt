use Rattle.std.proofs.Common.{◌≡◌, ◌<◌, ◌≤◌, ℕ, List, ◌+◌, ◌-◌, ◌^◌, length, get_or, arith, take, drop, ◌∙◌}
use Rattle.std.proofs.lemmas.List.{get_or-take, get_or-drop, length-take, length-drop}
use Rattle.cost_tables.specs.Entries.{least_of}
use Rattle.cost_tables.proofs.NumberColumns.{least_never, least_below}
use Rattle.table_clauses.proofs.splits.least_split.Goals as goal

abbrev sums : List ℕ → List ℕ → ℕ → ℕ → ℕ
sums back ahead r i = get_or (take (length back - (length back - r)) (drop (length back - r) back)) i 0 + get_or (take r ahead) i 0

pub returns-clause-small : goal.returns-clause-small
returns-clause-small c =
    let back = c.args.back.now in let ahead = c.args.ahead.now in let r = c.args.r in
    let n = length (take (length back - (length back - r)) (drop (length back - r) back)) in
    let e : c.least_sum.result ≡ least_of (sums back ahead r) n = c.least_sum.ensures in
    let never = least_never (sums back ahead r) n in
    omega (arith, e, never)

pub returns-clause-least : goal.returns-clause-least
returns-clause-least c i lt =
    let back = c.args.back.now in let ahead = c.args.ahead.now in let r = c.args.r in let first = length back - r in
    let rows = c.requires.rows.0 in
    let xs = take (length back - first) (drop first back) in
    let e : c.least_sum.result ≡ least_of (sums back ahead r) (length xs) = c.least_sum.ensures in
    let count : length xs ≡ r = length-take (length back - first) (drop first back) ∙ omega (arith, length-drop first back) in
    let below = least_below (sums back ahead r) (length xs) i (omega (arith, count, lt)) in
    let left = get_or-take (length back - first) (drop first back) i 0 (omega (arith, lt)) ∙ get_or-drop first back i 0 in
    let right = get_or-take r ahead i 0 lt in
    omega (arith, e, below, left, right)
