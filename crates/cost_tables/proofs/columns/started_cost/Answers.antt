use Rattle.std.proofs.Common.{◌≡◌, ℕ, ◌+◌, ◌-◌, ◌<◌, min, length, get_or, take, drop, ap, ◌∙◌, arith}
use Rattle.std.proofs.lemmas.List.{get_or-take, get_or-drop, length-take}
use Rattle.cost_tables.specs.Entries.{least_of}
use Rattle.cost_tables.proofs.NumberColumns.{least_same}
use Rattle.cost_tables.proofs.columns.started_cost.Goals as goal

pub returns : goal.returns
returns c =
    let fresh = c.args.fresh.now in let held = c.args.held.now in let q = c.args.q in let first = c.min-first.result in
    let is : first ≡ min q (length held) = c.min-first.ensures in
    let xs = take (length fresh - first) fresh in let ys = take (length held - first) (drop first held) in
    let e : c.least_sum.result ≡ least_of (λ i. get_or xs i 0 + get_or ys i 0) (length xs) = c.least_sum.ensures in
    let count : length xs ≡ length held - q = length-take (length fresh - first) fresh ∙ omega arith in
    let one : (i : ℕ) → i < length held - q → get_or xs i 0 + get_or ys i 0 ≡ get_or fresh i 0 + get_or held (q + i) 0 = λ i lt.
    let left = get_or-take (length fresh - first) fresh i 0 (omega arith) in
    let right = get_or-take (length held - first) (drop first held) i 0 (omega arith) ∙ get_or-drop first held i 0 in
    let same : get_or held (first + i) 0 ≡ get_or held (q + i) 0 = ap (λ k. get_or held k 0) (omega arith) in
    omega arith in
    e ∙ ap (λ n. least_of (λ i. get_or xs i 0 + get_or ys i 0) n) count ∙ least_same (λ i. get_or xs i 0 + get_or ys i 0) (λ i. get_or fresh i 0 + get_or held (q + i) 0) (length held - q) one
