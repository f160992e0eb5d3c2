use Rattle.std.proofs.Common.{◌≤◌, ◌<◌, ℕ, length, refl, subst, arith}
use Rattle.std.specs.Prelude.{unwrap_or}
use Rattle.rv_pages.specs.Memory.{page_numbers}
use Rattle.run_timeline.proofs.PageIndices.{below_found, below_touched, zero_more}
use Rattle.run_timeline.proofs.mark.clear_next.Goals as goal

pub returns-then-index-to-clause-zero : goal.returns-then-index-to-clause-zero
returns-then-index-to-clause-zero c =
    let far : c.args.to ≤ unwrap_or c.next_touched.result c.args.to = subst (λ (n : ℕ). c.args.to ≤ n) c.unwrap_or-index.ensures c.if-index-to.true in
    λ k low high. c.next_touched.ensures.zero k low (below_touched c.next_touched.result c.args.to (length (page_numbers c.args.pages.now)) k c.requires.inside far high)

pub returns-clause-zero : goal.returns-clause-zero
returns-clause-zero c =
    let o = c.next_touched.result in
    let is = c.unwrap_or-index.ensures in
    let low : unwrap_or o c.args.to < c.args.to = omega (arith, is) in
    zero_more (page_numbers c.args.pages.now) c.args.pages.now c.clear_page.new.self c.args.from c.unwrap_or-index.result refl (omega arith)
    (λ k above below. c.next_touched.ensures.zero k above (below_found o c.args.to (length (page_numbers c.args.pages.now)) k low (omega (arith, is))))
    c.clear_page.ensures.zero c.clear_page.ensures.others
