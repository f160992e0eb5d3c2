use Rattle.std.proofs.Common.{ℕ, ◌<◌, List, length, ap, ◌∙◌, arith}
use Rattle.rv_pages.specs.Memory.{page_numbers}
use Rattle.state_image.proofs.PageUpdates.{passed, cleared, kept}
use Rattle.state_image.proofs.decoding.clear_unnamed.Goals as goal
use Rattle.state_image.proofs.decoding.clear_unnamed.Goals.{then-not-named-index, else-not-named-index}

pub loop-index-preserved : goal.loop-index-preserved
loop-index-preserved c =
    let m = c.loop-index.pages in
    let ns : List ℕ = page_numbers c.args.pages.now in
    let i : ℕ = c.in-Some.index in
    let mapped = c.loop-index.invariant.pages in
    let next = c.in-Some.ensures in
    let inside : i < length ns = omega (arith, next.index.1, ap length mapped) in
    let before = passed m ns c.args.named.now c.loop-index.from i mapped c.loop-index.invariant.zero next.zero in
    elim c.if-not-named-index.branch [
      | then-not-named-index w ↦ rw w.pages-is (record {
        few = omega (arith, next.few);
        inside = omega (arith, inside);
        pages = w.clear_page.ensures.pages ∙ mapped;
        zero = cleared m ns c.args.named.now c.loop-index.from i mapped w.clear_page.new.self inside before w.clear_page.ensures.zero w.clear_page.ensures.others;
      })
      | else-not-named-index w ↦ rw w.pages-is (record {
        few = omega (arith, next.few);
        inside = omega (arith, inside);
        pages = mapped;
        zero = kept m ns c.args.named.now c.loop-index.from i mapped before w.if-not-named-index.false;
      })
    ]

pub returns-clause-zero : goal.returns-clause-zero
returns-clause-zero c =
    let mapped = c.loop-index.invariant.pages in
    passed c.loop-index.pages (page_numbers c.args.pages.now) c.args.named.now c.loop-index.from (length (page_numbers c.args.pages.now)) mapped c.loop-index.invariant.zero
    (λ k from to. c.in_default.ensures.zero k from (omega (arith, to, ap length mapped)))
