use Rattle.std.proofs.Common.{◌≡◌, ℕ, ◌+◌, ◌*◌, List, ◌++◌, replicate, refl, ap, ◌∙◌, arith}
use Rattle.std.proofs.lemmas.List.{replicate-append-replicate}
use Rattle.rv_pages.proofs.pages.zero_pages.Goals as goal

-- one page more
one_page_more : (size n : ℕ) (items zeros : List ℕ) → items ≡ replicate (size * n) 0 → zeros ≡ replicate size 0 → items ++ zeros ≡ replicate (size * (n + 1)) 0
one_page_more size n items zeros before page =
    let next : size * n + size ≡ size * (n + 1) = omega arith in
    (λ i. before i ++ page i) ∙ replicate-append-replicate (size * n) size 0 ∙ ap (λ k. replicate k 0) next

pub loop-page-preserved : goal.loop-page-preserved
loop-page-preserved c = c.in_ok-extend_from_slice.ensures.items ∙ one_page_more 4096 c.loop-page._page c.loop-page.bytes.items _ c.loop-page.invariant refl
