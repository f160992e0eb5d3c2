use Rattle.std.proofs.Common.{◌≡◌, ◌*◌, ◌∙◌, length, replicate}
use Rattle.std.proofs.lemmas.List.{length-replicate}
use Rattle.rv_pages.specs.Memory.{page_numbers}
use Rattle.rv_pages.specs.PageLayout.{memory_kept, AreKept}
use Rattle.rv_pages.proofs.Numbers.{kept_numbers}
use Rattle.rv_pages.proofs.ZeroPages.{kept_zeros}
use Rattle.rv_pages.proofs.pages.Pages.map.Goals as goal

pub returns-clause-memory : goal.returns-clause-memory
returns-clause-memory c =
    let numbers = c.in_ok-from_slice.ensures.items in
    let bytes : c.in_ok-zero_pages.field-0.items ≡ replicate (4096 * length c.args.numbers.now) 0 = c.in_ok-zero_pages.ensures in
    let kept : AreKept c.args.numbers.now (replicate (4096 * length c.args.numbers.now) 0) = record { ascending = c.requires.ascending; below = c.requires.below; few = c.requires.few; whole = length-replicate _ _ } in
    (λ i. memory_kept (numbers i) (bytes i)) ∙ kept_zeros c.args.numbers.now kept

pub returns-clause-pages : goal.returns-clause-pages
returns-clause-pages c =
    let numbers = c.in_ok-from_slice.ensures.items in
    let bytes : c.in_ok-zero_pages.field-0.items ≡ replicate (4096 * length c.args.numbers.now) 0 = c.in_ok-zero_pages.ensures in
    let kept : AreKept c.args.numbers.now (replicate (4096 * length c.args.numbers.now) 0) = record { ascending = c.requires.ascending; below = c.requires.below; few = c.requires.few; whole = length-replicate _ _ } in
    (λ i. page_numbers (memory_kept (numbers i) (bytes i))) ∙ kept_numbers _ _ kept
