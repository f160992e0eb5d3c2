use Rattle.std.proofs.Common.{◌≡◌, ℕ, ◌+◌, ◌-◌, ◌<◌, max, List, ◌∷◌, length, get_or, drop, sym, ap, ◌∙◌, arith, add-one}
use Rattle.std.proofs.Math.Seq.{drop-cons}
use Rattle.std.proofs.lemmas.List.{length-append}
use Rattle.std.proofs.lemmas.List.FromFn.{length-range_with_len}
use Rattle.std.specs.List.{range_with_len}
use Rattle.elf_load.specs.declared.pages.Span.{Span}
use Rattle.elf_load.specs.Spans.{pages_from}
use Rattle.elf_load.proofs.pages.page_count.Goals as goal

count_more : (spans : List Span) (k next count all part after : ℕ) (d : Span) → k < length spans → count + length (pages_from next (drop k spans)) ≡ all → part ≡ (get_or spans k d).last + 1 - max (get_or spans k d).first next → after ≡ max next ((get_or spans k d).last + 1) → count + part + length (pages_from after (drop (k + 1) spans)) ≡ all
count_more spans k next count all part after d l before is then =
    let s : Span = get_or spans k d in
    let rest : drop k spans ≡ s ∷ drop (k + 1) spans = drop-cons spans k d l ∙ ap (λ n. s ∷ drop n spans) (sym (add-one k)) in
    let a : ℕ = max next s.first in
    let n : ℕ = s.last + 1 - max next s.first in
    let split : length (pages_from next (drop k spans)) ≡ n + length (pages_from (max next (s.last + 1)) (drop (k + 1) spans)) =
    ap (λ xs. length (pages_from next xs)) rest ∙ length-append (range_with_len a n) (pages_from (max next (s.last + 1)) (drop (k + 1) spans)) ∙ ap (λ m. m + length (pages_from (max next (s.last + 1)) (drop (k + 1) spans))) (length-range_with_len a n) in
    let same : length (pages_from after (drop (k + 1) spans)) ≡ length (pages_from (max next (s.last + 1)) (drop (k + 1) spans)) = ap (λ m. length (pages_from m (drop (k + 1) spans))) then in
    let size : part ≡ n = is ∙ omega arith in
    omega (arith, split, same, size, before)

pub loop-span-preserved : goal.loop-span-preserved
loop-span-preserved c =
    let d : Span = record { first = 0; last = 0 } in
    let low = c.requires c.loop-span.span-index d c.loop-span-test.true in
    record {
      count = count_more c.args.spans.now c.loop-span.span-index c.loop-span.next c.loop-span.count _ c.saturating_sub-count.result c.max-next.result d c.loop-span-test.true c.loop-span.invariant.count (c.saturating_sub-count.ensures ∙ ap (λ m. (get_or c.args.spans.now c.loop-span.span-index d).last + 1 - m) c.max.ensures) c.max-next.ensures;
      few = omega (arith, c.saturating_sub-count.ensures, c.max.ensures, c.max-next.ensures, c.loop-span.invariant.few);
      next = omega (arith, c.max-next.ensures, c.loop-span.invariant.next, low);
    }
