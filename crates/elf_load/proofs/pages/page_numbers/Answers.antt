use Rattle.std.proofs.Common.{◌≡◌, ℕ, ◌+◌, ◌-◌, ◌<◌, max, List, ◌∷◌, ◌++◌, length, get_or, drop, sym, ap, ◌∙◌, add-one, append_assoc}
use Rattle.std.proofs.Math.Seq.{drop-cons}
use Rattle.std.specs.List.{range_with_len}
use Rattle.elf_load.specs.declared.pages.Span.{Span}
use Rattle.elf_load.specs.Spans.{pages_from}
use Rattle.elf_load.proofs.pages.page_numbers.Goals as goal

numbers_more : (spans : List Span) (k next from after : ℕ) (items all new : List ℕ) (d : Span) → k < length spans → items ++ pages_from next (drop k spans) ≡ all → from ≡ max next (get_or spans k d).first → new ≡ items ++ range_with_len from ((get_or spans k d).last + 1 - from) → after ≡ max next ((get_or spans k d).last + 1) → new ++ pages_from after (drop (k + 1) spans) ≡ all
numbers_more spans k next from after items all new d l before is pushed then =
    let s : Span = get_or spans k d in
    let rest : drop k spans ≡ s ∷ drop (k + 1) spans = drop-cons spans k d l ∙ ap (λ n. s ∷ drop n spans) (sym (add-one k)) in
    ap (λ xs. xs ++ pages_from after (drop (k + 1) spans)) (pushed ∙ ap (λ a. items ++ range_with_len a (s.last + 1 - a)) is)
    ∙ ap (λ m. items ++ range_with_len (max next s.first) (s.last + 1 - max next s.first) ++ pages_from m (drop (k + 1) spans)) then
    ∙ append_assoc items (range_with_len (max next s.first) (s.last + 1 - max next s.first)) (pages_from (max next (s.last + 1)) (drop (k + 1) spans))
    ∙ ap (λ xs. items ++ pages_from next xs) (sym rest)
    ∙ before

pub loop-span-preserved : goal.loop-span-preserved
loop-span-preserved c =
    numbers_more c.args.spans.now c.loop-span.span-index c.loop-span.next c.max.result c.max-next.result c.loop-span.numbers.items _ c.push_pages.new.numbers.items (record { first = 0; last = 0 }) c.loop-span-test.true c.loop-span.invariant c.max.ensures c.in_ok-push_pages.ensures c.max-next.ensures
