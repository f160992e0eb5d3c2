use Rattle.std.proofs.Common.{◌≡◌, ◌<◌, false, map, Some, sym, ◌∙◌, ap, below_more, arith}
use Rattle.std.specs.List.{range_with_len}
use Rattle.state_image.specs.ImageForm.{is_wrong, start_or, trailing, header_fields, page, page_start, page_count}
use Rattle.state_image.proofs.FirstWrongField.{start_some, find_later, first_page, pages_right, trailing_some, trailing_none}
use Rattle.state_image.proofs.form.first_wrong.Goals as goal

pub returns-in-Some : goal.returns-in-Some
returns-in-Some c = start_some (is_wrong c.args.bytes.now) header_fields _ _ (trailing c.args.bytes.now) c.in-Some.ensures.value

pub returns-then-is_wrong_page : goal.returns-then-is_wrong_page
returns-then-is_wrong_page c =
    let pages = map page (range_with_len 0 (page_count c.args.bytes.now)) in
    let later = find_later (is_wrong c.args.bytes.now) header_fields pages (sym c.in_default.ensures.value) in
    let low : c.loop-k.k < page_count c.args.bytes.now = omega (arith, c.number_at-count.ensures) in
    let found = first_page c.args.bytes.now (page_count c.args.bytes.now) c.loop-k.k low c.loop-k.invariant (sym c.is_wrong_page.ensures ∙ c.if-is_wrong_page.true) in
    ap Some c.page_start.ensures ∙ ap (λ o. start_or o (trailing c.args.bytes.now)) (sym (later ∙ found))

pub loop-k-preserved : goal.loop-k-preserved
loop-k-preserved c = below_more (λ j. is_wrong c.args.bytes.now (page j) ≡ false) c.loop-k.k c.loop-k.invariant (sym c.is_wrong_page.ensures ∙ c.if-is_wrong_page.false)

pub returns-then-end-bytes : goal.returns-then-end-bytes
returns-then-end-bytes c =
    let pages = map page (range_with_len 0 (page_count c.args.bytes.now)) in
    let later = find_later (is_wrong c.args.bytes.now) header_fields pages (sym c.in_default.ensures.value) in
    let none = pages_right c.args.bytes.now (page_count c.args.bytes.now) (λ j l. c.loop-k.invariant j (omega (arith, l, c.number_at-count.ensures))) in
    let end : c.page_start-end.result ≡ page_start (page_count c.args.bytes.now) = c.page_start-end.ensures ∙ ap page_start c.number_at-count.ensures in
    trailing_some c.args.bytes.now c.page_start-end.result end c.if-end-bytes.true ∙ ap (λ o. start_or o (trailing c.args.bytes.now)) (sym (later ∙ none))

pub returns-else-end-bytes : goal.returns-else-end-bytes
returns-else-end-bytes c =
    let pages = map page (range_with_len 0 (page_count c.args.bytes.now)) in
    let later = find_later (is_wrong c.args.bytes.now) header_fields pages (sym c.in_default.ensures.value) in
    let none = pages_right c.args.bytes.now (page_count c.args.bytes.now) (λ j l. c.loop-k.invariant j (omega (arith, l, c.number_at-count.ensures))) in
    let end : c.page_start-end.result ≡ page_start (page_count c.args.bytes.now) = c.page_start-end.ensures ∙ ap page_start c.number_at-count.ensures in
    trailing_none c.args.bytes.now c.page_start-end.result end c.if-end-bytes.false ∙ ap (λ o. start_or o (trailing c.args.bytes.now)) (sym (later ∙ none))
