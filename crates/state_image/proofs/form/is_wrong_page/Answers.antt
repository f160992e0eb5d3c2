use Rattle.std.proofs.Common.{◌≡◌, ◌≤◌, ◌+◌, ◌-◌, ◌<◌, List, ℕ, length, take, drop, sym, ap, subst, ◌∙◌, arith}
use Rattle.state_image.specs.ImageForm.{number_at, page_start, page_number, page_part}
use Rattle.state_image.proofs.FirstWrongField.{page_wrong}
use Rattle.state_image.proofs.form.is_wrong_page.Goals as goal

pub returns-else-number_at-ge-NUMBERS : goal.returns-else-number_at-ge-NUMBERS
returns-else-number_at-ge-NUMBERS c =
    let bytes : List ℕ = c.args.bytes.now in
    let at = c.page_start-at.ensures in
    let there : page_start c.args.k + 4100 ≤ length bytes = omega (arith, at) in
    let number : c.number_at.result ≡ page_number bytes c.args.k = c.number_at.ensures ∙ ap (number_at bytes) at in
    let below : page_number bytes c.args.k < 1048576 = subst (λ n. n < 1048576) number c.if-number_at-ge-NUMBERS.false in
    let size : c.page_start-at.result + 4100 - (c.page_start-at.result + 4) ≡ 4096 = omega arith in
    let is : take (c.page_start-at.result + 4100 - (c.page_start-at.result + 4)) (drop (c.page_start-at.result + 4) bytes) ≡ page_part bytes c.args.k =
    λ i. take (size i) (drop (at i + 4) bytes) in
    c.is_zero.ensures ∙ page_wrong bytes _ c.args.k there (sym c.rises.ensures ∙ c.if-not-rises.false) below is
