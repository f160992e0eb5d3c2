use Rattle.std.proofs.Common.{◌≡◌, ℕ, ◌+◌, ◌-◌, ◌<◌, List, take, drop, get_or, Some, Contains, ap, sym, subst, ◌∙◌, arith}
use Rattle.rv_pages.specs.Memory.{page_numbers, page_bytes, IsPlaceOf}
use Rattle.state_image.specs.ImageForm.{number_at, page_number, page_part, page_count}
use Rattle.state_image.proofs.PageUpdates.{has_place, copied_more}
use Rattle.state_image.proofs.decoding.copy_pages.Goals as goal

pub unwrap-index-requires : goal.unwrap-index-requires
unwrap-index-requires c =
    let number : c.number_at.result ≡ page_number c.args.bytes.now c.loop-k.k = c.number_at.ensures ∙ ap (number_at c.args.bytes.now) c.page_start-at.ensures in
    let low : c.loop-k.k < page_count c.args.bytes.now = omega (arith, c.number_at-k-end.ensures) in
    let there = c.requires.mapped c.loop-k.k low in
    let place : IsPlaceOf (page_numbers c.loop-k.pages) (page_number c.args.bytes.now c.loop-k.k) c.index_of.result = subst (λ n. IsPlaceOf (page_numbers c.loop-k.pages) n c.index_of.result) number c.index_of.ensures.place in
    has_place (page_numbers c.loop-k.pages) (page_number c.args.bytes.now c.loop-k.k) c.index_of.result place
    (subst (λ (ns : List ℕ). Contains ns (page_number c.args.bytes.now c.loop-k.k)) (sym c.loop-k.invariant.pages) there)

pub loop-k-preserved : goal.loop-k-preserved
loop-k-preserved c =
    let bytes : List ℕ = c.args.bytes.now in
    let number : c.number_at.result ≡ page_number bytes c.loop-k.k = c.number_at.ensures ∙ ap (number_at bytes) c.page_start-at.ensures in
    let low : c.loop-k.k < page_count bytes = omega (arith, c.number_at-k-end.ensures) in
    let place : IsPlaceOf (page_numbers c.loop-k.pages) (page_number bytes c.loop-k.k) (Some c.unwrap-index.result) =
    subst (λ o. IsPlaceOf (page_numbers c.loop-k.pages) (page_number bytes c.loop-k.k) o) c.unwrap-index.ensures
    (subst (λ n. IsPlaceOf (page_numbers c.loop-k.pages) n c.index_of.result) number c.index_of.ensures.place) in
    let size : c.page_start-at.result + 4 + 4096 - (c.page_start-at.result + 4) ≡ 4096 = omega arith in
    let page : page_bytes c.set_page.new.self (get_or (page_numbers c.loop-k.pages) c.unwrap-index.result 0) ≡ page_part bytes c.loop-k.k =
    c.set_page.ensures.page ∙ (λ i. take (size i) (drop (c.page_start-at.ensures i + 4) bytes)) in
    copied_more bytes c.requires.image c.args.pages.now c.loop-k.pages c.set_page.new.self c.loop-k.k c.unwrap-index.result low c.requires.mapped c.loop-k.invariant
    place.0 place.1 c.set_page.ensures.pages page c.set_page.ensures.others
