use Rattle.std.proofs.Common.{◌≡◌, ◌==◌, ℕ, ◌<◌, true, false, not, List, length, get_or, Some, Contains, ap, sym, ◌∙◌, below_more, arith}
use Rattle.std.proofs.lemmas.List.{length-set, get_or_default}
use Rattle.std.specs.List.{list_any}
use Rattle.rv_pages.specs.Memory.{page_numbers}
use Rattle.state_image.specs.ImageForm.{number_at, page_number, page_count}
use Rattle.state_image.proofs.FirstWrongField.{found_first, none_first, listed, unlisted}
use Rattle.state_image.proofs.PageUpdates.{marks_more}
use Rattle.state_image.proofs.decoding.first_unmapped.Goals as goal

-- a page that is mapped isn't found
mapped_test : (ns : List ℕ) (n : ℕ) → Contains ns n → not (list_any (λ m. m == n) ns) ≡ false
mapped_test ns n there = ap not (listed ns n there.0 there.1 (get_or_default ns there.0 0 n there.1 ∙ there.2))

pub returns-in_default-clause-value : goal.returns-in_default-clause-value
returns-in_default-clause-value c =
    let bytes : List ℕ = c.args.bytes.now in
    let ns : List ℕ = page_numbers c.args.pages.now in
    let number : c.number_at-number.result ≡ page_number bytes c.loop-k.k = c.number_at-number.ensures ∙ ap (number_at bytes) c.page_start.ensures in
    let low : c.loop-k.k < page_count bytes = omega (arith, c.number_at-k-end.ensures) in
    let missing : not (list_any (λ m. m == page_number bytes c.loop-k.k) ns) ≡ true =
    ap not (unlisted ns (page_number bytes c.loop-k.k) (λ k inside at. c.in_default.ensures.place k inside (at ∙ sym number))) in
    ap Some number ∙ sym (found_first (λ n. not (list_any (λ m. m == n) ns)) (page_number bytes) (page_count bytes) c.loop-k.k low (λ j l. mapped_test ns (page_number bytes j) (c.loop-k.invariant.mapped j l)) missing)

pub bounds-named-index : goal.bounds-named-index
bounds-named-index c = omega (arith, c.in-Some.ensures.few, c.loop-k.invariant.room)

pub loop-k-preserved : goal.loop-k-preserved
loop-k-preserved c =
    let bytes : List ℕ = c.args.bytes.now in
    let ns : List ℕ = page_numbers c.args.pages.now in
    let number : c.number_at-number.result ≡ page_number bytes c.loop-k.k = c.number_at-number.ensures ∙ ap (number_at bytes) c.page_start.ensures in
    let low : c.loop-k.k < page_count bytes = omega (arith, c.number_at-k-end.ensures) in
    let at : get_or ns c.in-Some.index 0 ≡ page_number bytes c.loop-k.k = c.in-Some.ensures.place.1 ∙ number in
    let inside : c.in-Some.index < length ns = c.in-Some.ensures.place.0 in
    let there : Contains ns (page_number bytes c.loop-k.k) = (c.in-Some.index, inside, sym (get_or_default ns c.in-Some.index 0 (page_number bytes c.loop-k.k) inside) ∙ at) in
    record {
      room = length-set c.loop-k.named c.in-Some.index true ∙ c.loop-k.invariant.room;
      mapped = below_more (λ j. Contains ns (page_number bytes j)) c.loop-k.k c.loop-k.invariant.mapped there;
      marked = marks_more bytes ns c.loop-k.named c.loop-k.k c.in-Some.index low (omega (arith, c.in-Some.ensures.few, c.loop-k.invariant.room)) at c.loop-k.invariant.marked;
    }

pub returns-clause-value : goal.returns-clause-value
returns-clause-value c =
    let bytes : List ℕ = c.args.bytes.now in
    let ns : List ℕ = page_numbers c.args.pages.now in
    sym (none_first (λ n. not (list_any (λ m. m == n) ns)) (page_number bytes) (page_count bytes) (λ j l. mapped_test ns (page_number bytes j) (c.loop-k.invariant.mapped j (omega (arith, l, c.number_at-k-end.ensures)))))

pub returns-clause-mapped : goal.returns-clause-mapped
returns-clause-mapped c = λ j l. c.loop-k.invariant.mapped j (omega (arith, l, c.number_at-k-end.ensures))
