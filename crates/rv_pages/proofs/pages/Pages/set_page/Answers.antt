use Rattle.std.proofs.Common.{◌≤◌, ◌≡◌, ◌+◌, ◌*◌, ◌<◌, ◌/◌, ◌%◌, ◌==◌, cond, Some, ℕ, List, ap, sym, subst, ◌∙◌, length, get_or, arith}
use Rattle.std.specs.FinMap.{get}
use Rattle.rv_pages.specs.Memory.{page_numbers, page_bytes}
use Rattle.rv_pages.specs.PageLayout.{memory_kept, AreKept, ArePages}
use Rattle.rv_pages.proofs.PageWrites.{kept_written, get_written, length_written}
use Rattle.rv_pages.proofs.PageInvariant.{written_items, pages_written, outside_page}
use Rattle.rv_pages.proofs.Numbers.{kept_numbers, seen_numbers}
use Rattle.rv_pages.proofs.OnePage.{page_written, page_kept}
use Rattle.rv_pages.proofs.pages.Pages.set_page.Goals as goal

-- the page at an index lies within the bytes
fits : (numbers bytes : List ℕ) → AreKept numbers bytes → (index : ℕ) → index < length numbers → index * 4096 + 4096 ≤ length bytes
fits numbers bytes h index below =
    let all : length bytes ≡ 4096 * length numbers = h.whole in
    omega arith

pub slice_bounds-copy_from_slice-end : goal.slice_bounds-copy_from_slice-end
slice_bounds-copy_from_slice-end c =
    let mapped = ap length (seen_numbers c.self.inside.numbers.items c.self.inside.bytes.items _ c.self.invariant.kept c.self.view_is) in
    omega (arith, mapped)

pub returns-clause-pages : goal.returns-clause-pages
returns-clause-pages c =
    let mapped = seen_numbers c.self.inside.numbers.items c.self.inside.bytes.items _ c.self.invariant.kept c.self.view_is in
    let below : c.args.index < length c.self.inside.numbers.items = omega (arith, ap length mapped) in
    let items = written_items c.self.inside.bytes _ _ (c.args.index * 4096) 4096 _ (c.deref_mut.ensures.value) c.copy_from_slice.ensures.after (fits c.self.inside.numbers.items c.self.inside.bytes.items c.self.invariant.kept c.args.index below) c.requires.whole in
    ap (λ bytes. page_numbers (memory_kept c.self.inside.numbers.items bytes)) items
    ∙ kept_numbers c.self.inside.numbers.items _ (kept_written c.self.inside.numbers.items c.self.inside.bytes.items c.args.bytes.now c.self.invariant.kept c.args.index below c.requires.whole)
    ∙ sym mapped

pub returns-clause-bytes : goal.returns-clause-bytes
returns-clause-bytes c =
    let mapped = seen_numbers c.self.inside.numbers.items c.self.inside.bytes.items _ c.self.invariant.kept c.self.view_is in
    let below : c.args.index < length c.self.inside.numbers.items = omega (arith, ap length mapped) in
    let items = written_items c.self.inside.bytes _ _ (c.args.index * 4096) 4096 _ (c.deref_mut.ensures.value) c.copy_from_slice.ensures.after (fits c.self.inside.numbers.items c.self.inside.bytes.items c.self.invariant.kept c.args.index below) c.requires.whole in
    λ at. ap (λ bytes. get (memory_kept c.self.inside.numbers.items bytes) at) items
    ∙ get_written c.self.inside.numbers.items c.self.inside.bytes.items c.args.bytes.now c.self.invariant.kept c.args.index below c.requires.whole at
    ∙ (λ i. cond (at / 4096 == get_or (sym mapped i) c.args.index 0) (Some (get_or c.args.bytes.now (at % 4096) 0)) (get (c.self.view_is i) at))

pub returns-clause-page : goal.returns-clause-page
returns-clause-page c =
    let numbers : List ℕ = c.self.inside.numbers.items in
    let bytes : List ℕ = c.self.inside.bytes.items in
    let mapped = seen_numbers numbers bytes _ c.self.invariant.kept c.self.view_is in
    let below : c.args.index < length numbers = omega (arith, ap length mapped) in
    let items = written_items c.self.inside.bytes _ _ (c.args.index * 4096) 4096 _ (c.deref_mut.ensures.value) c.copy_from_slice.ensures.after (fits numbers bytes c.self.invariant.kept c.args.index below) c.requires.whole in
    (λ i. page_bytes (memory_kept numbers (items i)) (get_or (mapped i) c.args.index 0))
    ∙ page_written numbers bytes c.args.bytes.now c.self.invariant.kept c.args.index below c.requires.whole

pub returns-clause-others : goal.returns-clause-others
returns-clause-others c = λ k low apart.
    let numbers : List ℕ = c.self.inside.numbers.items in
    let bytes : List ℕ = c.self.inside.bytes.items in
    let mapped = seen_numbers numbers bytes _ c.self.invariant.kept c.self.view_is in
    let below : c.args.index < length numbers = omega (arith, ap length mapped) in
    let near : k < length numbers = omega (arith, low, ap length mapped) in
    let items = written_items c.self.inside.bytes _ _ (c.args.index * 4096) 4096 _ (c.deref_mut.ensures.value) c.copy_from_slice.ensures.after (fits numbers bytes c.self.invariant.kept c.args.index below) c.requires.whole in
    (λ i. page_bytes (memory_kept numbers (items i)) (get_or (mapped i) k 0))
    ∙ page_kept numbers bytes c.args.bytes.now c.self.invariant.kept c.args.index below c.requires.whole k near apart
    ∙ (λ i. page_bytes (c.self.view_is i) (get_or (sym mapped i) k 0))

pub mark-requires-clause-index : goal.mark-requires-clause-index
mark-requires-clause-index c =
    let mapped = ap length (seen_numbers c.self.inside.numbers.items c.self.inside.bytes.items _ c.self.invariant.kept c.self.view_is) in
    let few = c.self.invariant.kept.few in
    omega (arith, mapped)

pub invariant_of-self : goal.invariant_of-self
invariant_of-self c =
    let numbers : List ℕ = c.self.inside.numbers.items in
    let bytes : List ℕ = c.self.inside.bytes.items in
    let mapped = seen_numbers numbers bytes _ c.self.invariant.kept c.self.view_is in
    let below : c.args.index < length numbers = omega (arith, ap length mapped) in
    let inside : c.args.index * 4096 + 4096 ≤ length bytes = fits numbers bytes c.self.invariant.kept c.args.index below in
    let items = written_items c.self.inside.bytes _ _ (c.args.index * 4096) 4096 _ (c.deref_mut.ensures.value) c.copy_from_slice.ensures.after inside c.requires.whole in
    subst (λ bs. ArePages numbers c.self.inside.tables.tops.items c.self.inside.tables.lows.items bs c.mark.new.self.words) (sym items)
    (pages_written numbers _ _ bytes c.self.inside.written.words _ c.mark.new.self.words c.self.invariant c.args.index below c.mark.ensures.marked c.mark.ensures.others c.mark.ensures.size
    (length_written bytes c.args.bytes.now (c.args.index * 4096) 4096 inside c.requires.whole)
    (λ place other. outside_page bytes c.args.bytes.now c.args.index (c.args.index * 4096) 4096 place inside c.requires.whole (omega arith) (omega arith) other))
