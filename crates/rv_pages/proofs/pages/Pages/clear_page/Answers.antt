use Rattle.std.proofs.Common.{◌≤◌, ◌≡◌, ◌+◌, ◌-◌, ◌*◌, ◌<◌, ℕ, List, refl, ap, sym, subst, ◌∙◌, length, get_or, take, drop, arith}
use Rattle.std.proofs.lemmas.List.{length-take, length-drop}
use Rattle.std.specs.List.{All}
use Rattle.rv_pages.specs.Memory.{page_numbers, page_bytes}
use Rattle.rv_pages.specs.PageLayout.{memory_kept, AreKept, ArePages}
use Rattle.rv_pages.proofs.PageWrites.{kept_written, length_written}
use Rattle.rv_pages.proofs.PageInvariant.{written_items, pages_cleared, outside_page}
use Rattle.rv_pages.proofs.Numbers.{kept_numbers, seen_numbers}
use Rattle.rv_pages.proofs.OnePage.{page_written, page_kept, byte_inside, zeros_are}
use Rattle.rv_pages.proofs.pages.Pages.clear_page.Goals as goal

-- the page at an index lies within the bytes
fits : (numbers bytes : List ℕ) → AreKept numbers bytes → (index : ℕ) → index < length numbers → index * 4096 + 4096 ≤ length bytes
fits numbers bytes h index below =
    let all : length bytes ≡ 4096 * length numbers = h.whole in
    omega arith

pub unmark-requires-clause-index : goal.unmark-requires-clause-index
unmark-requires-clause-index c =
    let mapped = ap length (seen_numbers c.self.inside.numbers.items c.self.inside.bytes.items _ c.self.invariant.kept c.self.view_is) in
    let few = c.self.invariant.kept.few in
    omega (arith, mapped)

pub slice_bounds-fill-end : goal.slice_bounds-fill-end
slice_bounds-fill-end c =
    let mapped = ap length (seen_numbers c.self.inside.numbers.items c.self.inside.bytes.items _ c.self.invariant.kept c.self.view_is) in
    omega (arith, mapped)

-- as many zeros as a page has bytes
long : (index : ℕ) (bytes before zeros : List ℕ) → before ≡ bytes → index * 4096 + 4096 ≤ length bytes → length zeros ≡ length (take (index * 4096 + 4096 - index * 4096) (drop (index * 4096) before)) → length zeros ≡ 4096
long index bytes before zeros is inside size =
    let all = ap length is in
    omega (arith, all, inside, size, length-take (index * 4096 + 4096 - index * 4096) (drop (index * 4096) before), length-drop (index * 4096) before)

pub returns-clause-pages : goal.returns-clause-pages
returns-clause-pages c =
    let numbers : List ℕ = c.self.inside.numbers.items in
    let bytes : List ℕ = c.self.inside.bytes.items in
    let zeros : List ℕ = c.fill.new.self in
    let mapped = seen_numbers numbers bytes _ c.self.invariant.kept c.self.view_is in
    let below : c.args.index < length numbers = omega (arith, ap length mapped) in
    let inside = fits numbers bytes c.self.invariant.kept c.args.index below in
    let whole : length zeros ≡ 4096 = long c.args.index bytes c.deref_mut.result.now zeros c.deref_mut.ensures.value inside c.fill.ensures.len in
    let items = written_items c.self.inside.bytes _ _ (c.args.index * 4096) 4096 zeros (c.deref_mut.ensures.value) refl inside whole in
    ap (λ bytes. page_numbers (memory_kept numbers bytes)) items
    ∙ kept_numbers numbers _ (kept_written numbers bytes zeros c.self.invariant.kept c.args.index below whole)
    ∙ sym mapped

pub returns-clause-zero : goal.returns-clause-zero
returns-clause-zero c =
    let numbers : List ℕ = c.self.inside.numbers.items in
    let bytes : List ℕ = c.self.inside.bytes.items in
    let zeros : List ℕ = c.fill.new.self in
    let mapped = seen_numbers numbers bytes _ c.self.invariant.kept c.self.view_is in
    let below : c.args.index < length numbers = omega (arith, ap length mapped) in
    let inside = fits numbers bytes c.self.invariant.kept c.args.index below in
    let whole : length zeros ≡ 4096 = long c.args.index bytes c.deref_mut.result.now zeros c.deref_mut.ensures.value inside c.fill.ensures.len in
    let items = written_items c.self.inside.bytes _ _ (c.args.index * 4096) 4096 zeros (c.deref_mut.ensures.value) refl inside whole in
    let is = (λ i. page_bytes (memory_kept numbers (items i)) (get_or (mapped i) c.args.index 0)) ∙ page_written numbers bytes zeros c.self.invariant.kept c.args.index below whole in
    let none : All (λ (b : ℕ). b ≡ 0) zeros = subst (All (λ (b : ℕ). b ≡ 0)) (sym (c.fill.ensures.after (λ y same. same))) (zeros_are _) in
    subst (All (λ (b : ℕ). b ≡ 0)) (sym is) none

pub returns-clause-others : goal.returns-clause-others
returns-clause-others c = λ k low apart.
    let numbers : List ℕ = c.self.inside.numbers.items in
    let bytes : List ℕ = c.self.inside.bytes.items in
    let zeros : List ℕ = c.fill.new.self in
    let mapped = seen_numbers numbers bytes _ c.self.invariant.kept c.self.view_is in
    let below : c.args.index < length numbers = omega (arith, ap length mapped) in
    let inside = fits numbers bytes c.self.invariant.kept c.args.index below in
    let whole : length zeros ≡ 4096 = long c.args.index bytes c.deref_mut.result.now zeros c.deref_mut.ensures.value inside c.fill.ensures.len in
    let items = written_items c.self.inside.bytes _ _ (c.args.index * 4096) 4096 zeros (c.deref_mut.ensures.value) refl inside whole in
    let near : k < length numbers = omega (arith, low, ap length mapped) in
    (λ i. page_bytes (memory_kept numbers (items i)) (get_or (mapped i) k 0))
    ∙ page_kept numbers bytes zeros c.self.invariant.kept c.args.index below whole k near apart
    ∙ (λ i. page_bytes (c.self.view_is i) (get_or (sym mapped i) k 0))

pub invariant_of-self : goal.invariant_of-self
invariant_of-self c =
    let numbers : List ℕ = c.self.inside.numbers.items in
    let bytes : List ℕ = c.self.inside.bytes.items in
    let zeros : List ℕ = c.fill.new.self in
    let mapped = seen_numbers numbers bytes _ c.self.invariant.kept c.self.view_is in
    let below : c.args.index < length numbers = omega (arith, ap length mapped) in
    let inside = fits numbers bytes c.self.invariant.kept c.args.index below in
    let whole : length zeros ≡ 4096 = long c.args.index bytes c.deref_mut.result.now zeros c.deref_mut.ensures.value inside c.fill.ensures.len in
    let items = written_items c.self.inside.bytes _ _ (c.args.index * 4096) 4096 zeros (c.deref_mut.ensures.value) refl inside whole in
    let none : All (λ (b : ℕ). b ≡ 0) zeros = subst (All (λ (b : ℕ). b ≡ 0)) (sym (c.fill.ensures.after (λ y same. same))) (zeros_are _) in
    subst (λ bs. ArePages numbers c.self.inside.tables.tops.items c.self.inside.tables.lows.items bs c.unmark.new.self.words) (sym items)
    (pages_cleared numbers _ _ bytes c.self.inside.written.words _ c.unmark.new.self.words c.self.invariant c.args.index below c.unmark.ensures.unmarked c.unmark.ensures.others c.unmark.ensures.size
    (length_written bytes zeros (c.args.index * 4096) 4096 inside whole)
    (λ place here. byte_inside numbers bytes zeros c.self.invariant.kept c.args.index below whole place here none)
    (λ place other. outside_page bytes zeros c.args.index (c.args.index * 4096) 4096 place inside whole (omega arith) (omega arith) other))
