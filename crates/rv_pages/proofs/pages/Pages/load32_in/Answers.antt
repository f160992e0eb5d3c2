-- The page is at its place among those that are kept, and the four bytes are within it.
use Rattle.std.proofs.Common.{◌≡◌, ℕ, ◌+◌, ◌*◌, ◌≤◌, ◌<◌, ◌/◌, ◌%◌, List, Some, length, get_or, ap, subst, sym, ◌∙◌, arith}
use Rattle.std.proofs.lemmas.List.{get_or_read}
use Rattle.rv_pages.specs.Memory.{Memory, word_at, page_numbers, IsPlaceOf}
use Rattle.rv_pages.specs.PageLayout.{memory_kept, AreKept}
use Rattle.rv_pages.proofs.Numbers.{seen_numbers}
use Rattle.rv_pages.proofs.MemoryReads.{word_kept}
use Rattle.rv_pages.proofs.pages.Pages.load32_in.Goals as goal

place : (numbers bytes : List ℕ) (m : Memory) (index at : ℕ) → AreKept numbers bytes → memory_kept numbers bytes ≡ m → IsPlaceOf (page_numbers m) (at / 4096) (Some index) →
    (index < length numbers) × (get_or numbers index 0 ≡ at / 4096)
place numbers bytes m index at kept is found = subst (λ (ns : List ℕ). IsPlaceOf ns (at / 4096) (Some index)) (seen_numbers numbers bytes m kept is) found

room : (numbers bytes : List ℕ) (m : Memory) (index at : ℕ) → AreKept numbers bytes → memory_kept numbers bytes ≡ m → IsPlaceOf (page_numbers m) (at / 4096) (Some index) →
    at % 4 ≡ 0 → index * 4096 + at % 4096 + 4 ≤ length bytes
room numbers bytes m index at kept is found aligned =
    let whole : length bytes ≡ 4096 * length numbers = kept.whole in
    let inside : index < length numbers = (place numbers bytes m index at kept is found).0 in
    omega (arith, whole, inside, aligned)

pub index-requires : goal.index-requires
index-requires c =
    let h = room c.self.inside.numbers.items c.self.inside.bytes.items _ c.args.index c.args.at c.self.invariant.kept c.self.view_is c.requires.page c.requires.aligned in
    omega (arith, h)

pub index-requires-2 : goal.index-requires-2
index-requires-2 c =
    let h = room c.self.inside.numbers.items c.self.inside.bytes.items _ c.args.index c.args.at c.self.invariant.kept c.self.view_is c.requires.page c.requires.aligned in
    omega (arith, h)

pub index-requires-3 : goal.index-requires-3
index-requires-3 c =
    let h = room c.self.inside.numbers.items c.self.inside.bytes.items _ c.args.index c.args.at c.self.invariant.kept c.self.view_is c.requires.page c.requires.aligned in
    omega (arith, h)

pub index-requires-4 : goal.index-requires-4
index-requires-4 c =
    let h = room c.self.inside.numbers.items c.self.inside.bytes.items _ c.args.index c.args.at c.self.invariant.kept c.self.view_is c.requires.page c.requires.aligned in
    omega (arith, h)

pub returns : goal.returns
returns c =
    let bytes : List ℕ = c.self.inside.bytes.items in
    let numbers : List ℕ = c.self.inside.numbers.items in
    let found = place numbers bytes _ c.args.index c.args.at c.self.invariant.kept c.self.view_is c.requires.page in
    let fits = room numbers bytes _ c.args.index c.args.at c.self.invariant.kept c.self.view_is c.requires.page c.requires.aligned in
    let start : ℕ = c.args.index * 4096 + c.args.at % 4096 in
    let low = get_or_read bytes start c.index.result.now (omega (arith, fits)) c.index.ensures 0 in
    let second = get_or_read bytes (start + 1) c.index-2.result.now (omega (arith, fits)) c.index-2.ensures 0 in
    let third = get_or_read bytes (start + 2) c.index-3.result.now (omega (arith, fits)) c.index-3.ensures 0 in
    let fourth = get_or_read bytes (start + 3) c.index-4.result.now (omega (arith, fits)) c.index-4.ensures 0 in
    let aligned : c.args.at % 4 ≡ 0 = c.requires.aligned in
    ap (λ m. word_at m c.args.at) (sym c.self.view_is)
    ∙ word_kept numbers bytes c.self.invariant.kept c.args.index c.args.at found.0 found.1 (omega (arith, aligned))
    ∙ sym (ap Some (c.from_le_bytes.ensures ∙ omega (arith, low, second, third, fourth)))
