use Rattle.std.proofs.Common.{◌≡◌, ℕ, ◌+◌, ◌/◌, ◌%◌, ◌^◌, ◌≤◌, ◌<◌, List, Option, None, Some, true, false, is_some, length, get_or, ap, sym, subst, ◌∙◌, arith}
use Rattle.rv_pages.specs.Memory.{IsMapped, byte_at}
use Rattle.rv_pages.specs.PageLayout.{memory_kept}
use Rattle.rv_pages.specs.Memory.{IsPlaceOf}
use Rattle.rv_pages.proofs.MemoryReads.{bytes_at_missing, byte_at_wrapped, byte_not_kept, page_mapped, mapped_some, mapped_more}
use Rattle.rv_pages.proofs.pages.Pages.are_mapped.Goals as goal

-- a page that the tables don't find, and one that they find
missing : (numbers : List ℕ) (number : ℕ) (o : Option ℕ) → IsPlaceOf numbers number o → is_some o ≡ false → (k : ℕ) → k < length numbers → get_or numbers k 0 ≡ number → ⊥
missing numbers number None h e = h
missing numbers number (Some i) h e = absurd (cc)

there : (numbers : List ℕ) (number : ℕ) (o : Option ℕ) → IsPlaceOf numbers number o → is_some o ≡ true → (i : ℕ) × (i < length numbers) × (get_or numbers i 0 ≡ number)
there numbers number None h e = absurd (cc)
there numbers number (Some i) h e = (i, h.0, h.1)

pub returns-then-is_none : goal.returns-then-is_none
returns-then-is_none c =
    let numbers : List ℕ = c.self.inside.numbers.items in
    let bytes : List ℕ = c.self.inside.bytes.items in
    let place : ℕ = (c.args.at + c.loop-done.done) % 2 ^ 32 in
    let none = byte_not_kept numbers bytes c.self.invariant.kept place (omega arith) (missing numbers (place / 4096) _ (c.place_of.ensures numbers c.self.invariant.found) c.if-is_none.ensures) in
    ap is_some (sym (bytes_at_missing c.args.self.now c.args.count c.loop-done.done c.args.at c.loop-done-test.true
    (byte_at_wrapped c.args.self.now (c.args.at + c.loop-done.done) ∙ ap (λ m. byte_at m place) (sym c.self.view_is) ∙ none)))

pub loop-done-preserved : goal.loop-done-preserved
loop-done-preserved c =
    let numbers : List ℕ = c.self.inside.numbers.items in
    let bytes : List ℕ = c.self.inside.bytes.items in
    let place : ℕ = (c.args.at + c.loop-done.done) % 2 ^ 32 in
    let found = there numbers (place / 4096) _ (c.place_of.ensures numbers c.self.invariant.found) c.if-is_none.ensures in
    let part : ℕ = c.min-done.result in
    let fits : place % 4096 + part ≤ 4096 = omega (arith, c.min-done.ensures) in
    let page : IsMapped (memory_kept numbers bytes) place part = page_mapped numbers bytes c.self.invariant.kept found.0 found.1 place part found.2 fits in
    record {
      within = omega (arith, c.min-done.ensures);
      mapped = mapped_more c.args.self.now c.args.at c.loop-done.done part c.loop-done.invariant.mapped (subst (λ m. IsMapped m place part) c.self.view_is page);
    }

pub returns : goal.returns
returns c =
    let all : c.loop-done.done ≡ c.args.count = omega (arith, c.loop-done.invariant.within) in
    sym (mapped_some c.args.self.now c.args.count c.args.at (subst (IsMapped c.args.self.now c.args.at) all c.loop-done.invariant.mapped))
