use Rattle.std.proofs.Common.{Vec, Global, ◌≤◌, ◌≡◌, ℕ, ◌+◌, ◌-◌, ◌*◌, ◌<◌, ◌%◌, List, length, None, refl, ap, sym, subst, ◌∙◌, arith}
use Rattle.std.proofs.lemmas.Bool.{false≢true}
use Rattle.std.specs.Vec.{with_items}
use borrow.Rule.Slice.PartMut.{put_mid}
use Rattle.rv_pages.specs.Memory.{page_numbers, byte_at, bytes_at, with_bytes}
use Rattle.rv_pages.specs.PageLayout.{memory_kept, AreKept, ArePages}
use Rattle.rv_pages.proofs.PageInvariant.{written_items, pages_written, outside_page}
use Rattle.rv_pages.proofs.Numbers.{kept_numbers, seen_numbers}
use Rattle.rv_pages.proofs.MemoryReads.{bytes_kept, bytes_mapped, byte_not_kept, missing_byte}
use Rattle.rv_pages.proofs.MemoryWrites.{memory_put, kept_put}
use Rattle.rv_pages.proofs.PageWrites.{length_written}
use Rattle.rv_pages.proofs.pages.Pages.store_within.Goals as goal

pub returns-in_default-clause-stored : goal.returns-in_default-clause-stored
returns-in_default-clause-stored c =
    let numbers : List ℕ = c.self.inside.numbers.items in
    let none = byte_not_kept numbers c.self.inside.bytes.items c.self.invariant.kept c.args.at c.ranges.at.fits (c.in_default.ensures numbers c.self.invariant.found) in
    let here : c.args.at ≡ c.args.at + 0 = omega arith in
    let missing : byte_at c.args.self.now (c.args.at + 0) ≡ None = ap (byte_at c.args.self.now) (sym here) ∙ ap (λ m. byte_at m c.args.at) (sym c.self.view_is) ∙ none in
    (λ yes. absurd (false≢true yes), λ mapped. absurd (missing_byte (byte_at c.args.self.now (c.args.at + 0)) missing (mapped 0 c.requires.some)))

pub returns-clause-stored : goal.returns-clause-stored
returns-clause-stored c =
    let numbers : List ℕ = c.self.inside.numbers.items in
    let found = c.in-Some.ensures numbers c.self.invariant.found in
    let bytes = bytes_kept numbers c.self.inside.bytes.items c.self.invariant.kept c.in-Some.index found.0 (length c.args.bytes.now) (c.args.at % 4096) c.args.at (c.in-Some.index * 4096 + c.args.at % 4096) (omega (arith, found.1)) refl c.requires.within in
    (λ yes. bytes_mapped c.args.self.now (length c.args.bytes.now) c.args.at _ (ap (λ m. bytes_at m c.args.at (length c.args.bytes.now)) (sym c.self.view_is) ∙ bytes), λ mapped. refl)

-- the bytes after the write
after_write : (numbers : List ℕ) (v : Vec ℕ Global) (before after part : List ℕ) (i r : ℕ) → AreKept numbers v.items → i < length numbers → r + length part ≤ 4096 → before ≡ v.items → after ≡ part → (with_items v (put_mid (i * 4096 + r) (i * 4096 + r + length part - (i * 4096 + r)) before after)).items ≡ put_mid (i * 4096 + r) (length part) v.items part
after_write numbers v before after part i r h l within was is =
    let whole : length v.items ≡ 4096 * length numbers = h.whole in
    written_items v before after (i * 4096 + r) (length part) part was is (omega arith) refl

pub invariant_of-self : goal.invariant_of-self
invariant_of-self c =
    let numbers : List ℕ = c.self.inside.numbers.items in
    let bytes : List ℕ = c.self.inside.bytes.items in
    let part : List ℕ = c.args.bytes.now in
    let i : ℕ = c.in-Some.index in
    let place : ℕ = i * 4096 + c.args.at % 4096 in
    let found = c.in-Some.ensures numbers c.self.invariant.found in
    let whole : length bytes ≡ 4096 * length numbers = c.self.invariant.kept.whole in
    let inside : place + length part ≤ length bytes = omega (arith, found.0, c.requires.within) in
    let items = after_write numbers c.self.inside.bytes _ _ part i (c.args.at % 4096) c.self.invariant.kept found.0 c.requires.within c.deref_mut.ensures.value c.copy_from_slice.ensures.after in
    subst (λ bs. ArePages numbers c.self.inside.tables.tops.items c.self.inside.tables.lows.items bs c.mark.new.self.words) (sym items)
    (pages_written numbers _ _ bytes c.self.inside.written.words _ c.mark.new.self.words c.self.invariant i found.0 c.mark.ensures.marked c.mark.ensures.others c.mark.ensures.size
    (length_written bytes part place (length part) inside refl)
    (λ k other. outside_page bytes part i place (length part) k inside refl (omega arith) (omega (arith, c.requires.within)) other))

pub returns-clause-written : goal.returns-clause-written
returns-clause-written c = λ yes.
    let numbers : List ℕ = c.self.inside.numbers.items in
    let part : List ℕ = c.args.bytes.now in
    let found = c.in-Some.ensures numbers c.self.invariant.found in
    let items = after_write numbers c.self.inside.bytes _ _ part c.in-Some.index (c.args.at % 4096) c.self.invariant.kept found.0 c.requires.within c.deref_mut.ensures.value c.copy_from_slice.ensures.after in
    ap (memory_kept numbers) items
    ∙ memory_put numbers c.self.inside.bytes.items c.self.invariant.kept c.in-Some.index found.0 part (c.args.at % 4096) c.args.at (c.in-Some.index * 4096 + c.args.at % 4096) (omega (arith, found.1)) refl c.requires.within
    ∙ ap (λ m. with_bytes m c.args.at part) c.self.view_is

pub returns-clause-pages : goal.returns-clause-pages
returns-clause-pages c =
    let numbers : List ℕ = c.self.inside.numbers.items in
    let bytes : List ℕ = c.self.inside.bytes.items in
    let part : List ℕ = c.args.bytes.now in
    let place : ℕ = c.in-Some.index * 4096 + c.args.at % 4096 in
    let found = c.in-Some.ensures numbers c.self.invariant.found in
    let whole : length bytes ≡ 4096 * length numbers = c.self.invariant.kept.whole in
    let inside : place + length part ≤ length bytes = omega (arith, found.0, c.requires.within) in
    let items = after_write numbers c.self.inside.bytes _ _ part c.in-Some.index (c.args.at % 4096) c.self.invariant.kept found.0 c.requires.within c.deref_mut.ensures.value c.copy_from_slice.ensures.after in
    ap (λ bs. page_numbers (memory_kept numbers bs)) items
    ∙ kept_numbers numbers _ (kept_put numbers bytes c.self.invariant.kept part place inside)
    ∙ sym (seen_numbers numbers bytes _ c.self.invariant.kept c.self.view_is)
