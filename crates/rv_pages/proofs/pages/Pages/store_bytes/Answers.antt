use Rattle.std.proofs.Common.{◌≡◌, ℕ, ◌+◌, ◌-◌, ◌≤◌, List, length, take, drop, refl, ap, sym, subst, ◌∙◌, arith, IsSome, IsTrue}
use Rattle.std.proofs.Math.Seq.{take-add}
use Rattle.std.proofs.lemmas.Bool.{false≢true}
use Rattle.std.proofs.lemmas.List.{length-take-le, length-take, length-drop, take_all}
use Rattle.std.specs.FinMap.{get}
use Rattle.rv_pages.specs.Memory.{Memory, wrapped, with_bytes, IsMapped}
use Rattle.rv_pages.proofs.MemoryReads.{mapped_some, some_mapped}
use Rattle.rv_pages.proofs.MemoryWrites.{some_with_bytes, with_bytes-append, with_bytes_alike}
use Rattle.rv_pages.proofs.pages.Pages.store_bytes.Goals as goal

-- more bytes behind those that were written
stored_more : (m k : Memory) (at n p : ℕ) (bytes part : List ℕ) → n ≤ length bytes → part ≡ take p (drop n bytes) → m ≡ with_bytes k at (take n bytes) → with_bytes m (wrapped (at + n)) part ≡ with_bytes k at (take (n + p) bytes)
stored_more m k at n p bytes part inside is before =
    let place : wrapped (wrapped (at + n)) ≡ wrapped (at + length (take n bytes)) = omega (arith, length-take-le n bytes inside) in
    (λ i. with_bytes (before i) (wrapped (at + n)) (is i))
    ∙ with_bytes_alike (with_bytes k at (take n bytes)) (wrapped (at + n)) (at + length (take n bytes)) (take p (drop n bytes)) place
    ∙ with_bytes-append k at (take n bytes) (take p (drop n bytes))
    ∙ ap (with_bytes k at) (sym (take-add n p bytes))

-- what was mapped is still mapped
still_mapped : (m k : Memory) (at n p all : ℕ) (xs : List ℕ) → m ≡ with_bytes k at xs → IsMapped k at all → n + p ≤ all → IsMapped m (wrapped (at + n)) p
still_mapped m k at n p all xs before mapped fits j l =
    let place : wrapped (at + (n + j)) ≡ wrapped (wrapped (at + n) + j) = omega arith in
    subst (λ (q : Memory). IsSome (get q (wrapped (wrapped (at + n) + j)))) (sym before)
    (subst (λ q. IsSome (get (with_bytes k at xs) q)) place (some_with_bytes k at xs (wrapped (at + (n + j))) (mapped (n + j) (omega arith))))

pub returns-then-not-are_mapped-clause-stored : goal.returns-then-not-are_mapped-clause-stored
returns-then-not-are_mapped-clause-stored c =
    (λ yes. absurd (false≢true yes), λ mapped. c.if-not-are_mapped.ensures ∙ mapped_some c.args.self.now _ c.args.at mapped)

pub loop-done-preserved : goal.loop-done-preserved
loop-done-preserved c =
    let bytes : List ℕ = c.args.bytes.now in
    let n : ℕ = c.loop-done.done in
    let p : ℕ = c.min-part.result in
    let place : ℕ = wrapped (c.args.at + n) in
    let inside : n + p ≤ length bytes = omega (arith, c.min-part.ensures, c.loop-done.invariant.within) in
    let mapped : IsMapped c.args.self.now c.args.at (length bytes) = some_mapped c.args.self.now (length bytes) c.args.at (sym c.if-not-are_mapped.ensures) in
    let whole : n + p - n ≡ p = omega arith in
    let part : take (n + p - n) (drop n bytes) ≡ take p (drop n bytes) = ap (λ k. take k (drop n bytes)) whole in
    let long : length (take (n + p - n) (drop n bytes)) ≡ p = omega (arith, length-take (n + p - n) (drop n bytes), length-drop n bytes) in
    let yes : IsTrue c.store_within.result = c.store_within.ensures.stored.1 (subst (IsMapped c.loop-done.self place) (sym long) (still_mapped c.loop-done.self c.args.self.now c.args.at n p (length bytes) (take n bytes) c.loop-done.invariant.stored mapped inside)) in
    record {
      within = inside;
      stored = c.store_within.ensures.written yes ∙ stored_more c.loop-done.self c.args.self.now c.args.at n p bytes _ c.loop-done.invariant.within part c.loop-done.invariant.stored;
      pages = c.store_within.ensures.pages ∙ c.loop-done.invariant.pages;
    }

pub returns-clause-stored : goal.returns-clause-stored
returns-clause-stored c =
    (λ yes. some_mapped c.args.self.now _ c.args.at (sym c.if-not-are_mapped.ensures), λ mapped. refl)

pub returns-clause-written : goal.returns-clause-written
returns-clause-written c = λ yes.
    c.loop-done.invariant.stored ∙ ap (with_bytes c.args.self.now c.args.at) (take_all c.loop-done.done c.args.bytes.now c.loop-done-test.false)
