use Rattle.std.proofs.Common.{◌≡◌, ℕ, ◌≤◌, ◌<◌, ◌^◌, ◌⊎◌, inl, inr, List, ◌∷◌, [], ◌++◌, map, length, Result, Ok, Err, refl, sym, ap, subst, ◌∙◌, arith}
use Rattle.std.specs.Global.{Vec}
use Rattle.std.specs.Prelude.{IfOk, IfErr, OnOk, vec_len}
use Rattle.std.specs.List.{All}
use Rattle.elf_load.specs.declared.fault.ElfFault.{ElfFault}
use Rattle.elf_load.specs.declared.fault.ElfFault.TheVariants.{TooLarge, Memory}
use Rattle.elf_load.specs.declared.pages.Span.{Span}
use Rattle.elf_load.specs.declared.segment.Segment.{Segment}
use Rattle.elf_load.specs.Program.{AreMapped}
use Rattle.elf_load.specs.HeaderFields.{piece_in, AreApart, IsPagesFault}
use Rattle.elf_load.specs.Spans.{pages_from, span_of, stack_span}
use Rattle.elf_load.proofs.MappedPages.{segments_mapped, spans_low, sorted_some, pages_below}
use Rattle.elf_load.proofs.loading.mapped_pages.Goals as goal

pub returns-in-Some-clause-refused : goal.returns-in-Some-clause-refused
returns-in-Some-clause-refused c = IsPagesFault.overlap c.in-Some.a c.in-Some.b c.in-Some.ensures refl

pub spans_of-requires-clause-some : goal.spans_of-requires-clause-some
spans_of-requires-clause-some c =
    subst (All (λ (s : Segment). 0 < s.memory_size)) (sym c.deref-2.ensures.value) (sorted_some [] c.args.segments.now c.in-Ok.sorted.items c.args.stack c.requires.stack c.in-Ok.ensures.same c.requires.some c.requires.below)

-- the runs that are handed on
abbrev spans : List Segment → ℕ → List Span
spans sorted stack = map span_of sorted ++ stack_span stack ∷ []

larger : (xs : List Span) → All (λ (s : Span). s.last < 2 ^ 20) xs → All (λ (s : Span). s.last < 2 ^ 63) xs
larger xs h k d l = let e = h k d l in omega (arith, e)

pub list_pages-requires-clause-bound : goal.list_pages-requires-clause-bound
list_pages-requires-clause-bound c =
    let is = ap (λ (xs : List Segment). spans xs c.args.stack) c.deref-2.ensures.value in
    subst (All (λ (s : Span). s.last < 2 ^ 63)) (sym (c.deref-3.ensures.value ∙ c.in-Ok-spans_of.ensures ∙ is))
    (larger (spans c.in-Ok.sorted.items c.args.stack) (spans_low [] c.args.segments.now c.in-Ok.sorted.items c.args.stack c.requires.stack c.in-Ok.ensures.same c.requires.some c.requires.below))

pub list_pages-requires-clause-low : goal.list_pages-requires-clause-low
list_pages-requires-clause-low c = λ few.
    let is = ap (λ (xs : List Segment). spans xs c.args.stack) c.deref-2.ensures.value in
    subst (All (λ (s : Span). s.last < 2 ^ 20)) (sym (c.deref-3.ensures.value ∙ c.in-Ok-spans_of.ensures ∙ is))
    (spans_low [] c.args.segments.now c.in-Ok.sorted.items c.args.stack c.requires.stack c.in-Ok.ensures.same c.requires.some c.requires.below)

-- what is handed back, at each answer
ok_mapped : (r : Result (Vec ℕ) ElfFault) (segments : List Segment) (stack : ℕ) (xs ys : List Span) → ys ≡ xs → ((file : List ℕ) → AreMapped (map (piece_in file) segments) stack (pages_from 0 xs)) → IfOk r (λ v. v.items ≡ pages_from 0 ys) → IfOk r (λ v. (file : List ℕ) → AreMapped (map (piece_in file) segments) stack v.items)
ok_mapped (Ok v) segments stack xs ys e h is = λ file. subst (AreMapped (map (piece_in file) segments) stack) (sym (is ∙ ap (pages_from 0) e)) (h file)
ok_mapped (Err f) segments stack xs ys e h is = tt

ok_few : (r : Result (Vec ℕ) ElfFault) (ys : List Span) → IfOk r (λ v. v.items ≡ pages_from 0 ys) → OnOk r (length (pages_from 0 ys) ≤ 4096) → IfOk r (λ v. vec_len v ≤ 4096)
ok_few (Ok v) ys is few = omega (arith, v.ok.0, ap length is, few)
ok_few (Err f) ys is few = tt

ok_low : (r : Result (Vec ℕ) ElfFault) (xs ys : List Span) → ys ≡ xs → All (λ (s : Span). s.last < 2 ^ 20) xs → IfOk r (λ v. v.items ≡ pages_from 0 ys) → IfOk r (λ v. All (λ number. number < 2 ^ 20) v.items)
ok_low (Ok v) xs ys e low is = subst (All (λ number. number < 2 ^ 20)) (sym (is ∙ ap (pages_from 0) e)) (pages_below 0 (2 ^ 20) xs low)
ok_low (Err f) xs ys e low is = tt

err_fault : (r : Result (Vec ℕ) ElfFault) (segments : List Segment) (stack : ℕ) (xs ys : List Span) → ys ≡ xs → AreApart segments → ((file : List ℕ) → AreMapped (map (piece_in file) segments) stack (pages_from 0 xs)) →
    IfErr r (λ fault. (fault ≡ Memory) ⊎ ((fault ≡ TooLarge (length (pages_from 0 ys))) × (4096 < length (pages_from 0 ys)))) → IfErr r (IsPagesFault segments stack)
err_fault (Ok v) segments stack xs ys e apart h f = tt
err_fault (Err fault) segments stack xs ys e apart h f =
    let count : length (pages_from 0 ys) ≡ length (pages_from 0 xs) = ap (λ zs. length (pages_from 0 zs)) e in
    elim f [
      | inl none ↦ IsPagesFault.memory none
      | inr large ↦ IsPagesFault.large (length (pages_from 0 ys)) (pages_from 0 xs) apart h (count, large.1) large.0
    ]

pub returns-clause-mapped : goal.returns-clause-mapped
returns-clause-mapped c =
    let is = ap (λ (xs : List Segment). spans xs c.args.stack) c.deref-2.ensures.value in
    ok_mapped _ c.args.segments.now c.args.stack (spans c.in-Ok.sorted.items c.args.stack) c.deref-3.result.now (c.deref-3.ensures.value ∙ c.in-Ok-spans_of.ensures ∙ is)
    (λ file. segments_mapped file c.args.segments.now c.in-Ok.sorted.items c.args.stack c.requires.stack c.in-Ok.ensures.same c.requires.some c.requires.below c.in-Ok.ensures.sorted) c.list_pages.ensures.numbers

pub returns-clause-few : goal.returns-clause-few
returns-clause-few c = ok_few _ c.deref-3.result.now c.list_pages.ensures.numbers c.list_pages.ensures.few

pub returns-clause-low : goal.returns-clause-low
returns-clause-low c =
    let is = ap (λ (xs : List Segment). spans xs c.args.stack) c.deref-2.ensures.value in
    ok_low _ (spans c.in-Ok.sorted.items c.args.stack) c.deref-3.result.now (c.deref-3.ensures.value ∙ c.in-Ok-spans_of.ensures ∙ is)
    (spans_low [] c.args.segments.now c.in-Ok.sorted.items c.args.stack c.requires.stack c.in-Ok.ensures.same c.requires.some c.requires.below) c.list_pages.ensures.numbers

pub returns-clause-refused : goal.returns-clause-refused
returns-clause-refused c =
    let is = ap (λ (xs : List Segment). spans xs c.args.stack) c.deref-2.ensures.value in
    err_fault _ c.args.segments.now c.args.stack (spans c.in-Ok.sorted.items c.args.stack) c.deref-3.result.now (c.deref-3.ensures.value ∙ c.in-Ok-spans_of.ensures ∙ is) c.in_default-first_overlap.ensures
    (λ file. segments_mapped file c.args.segments.now c.in-Ok.sorted.items c.args.stack c.requires.stack c.in-Ok.ensures.same c.requires.some c.requires.below c.in-Ok.ensures.sorted) c.list_pages.ensures.refused
