use Rattle.std.proofs.Common.{◌≡◌, ℕ, ◌==◌, ◌<◌, ◌≤◌, ◌^◌, ◌⊎◌, inl, inr, false, List, ◌∷◌, [], length, sym, ap, subst, ◌∙◌, arith, IsTrue}
use Rattle.std.proofs.lemmas.Bool.Decides.{nat_tests}
use Rattle.std.proofs.lemmas.Result.{err_from_is_err_and}
use Rattle.std.specs.List.{All}
use Rattle.std.specs.List.Sorted.{IsStrictlyIncreasing}
use Rattle.rv_pages.specs.Memory.{Memory, zeroed, with_bytes, IsMapped}
use Rattle.elf_load.specs.declared.fault.ElfFault.{ElfFault}
use Rattle.elf_load.specs.declared.fault.ElfFault.TheVariants.{TooLarge, Memory as no_memory}
use Rattle.elf_load.specs.declared.pages.Span.{Span}
use Rattle.elf_load.specs.Program.{start_at}
use Rattle.elf_load.specs.Raw.{AreWords}
use Rattle.elf_load.specs.Faults.{FirstRawFault}
use Rattle.elf_load.specs.Spans.{pages_from}
use Rattle.elf_load.proofs.RawPages.{raw_spans, raw_mapped, raw_few, raw_low, raw_zeroed}
use Rattle.elf_load.proofs.MappedPages.{pages_below}
use Rattle.elf_load.proofs.loading.load_words.Goals as goal

some_bytes : (n : ℕ) → (n == 0) ≡ false → 0 < n
some_bytes n h = grind (arith, nat_tests)

pub list_pages-requires-clause-low : goal.list_pages-requires-clause-low
list_pages-requires-clause-low c = λ few.
    let spans : c.of_bytes.result ∷ c.of_stack.result ∷ [] ≡ raw_spans (length c.args.bytes.now) c.args.stack = λ t. record { first = c.of_bytes.ensures.first t; last = c.of_bytes.ensures.last t } ∷ c.of_stack.ensures t ∷ [] in
    subst (All (λ (s : Span). s.last < 2 ^ 20)) (sym spans) (raw_low (length c.args.bytes.now) c.args.stack (subst (λ (xs : List Span). length (pages_from 0 xs) ≤ 4096) spans few))

too_large : (bytes : List ℕ) (stack : ℕ) (spans : List Span) (fault : ElfFault) → stack ≤ 1024 → AreWords bytes → spans ≡ raw_spans (length bytes) stack → (fault ≡ no_memory) ⊎ ((fault ≡ TooLarge (length (pages_from 0 spans))) × (4096 < length (pages_from 0 spans))) → (fault ≡ no_memory) ⊎ FirstRawFault bytes stack fault
too_large bytes stack spans fault small words is f =
    elim f [
      | inl none ↦ inl none
      | inr large ↦
          let pages : List ℕ = pages_from 0 (raw_spans (length bytes) stack) in
          let count : length (pages_from 0 spans) ≡ length pages = ap (λ xs. length (pages_from 0 xs)) is in
          inr (subst (FirstRawFault bytes stack) (sym large.0) (words, (pages, raw_mapped bytes stack small words.some, (count, large.1))))
    ]

pub returns-in_err-numbers-clause-refused : goal.returns-in_err-numbers-clause-refused
returns-in_err-numbers-clause-refused c =
    let p = err_from_is_err_and c.from_residual.result c.from_residual.ensures.1 in
    let spans : c.of_bytes.result ∷ c.of_stack.result ∷ [] ≡ raw_spans (length c.args.bytes.now) c.args.stack = λ t. record { first = c.of_bytes.ensures.first t; last = c.of_bytes.ensures.last t } ∷ c.of_stack.ensures t ∷ [] in
    let words : AreWords c.args.bytes.now = record { some = some_bytes (length c.args.bytes.now) (sym c.if-is_empty.ensures); whole = c.if-bytes-ne0.false } in
    rw (p.1, p.2) (too_large c.args.bytes.now c.args.stack (c.of_bytes.result ∷ c.of_stack.result ∷ []) c.in_err-numbers.field-0.0 c.requires words spans c.in_err-numbers.ensures.refused)

-- the numbers that were listed are those of the mapped pages
pub map-requires-clause-ascending : goal.map-requires-clause-ascending
map-requires-clause-ascending c =
    let spans : c.of_bytes.result ∷ c.of_stack.result ∷ [] ≡ raw_spans (length c.args.bytes.now) c.args.stack = λ t. record { first = c.of_bytes.ensures.first t; last = c.of_bytes.ensures.last t } ∷ c.of_stack.ensures t ∷ [] in
    subst IsStrictlyIncreasing (sym (c.deref.ensures.value ∙ c.in_ok-numbers.ensures.numbers ∙ ap (pages_from 0) spans)) (raw_mapped c.args.bytes.now c.args.stack c.requires (some_bytes (length c.args.bytes.now) (sym c.if-is_empty.ensures))).ascending

pub map-requires-clause-below : goal.map-requires-clause-below
map-requires-clause-below c =
    let spans : c.of_bytes.result ∷ c.of_stack.result ∷ [] ≡ raw_spans (length c.args.bytes.now) c.args.stack = λ t. record { first = c.of_bytes.ensures.first t; last = c.of_bytes.ensures.last t } ∷ c.of_stack.ensures t ∷ [] in
    subst (All (λ number. number < 2 ^ 20)) (sym (c.deref.ensures.value ∙ c.in_ok-numbers.ensures.numbers ∙ ap (pages_from 0) spans))
    (pages_below 0 (2 ^ 20) (raw_spans (length c.args.bytes.now) c.args.stack) (raw_low (length c.args.bytes.now) c.args.stack (subst (λ (xs : List Span). length (pages_from 0 xs) ≤ 4096) spans c.in_ok-numbers.ensures.few)))

pub store_bytes-requires : goal.store_bytes-requires
store_bytes-requires c =
    let spans : c.of_bytes.result ∷ c.of_stack.result ∷ [] ≡ raw_spans (length c.args.bytes.now) c.args.stack = λ t. record { first = c.of_bytes.ensures.first t; last = c.of_bytes.ensures.last t } ∷ c.of_stack.ensures t ∷ [] in
    let small = raw_few (length c.args.bytes.now) c.args.stack (subst (λ (xs : List Span). length (pages_from 0 xs) ≤ 4096) spans c.in_ok-numbers.ensures.few) in
    omega (arith, small)

pub returns-clause-found : goal.returns-clause-found
returns-clause-found c =
    let bytes : List ℕ = c.args.bytes.now in
    let spans : c.of_bytes.result ∷ c.of_stack.result ∷ [] ≡ raw_spans (length bytes) c.args.stack = λ t. record { first = c.of_bytes.ensures.first t; last = c.of_bytes.ensures.last t } ∷ c.of_stack.ensures t ∷ [] in
    let some : 0 < length bytes = some_bytes (length bytes) (sym c.if-is_empty.ensures) in
    let pages : List ℕ = pages_from 0 (raw_spans (length bytes) c.args.stack) in
    let few : length pages ≤ 4096 = subst (λ (xs : List Span). length (pages_from 0 xs) ≤ 4096) spans c.in_ok-numbers.ensures.few in
    let same : c.in-Ok.pages ≡ zeroed pages = c.in-Ok.ensures.memory ∙ ap zeroed (c.deref.ensures.value ∙ c.in_ok-numbers.ensures.numbers ∙ ap (pages_from 0) spans) in
    let yes : IsTrue c.store_bytes.result = c.store_bytes.ensures.stored.1 (subst (λ (m : Memory). IsMapped m 0x10000 (length bytes)) (sym same) (raw_zeroed bytes c.args.stack c.requires some few)) in
    record {
      words = record { some = some; whole = c.if-bytes-ne0.false };
      start = record {
        pages = pages;
        mapped = raw_mapped bytes c.args.stack c.requires some;
        few = few;
        state = c.start.ensures ∙ ap (start_at 0x10000) (c.store_bytes.ensures.written yes ∙ ap (λ m. with_bytes m 0x10000 bytes) same);
      };
    }
