-- Every file has a start state or a first fault, and so have all bytes as raw words.
use Rattle.std.proofs.Common.{◌≡◌, ℕ, suc, zero, ◌+◌, ◌-◌, ◌*◌, ◌/◌, ◌%◌, ◌<◌, ◌≤◌, ◌&&◌, ◌||◌, ◌⊎◌, inl, inr, Bool, true, false, nat_le, nat_lt, List, [], ◌∷◌, filter, length, take, refl, sym, subst, ◌∙◌, arith}
use Rattle.std.proofs.lemmas.Bool.{cases_lt, cases_eq, cases_order, false≢true}
use Rattle.std.proofs.lemmas.Bool.Decides.{nat_tests}
use Rattle.std.proofs.lemmas.List.Kept.{IsStrictlyIncreasing-filter}
use Rattle.std.specs.List.{range_with_len, slice_index}
use Rattle.rv_machine.specs.MachineState.{MachineState}
use Rattle.elf_load.specs.declared.fault.ElfFault.{ElfFault}
use Rattle.elf_load.specs.declared.fault.ElfFault.TheVariants.{NotElf, Class, Kind, Machine, Headers, Segment as bad_segment, Overlap, TooLarge, Entry, RawLength}
use Rattle.elf_load.specs.declared.header.Header.{Header}
use Rattle.elf_load.specs.declared.segment.Segment.{Segment}
use Rattle.elf_load.specs.Program.{Piece, HoldsByteOf, IsStackPage, IsMappedPage, AreMapped, stack_start, start_at, memory_of}
use Rattle.elf_load.specs.Raw.{raw_pieces, AreWords}
use Rattle.elf_load.specs.Elf.{ProgramHeader, HasMagic, HasClass, IsExecutable, IsForRiscV, HasHeaders, IsSound, IsSoundIfLoaded, AllFit, NoneShare, HasEntry, IsProgram, header_at, is_load, loads, pieces, e_type, e_machine, e_entry, e_phoff, e_phentsize, e_phnum}
use Rattle.elf_load.specs.Faults.{FirstFault, IsMet, number_of}
use Rattle.elf_load.specs.Laws.{StartOrFault, RawStartOrFault}
use Rattle.elf_load.specs.HeaderFields.{IsHeaderOf, segments_of, segment_at, Cross, AreApart, AreFirstToCross}
use Rattle.elf_load.proofs.FaultPrecedence.{before_segments, before_large}
use Rattle.elf_load.proofs.LoadSegments.{none_share, first_overlap, entry_fault, run_rises}
use Rattle.elf_load.proofs.Lists.{any_head, any_later, any_cases, any_none, contains_filter, filter_holds, contains_run, increasing_from_rises}
use Rattle.elf_load.proofs.MappedPages.{holds_span, span_holds}

-- whether a page is mapped, as a test
abbrev holds : Piece → ℕ → Bool
holds p page = nat_lt 0 p.size && (nat_le (p.address / 4096) page && nat_le page ((p.address + p.size - 1) / 4096))

abbrev is_mapped : List Piece → ℕ → ℕ → Bool
is_mapped [] stack page = nat_le 0xC0000 (page + stack) && nat_lt page 0xC0000
is_mapped (p ∷ ps) stack page = holds p page || is_mapped ps stack page

either : (a b : Bool) → (a || b) ≡ true → (a ≡ true) ⊎ (b ≡ true)
either true b e = inl refl
either false b e = inr e

left_one : (a b : Bool) → a ≡ true → (a || b) ≡ true
left_one true b e = refl
left_one false b e = absurd (false≢true e)

right_one : (a b : Bool) → b ≡ true → (a || b) ≡ true
right_one true b e = refl
right_one false b e = e

held_tests : (size low high page : ℕ) → (nat_lt 0 size && (nat_le low page && nat_le page high)) ≡ true → (0 < size) × (low ≤ page) × (page ≤ high)
held_tests size low high page h = grind (arith, nat_tests)

tests_held : (size low high page : ℕ) → 0 < size → low ≤ page → page ≤ high → (nat_lt 0 size && (nat_le low page && nat_le page high)) ≡ true
tests_held size low high page l m n = grind (arith, nat_tests)

stack_tests : (stack page : ℕ) → (nat_le 0xC0000 (page + stack) && nat_lt page 0xC0000) ≡ true → IsStackPage stack page
stack_tests stack page h = grind (arith, nat_tests)

tests_stack : (stack page : ℕ) → 0xC0000 ≤ page + stack → page < 0xC0000 → (nat_le 0xC0000 (page + stack) && nat_lt page 0xC0000) ≡ true
tests_stack stack page l m = grind (arith, nat_tests)

holds_true : (p : Piece) (page : ℕ) → holds p page ≡ true → HoldsByteOf p page
holds_true p page e = let h = held_tests p.size (p.address / 4096) ((p.address + p.size - 1) / 4096) page e in span_holds p page h.0 h.1 h.2

true_holds : (p : Piece) (page : ℕ) → HoldsByteOf p page → holds p page ≡ true
true_holds p page h =
    let s = holds_span p page h in
    let some : 0 < p.size = let low = h.1 in let high = h.2 in omega arith in
    tests_held p.size (p.address / 4096) ((p.address + p.size - 1) / 4096) page some s.0 s.1

mapped_true : (ps : List Piece) (stack page : ℕ) → is_mapped ps stack page ≡ true → IsMappedPage ps stack page
mapped_true [] stack page e = inr (stack_tests stack page e)
mapped_true (p ∷ ps) stack page e =
    elim (either (holds p page) (is_mapped ps stack page) e) [
      | inl here ↦ inl (any_head (λ piece. HoldsByteOf piece page) p ps (holds_true p page here))
      | inr rest ↦ elim (mapped_true ps stack page rest) [ inl a ↦ inl (any_later (λ piece. HoldsByteOf piece page) p ps a) | inr s ↦ inr s ]
    ]

true_mapped : (ps : List Piece) (stack page : ℕ) → IsMappedPage ps stack page → is_mapped ps stack page ≡ true
true_mapped [] stack page m = elim m [ inl a ↦ absurd (any_none (λ piece. HoldsByteOf piece page) a) | inr s ↦ tests_stack stack page s.0 s.1 ]
true_mapped (p ∷ ps) stack page m =
    elim m [
      | inl a ↦ elim (any_cases (λ piece. HoldsByteOf piece page) p ps a) [
        | inl here ↦ left_one (holds p page) (is_mapped ps stack page) (true_holds p page here)
        | inr rest ↦ right_one (holds p page) (is_mapped ps stack page) (true_mapped ps stack page (inl rest))
      ]
      | inr s ↦ right_one (holds p page) (is_mapped ps stack page) (true_mapped ps stack page (inr s))
    ]

-- a number above those of all mapped pages
abbrev top : List Piece → ℕ
top [] = 0xC0000
top (p ∷ ps) = (p.address + p.size) / 4096 + 1 + top ps

below_top : (ps : List Piece) (stack page : ℕ) → IsMappedPage ps stack page → page < top ps
below_top [] stack page m = elim m [ inl a ↦ absurd (any_none (λ piece. HoldsByteOf piece page) a) | inr s ↦ s.1 ]
below_top (p ∷ ps) stack page m =
    elim m [
      | inl a ↦ elim (any_cases (λ piece. HoldsByteOf piece page) p ps a) [
        | inl here ↦ let high = (holds_span p page here).1 in omega arith
        | inr rest ↦ let less = below_top ps stack page (inl rest) in omega arith
      ]
      | inr s ↦ let less = below_top ps stack page (inr s) in omega arith
    ]

-- the list of the mapped pages
abbrev listed : List Piece → ℕ → List ℕ
listed ps stack = filter (is_mapped ps stack) (range_with_len 0 (top ps))

are_listed : (ps : List Piece) (stack : ℕ) → AreMapped ps stack (listed ps stack)
are_listed ps stack = record {
  ascending = IsStrictlyIncreasing-filter (is_mapped ps stack) (range_with_len 0 (top ps)) (increasing_from_rises 0 (range_with_len 0 (top ps)) (run_rises 0 (top ps)));
  each = λ page. (
    λ c. mapped_true ps stack page (filter_holds (is_mapped ps stack) (range_with_len 0 (top ps)) page c),
    λ m. contains_filter (is_mapped ps stack) (range_with_len 0 (top ps)) page (contains_run 0 (top ps) page (omega arith) (let less = below_top ps stack page m in omega arith)) (true_mapped ps stack page m),
  );
}

true_or_false : (b : Bool) → (b ≡ true) ⊎ (b ≡ false)
true_or_false true = inl refl
true_or_false false = inr refl

mapped_cases : (ps : List Piece) (stack page : ℕ) → IsMappedPage ps stack page ⊎ (IsMappedPage ps stack page → ⊥)
mapped_cases ps stack page =
    elim (true_or_false (is_mapped ps stack page)) [
      | inl is ↦ inl (mapped_true ps stack page is)
      | inr none ↦ inr (λ m. false≢true (sym none ∙ true_mapped ps stack page m))
    ]

-- the first number below another of which something doesn't hold
abbrev IsFirstNot : (ℕ → Type 0) → ℕ → ℕ → Type 0
IsFirstNot P n i = (i < n) × (P i → ⊥) × ((k : ℕ) → k < i → P k)

first_not : (P : ℕ → Type 0) → ((i : ℕ) → P i ⊎ (P i → ⊥)) → (n : ℕ) → ((i : ℕ) → i < n → P i) ⊎ ((i : ℕ) × IsFirstNot P n i)
first_not P cases zero = inl (λ i l. absurd (omega arith))
first_not P cases (suc n) =
    elim (first_not P cases n) [
      | inl all ↦ elim (cases n) [
        | inl here ↦ inl (λ i l. elim (cases_lt i n) [ inl less ↦ all i less | inr more ↦ let same : n ≡ i = omega arith in subst P same here ])
        | inr not_here ↦ inr (n, (omega arith, not_here, all))
      ]
      | inr w ↦ inr (w.0, (let l = w.1.0 in omega arith, w.1.1, w.1.2))
    ]

-- whether lists are the same
same_lists : (xs ys : List ℕ) → (xs ≡ ys) ⊎ (xs ≡ ys → ⊥)
same_lists [] [] = inl refl
same_lists [] (y ∷ ys) = inr (λ e. cc)
same_lists (x ∷ xs) [] = inr (λ e. cc)
same_lists (x ∷ xs) (y ∷ ys) =
    elim (cases_eq x y) [
      | inl e ↦ elim (same_lists xs ys) [ inl f ↦ inl (λ t. e t ∷ f t) | inr g ↦ inr (λ f. g cc) ]
      | inr g ↦ inr (λ f. g cc)
    ]

-- whether the lines of the table are met
magic_cases : (file : List ℕ) → HasMagic file ⊎ (HasMagic file → ⊥)
magic_cases file =
    elim (cases_lt (length file) 52) [
      | inl less ↦ inr (λ h. let long = h.long in omega arith)
      | inr more ↦ elim (same_lists (take 4 file) (0x7F ∷ 0x45 ∷ 0x4C ∷ 0x46 ∷ [])) [
        | inl e ↦ inl (record { long = more; letters = e })
        | inr g ↦ inr (λ h. g h.letters)
      ]
    ]

class_cases : (file : List ℕ) → HasClass file ⊎ (HasClass file → ⊥)
class_cases file =
    elim (cases_eq (slice_index file 4) 1) [
      | inr g ↦ inr (λ h. g h.bits)
      | inl a ↦ elim (cases_eq (slice_index file 5) 1) [
        | inr g ↦ inr (λ h. g h.order)
        | inl b ↦ elim (cases_eq (slice_index file 6) 1) [ inr g ↦ inr (λ h. g h.version) | inl c ↦ inl (record { bits = a; order = b; version = c }) ]
      ]
    ]

headers_cases : (file : List ℕ) → HasHeaders file ⊎ (HasHeaders file → ⊥)
headers_cases file =
    elim (cases_eq (e_phnum file) 0) [
      | inl none ↦ inr (λ h. h.some none)
      | inr some ↦ elim (cases_eq (e_phentsize file) 32) [
        | inr g ↦ inr (λ h. g h.size)
        | inl size ↦ elim (cases_lt (length file) (e_phoff file + 32 * e_phnum file)) [
          | inl less ↦ inr (λ h. let inside = h.inside in omega arith)
          | inr inside ↦ inl (record { some = some; size = size; inside = inside })
        ]
      ]
    ]

sound_cases : (file : List ℕ) (stack : ℕ) (h : ProgramHeader) → IsSound file stack h ⊎ (IsSound file stack h → ⊥)
sound_cases file stack h =
    elim (cases_lt h.memory_size h.file_size) [
      | inl less ↦ inr (λ s. let sizes = s.sizes in omega arith)
      | inr sizes ↦ elim (cases_lt (length file) (h.offset + h.file_size)) [
        | inl less ↦ inr (λ s. let inside = s.inside in omega arith)
        | inr inside ↦ elim (cases_lt (stack_start stack) (h.address + h.memory_size)) [
          | inl less ↦ inr (λ s. let below = s.below in omega arith)
          | inr below ↦ inl (record { sizes = sizes; inside = inside; below = below })
        ]
      ]
    ]

fits_cases : (file : List ℕ) (stack i : ℕ) → IsSoundIfLoaded file stack i ⊎ (IsSoundIfLoaded file stack i → ⊥)
fits_cases file stack i =
    elim (true_or_false (is_load (header_at file i))) [
      | inr other ↦ inl (λ load. absurd (false≢true (sym other ∙ load)))
      | inl load ↦ elim (sound_cases file stack (header_at file i)) [ inl s ↦ inl (λ l. s) | inr g ↦ inr (λ f. g (f load)) ]
    ]

cross_cases : (a b : Segment) → Cross a b ⊎ (Cross a b → ⊥)
cross_cases a b =
    elim (cases_lt a.address (b.address + b.memory_size)) [
      | inr past ↦ inr (λ h. let first = h.first in omega arith)
      | inl first ↦ elim (cases_lt b.address (a.address + a.memory_size)) [ inr past ↦ inr (λ h. let second = h.second in omega arith) | inl second ↦ inl (record { first = first; second = second }) ]
    ]

-- the first two segments that cross
abbrev IsFree : List Segment → ℕ → ℕ → Type 0
IsFree segments a d = a < d → Cross (segment_at segments a) (segment_at segments d) → ⊥

free_cases : (segments : List Segment) (a d : ℕ) → IsFree segments a d ⊎ (IsFree segments a d → ⊥)
free_cases segments a d =
    elim (cases_lt a d) [
      | inr past ↦ inl (λ l. absurd (omega arith))
      | inl less ↦ elim (cross_cases (segment_at segments a) (segment_at segments d)) [ inl x ↦ inr (λ f. f less x) | inr g ↦ inl (λ l. g) ]
    ]

crosses : (segments : List Segment) (a d : ℕ) → (IsFree segments a d → ⊥) → (a < d) × Cross (segment_at segments a) (segment_at segments d)
crosses segments a d n =
    elim (cases_lt a d) [
      | inr past ↦ absurd (n (λ l. absurd (omega arith)))
      | inl less ↦ elim (cross_cases (segment_at segments a) (segment_at segments d)) [ inl x ↦ (less, x) | inr g ↦ absurd (n (λ l. g)) ]
    ]

abbrev AllFree : List Segment → ℕ → Type 0
AllFree segments a = (d : ℕ) → d < length segments → IsFree segments a d

all_free_cases : (segments : List Segment) (a : ℕ) → AllFree segments a ⊎ (AllFree segments a → ⊥)
all_free_cases segments a = elim (first_not (IsFree segments a) (free_cases segments a) (length segments)) [ inl all ↦ inl all | inr w ↦ inr (λ all. w.1.1 (all w.0 w.1.0)) ]

first_crossing : (segments : List Segment) (a : ℕ) → IsFirstNot (AllFree segments) (length segments) a → (b : ℕ) × AreFirstToCross segments a b
first_crossing segments a h =
    elim (first_not (IsFree segments a) (free_cases segments a) (length segments)) [
      | inl all ↦ absurd (h.1 all)
      | inr w ↦
          let b : ℕ = w.0 in
          let x = crosses segments a b w.1.1 in (
            b,
            record {
              order = x.0;
              inside = w.1.0;
              cross = x.1;
              first = λ c d l m y. elim (cases_order c a) [
                | inl same ↦ elim (cases_lt d b) [
                  | inl less ↦ absurd (w.1.2 d less (let e = l in omega (arith, same, e)) (subst (λ k. Cross (segment_at segments k) (segment_at segments d)) same y))
                  | inr more ↦ inr (sym same, more)
                ]
                | inr apart ↦ elim apart [ inl less ↦ absurd (h.2 c less d m l y) | inr more ↦ inl more ]
              ];
            },
          )
    ]

apart_cases : (segments : List Segment) → AreApart segments ⊎ ((a : ℕ) × ((b : ℕ) × AreFirstToCross segments a b))
apart_cases segments =
    elim (first_not (AllFree segments) (all_free_cases segments) (length segments)) [
      | inl all ↦ inl (λ a b l m x. all a (omega arith) b m l x)
      | inr w ↦ inr (w.0, first_crossing segments w.0 w.1)
    ]

entry_cases : (file : List ℕ) (stack : ℕ) → HasEntry file stack ⊎ (HasEntry file stack → ⊥)
entry_cases file stack =
    elim (cases_eq (e_entry file % 4) 0) [
      | inr g ↦ inr (λ h. g h.aligned)
      | inl aligned ↦ elim (mapped_cases (pieces file) stack (e_entry file / 4096)) [ inl m ↦ inl (record { aligned = aligned; mapped = m }) | inr g ↦ inr (λ h. g h.mapped) ]
    ]

-- the lines before the first ones
before_magic : (file : List ℕ) (stack : ℕ) (d : ElfFault) → number_of d < 1 → IsMet file stack d
before_magic file stack NotElf l = absurd (omega arith)
before_magic file stack d l = absurd (omega arith)

before_class : (file : List ℕ) (stack : ℕ) → HasMagic file → (d : ElfFault) → number_of d < 2 → IsMet file stack d
before_class file stack m NotElf l = m
before_class file stack m d l = absurd (omega arith)

before_kind : (file : List ℕ) (stack : ℕ) → HasMagic file → HasClass file → (d : ElfFault) → number_of d < 3 → IsMet file stack d
before_kind file stack m c Class l = c
before_kind file stack m c d l = before_class file stack m d (omega arith)

before_machine : (file : List ℕ) (stack : ℕ) → HasMagic file → HasClass file → IsExecutable file → (d : ElfFault) → number_of d < 4 → IsMet file stack d
before_machine file stack m c k Kind l = k
before_machine file stack m c k d l = before_kind file stack m c d (omega arith)

before_headers : (file : List ℕ) (stack : ℕ) → HasMagic file → HasClass file → IsExecutable file → IsForRiscV file → (d : ElfFault) → number_of d < 5 → IsMet file stack d
before_headers file stack m c k r Machine l = r
before_headers file stack m c k r d l = before_machine file stack m c k d (omega arith)

-- a file with such a header
abbrev Found : List ℕ → ℕ → Type 0
Found file stack = ((s : MachineState) × IsProgram file stack s) ⊎ ((fault : ElfFault) × FirstFault file stack fault)

module _ (file : List ℕ) (stack : ℕ) (header : Header) (h : IsHeaderOf file header) where
  found_pages : AllFit file stack → NoneShare file → Found file stack
  found_pages fit apart =
      let pages : List ℕ = listed (pieces file) stack in
      let mapped = are_listed (pieces file) stack in
      elim (cases_lt 4096 (length pages)) [
        | inl many ↦ inr (TooLarge (length pages), record { before = before_large file stack header h fit apart; missed = (pages, mapped, (refl, many)) })
        | inr few ↦ elim (entry_cases file stack) [
          | inl entry ↦ inl (
            start_at (e_entry file) (memory_of pages (pieces file)),
            record {
              magic = h.magic;
              class = h.class;
              executable = h.executable;
              machine = h.machine;
              headers = h.headers;
              fit = fit;
              apart = apart;
              entry = entry;
              start = record { pages = pages; mapped = mapped; few = few; state = refl };
            },
          )
          | inr missing ↦ inr (Entry (e_entry file), entry_fault file stack header pages h fit apart mapped few (λ g. missing (record { aligned = g.0; mapped = (mapped.each (e_entry file / 4096)).0 g.1 })))
        ]
      ]

  found_apart : AllFit file stack → Found file stack
  found_apart fit =
      elim (apart_cases (segments_of file (loads file))) [
        | inl apart ↦ found_pages fit (none_share file apart)
        | inr w ↦ inr (Overlap (segment_at (segments_of file (loads file)) w.0).index (segment_at (segments_of file (loads file)) w.1.0).index, first_overlap file stack w.0 w.1.0 header h fit w.1.1)
      ]

  found_segments : Found file stack
  found_segments =
      elim (first_not (IsSoundIfLoaded file stack) (fits_cases file stack) (e_phnum file)) [
        | inl fit ↦ found_apart fit
        | inr w ↦ inr (bad_segment w.0, record { before = before_segments file stack header h; missed = w.1 })
      ]

pub start_or_fault : StartOrFault
start_or_fault file stack =
    elim (magic_cases file) [
      | inr g ↦ inr (NotElf, record { before = before_magic file stack; missed = g })
      | inl magic ↦ elim (class_cases file) [
        | inr g ↦ inr (Class, record { before = before_class file stack magic; missed = g })
        | inl class ↦ elim (cases_eq (e_type file) 2) [
          | inr g ↦ inr (Kind, record { before = before_kind file stack magic class; missed = g })
          | inl kind ↦ elim (cases_eq (e_machine file) 243) [
            | inr g ↦ inr (Machine, record { before = before_machine file stack magic class kind; missed = g })
            | inl machine ↦ elim (headers_cases file) [
              | inr g ↦ inr (Headers, record { before = before_headers file stack magic class kind machine; missed = g })
              | inl headers ↦
                  let header : Header = record { entry = e_entry file; offset = e_phoff file; count = e_phnum file } in
                  found_segments file stack header (record { magic = magic; class = class; executable = kind; machine = machine; headers = headers; entry = refl; offset = refl; count = refl })
            ]
          ]
        ]
      ]
    ]

words_cases : (bytes : List ℕ) → AreWords bytes ⊎ (AreWords bytes → ⊥)
words_cases bytes =
    elim (cases_lt 0 (length bytes)) [
      | inr none ↦ inr (λ h. let some = h.some in omega arith)
      | inl some ↦ elim (cases_eq (length bytes % 4) 0) [ inl whole ↦ inl (record { some = some; whole = whole }) | inr g ↦ inr (λ h. g h.whole) ]
    ]

pub raw_start_or_fault : RawStartOrFault
raw_start_or_fault bytes stack =
    let pages : List ℕ = listed (raw_pieces bytes) stack in
    let mapped = are_listed (raw_pieces bytes) stack in
    elim (words_cases bytes) [
      | inr g ↦ inr (RawLength (length bytes), (refl, g))
      | inl words ↦ elim (cases_lt 4096 (length pages)) [
        | inl many ↦ inr (TooLarge (length pages), (words, (pages, mapped, (refl, many))))
        | inr few ↦ inl (start_at 0x10000 (memory_of pages (raw_pieces bytes)), record { words = words; start = record { pages = pages; mapped = mapped; few = few; state = refl } })
      ]
    ]
