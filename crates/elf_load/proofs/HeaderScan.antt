-- The load segments of a file, one header after the other.
use Rattle.std.proofs.Common.{◌≡◌, ℕ, ◌+◌, ◌*◌, ◌<◌, ◌≤◌, inl, inr, Bool, true, false, cond, List, [], ◌∷◌, ◌++◌, filter, length, refl, sym, ap, subst, ◌∙◌, arith, Some, None, IsTrue}
use Rattle.std.proofs.lemmas.Bool.{cases_lt, false≢true}
use Rattle.std.proofs.lemmas.List.{map-append, append-nil}
use Rattle.std.proofs.lemmas.List.Elements.{filter-append}
use Rattle.std.specs.List.{range_with_len}
use Rattle.elf_load.specs.declared.header.Header.{Header}
use Rattle.elf_load.specs.declared.segment.Segment.{Segment}
use Rattle.elf_load.specs.Elf.{ProgramHeader, header_from, header_at, is_load, IsSoundIfLoaded}
use Rattle.elf_load.specs.Program.{stack_start}
use Rattle.elf_load.specs.HeaderFields.{IsHeaderOf, segment_of, segments_of}
use Rattle.elf_load.proofs.Lists.{range_more}

pub header_is : (file : List ℕ) (header : Header) (i : ℕ) → IsHeaderOf file header → header_from file (header.offset + 32 * i) ≡ header_at file i
header_is file header i h = ap (λ o. header_from file (o + 32 * i)) h.offset

-- what a header tells by the segment that is read of it
some_by : (i : ℕ) (h : ProgramHeader) (s : Segment) (b : Bool) → Some s ≡ cond b (Some (segment_of i h)) None → (b ≡ true) × (s ≡ segment_of i h)
some_by i h s true e = (refl, cc)
some_by i h s false e = absurd (cc)

pub some_load : (i : ℕ) (h : ProgramHeader) (s : Segment) → Some s ≡ cond (is_load h) (Some (segment_of i h)) None → IsTrue (is_load h) × (s ≡ segment_of i h)
some_load i h s e = some_by i h s (is_load h) e

none_by : (i : ℕ) (h : ProgramHeader) (b : Bool) → None ≡ cond b (Some (segment_of i h)) None → b ≡ false
none_by i h true e = absurd (cc)
none_by i h false e = refl

pub none_load : (i : ℕ) (h : ProgramHeader) → None ≡ cond (is_load h) (Some (segment_of i h)) None → is_load h ≡ false
none_load i h e = none_by i h (is_load h) e

-- whether a segment is sound
abbrev pub IsSoundAs : List ℕ → ℕ → Segment → Type 0
IsSoundAs file stack s = (s.file_size ≤ s.memory_size) × (s.offset + s.file_size ≤ length file) × (s.address + s.memory_size ≤ stack_start stack)

pub sound_fits : (file : List ℕ) (stack i : ℕ) (s : Segment) → s ≡ segment_of i (header_at file i) → IsSoundAs file stack s → IsSoundIfLoaded file stack i
sound_fits file stack i s e h load = let g = subst (IsSoundAs file stack) e h in record { sizes = g.0; inside = g.1; below = g.2 }

pub fits_sound : (file : List ℕ) (stack i : ℕ) (s : Segment) → s ≡ segment_of i (header_at file i) → IsTrue (is_load (header_at file i)) → IsSoundIfLoaded file stack i → IsSoundAs file stack s
fits_sound file stack i s e load fits = let h = fits load in subst (IsSoundAs file stack) (sym e) (h.sizes, h.inside, h.below)

pub passed_fits : (file : List ℕ) (stack i : ℕ) → is_load (header_at file i) ≡ false → IsSoundIfLoaded file stack i
passed_fits file stack i e load = absurd (false≢true (sym e ∙ load))

-- one more header
abbrev pub read : List ℕ → ℕ → List Segment
read file n = segments_of file (filter (λ i. is_load (header_at file i)) (range_with_len 0 n))

last_by : (file : List ℕ) (n : ℕ) (b : Bool) (items : List Segment) → items ++ segments_of file (cond b (n ∷ []) []) ≡ cond b (items ++ segment_of n (header_at file n) ∷ []) items
last_by file n true items = refl
last_by file n false items = append-nil items

read_more : (file : List ℕ) (n : ℕ) → read file (n + 1) ≡ cond (is_load (header_at file n)) (read file n ++ segment_of n (header_at file n) ∷ []) (read file n)
read_more file n =
    let here : 0 + n ≡ n = omega arith in
    ap (λ xs. segments_of file (filter (λ i. is_load (header_at file i)) xs)) (range_more 0 n ∙ ap (λ k. range_with_len 0 n ++ k ∷ []) here)
    ∙ ap (segments_of file) (filter-append (λ i. is_load (header_at file i)) (range_with_len 0 n) (n ∷ []))
    ∙ map-append (λ i. segment_of i (header_at file i)) (filter (λ i. is_load (header_at file i)) (range_with_len 0 n)) (filter (λ i. is_load (header_at file i)) (n ∷ []))
    ∙ last_by file n (is_load (header_at file n)) (read file n)

pub read_load : (file : List ℕ) (n : ℕ) (items new : List Segment) (s : Segment) → IsTrue (is_load (header_at file n)) → s ≡ segment_of n (header_at file n) → items ≡ read file n → new ≡ items ++ s ∷ [] → new ≡ read file (n + 1)
read_load file n items new s load is before e =
    e ∙ (λ t. before t ++ is t ∷ []) ∙ sym (read_more file n ∙ ap (λ b. cond b (read file n ++ segment_of n (header_at file n) ∷ []) (read file n)) load)

pub read_other : (file : List ℕ) (n : ℕ) (items new : List Segment) → is_load (header_at file n) ≡ false → items ≡ read file n → new ≡ items → new ≡ read file (n + 1)
read_other file n items new other before e =
    e ∙ before ∙ sym (read_more file n ∙ ap (λ b. cond b (read file n ++ segment_of n (header_at file n) ∷ []) (read file n)) other)

pub fit_more : (file : List ℕ) (stack n : ℕ) → ((i : ℕ) → i < n → IsSoundIfLoaded file stack i) → IsSoundIfLoaded file stack n → (i : ℕ) → i < n + 1 → IsSoundIfLoaded file stack i
fit_more file stack n before here i l =
    elim (cases_lt i n) [ inl less ↦ before i less | inr more ↦ let same : n ≡ i = omega arith in subst (IsSoundIfLoaded file stack) same here ]
