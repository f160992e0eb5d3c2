-- A program has one list of mapped pages, one start state and one first fault.
use Rattle.std.proofs.Common.{◌≡◌, ℕ, ◌<◌, ◌≤◌, ◌⊎◌, inl, inr, Result, Ok, Err, List, length, refl, sym, ap, subst, ◌∙◌, arith}
use Rattle.std.proofs.lemmas.Bool.{cases_order}
use Rattle.std.specs.Prelude.{IfOk, IfErr}
use Rattle.rv_machine.specs.MachineState.{MachineState}
use Rattle.elf_load.specs.declared.fault.ElfFault.{ElfFault}
use Rattle.elf_load.specs.declared.fault.ElfFault.TheVariants.{NotElf, Class, Kind, Machine, Headers, Segment, Overlap, TooLarge, Entry, Memory, RawLength}
use Rattle.elf_load.specs.Program.{Piece, AreMapped, IsStart, memory_of, start_at}
use Rattle.elf_load.specs.Raw.{AreWords, raw_pieces}
use Rattle.elf_load.specs.Elf.{IsProgram, pieces, e_entry}
use Rattle.elf_load.specs.Faults.{FirstRawFault, IsMet, IsMissed, AreTooMany, number_of}
use Rattle.elf_load.specs.Loading.{Loads}
use Rattle.elf_load.specs.Laws.{OneStart, OneFault, ProgramsHaveNoFault, OneRawStart, OneRawFault, RawProgramsHaveNoFault}
use Rattle.elf_load.proofs.Lists.{same_rising, rises_from_increasing}

pub same_mapped : (pieces : List Piece) (stack : ℕ) (xs ys : List ℕ) → AreMapped pieces stack xs → AreMapped pieces stack ys → xs ≡ ys
same_mapped pieces stack xs ys h g =
    same_rising 0 xs ys (rises_from_increasing xs h.ascending) (rises_from_increasing ys g.ascending) (λ p c. (g.each p).1 ((h.each p).0 c)) (λ p c. (h.each p).1 ((g.each p).0 c))

same_start : (entry : ℕ) (pieces : List Piece) (stack : ℕ) (s t : MachineState) → IsStart entry pieces stack s → IsStart entry pieces stack t → s ≡ t
same_start entry pieces stack s t h g =
    h.state ∙ ap (λ pages. start_at entry (memory_of pages pieces)) (same_mapped pieces stack h.pages g.pages h.mapped g.mapped) ∙ sym g.state

pub one_start : OneStart
one_start file stack s t h g = same_start (e_entry file) (pieces file) stack s t h.start g.start

pub one_raw_start : OneRawStart
one_raw_start bytes stack s t h g = same_start 0x10000 (raw_pieces bytes) stack s t h.start g.start

-- a line that isn't met isn't met
too_many : (pieces : List Piece) (stack n : ℕ) (pages : List ℕ) → AreMapped pieces stack pages → AreTooMany pages n → ((pages : List ℕ) → AreMapped pieces stack pages → length pages ≤ 4096) → ⊥
too_many pieces stack n pages h many few = let l = few pages h in omega (arith, l, many.0, many.1)

missed : (file : List ℕ) (stack : ℕ) (fault : ElfFault) → IsMissed file stack fault → IsMet file stack fault → ⊥
missed file stack NotElf h g = h g
missed file stack Class h g = h g
missed file stack Kind h g = h g
missed file stack Machine h g = h g
missed file stack Headers h g = h g
missed file stack (Segment i) h g = h.1 (g i h.0)
missed file stack (Overlap i j) h g = g i j h.0 h.1 h.2
missed file stack (TooLarge n) h g = too_many (pieces file) stack n h.0 h.1 h.2 g
missed file stack (Entry e) h g = h.1 g
missed file stack Memory h g = h
missed file stack (RawLength n) h g = h

-- the same line is missed in one way
one_segment : (file : List ℕ) (stack i j : ℕ) → IsMissed file stack (Segment i) → IsMissed file stack (Segment j) → i ≡ j
one_segment file stack i j h g =
    elim (cases_order i j) [
      | inl same ↦ same
      | inr apart ↦ elim apart [ inl less ↦ absurd (h.1 (g.2 i less)) | inr more ↦ absurd (g.1 (h.2 j more)) ]
    ]

least_of : (i j k l : ℕ) → (i < k) ⊎ ((i ≡ k) × (j ≤ l)) → (k < i) ⊎ ((k ≡ i) × (l ≤ j)) → (i ≡ k) × (j ≡ l)
least_of i j k l h g =
    elim h [
      | inl a ↦ elim g [ inl b ↦ absurd (omega arith) | inr b ↦ absurd (omega (arith, b.0)) ]
      | inr a ↦ elim g [ inl b ↦ absurd (omega (arith, a.0)) | inr b ↦ (a.0, omega (arith, a.1, b.1)) ]
    ]

same_line : (file : List ℕ) (stack : ℕ) (a b : ElfFault) → number_of a ≡ number_of b → IsMissed file stack a → IsMissed file stack b → a ≡ b
same_line file stack NotElf NotElf e h g = refl
same_line file stack Class Class e h g = refl
same_line file stack Kind Kind e h g = refl
same_line file stack Machine Machine e h g = refl
same_line file stack Headers Headers e h g = refl
same_line file stack (Segment i) (Segment j) e h g = ap (λ k. Segment k) (one_segment file stack i j h g)
same_line file stack (Overlap i j) (Overlap k l) e h g = let same = least_of i j k l (h.3 k l g.0 g.1 g.2) (g.3 i j h.0 h.1 h.2) in λ t. Overlap (same.0 t) (same.1 t)
same_line file stack (TooLarge m) (TooLarge n) e h g = ap (λ k. TooLarge k) (h.2.0 ∙ ap length (same_mapped (pieces file) stack h.0 g.0 h.1 g.1) ∙ sym g.2.0)
same_line file stack (Entry d) (Entry f) e h g = ap (λ k. Entry k) (h.0 ∙ sym g.0)
same_line file stack Memory b e h g = absurd h
same_line file stack (RawLength n) b e h g = absurd h
same_line file stack a b e h g = absurd (omega (arith, e))

pub one_fault : OneFault
one_fault file stack a b h g =
    elim (cases_order (number_of a) (number_of b)) [
      | inl same ↦ same_line file stack a b same h.missed g.missed
      | inr apart ↦ elim apart [ inl less ↦ absurd (missed file stack a h.missed (g.before a less)) | inr more ↦ absurd (missed file stack b g.missed (h.before b more)) ]
    ]

-- a program meets every line
meets : (file : List ℕ) (stack : ℕ) (s : MachineState) (fault : ElfFault) → IsProgram file stack s → IsMet file stack fault
meets file stack s NotElf h = h.magic
meets file stack s Class h = h.class
meets file stack s Kind h = h.executable
meets file stack s Machine h = h.machine
meets file stack s Headers h = h.headers
meets file stack s (Segment i) h = h.fit
meets file stack s (Overlap i j) h = h.apart
meets file stack s (TooLarge n) h = λ pages mapped. subst (λ (xs : List ℕ). length xs ≤ 4096) (same_mapped (pieces file) stack h.start.pages pages h.start.mapped mapped) h.start.few
meets file stack s (Entry e) h = h.entry
meets file stack s Memory h = tt
meets file stack s (RawLength n) h = tt

pub programs_have_no_fault : ProgramsHaveNoFault
programs_have_no_fault file stack s fault h g = missed file stack fault g.missed (meets file stack s fault h)

-- raw words have faults of two kinds
data RawKind (bytes : List ℕ) (stack : ℕ) (fault : ElfFault) : Type 0 where
  length_fault : fault ≡ RawLength (length bytes) → (AreWords bytes → ⊥) → RawKind bytes stack fault
  large_fault : (n : ℕ) → fault ≡ TooLarge n → FirstRawFault bytes stack (TooLarge n) → RawKind bytes stack fault

raw_kind : (bytes : List ℕ) (stack : ℕ) (fault : ElfFault) → FirstRawFault bytes stack fault → RawKind bytes stack fault
raw_kind bytes stack (RawLength n) h = RawKind.length_fault (ap (λ k. RawLength k) h.0) h.1
raw_kind bytes stack (TooLarge n) h = RawKind.large_fault n refl h
raw_kind bytes stack fault h = absurd h

one_kind : (bytes : List ℕ) (stack : ℕ) (a b : ElfFault) → RawKind bytes stack a → RawKind bytes stack b → a ≡ b
one_kind bytes stack a b (length_fault e f) (length_fault d g) = e ∙ sym d
one_kind bytes stack a b (length_fault e f) (large_fault n d g) = absurd (f g.0)
one_kind bytes stack a b (large_fault m e f) (length_fault d g) = absurd (g f.0)
one_kind bytes stack a b (large_fault m e f) (large_fault n d g) =
    e ∙ ap (λ k. TooLarge k) (f.1.2.0 ∙ ap length (same_mapped (raw_pieces bytes) stack f.1.0 g.1.0 f.1.1 g.1.1) ∙ sym g.1.2.0) ∙ sym d

pub one_raw_fault : OneRawFault
one_raw_fault bytes stack a b h g = one_kind bytes stack a b (raw_kind bytes stack a h) (raw_kind bytes stack b g)

pub raw_programs_have_no_fault : RawProgramsHaveNoFault
raw_programs_have_no_fault bytes stack s (RawLength n) h g = g.1 h.words
raw_programs_have_no_fault bytes stack s (TooLarge n) h g =
    too_many (raw_pieces bytes) stack n g.1.0 g.1.1 g.1.2 (λ pages mapped. subst (λ (xs : List ℕ). length xs ≤ 4096) (same_mapped (raw_pieces bytes) stack h.start.pages pages h.start.mapped mapped) h.start.few)
raw_programs_have_no_fault bytes stack s fault h g = g

-- what follows for an answer that is a start state, or a fault, or want of memory
pub loads : (P : MachineState → Type 0) (F : ElfFault → Type 0) → ((s t : MachineState) → P s → P t → s ≡ t) → ((a b : ElfFault) → F a → F b → a ≡ b) → ((s : MachineState) (fault : ElfFault) → P s → F fault → ⊥) → (r : Result MachineState ElfFault) → IfOk r P → IfErr r (λ fault. (fault ≡ Memory) ⊎ F fault) → Loads P F r
loads P F one first none (Ok t) found refused = record {
  found = found;
  only = λ s h. one t s found h;
  refused = tt;
  first = λ fault f. none t fault found f;
}
loads P F one first none (Err d) found refused = record {
  found = tt;
  only = λ s h. elim refused [ inl e ↦ e | inr f ↦ absurd (none s d h f) ];
  refused = λ other. elim refused [ inl e ↦ absurd (other e) | inr f ↦ f ];
  first = λ fault f. elim refused [ inl e ↦ inr e | inr g ↦ inl (first d fault g f) ];
}
