-- The program of a demonstration has a first state: its bytes are words, and few.
use Rattle.std.proofs.Common.{◌≡◌, ◌⊎◌, ℕ, zero, suc, ◌+◌, ◌-◌, ◌*◌, ◌/◌, ◌%◌, ◌^◌, ◌<◌, ◌≤◌, List, [], ◌∷◌, length, get_or, refl, sym, ap, subst, inl, inr, arith}
use Rattle.std.specs.Prelude.{replicate}
use Rattle.std.specs.List.Sorted.{IsStrictlyIncreasing}
use Rattle.std.proofs.lemmas.Bool.{cases_lt}
use Rattle.std.proofs.lemmas.List.{length-append, length-replicate}
use Rattle.std.proofs.lemmas.List.Elements.{Contains-get_or}
use Rattle.rv_decode.specs.declared.instruction.Inst.{Inst}
use Rattle.rv_decode.specs.declared.instruction.Inst.TheVariants.{Jal}
use Rattle.rv_machine.specs.MachineState.{MachineState}
use Rattle.elf_load.specs.declared.fault.ElfFault.{ElfFault}
use Rattle.elf_load.specs.declared.fault.ElfFault.TheVariants as fault
use Rattle.elf_load.specs.Faults.{FirstRawFault}
use Rattle.elf_load.specs.Program.{AreMapped, IsMappedPage, HoldsByteOf}
use Rattle.elf_load.specs.Raw.{raw_pieces, AreWords, IsRawProgram}
use Rattle.elf_load.proofs.StartExistence.{raw_start_or_fault}
use Rattle.reversal.specs.Demo.{drawn, drawn_from, instructions, program}
use Rattle.reversal.proofs.DemoProgram.{bytes_of, all_bytes}

-- ---- how many bytes there are

many_drawn : (n v : ℕ) → length (drawn_from n v) ≡ n
many_drawn zero v = refl
many_drawn (suc n) v = let rest = many_drawn n (drawn v) in omega (arith, rest)

four_each : (is : List Inst) → length (all_bytes is) ≡ 4 * length is
four_each [] = refl
four_each (i ∷ is) = let l = length-append (bytes_of i) (all_bytes is) in let rest = four_each is in omega (arith, l, rest)

program_long : (number : ℕ) → length (program number) ≡ 8192
program_long number =
    let words = all_bytes (instructions number) in
    let l = length-append words (replicate 7936 0) in
    let zeros = length-replicate {A = ℕ} 7936 0 in
    let four = four_each (instructions number) in
    let drawn_count = many_drawn 62 number in
    let all = length-append (drawn_from 62 number) (Jal 0 (2 ^ 32 - 248) ∷ []) in
    omega (arith, l, zeros, four, drawn_count, all)

are_words : (number : ℕ) → AreWords (program number)
are_words number = let long = program_long number in record { some = omega (arith, long); whole = ap (λ n. n % 4) long }

-- ---- how many pages are mapped

-- a mapped page is one of the two of the program, or of the sixteen of the stack
abbrev IsPage : ℕ → Type 0
IsPage page = ((16 ≤ page) × (page < 18)) ⊎ ((786416 ≤ page) × (page < 786432))

page_of : (number page : ℕ) → IsMappedPage (raw_pieces (program number)) 16 page → IsPage page
page_of number page (inr stack) = inr (omega (arith, stack.0), omega (arith, stack.1))
page_of number page (inl piece) = of_piece piece.0 piece.1 piece.2 piece.3 piece.4
  where
    long : length (program number) ≡ 8192
    long = program_long number

    of_bytes : (at : ℕ) → 65536 ≤ at → at < 65536 + length (program number) → at / 4096 ≡ page → IsPage page
    of_bytes at low high is = inl (omega (arith, low, is), omega (arith, high, long, is))

    of_piece : (k : ℕ) (p : _) → k < 1 → get_or (raw_pieces (program number)) k p ≡ p → HoldsByteOf p page → IsPage page
    of_piece (suc k) p low here holds = absurd (omega (arith, low))
    of_piece zero p low here holds = let H : _ → Type 0 = λ q. HoldsByteOf q page in let own = subst H (sym here) holds in of_bytes own.0 own.1 own.2 own.3

module _ (pages : List ℕ) (ascending : IsStrictlyIncreasing pages) (each : (k : ℕ) → k < length pages → IsPage (get_or pages k 0)) where
  -- the k-th page, from the lowest on, is no lower than the k-th of those that may be there
  rises : (k : ℕ) → k < length pages → ((k ≤ 1) × (16 + k ≤ get_or pages k 0)) ⊎ ((2 ≤ k) × (786414 + k ≤ get_or pages k 0))
  rises zero low = inl (omega arith, elim (each 0 low) [ inl a ↦ omega (arith, a.0) | inr b ↦ omega (arith, b.0) ])
  rises (suc k) low =
      let e : suc k ≡ k + 1 = omega arith in
      let P : ℕ → Type 0 = λ n. get_or pages k 0 < get_or pages n 0 in
      let more = subst P (sym e) (ascending k (omega (arith, low))) in
      elim (rises k (omega (arith, low))) [
        | inr late ↦ inr (omega (arith, late.0), omega (arith, late.1, more))
        | inl early ↦ elim (cases_lt 0 k) [
          | inr first ↦ inl (omega (arith, first), omega (arith, first, early.1, more))
          | inl second ↦ elim (each (suc k) low) [
            | inl a ↦ absurd (omega (arith, a.1, early.1, second, more))
            | inr b ↦ inr (omega (arith, second), omega (arith, b.0, early.0))
          ]
        ]
      ]

  few : length pages ≤ 4096
  few = elim (cases_lt 4096 (length pages)) [
    | inr le ↦ le
    | inl many ↦
        let low : 18 < length pages = omega (arith, many) in
        elim (rises 18 low) [
          | inl early ↦ absurd (omega (arith, early.0))
          | inr late ↦ elim (each 18 low) [ inl a ↦ absurd (omega (arith, a.1, late.1)) | inr b ↦ absurd (omega (arith, b.1, late.1)) ]
        ]
  ]

few_mapped : (number : ℕ) (pages : List ℕ) → AreMapped (raw_pieces (program number)) 16 pages → length pages ≤ 4096
few_mapped number pages mapped = few pages mapped.ascending (λ k low. page_of number (get_or pages k 0) ((mapped.each (get_or pages k 0)).0 (Contains-get_or pages k 0 low)))

-- ---- the first state

no_fault : (number : ℕ) (f : ElfFault) → FirstRawFault (program number) 16 f → ⊥
no_fault number (fault.RawLength n) h = h.1 (are_words number)
no_fault number (fault.TooLarge n) h = let pages = h.1.0 in let le = few_mapped number pages h.1.1 in let is = h.1.2.0 in let many = h.1.2.1 in omega (arith, le, is, many)
no_fault number fault.NotElf h = h
no_fault number fault.Class h = h
no_fault number fault.Kind h = h
no_fault number fault.Machine h = h
no_fault number fault.Headers h = h
no_fault number (fault.Segment i) h = h
no_fault number (fault.Overlap i j) h = h
no_fault number (fault.Entry e) h = h
no_fault number fault.Memory h = h

pub demo_start : (number : ℕ) → (first : MachineState) × IsRawProgram (program number) 16 first
demo_start number = elim (raw_start_or_fault (program number) 16) [
  | inl found ↦ found
  | inr f ↦ absurd (no_fault number f.0 f.1)
]
