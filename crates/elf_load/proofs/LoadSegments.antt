-- What is true of the load segments of a file whose headers fit.
use Rattle.std.proofs.Common.{◌≡◌, ℕ, suc, zero, ◌+◌, ◌/◌, ◌%◌, ◌<◌, ◌≤◌, ◌==◌, ◌&&◌, ◌⊎◌, inl, inr, max, true, not, List, [], ◌∷◌, map, length, get_or, refl, sym, ap, subst, ◌∙◌, arith, IsTrue}
use Rattle.std.proofs.lemmas.Bool.{cases_order}
use Rattle.std.proofs.lemmas.Bool.Decides.{nat_tests}
use Rattle.std.proofs.lemmas.List.{get_or-map, get_or_default, length-map}
use Rattle.std.proofs.lemmas.List.Elements.{All-map, Contains-get_or}
use Rattle.std.proofs.lemmas.List.Kept.{IsStrictlyIncreasing-filter}
use Rattle.std.proofs.lemmas.Map.Keys.{sorted_from_strictly_increasing, below_from_sorted}
use Rattle.std.specs.List.{All, Contains, range_with_len}
use Rattle.std.specs.List.Sorted.{IsStrictlyIncreasing}
use Rattle.elf_load.specs.declared.fault.ElfFault.{ElfFault}
use Rattle.elf_load.specs.declared.fault.ElfFault.TheVariants.{Overlap, Entry, Memory}
use Rattle.elf_load.specs.declared.header.Header.{Header}
use Rattle.elf_load.specs.declared.segment.Segment.{Segment}
use Rattle.elf_load.specs.Program.{Piece, AreMapped, stack_start}
use Rattle.elf_load.specs.Elf.{ProgramHeader, header_at, is_load, loads, piece_of, pieces, e_phnum, e_entry, AllFit, NoneShare, Share, IsIn}
use Rattle.elf_load.specs.Faults.{FirstFault}
use Rattle.elf_load.specs.HeaderFields.{IsHeaderOf, segment_of, segments_of, segment_at, piece_in, Cross, AreApart, AreFirstToCross, IsPagesFault, memory, overlap, large}
use Rattle.elf_load.proofs.FaultPrecedence.{before_overlap, before_large, before_entry}
use Rattle.elf_load.proofs.Lists.{all_members, filter_holds, filter_contains, contains_filter, contains_run, run_contains, Rises, rises_weaker, increasing_from_rises}
use Rattle.elf_load.proofs.StartUniqueness.{same_mapped}

-- a load segment has a byte
tests_load : (kind size : ℕ) → ((kind == 1) && not (size == 0)) ≡ true → 0 < size
tests_load kind size h = grind (arith, nat_tests)

pub load_some : (h : ProgramHeader) → IsTrue (is_load h) → 0 < h.memory_size
load_some h t = tests_load h.kind h.memory_size t

-- which indices are those of load segments
pub load_of : (file : List ℕ) (i : ℕ) → Contains (loads file) i → (i < e_phnum file) × IsTrue (is_load (header_at file i))
load_of file i c =
    let r = run_contains 0 (e_phnum file) i (filter_contains (λ i. is_load (header_at file i)) (range_with_len 0 (e_phnum file)) i c) in
    let inside : i < 0 + e_phnum file = r.1 in
    (omega arith, filter_holds (λ i. is_load (header_at file i)) (range_with_len 0 (e_phnum file)) i c)

pub is_loaded : (file : List ℕ) (i : ℕ) → i < e_phnum file → IsTrue (is_load (header_at file i)) → Contains (loads file) i
is_loaded file i l t = contains_filter (λ i. is_load (header_at file i)) (range_with_len 0 (e_phnum file)) i (contains_run 0 (e_phnum file) i (omega arith) (omega arith)) t

-- what holds of the segment of each load header holds of all segments
pub all_segments : (P : Segment → Type 0) (file : List ℕ) → ((i : ℕ) → i < e_phnum file → IsTrue (is_load (header_at file i)) → P (segment_of i (header_at file i))) → All P (segments_of file (loads file))
all_segments P file f =
    All-map P (λ i. segment_of i (header_at file i)) (loads file) (all_members (λ i. P (segment_of i (header_at file i))) (loads file) (λ i c. let h = load_of file i c in f i h.0 h.1))

pub segments_some : (file : List ℕ) → All (λ (s : Segment). 0 < s.memory_size) (segments_of file (loads file))
segments_some file = all_segments (λ (s : Segment). 0 < s.memory_size) file (λ i l t. load_some (header_at file i) t)

pub segments_below : (file : List ℕ) (stack : ℕ) → AllFit file stack → All (λ (s : Segment). s.address + s.memory_size ≤ stack_start stack) (segments_of file (loads file))
segments_below file stack fit = all_segments (λ (s : Segment). s.address + s.memory_size ≤ stack_start stack) file (λ i l t. (fit i l t).below)

pub segments_inside : (file : List ℕ) (stack : ℕ) → AllFit file stack → All (λ (s : Segment). s.offset + s.file_size ≤ length file) (segments_of file (loads file))
segments_inside file stack fit = all_segments (λ (s : Segment). s.offset + s.file_size ≤ length file) file (λ i l t. (fit i l t).inside)

pub segments_sized : (file : List ℕ) (stack : ℕ) → AllFit file stack → All (λ (s : Segment). s.file_size ≤ s.memory_size) (segments_of file (loads file))
segments_sized file stack fit = all_segments (λ (s : Segment). s.file_size ≤ s.memory_size) file (λ i l t. (fit i l t).sizes)

-- the pieces of a file are those of its segments
pieces_by : (file indices : List ℕ) → map (λ i. piece_of file (header_at file i)) indices ≡ map (piece_in file) (segments_of file indices)
pieces_by file [] = refl
pieces_by file (i ∷ is) = ap (λ ps. piece_of file (header_at file i) ∷ ps) (pieces_by file is)

pub pieces_are : (file : List ℕ) → pieces file ≡ map (piece_in file) (segments_of file (loads file))
pieces_are file = pieces_by file (loads file)

-- the places of segments and the indices of their headers
run_from : (b m : ℕ) → Rises b (range_with_len b m)
run_from b zero = tt
run_from b (suc m) = (omega arith, run_from (b + 1) m)

pub run_rises : (a n : ℕ) → Rises 0 (range_with_len a n)
run_rises a n = rises_weaker 0 a (range_with_len a n) (omega arith) (run_from a n)

pub loads_rise : (file : List ℕ) → IsStrictlyIncreasing (loads file)
loads_rise file = IsStrictlyIncreasing-filter (λ i. is_load (header_at file i)) (range_with_len 0 (e_phnum file)) (increasing_from_rises 0 (range_with_len 0 (e_phnum file)) (run_rises 0 (e_phnum file)))

pub load_less : (file : List ℕ) (a b : ℕ) → a < b → b < length (loads file) → get_or (loads file) a 0 < get_or (loads file) b 0
load_less file a b l m = below_from_sorted (loads file) a b 0 (sorted_from_strictly_increasing (loads file) (loads_rise file)) l m

pub count_segments : (file : List ℕ) → length (segments_of file (loads file)) ≡ length (loads file)
count_segments file = length-map (loads file) (λ i. segment_of i (header_at file i))

pub segment_is : (file : List ℕ) (a : ℕ) → a < length (loads file) → segment_at (segments_of file (loads file)) a ≡ segment_of (get_or (loads file) a 0) (header_at file (get_or (loads file) a 0))
segment_is file a l = get_or-map (λ i. segment_of i (header_at file i)) (loads file) a 0 _ l

pub segments_differ : (file : List ℕ) (a b : ℕ) → a < b → b < length (segments_of file (loads file)) → (segment_at (segments_of file (loads file)) a).index < (segment_at (segments_of file (loads file)) b).index
segments_differ file a b l m =
    let few : b < length (loads file) = omega (arith, m, count_segments file) in
    let first : (segment_at (segments_of file (loads file)) a).index ≡ get_or (loads file) a 0 = ap (λ (s : Segment). s.index) (segment_is file a (omega arith)) in
    let second : (segment_at (segments_of file (loads file)) b).index ≡ get_or (loads file) b 0 = ap (λ (s : Segment). s.index) (segment_is file b few) in
    omega (arith, first, second, load_less file a b l few)

-- headers that share an address are segments that cross
crossing : (file : List ℕ) (i j : ℕ) → Share file i j → Cross (segment_of i (header_at file i)) (segment_of j (header_at file j))
crossing file i j h =
    let at : ℕ = h.at in
    let low : (header_at file i).address ≤ at = h.in_first.0 in
    let high : at < (header_at file i).address + (header_at file i).memory_size = h.in_first.1 in
    let low' : (header_at file j).address ≤ at = h.in_second.0 in
    let high' : at < (header_at file j).address + (header_at file j).memory_size = h.in_second.1 in
    record { first = omega arith; second = omega arith }

in_both : (x y : ProgramHeader) → 0 < x.memory_size → 0 < y.memory_size → x.address < y.address + y.memory_size → y.address < x.address + x.memory_size → (at : ℕ) × IsIn x at × IsIn y at
in_both x y p q l m = (max x.address y.address, (omega arith, omega arith), (omega arith, omega arith))

sharing : (file : List ℕ) (i j : ℕ) → IsTrue (is_load (header_at file i)) → IsTrue (is_load (header_at file j)) → Cross (segment_of i (header_at file i)) (segment_of j (header_at file j)) → Share file i j
sharing file i j t u h =
    let w = in_both (header_at file i) (header_at file j) (load_some (header_at file i) t) (load_some (header_at file j) u) h.first h.second in
    record { first = t; second = u; at = w.0; in_first = w.1; in_second = w.2 }

-- the place of a header's segment
place_of : (file : List ℕ) (i : ℕ) → i < e_phnum file → IsTrue (is_load (header_at file i)) → (a : ℕ) × (a < length (loads file)) × (get_or (loads file) a 0 ≡ i)
place_of file i l t = let c = is_loaded file i l t in (c.0, c.1, get_or_default (loads file) c.0 0 i c.1 ∙ c.2)

segment_of_place : (file : List ℕ) (a i : ℕ) → a < length (loads file) → get_or (loads file) a 0 ≡ i → segment_at (segments_of file (loads file)) a ≡ segment_of i (header_at file i)
segment_of_place file a i l e = segment_is file a l ∙ ap (λ k. segment_of k (header_at file k)) e

-- the order of places is that of the headers
place_less : (file : List ℕ) (a b i j : ℕ) → a < length (loads file) → b < length (loads file) → get_or (loads file) a 0 ≡ i → get_or (loads file) b 0 ≡ j → i < j → a < b
place_less file a b i j l m e f less =
    elim (cases_order a b) [
      | inl same ↦ absurd (let g : get_or (loads file) a 0 ≡ get_or (loads file) b 0 = ap (λ k. get_or (loads file) k 0) same in omega (arith, e, f, g))
      | inr apart ↦ elim apart [ inl p ↦ p | inr q ↦ absurd (let g = load_less file b a q l in omega (arith, e, f, g)) ]
    ]

crossing_at : (file : List ℕ) (a b i j : ℕ) → a < length (loads file) → b < length (loads file) → get_or (loads file) a 0 ≡ i → get_or (loads file) b 0 ≡ j → Share file i j → Cross (segment_at (segments_of file (loads file)) a) (segment_at (segments_of file (loads file)) b)
crossing_at file a b i j l m e f h =
    subst (λ (s : Segment). Cross s (segment_at (segments_of file (loads file)) b)) (sym (segment_of_place file a i l e))
    (subst (Cross (segment_of i (header_at file i))) (sym (segment_of_place file b j m f)) (crossing file i j h))

pub none_share : (file : List ℕ) → AreApart (segments_of file (loads file)) → NoneShare file
none_share file apart i j l m h =
    let p = place_of file i (omega arith) h.first in
    let q = place_of file j m h.second in
    apart p.0 q.0 (place_less file p.0 q.0 i j p.1 q.1 p.2 q.2 l) (omega (arith, count_segments file, q.1)) (crossing_at file p.0 q.0 i j p.1 q.1 p.2 q.2 h)

pub first_overlap : (file : List ℕ) (stack a b : ℕ) (header : Header) → IsHeaderOf file header → AllFit file stack → AreFirstToCross (segments_of file (loads file)) a b → FirstFault file stack (Overlap (segment_at (segments_of file (loads file)) a).index (segment_at (segments_of file (loads file)) b).index)
first_overlap file stack a b header h fit x =
    let segments : List Segment = segments_of file (loads file) in
    let count = count_segments file in
    let first : a < length (loads file) = omega (arith, x.inside, x.order, count) in
    let second : b < length (loads file) = omega (arith, x.inside, count) in
    let i : ℕ = get_or (loads file) a 0 in
    let j : ℕ = get_or (loads file) b 0 in
    let at_a : segment_at segments a ≡ segment_of i (header_at file i) = segment_is file a first in
    let at_b : segment_at segments b ≡ segment_of j (header_at file j) = segment_is file b second in
    let load_a = load_of file i (subst (Contains (loads file)) refl (Contains-get_or (loads file) a 0 first)) in
    let load_b = load_of file j (subst (Contains (loads file)) refl (Contains-get_or (loads file) b 0 second)) in
    let cross : Cross (segment_of i (header_at file i)) (segment_of j (header_at file j)) = subst (λ (s : Segment). Cross s (segment_of j (header_at file j))) at_a (subst (Cross (segment_at segments a)) at_b x.cross) in
    let fault : FirstFault file stack (Overlap i j) = record {
      before = before_overlap file stack header h fit;
      missed = (
        load_less file a b x.order second,
        load_b.0,
        sharing file i j load_a.1 load_b.1 cross,
        λ k l less inside shared.
            let p = place_of file k (omega arith) shared.first in
            let q = place_of file l inside shared.second in
            elim (x.first p.0 q.0 (place_less file p.0 q.0 k l p.1 q.1 p.2 q.2 less) (omega (arith, count, q.1)) (crossing_at file p.0 q.0 k l p.1 q.1 p.2 q.2 shared)) [
              | inl later ↦ inl (let g = load_less file a p.0 later p.1 in omega (arith, g, p.2))
              | inr same ↦ inr (
                ap (λ n. get_or (loads file) n 0) same.0 ∙ p.2,
                elim (cases_order b q.0) [
                  | inl e ↦ let g : get_or (loads file) b 0 ≡ get_or (loads file) q.0 0 = ap (λ n. get_or (loads file) n 0) e in omega (arith, g, q.2)
                  | inr apart ↦ elim apart [ inl m ↦ (let g = load_less file b q.0 m q.1 in omega (arith, g, q.2)) | inr m ↦ absurd (let s = same.1 in omega arith) ]
                ],
              )
            ],
      );
    } in
    subst (FirstFault file stack) (sym (λ t. Overlap (ap (λ (s : Segment). s.index) at_a t) (ap (λ (s : Segment). s.index) at_b t))) fault

-- what is answered where no pages are listed
pub pages_fault : (file : List ℕ) (stack : ℕ) (header : Header) (fault : ElfFault) → IsHeaderOf file header → AllFit file stack → IsPagesFault (segments_of file (loads file)) stack fault → (fault ≡ Memory) ⊎ FirstFault file stack fault
pages_fault file stack header fault h fit (memory e) = inl e
pages_fault file stack header fault h fit (overlap a b x e) = inr (subst (FirstFault file stack) (sym e) (first_overlap file stack a b header h fit x))
pages_fault file stack header fault h fit (large n pages apart mapped many e) =
    inr (subst (FirstFault file stack) (sym e) (record {
      before = before_large file stack header h fit (none_share file apart);
      missed = (pages, subst (λ (ps : List Piece). AreMapped ps stack pages) (sym (pieces_are file)) (mapped file), many);
    }))

-- and where the entry isn't a word's address in a mapped page
pub entry_fault : (file : List ℕ) (stack : ℕ) (header : Header) (pages : List ℕ) → IsHeaderOf file header → AllFit file stack → NoneShare file → AreMapped (pieces file) stack pages → length pages ≤ 4096 → ((e_entry file % 4 ≡ 0) × Contains pages (e_entry file / 4096) → ⊥) → FirstFault file stack (Entry (e_entry file))
entry_fault file stack header pages h fit apart mapped few missing = record {
  before = before_entry file stack header h fit apart (λ others also. subst (λ (xs : List ℕ). length xs ≤ 4096) (same_mapped (pieces file) stack pages others mapped also) few);
  missed = (refl, λ entry. missing (entry.aligned, (mapped.each (e_entry file / 4096)).1 entry.mapped));
}
