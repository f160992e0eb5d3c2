-- Pages that are kept by their indices.
use Rattle.std.proofs.Common.{◌≡◌, ◌≢◌, ℕ, zero, suc, ◌+◌, ◌≤◌, ◌<◌, List, [], ◌∷◌, ◌++◌, length, take, drop, replicate, slice_index, refl, sym, ap, subst, ◌∙◌, arith, inl, inr, length-append, Option, None, Some}
use Rattle.std.specs.Prelude.{unwrap_or}
use Rattle.std.proofs.Math.Seq.{drop-cons}
use Rattle.std.proofs.Math.Seq.{take-append_seam, drop-append_seam}
use Rattle.std.specs.List.{All, AllByRecursion}
use Rattle.std.proofs.lemmas.Bool.{cases_lt}
use Rattle.rv_pages.specs.Memory.{Memory, page_numbers, page_bytes, of_pages, IsMemory, IsPage, IsZeroPage, KeepsPagesBut}
use Rattle.rv_pages.proofs.MemoryInvariant.{same_pages}
use Rattle.rv_machine.specs.MachineState.{MachineState}
use Rattle.run_timeline.specs.KeptPages.{AreZero, HaveSamePages, KeepsFrom}

-- the first bytes of a page and others are the page
pub take_page : (page rest : List ℕ) (n : ℕ) → length page ≡ n → take n (page ++ rest) ≡ page
take_page page rest n e = subst (λ (k : ℕ). take k (page ++ rest) ≡ page) e (take-append_seam page rest)

pub drop_page : (page rest : List ℕ) (n : ℕ) → length page ≡ n → drop n (page ++ rest) ≡ rest
drop_page page rest n e = subst (λ (k : ℕ). drop k (page ++ rest) ≡ rest) e (drop-append_seam page rest)

-- one more page is kept in front of others
pub keeps_more : (numbers : List ℕ) (m : Memory) (next index : ℕ) (page indices bytes : List ℕ) → next ≤ index → index < length numbers → AreZero numbers m next index →
    length page ≡ 4096 → page ≡ page_bytes m (slice_index numbers index) → KeepsFrom numbers m (index + 1) indices bytes → KeepsFrom numbers m next (index ∷ indices) (page ++ bytes)
keeps_more numbers m next index page indices bytes order inside zeros long is rest = (
  order,
  inside,
  zeros,
  (let sum : length (page ++ bytes) ≡ length page + length bytes = length-append page bytes in omega (arith, sum, long)),
  sym is ∙ sym (take_page page bytes 4096 long),
  subst (λ (xs : List ℕ). KeepsFrom numbers m (index + 1) indices xs) (sym (drop_page page bytes 4096 long)) rest,
)

-- a list of zeros
zeros_are : (xs : List ℕ) → All (λ b. b ≡ 0) xs → xs ≡ replicate (length xs) 0
zeros_are [] h = refl
zeros_are (x ∷ xs) h =
    let here : x ≡ 0 = h 0 0 (omega arith) in
    let rest : xs ≡ replicate (length xs) 0 = zeros_are xs (λ k d l. h (suc k) d (omega arith)) in
    λ i. here i ∷ rest i

same_zeros : (xs ys : List ℕ) → All (λ b. b ≡ 0) xs → All (λ b. b ≡ 0) ys → length xs ≡ length ys → xs ≡ ys
same_zeros xs ys h k long = zeros_are xs h ∙ ap (λ n. replicate n 0) long ∙ sym (zeros_are ys k)

full : (numbers : List ℕ) (m : Memory) → IsMemory m → page_numbers m ≡ numbers → (k : ℕ) → k < length numbers → length (page_bytes m (slice_index numbers k)) ≡ 4096
full numbers m h e k l = (subst (λ (ns : List ℕ). All (IsPage m) ns) e h.pages k 0 l).full

-- pages of a memory are written up to an index, and those from there on and before another one are cleared that are zero in it
pub same_cleared : (numbers : List ℕ) (m old new : Memory) (from to : ℕ) → IsMemory m → IsMemory new → page_numbers m ≡ numbers → page_numbers new ≡ numbers → to ≤ length numbers →
    HaveSamePages numbers m old from → HaveSamePages numbers old new from → AreZero numbers m from to → AreZero numbers new from to → HaveSamePages numbers m new to
same_cleared numbers m old new from to hm hn em en inside same others zm zn k l = elim (cases_lt k from) [
  | inl lt ↦ others k lt ∙ same k lt
  | inr ge ↦ same_zeros (page_bytes new (slice_index numbers k)) (page_bytes m (slice_index numbers k)) (zn k ge l) (zm k ge l) (full numbers new hn en k (omega arith) ∙ sym (full numbers m hm em k (omega arith)))
]

-- the page at that index is written
pub same_set : (numbers : List ℕ) (m old new : Memory) (index : ℕ) (page : List ℕ) → page_numbers old ≡ numbers → index < length numbers → HaveSamePages numbers m old index →
    page_bytes m (slice_index numbers index) ≡ page → page_bytes new (slice_index (page_numbers old) index) ≡ page → KeepsPagesBut index old new → HaveSamePages numbers m new (index + 1)
same_set numbers m old new index page e inside same is set others k l = elim (cases_lt k index) [
  | inl lt ↦
      (let apart : k ≢ index = λ (p : k ≡ index). omega arith in
      let size : k < length (page_numbers old) = omega (arith, ap length e) in
      subst (λ (ns : List ℕ). page_bytes new (slice_index ns k) ≡ page_bytes old (slice_index ns k)) e (others k size apart) ∙ same k lt)
  | inr ge ↦
      (let here : index ≡ k = omega arith in
      subst (λ (j : ℕ). page_bytes new (slice_index numbers j) ≡ page_bytes m (slice_index numbers j)) here
      (subst (λ (ns : List ℕ). page_bytes new (slice_index ns index) ≡ page) e set ∙ sym is))
]

all_same : (f g : ℕ → List ℕ) (pages : List ℕ) → ((k : ℕ) → k < length pages → f (slice_index pages k) ≡ g (slice_index pages k)) → AllByRecursion (λ page. f page ≡ g page) pages
all_same f g [] h = tt
all_same f g (p ∷ ps) h = (h 0 (omega arith), all_same f g ps (λ k l. h (suc k) (omega arith)))

-- memories with the same pages are the same
pub same_memory : (numbers : List ℕ) (m n : Memory) → IsMemory m → IsMemory n → page_numbers m ≡ numbers → page_numbers n ≡ numbers → HaveSamePages numbers m n (length numbers) → n ≡ m
same_memory numbers m n hm hn em en same =
    hn.made
    ∙ ap (of_pages (page_bytes n)) en
    ∙ same_pages (page_bytes n) (page_bytes m) numbers (all_same (page_bytes n) (page_bytes m) numbers same)
    ∙ sym (hm.made ∙ ap (of_pages (page_bytes m)) em)

-- states with the same parts are the same
pub same_state : (s t : MachineState) → s.pc ≡ t.pc → s.registers ≡ t.registers → s.status ≡ t.status → s.item ≡ t.item → s.offset ≡ t.offset → s.written ≡ t.written → s.memory ≡ t.memory → s ≡ t
same_state s t pc registers status item offset written memory =
    λ i. record { pc = pc i; registers = registers i; status = status i; item = item i; offset = offset i; written = written i; memory = memory i }

-- an index that is found, or the end of what is looked at
pub below_touched : (o : Option ℕ) (to len k : ℕ) → to ≤ len → to ≤ unwrap_or o to → k < to → k < unwrap_or o len
below_touched None to len k small far l = omega arith
below_touched (Some i) to len k small far l = omega arith

-- the page at an index is cleared that is found behind zero pages
pub zero_more : (numbers : List ℕ) (old new : Memory) (from index : ℕ) → page_numbers old ≡ numbers → index < length numbers → AreZero numbers old from index →
    IsZeroPage new (slice_index (page_numbers old) index) → KeepsPagesBut index old new → AreZero numbers new from (index + 1)
zero_more numbers old new from index e inside zeros cleared others k low high = elim (cases_lt k index) [
  | inl lt ↦
      (let apart : k ≢ index = λ (p : k ≡ index). omega arith in
      let size : k < length (page_numbers old) = omega (arith, ap length e) in
      subst (λ (bs : List ℕ). All (λ b. b ≡ 0) bs) (sym (subst (λ (ns : List ℕ). page_bytes new (slice_index ns k) ≡ page_bytes old (slice_index ns k)) e (others k size apart))) (zeros k low lt))
  | inr ge ↦
      (let here : index ≡ k = omega arith in
      subst (λ (j : ℕ). IsZeroPage new (slice_index numbers j)) here (subst (λ (ns : List ℕ). IsZeroPage new (slice_index ns index)) e cleared))
]

-- what is kept from the first of the indices on that are left
pub kept_first : (numbers : List ℕ) (m : Memory) (next k : ℕ) (indices rest : List ℕ) → k < length indices → KeepsFrom numbers m next (drop k indices) rest →
    KeepsFrom numbers m next (slice_index indices k ∷ drop (k + 1) indices) rest
kept_first numbers m next k indices rest inside kept =
    let one : suc k ≡ k + 1 = omega arith in
    subst (λ (is : List ℕ). KeepsFrom numbers m next is rest) (drop-cons indices k 0 inside ∙ ap (λ (n : ℕ). slice_index indices k ∷ drop n indices) one) kept

pub below_found : (o : Option ℕ) (to len k : ℕ) → unwrap_or o to < to → k < unwrap_or o to → k < unwrap_or o len
below_found None to len k small l = omega arith
below_found (Some i) to len k small l = l

pub drop_all : (xs : List ℕ) (k : ℕ) → length xs ≤ k → drop k xs ≡ []
drop_all [] zero l = refl
drop_all [] (suc k) l = refl
drop_all (x ∷ xs) zero l = absurd (omega arith)
drop_all (x ∷ xs) (suc k) l = drop_all xs k (omega arith)
