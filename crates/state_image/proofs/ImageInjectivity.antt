-- That the image of a state tells the state.
use Rattle.std.proofs.Common.{◌≡◌, ℕ, suc, ◌<◌, ◌^◌, ◌==◌, Bool, true, false, not, cond, ◌&&◌, List, [], ◌∷◌, ◌++◌, length, get_or, drop, filter, refl, sym, ap, subst, ◌∙◌, arith, codes}
use Rattle.std.proofs.lemmas.Bool.{eqb-true}
use Rattle.std.proofs.lemmas.List.{append_assoc, append_cancel_left, length-append}
use Rattle.std.proofs.lemmas.Map.Keys.{sorted_from_strictly_increasing, sorted_head, sorted_tail}
use Rattle.std.proofs.lemmas.Nat.{from_le_bytes-to_le_bytes_4, from_le_bytes-to_le_bytes_8}
use Rattle.std.specs.Cmp.{ranked}
use Rattle.std.specs.Int.{to_le_bytes, from_le_bytes, w32, w64}
use Rattle.std.specs.List.{All, AllByRecursion, flat_map, list_all, slice_index}
use Rattle.std.specs.List.Sorted.{IsStrictlySortedBy}
use Rattle.std.specs.Ordering.{nat_cmp}
use Rattle.std.specs.declared.cmp.Ordering.TheVariants.{Less}
use Rattle.rv_pages.specs.Memory.{Memory, page_numbers, page_bytes, of_pages, IsPage, IsMemory}
use Rattle.rv_pages.proofs.MemoryInvariant.{same_pages}
use Rattle.rv_machine.specs.declared.status.Status.{Status}
use Rattle.rv_machine.specs.declared.status.Status.TheVariants.{Running, Exited, Trapped}
use Rattle.rv_machine.specs.MachineState.{MachineState, IsStatus, IsMachineState}
use Rattle.input_journal.specs.Form.{IsRecorded}
use Rattle.rv_machine.specs.States.{state_number}
use Rattle.rv_machine.proofs.Causes.{cause_below}
use Rattle.rv_machine.proofs.Runs.{state_number_keeps_pages}
use Rattle.rv_machine.proofs.StateInvariant.{number_is_state}
use Rattle.state_image.specs.Image.{image, status_kind, status_value, pages_stored, page_field}

-- two joined lists whose first parts are equally long
parts : (a b c d : List ℕ) → length a ≡ length b → a ++ c ≡ b ++ d → (a ≡ b) × (c ≡ d)
parts [] [] c d e h = (refl, h)
parts [] (y ∷ b) c d e h = absurd (omega arith)
parts (x ∷ a) [] c d e h = absurd (omega arith)
parts (x ∷ a) (y ∷ b) c d e h =
    let rest = parts a b c d (omega arith) (ap (drop 1) h) in
    let first : x ≡ y = ap (λ l. get_or l 0 0) h in
    ((λ i. first i ∷ rest.0 i), rest.1)

same_length : (a b c d : List ℕ) → length a ≡ length b → length c ≡ length d → length (a ++ c) ≡ length (b ++ d)
same_length a b c d e f = omega (arith, length-append a c, length-append b d)

-- numbers by their bytes
word_tells : (m n : ℕ) → m < 2 ^ 32 → n < 2 ^ 32 → to_le_bytes w32 m ≡ to_le_bytes w32 n → m ≡ n
word_tells m n l k e = sym (from_le_bytes-to_le_bytes_4 m l) ∙ ap (from_le_bytes w32) e ∙ from_le_bytes-to_le_bytes_4 n k

long_tells : (m n : ℕ) → m < 2 ^ 64 → n < 2 ^ 64 → to_le_bytes w64 m ≡ to_le_bytes w64 n → m ≡ n
long_tells m n l k e = sym (from_le_bytes-to_le_bytes_8 m l) ∙ ap (from_le_bytes w64) e ∙ from_le_bytes-to_le_bytes_8 n k

words_long : (xs ys : List ℕ) → length xs ≡ length ys → length (flat_map (to_le_bytes w32) xs) ≡ length (flat_map (to_le_bytes w32) ys)
words_long [] [] e = refl
words_long [] (y ∷ ys) e = absurd (omega arith)
words_long (x ∷ xs) [] e = absurd (omega arith)
words_long (x ∷ xs) (y ∷ ys) e = same_length (to_le_bytes w32 x) (to_le_bytes w32 y) _ _ refl (words_long xs ys (omega arith))

words_tell : (xs ys : List ℕ) → length xs ≡ length ys → All (λ x. x < 2 ^ 32) xs → All (λ x. x < 2 ^ 32) ys → flat_map (to_le_bytes w32) xs ≡ flat_map (to_le_bytes w32) ys → xs ≡ ys
words_tell [] [] e p q h = refl
words_tell [] (y ∷ ys) e p q h = absurd (omega arith)
words_tell (x ∷ xs) [] e p q h = absurd (omega arith)
words_tell (x ∷ xs) (y ∷ ys) e p q h =
    let both = parts (to_le_bytes w32 x) (to_le_bytes w32 y) _ _ refl h in
    let first : x ≡ y = word_tells x y (p 0 0 (omega arith)) (q 0 0 (omega arith)) both.0 in
    let rest = words_tell xs ys (omega arith) (λ k d l. p (suc k) d (omega arith)) (λ k d l. q (suc k) d (omega arith)) both.1 in
    λ i. first i ∷ rest i

-- pages, by functions that give their bytes
abbrev field : (ℕ → List ℕ) → ℕ → List ℕ
field f page = to_le_bytes w32 page ++ f page

abbrev zero_page : (ℕ → List ℕ) → ℕ → Bool
zero_page f page = list_all (λ b. b == 0) (f page)

abbrev fields : (ℕ → List ℕ) → List ℕ → List ℕ
fields f pages = flat_map (field f) (filter (λ page. not (zero_page f page)) pages)

-- what is fed of a page and of those after it, by whether the page is all zero
abbrev fed : Bool → (ℕ → List ℕ) → ℕ → List ℕ → List ℕ
fed z f n pages = flat_map (field f) (cond (not z) (n ∷ filter (λ page. not (zero_page f page)) pages) (filter (λ page. not (zero_page f page)) pages))

abbrev Above : ℕ → List ℕ → Type 0
Above p pages = AllByRecursion (λ n. (p < n) × (n < 2 ^ 32)) pages

-- no later page begins with the number of this one
not_later : (f : ℕ → List ℕ) (p : ℕ) (pages rest : List ℕ) → p < 2 ^ 32 → Above p pages → fields f pages ≡ to_le_bytes w32 p ++ rest → ⊥
not_later f p [] rest l above h = let e : 0 ≡ length (to_le_bytes w32 p ++ rest) = ap length h in omega (arith, e)
not_later f p (n ∷ ns) rest l above h =
    elim (zero_page f n) as (λ z. fed z f n ns ≡ to_le_bytes w32 p ++ rest → ⊥) [
      | true ↦ λ e. not_later f p ns rest l above.1 e
      | false ↦ λ e.
          let both = parts (to_le_bytes w32 n) (to_le_bytes w32 p) (f n ++ fields f ns) rest refl (sym (append_assoc (to_le_bytes w32 n) (f n) (fields f ns)) ∙ e) in
          let same : n ≡ p = word_tells n p above.0.1 l both.0 in
          omega (arith, above.0.0)
    ] h

both_of : (a b : Bool) → (a && b) ≡ true → (a ≡ true) × (b ≡ true)
both_of true b h = (refl, h)
both_of false b h = absurd (cc)

all_zero : (xs ys : List ℕ) → length xs ≡ length ys → list_all (λ b. b == 0) xs ≡ true → list_all (λ b. b == 0) ys ≡ true → xs ≡ ys
all_zero [] [] e p q = refl
all_zero [] (y ∷ ys) e p q = absurd (omega arith)
all_zero (x ∷ xs) [] e p q = absurd (omega arith)
all_zero (x ∷ xs) (y ∷ ys) e p q =
    let a = both_of (x == 0) _ p in
    let b = both_of (y == 0) _ q in
    let first : x ≡ y = eqb-true x 0 a.0 ∙ sym (eqb-true y 0 b.0) in
    let rest = all_zero xs ys (omega arith) a.1 b.1 in
    λ i. first i ∷ rest i

-- one page, and those after it
one_page : (f g : ℕ → List ℕ) (n : ℕ) (ns : List ℕ) (y z : Bool) → zero_page f n ≡ y → zero_page g n ≡ z → n < 2 ^ 32 → Above n ns → length (f n) ≡ length (g n) → fed y f n ns ≡ fed z g n ns → (f n ≡ g n) × (fields f ns ≡ fields g ns)
one_page f g n ns true true a b l above e h = (all_zero (f n) (g n) e a b, h)
one_page f g n ns true false a b l above e h = absurd (not_later f n ns (g n ++ fields g ns) l above (h ∙ append_assoc (to_le_bytes w32 n) (g n) (fields g ns)))
one_page f g n ns false true a b l above e h = absurd (not_later g n ns (f n ++ fields f ns) l above (sym h ∙ append_assoc (to_le_bytes w32 n) (f n) (fields f ns)))
one_page f g n ns false false a b l above e h =
    let both = parts (field f n) (field g n) (fields f ns) (fields g ns) (same_length (to_le_bytes w32 n) (to_le_bytes w32 n) (f n) (g n) refl e) h in
    (append_cancel_left (to_le_bytes w32 n) (f n) (g n) both.0, both.1)

-- the numbers after the first are above it
above_first : (n : ℕ) (ns : List ℕ) → AllByRecursion (λ m. nat_cmp n m ≡ Less) ns → AllByRecursion (λ m. m < 2 ^ 32) ns → Above n ns
above_first n [] h l = tt
above_first n (m ∷ ms) h l = ((ranked n m Less (sym h.0), l.0), above_first n ms h.1 l.1)

pages_tell : (f g : ℕ → List ℕ) (pages : List ℕ) → IsStrictlySortedBy nat_cmp pages → AllByRecursion (λ n. n < 2 ^ 32) pages → AllByRecursion (λ n. length (f n) ≡ length (g n)) pages → fields f pages ≡ fields g pages → AllByRecursion (λ n. f n ≡ g n) pages
pages_tell f g [] sorted below long h = tt
pages_tell f g (n ∷ ns) sorted below long h =
    let first = one_page f g n ns (zero_page f n) (zero_page g n) refl refl below.0 (above_first n ns (sorted_head nat_cmp n ns sorted) below.1) long.0 h in
    (first.0, pages_tell f g ns (sorted_tail nat_cmp n ns sorted) below.1 long.1 first.1)

by_recursion : (P : ℕ → Type 0) (xs : List ℕ) → All P xs → AllByRecursion P xs
by_recursion P [] h = tt
by_recursion P (x ∷ xs) h = (h 0 0 (omega arith), by_recursion P xs (λ k d l. h (suc k) d (omega arith)))

both_ways : (f g : ℕ → List ℕ) (pages : List ℕ) → AllByRecursion (λ n. length (f n) ≡ 4096) pages → AllByRecursion (λ n. length (g n) ≡ 4096) pages → AllByRecursion (λ n. length (f n) ≡ length (g n)) pages
both_ways f g [] p q = tt
both_ways f g (n ∷ ns) p q = (p.0 ∙ sym q.0, both_ways f g ns p.1 q.1)

-- memory by its pages that aren't all zero
memory_tells : (m k : Memory) → IsMemory m → IsMemory k → page_numbers m ≡ page_numbers k → fields (page_bytes m) (page_numbers m) ≡ fields (page_bytes k) (page_numbers k) → m ≡ k
memory_tells m k p q numbers h =
    let pages : List ℕ = page_numbers m in
    let other : All (IsPage k) pages = subst (All (IsPage k)) (sym numbers) q.pages in
    let below : AllByRecursion (λ n. n < 2 ^ 32) pages = by_recursion (λ n. n < 2 ^ 32) pages (λ i d l. let b = (p.pages i d l).below in omega (arith, b)) in
    let full : AllByRecursion (λ n. length (page_bytes m n) ≡ 4096) pages = by_recursion (λ n. length (page_bytes m n) ≡ 4096) pages (λ i d l. (p.pages i d l).full) in
    let full_too : AllByRecursion (λ n. length (page_bytes k n) ≡ 4096) pages = by_recursion (λ n. length (page_bytes k n) ≡ 4096) pages (λ i d l. (other i d l).full) in
    let same_fields : fields (page_bytes m) pages ≡ fields (page_bytes k) pages = h ∙ ap (fields (page_bytes k)) (sym numbers) in
    let bytes : AllByRecursion (λ n. page_bytes m n ≡ page_bytes k n) pages =
    pages_tell (page_bytes m) (page_bytes k) pages (sorted_from_strictly_increasing pages p.ascending) below (both_ways (page_bytes m) (page_bytes k) pages full full_too) same_fields
    in
    p.made ∙ same_pages (page_bytes m) (page_bytes k) pages bytes ∙ ap (of_pages (page_bytes k)) numbers ∙ sym q.made

-- a status by its numbers
pub kind_below : (a : Status) → status_kind a < 2 ^ 32
kind_below Running = omega arith
kind_below (Exited code) = omega arith
kind_below (Trapped cause) = omega arith

pub value_below : (a : Status) → IsStatus a → status_value a < 2 ^ 32
value_below Running h = omega arith
value_below (Exited code) h = omega (arith, h)
value_below (Trapped cause) h = omega (arith, cause_below cause h)

status_tells : (a b : Status) → status_kind a ≡ status_kind b → status_value a ≡ status_value b → a ≡ b
status_tells Running Running e f = refl
status_tells Running (Exited d) e f = absurd (omega (arith, e))
status_tells Running (Trapped d) e f = absurd (omega (arith, e))
status_tells (Exited c) Running e f = absurd (omega (arith, e))
status_tells (Exited c) (Exited d) e f = ap (λ n. Exited n) f
status_tells (Exited c) (Trapped d) e f = absurd (omega (arith, e))
status_tells (Trapped c) Running e f = absurd (omega (arith, e))
status_tells (Trapped c) (Exited d) e f = absurd (omega (arith, e))
status_tells (Trapped c) (Trapped d) e f = ap (λ n. Trapped n) f

-- the registers by those after x0, which is 0
registers_tell : (xs ys : List ℕ) → length xs ≡ 32 → length ys ≡ 32 → slice_index xs 0 ≡ 0 → slice_index ys 0 ≡ 0 → All (λ x. x < 2 ^ 32) xs → All (λ x. x < 2 ^ 32) ys → flat_map (to_le_bytes w32) (drop 1 xs) ≡ flat_map (to_le_bytes w32) (drop 1 ys) → xs ≡ ys
registers_tell [] ys e f a b p q h = absurd (omega arith)
registers_tell (x ∷ xs) [] e f a b p q h = absurd (omega arith)
registers_tell (x ∷ xs) (y ∷ ys) e f a b p q h =
    let first : x ≡ y = a ∙ sym b in
    let rest : xs ≡ ys = words_tell xs ys (omega arith) (λ k d l. p (suc k) d (omega arith)) (λ k d l. q (suc k) d (omega arith)) h in
    λ i. first i ∷ rest i

after_first : (xs ys : List ℕ) → length xs ≡ 32 → length ys ≡ 32 → length (drop 1 xs) ≡ length (drop 1 ys)
after_first [] ys e f = absurd (omega arith)
after_first (x ∷ xs) [] e f = absurd (omega arith)
after_first (x ∷ xs) (y ∷ ys) e f = omega arith

-- the header, up to each of its fields
abbrev to_pc : MachineState → List ℕ
to_pc s = codes "RVST" ++ to_le_bytes w32 1 ++ to_le_bytes w32 s.pc

abbrev to_registers : MachineState → List ℕ
to_registers s = to_pc s ++ flat_map (to_le_bytes w32) (drop 1 s.registers)

abbrev to_kind : MachineState → List ℕ
to_kind s = to_registers s ++ to_le_bytes w32 (status_kind s.status)

abbrev to_value : MachineState → List ℕ
to_value s = to_kind s ++ to_le_bytes w32 (status_value s.status)

abbrev to_item : MachineState → List ℕ
to_item s = to_value s ++ to_le_bytes w32 s.item

abbrev to_offset : MachineState → List ℕ
to_offset s = to_item s ++ to_le_bytes w32 s.offset

abbrev to_written : MachineState → List ℕ
to_written s = to_offset s ++ to_le_bytes w64 s.written

abbrev count_of : MachineState → List ℕ
count_of s = to_le_bytes w32 (length (pages_stored s.memory))

abbrev body_of : MachineState → List ℕ
body_of s = flat_map (page_field s.memory) (pages_stored s.memory)

pub image_tells : (s t : MachineState) → IsMachineState s → IsMachineState t → page_numbers s.memory ≡ page_numbers t.memory → image s ≡ image t → s ≡ t
image_tells s t p q numbers h =
    let l2 : length (to_registers s) ≡ length (to_registers t) = same_length (to_pc s) (to_pc t) _ _ refl (words_long (drop 1 s.registers) (drop 1 t.registers) (after_first s.registers t.registers p.registers q.registers)) in
    let l3 : length (to_kind s) ≡ length (to_kind t) = same_length (to_registers s) (to_registers t) (to_le_bytes w32 (status_kind s.status)) (to_le_bytes w32 (status_kind t.status)) l2 refl in
    let l4 : length (to_value s) ≡ length (to_value t) = same_length (to_kind s) (to_kind t) (to_le_bytes w32 (status_value s.status)) (to_le_bytes w32 (status_value t.status)) l3 refl in
    let l5 : length (to_item s) ≡ length (to_item t) = same_length (to_value s) (to_value t) (to_le_bytes w32 s.item) (to_le_bytes w32 t.item) l4 refl in
    let l6 : length (to_offset s) ≡ length (to_offset t) = same_length (to_item s) (to_item t) (to_le_bytes w32 s.offset) (to_le_bytes w32 t.offset) l5 refl in
    let l7 : length (to_written s) ≡ length (to_written t) = same_length (to_offset s) (to_offset t) (to_le_bytes w64 s.written) (to_le_bytes w64 t.written) l6 refl in
    let l8 : length (to_written s ++ count_of s) ≡ length (to_written t ++ count_of t) = same_length (to_written s) (to_written t) (count_of s) (count_of t) l7 refl in
    let whole = parts (to_written s ++ count_of s) (to_written t ++ count_of t) (body_of s) (body_of t) l8 h in
    let counts = parts (to_written s) (to_written t) (count_of s) (count_of t) l7 whole.0 in
    let writtens = parts (to_offset s) (to_offset t) (to_le_bytes w64 s.written) (to_le_bytes w64 t.written) l6 counts.0 in
    let offsets = parts (to_item s) (to_item t) (to_le_bytes w32 s.offset) (to_le_bytes w32 t.offset) l5 writtens.0 in
    let items = parts (to_value s) (to_value t) (to_le_bytes w32 s.item) (to_le_bytes w32 t.item) l4 offsets.0 in
    let values = parts (to_kind s) (to_kind t) (to_le_bytes w32 (status_value s.status)) (to_le_bytes w32 (status_value t.status)) l3 items.0 in
    let kinds = parts (to_registers s) (to_registers t) (to_le_bytes w32 (status_kind s.status)) (to_le_bytes w32 (status_kind t.status)) l2 values.0 in
    let words = parts (to_pc s) (to_pc t) (flat_map (to_le_bytes w32) (drop 1 s.registers)) (flat_map (to_le_bytes w32) (drop 1 t.registers)) refl kinds.0 in
    let pcs = append_cancel_left (codes "RVST" ++ to_le_bytes w32 1) (to_le_bytes w32 s.pc) (to_le_bytes w32 t.pc) words.0 in
    let pc : s.pc ≡ t.pc = word_tells s.pc t.pc p.pc q.pc pcs in
    let registers : s.registers ≡ t.registers = registers_tell s.registers t.registers p.registers q.registers p.zero q.zero p.words q.words words.1 in
    let kind : status_kind s.status ≡ status_kind t.status = word_tells _ _ (kind_below s.status) (kind_below t.status) kinds.1 in
    let value : status_value s.status ≡ status_value t.status = word_tells _ _ (value_below s.status p.status) (value_below t.status q.status) values.1 in
    let status : s.status ≡ t.status = status_tells s.status t.status kind value in
    let item : s.item ≡ t.item = word_tells s.item t.item p.item q.item items.1 in
    let offset : s.offset ≡ t.offset = word_tells s.offset t.offset p.offset q.offset offsets.1 in
    let written : s.written ≡ t.written = long_tells s.written t.written p.written q.written writtens.1 in
    let memory : s.memory ≡ t.memory = memory_tells s.memory t.memory p.memory q.memory numbers whole.1 in
    λ i. record { pc = pc i; registers = registers i; status = status i; item = item i; offset = offset i; written = written i; memory = memory i }

-- the same of two states of a run
pub run_image_tells : (first : MachineState) (journal : List (List ℕ)) (m n : ℕ) → IsMachineState first → IsRecorded journal → image (state_number first journal m) ≡ image (state_number first journal n) → state_number first journal m ≡ state_number first journal n
run_image_tells first journal m n is recorded h =
    image_tells (state_number first journal m) (state_number first journal n) (number_is_state first journal m is recorded) (number_is_state first journal n is recorded)
    (state_number_keeps_pages first journal m ∙ sym (state_number_keeps_pages first journal n)) h
