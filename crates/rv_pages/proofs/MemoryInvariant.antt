-- That kept pages are memory as a machine has it, and what such memory has.
use Rattle.std.proofs.Common.{◌≡◌, ℕ, suc, zero, ◌+◌, ◌*◌, ◌<◌, ◌≤◌, ◌^◌, T, true, false, cond, Option, Some, None, IfSome, List, [], ◌∷◌, ◌++◌, length, get_or, take, drop, refl, sym, ap, subst, ◌∙◌, arith}
use Rattle.std.proofs.lemmas.List.{get_or-take, get_or-drop, length-take, length-drop, drop-drop}
use Rattle.std.proofs.lemmas.List.Elements.{All-from_get_or}
use Rattle.std.proofs.lemmas.Nat.{pow-add}
use Rattle.std.specs.Option.{option_map}
use Rattle.std.specs.Cmp.{nat_cmp_total}
use Rattle.std.specs.List.{All, AllByRecursion, enumerate_from, flat_map}
use Rattle.std.specs.List.Sorted.{IsStrictlyIncreasing}
use Rattle.std.specs.Ordering.{nat_cmp, eq_by_cmp}
use Rattle.std.specs.FinMap.{find, get, is_sorted, from_sorted, from_entries, get-from_sorted, get-from_entries, same_map, nat_cmp-IsAntisymmetric}
use Rattle.rv_pages.specs.Memory.{Memory, wrapped, byte_at, bytes_at, followed_by, little_endian, number_at, word_at, page_numbers, page_bytes, of_pages, IsPage, IsMemory}
use Rattle.rv_pages.specs.PageLayout.{entries_kept, memory_kept, AreKept}
use Rattle.rv_pages.proofs.EntryOrder.{kept_order}
use Rattle.rv_pages.proofs.Numbers.{kept_numbers}
use Rattle.rv_pages.proofs.Bytes.{kept_bytes}
use Rattle.rv_pages.proofs.ZeroPages.{joined}

abbrev entries_of : ℕ → (ℕ → List ℕ) → List ℕ → List (ℕ × ℕ)
entries_of size f numbers = flat_map (λ n. enumerate_from (n * size) (f n)) numbers

-- the entries of pages that have the bytes that are kept
entries_alike : (size : ℕ) (f : ℕ → List ℕ) (numbers bytes : List ℕ) → ((i : ℕ) → i < length numbers → f (get_or numbers i 0) ≡ take size (drop (i * size) bytes)) → entries_of size f numbers ≡ entries_kept size numbers bytes
entries_alike size f [] bytes h = refl
entries_alike size f (n ∷ ns) bytes h =
    let start : zero * size ≡ 0 = omega arith in
    let later : (i : ℕ) → i < length ns → f (get_or ns i 0) ≡ take size (drop (i * size) (drop size bytes)) =
    λ (i : ℕ) (l : i < length ns).
    let next : suc i * size ≡ size + i * size = omega arith in
    h (suc i) (omega arith) ∙ ap (take size) (ap (λ k. drop k bytes) next ∙ sym (drop-drop (i * size) size bytes))
    in
    joined (ap (enumerate_from (n * size)) (h 0 (omega arith) ∙ ap (λ k. take size (drop k bytes)) start)) (entries_alike size f ns (drop size bytes) later)

sorted_entries : (es fs : List (ℕ × ℕ)) → T (is_sorted nat_cmp es) → fs ≡ es → from_sorted {R = nat_cmp} es ≡ from_entries {R = nat_cmp} fs
sorted_entries es fs sorted same =
    same_map nat_cmp_total nat_cmp-IsAntisymmetric _ _ (λ q.
    get-from_sorted nat_cmp es q sorted ∙ sym (get-from_entries nat_cmp_total fs q ∙ ap (find nat_cmp q) same))

pub made_of : (numbers bytes : List ℕ) (f : ℕ → List ℕ) → AreKept numbers bytes → ((i : ℕ) → i < length numbers → f (get_or numbers i 0) ≡ take 4096 (drop (i * 4096) bytes)) → memory_kept numbers bytes ≡ of_pages f numbers
unfolding memory_kept of_pages
made_of numbers bytes f h is = sorted_entries (entries_kept 4096 numbers bytes) _ (kept_order numbers bytes h) (entries_alike 4096 f numbers bytes is)

-- a page of kept pages
page_fits : (numbers bytes : List ℕ) → AreKept numbers bytes → (i : ℕ) → i < length numbers → i * 4096 + 4096 ≤ length bytes
page_fits numbers bytes h i l = omega (arith, h.whole)

kept_page : (numbers bytes : List ℕ) → AreKept numbers bytes → All (λ b. b < 256) bytes → (i : ℕ) → i < length numbers → IsPage (memory_kept numbers bytes) (get_or numbers i 0)
kept_page numbers bytes h small i l =
    let is : page_bytes (memory_kept numbers bytes) (get_or numbers i 0) ≡ take 4096 (drop (i * 4096) bytes) = kept_bytes numbers bytes h i l in
    let fits = page_fits numbers bytes h i l in
    let long : length (take 4096 (drop (i * 4096) bytes)) ≡ 4096 = omega (arith, length-take 4096 (drop (i * 4096) bytes), length-drop (i * 4096) bytes) in
    let each : (k : ℕ) → k < length (take 4096 (drop (i * 4096) bytes)) → get_or (take 4096 (drop (i * 4096) bytes)) k 0 < 256 =
    λ (k : ℕ) (m : k < length (take 4096 (drop (i * 4096) bytes))).
    let inside : k < 4096 = omega (arith, long) in
    let place : i * 4096 + k < length bytes = omega (arith, fits) in
    subst (λ (b : ℕ). b < 256) (sym (get_or-take 4096 (drop (i * 4096) bytes) k 0 inside ∙ get_or-drop (i * 4096) bytes k 0)) (small (i * 4096 + k) 0 place)
    in
    record {
      below = h.below i 0 l;
      full = ap length is ∙ long;
      bytes = subst (All (λ b. b < 256)) (sym is) (All-from_get_or (λ b. b < 256) _ 0 each);
    }

pub kept_is_memory : (numbers bytes : List ℕ) → AreKept numbers bytes → All (λ b. b < 256) bytes → IsMemory (memory_kept numbers bytes)
kept_is_memory numbers bytes h small =
    let m = memory_kept numbers bytes in
    let are : page_numbers m ≡ numbers = kept_numbers numbers bytes h in
    record {
      made = made_of numbers bytes (page_bytes m) h (kept_bytes numbers bytes h) ∙ ap (of_pages (page_bytes m)) (sym are);
      ascending = subst IsStrictlyIncreasing (sym are) h.ascending;
      few = omega (arith, ap length are, h.few);
      pages = subst (All (IsPage m)) (sym are) (All-from_get_or (IsPage m) numbers 0 (kept_page numbers bytes h small));
    }

-- pages with the same bytes make the same memory
entries_same : (f g : ℕ → List ℕ) (pages : List ℕ) (size : ℕ) → AllByRecursion (λ page. f page ≡ g page) pages → entries_of size f pages ≡ entries_of size g pages
entries_same f g [] size h = refl
entries_same f g (n ∷ ns) size h = joined (ap (enumerate_from (n * size)) h.0) (entries_same f g ns size h.1)

pub same_pages : (f g : ℕ → List ℕ) (pages : List ℕ) → AllByRecursion (λ page. f page ≡ g page) pages → of_pages f pages ≡ of_pages g pages
unfolding of_pages
same_pages f g pages h = ap (λ es. from_entries {R = nat_cmp} es) (entries_same f g pages 4096 h)

-- what memory has is a byte
abbrev Small : List (ℕ × ℕ) → Type 0
Small es = AllByRecursion (λ e. e.1 < 256) es

found_small : (q : ℕ) (es : List (ℕ × ℕ)) → Small es → IfSome (find nat_cmp q es) (λ b. b < 256)
found_small q [] h = tt
found_small q (e ∷ es) h =
    elim (eq_by_cmp nat_cmp q e.0) as (λ b. IfSome (cond b (Some e.1) (find nat_cmp q es)) (λ b. b < 256)) [
      | true ↦ h.0
      | false ↦ found_small q es h.1
    ]

small_page : (at : ℕ) (xs : List ℕ) (fs : List (ℕ × ℕ)) → All (λ b. b < 256) xs → Small fs → Small (enumerate_from at xs ++ fs)
small_page at [] fs h g = g
small_page at (x ∷ xs) fs h g = (h 0 0 (omega arith), small_page (at + 1) xs fs (λ k d l. h (suc k) d (omega arith)) g)

small_pages : (f : ℕ → List ℕ) (size : ℕ) (pages : List ℕ) → ((i d : ℕ) → i < length pages → All (λ b. b < 256) (f (get_or pages i d))) → Small (entries_of size f pages)
small_pages f size [] h = tt
small_pages f size (n ∷ ns) h = small_page (n * size) (f n) _ (h 0 0 (omega arith)) (small_pages f size ns (λ i d l. h (suc i) d (omega arith)))

made_small : (f : ℕ → List ℕ) (pages : List ℕ) → ((i d : ℕ) → i < length pages → All (λ b. b < 256) (f (get_or pages i d))) → (q : ℕ) → IfSome (get (of_pages f pages) q) (λ b. b < 256)
unfolding of_pages
made_small f pages h q =
    subst (λ (o : Option ℕ). IfSome o (λ b. b < 256)) (sym (get-from_entries nat_cmp_total (entries_of 4096 f pages) q)) (found_small q (entries_of 4096 f pages) (small_pages f 4096 pages h))

small_byte : (m : Memory) → IsMemory m → (at : ℕ) → IfSome (byte_at m at) (λ b. b < 256)
small_byte m h at =
    subst (λ (k : Memory). IfSome (get k (wrapped at)) (λ b. b < 256)) (sym h.made) (made_small (page_bytes m) (page_numbers m) (λ i d l. (h.pages i d l).bytes) (wrapped at))

-- so many bytes, as a number
small_followed : (x : Option ℕ) (ys : Option (List ℕ)) (k : ℕ) → IfSome x (λ b. b < 256) → IfSome ys (λ bs. little_endian bs < 2 ^ k) → IfSome (followed_by x ys) (λ bs. little_endian bs < 2 ^ (8 + k))
small_followed None ys k p q = tt
small_followed (Some b) None k p q = tt
small_followed (Some b) (Some bs) k p q = let power : 2 ^ (8 + k) ≡ 2 ^ 8 * 2 ^ k = pow-add 2 8 k in omega (arith, p, q, power)

small_bytes : (m : Memory) → IsMemory m → (n at : ℕ) → IfSome (bytes_at m at n) (λ bs. little_endian bs < 2 ^ (8 * n))
small_bytes m h zero at = omega arith
small_bytes m h (suc n) at =
    let next : 8 + 8 * n ≡ 8 * suc n = omega arith in
    subst (λ k. IfSome (bytes_at m at (suc n)) (λ bs. little_endian bs < 2 ^ k)) next
    (small_followed (byte_at m at) (bytes_at m (at + 1) n) (8 * n) (small_byte m h at) (small_bytes m h n (at + 1)))

small_number : (o : Option (List ℕ)) (top : ℕ) → IfSome o (λ bs. little_endian bs < top) → IfSome (option_map little_endian o) (λ w. w < top)
small_number None top h = tt
small_number (Some bs) top h = h

pub number_below : (m : Memory) → IsMemory m → (at n : ℕ) → IfSome (number_at m at n) (λ w. w < 2 ^ (8 * n))
number_below m h at n = small_number (bytes_at m at n) (2 ^ (8 * n)) (small_bytes m h n at)

pub word_below : (m : Memory) → IsMemory m → (at : ℕ) → IfSome (word_at m at) (λ w. w < 2 ^ 32)
word_below m h at = number_below m h at 4
