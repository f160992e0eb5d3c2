-- The bytes of a page of kept pages.
use Rattle.std.proofs.Common.{◌≡◌, ℕ, suc, zero, ◌+◌, ◌*◌, ◌/◌, ◌<◌, ◌≤◌, ◌==◌, Bool, true, false, cond, List, [], ◌∷◌, ◌++◌, map, filter, length, get_or, take, drop, refl, sym, ap, ◌∙◌, arith}
use Rattle.std.proofs.lemmas.List.{length-take, drop-drop, append-nil}
use Rattle.std.proofs.lemmas.Bool.{eq-eqb, ne_eqb}
use Rattle.std.proofs.lemmas.Nat.{div-mul-add}
use Rattle.std.proofs.lemmas.Map.Keys.{sorted_from_strictly_increasing, sorted_tail, below_from_sorted}
use Rattle.std.specs.List.{enumerate_from}
use Rattle.std.specs.List.Sorted.{IsStrictlySortedBy}
use Rattle.std.specs.Ordering.{nat_cmp}
use Rattle.rv_pages.specs.Memory.{page_bytes}
use Rattle.rv_pages.specs.PageLayout.{entries_kept, memory_kept, AreKept}
use Rattle.rv_pages.proofs.EntryOrder.{kept_entries}

abbrev pub bytes_in : ℕ → ℕ → List (ℕ × ℕ) → List ℕ
bytes_in size page es = map (λ e. e.1) (filter (λ e. e.0 / size == page) es)

kept_byte : (b : Bool) (e : ℕ × ℕ) (es : List (ℕ × ℕ)) → b ≡ true → map (λ e. e.1) (cond b (e ∷ es) es) ≡ e.1 ∷ map (λ e. e.1) es
kept_byte b e es t = ap (λ b. map (λ e. e.1) (cond b (e ∷ es) es)) t

left_byte : (b : Bool) (e : ℕ × ℕ) (es : List (ℕ × ℕ)) → b ≡ false → map (λ e. e.1) (cond b (e ∷ es) es) ≡ map (λ e. e.1) es
left_byte b e es t = ap (λ b. map (λ e. e.1) (cond b (e ∷ es) es)) t

all_of_page : (size page r a : ℕ) (xs : List ℕ) (fs : List (ℕ × ℕ)) → a ≡ page * size + r → r + length xs ≤ size → bytes_in size page (enumerate_from a xs ++ fs) ≡ xs ++ bytes_in size page fs
all_of_page size page r a [] fs e fits = refl
all_of_page size page r a (x ∷ xs) fs e fits =
    let is : a / size ≡ page = ap (λ k. k / size) e ∙ div-mul-add page size r (omega arith) in
    kept_byte (a / size == page) (a, x) _ (eq-eqb (a / size) page is)
    ∙ ap (λ ys. x ∷ ys) (all_of_page size page (r + 1) (a + 1) xs fs (omega arith) (omega arith))

none_of_page : (size page n r a : ℕ) (xs : List ℕ) (fs : List (ℕ × ℕ)) → a ≡ n * size + r → r + length xs ≤ size → (n ≡ page → ⊥) → bytes_in size page (enumerate_from a xs ++ fs) ≡ bytes_in size page fs
none_of_page size page n r a [] fs e fits apart = refl
none_of_page size page n r a (x ∷ xs) fs e fits apart =
    let is : a / size ≡ n = ap (λ k. k / size) e ∙ div-mul-add n size r (omega arith) in
    left_byte (a / size == page) (a, x) _ (ne_eqb (a / size) page (λ (z : a / size ≡ page). apart (sym is ∙ z)))
    ∙ none_of_page size page n (r + 1) (a + 1) xs fs (omega arith) (omega arith) apart

missing_page : (size page : ℕ) (numbers bytes : List ℕ) → ((k : ℕ) → k < length numbers → get_or numbers k 0 ≡ page → ⊥) → bytes_in size page (entries_kept size numbers bytes) ≡ []
missing_page size page [] bytes h = refl
missing_page size page (n ∷ ns) bytes h =
    none_of_page size page n 0 (n * size) (take size bytes) _ (omega arith) (omega (arith, length-take size bytes)) (h 0 (omega arith))
    ∙ missing_page size page ns (drop size bytes) (λ k l. h (suc k) (omega arith))

bytes_kept : (size : ℕ) (numbers bytes : List ℕ) (i : ℕ) → IsStrictlySortedBy nat_cmp numbers → i < length numbers → bytes_in size (get_or numbers i 0) (entries_kept size numbers bytes) ≡ take size (drop (i * size) bytes)
bytes_kept size [] bytes i h below = absurd (omega arith)
bytes_kept size (n ∷ ns) bytes zero h below =
    let later : (k : ℕ) → k < length ns → get_or ns k 0 ≡ n → ⊥ = λ (k : ℕ) (l : k < length ns) (e : get_or ns k 0 ≡ n). let f : n < get_or ns k 0 = below_from_sorted (n ∷ ns) 0 (suc k) 0 h (omega arith) (omega arith) in omega arith in
    let start : 0 ≡ zero * size = omega arith in
    all_of_page size n 0 (n * size) (take size bytes) _ (omega arith) (omega (arith, length-take size bytes))
    ∙ ap (λ ys. take size bytes ++ ys) (missing_page size n ns (drop size bytes) later)
    ∙ append-nil (take size bytes)
    ∙ ap (λ k. take size (drop k bytes)) start
bytes_kept size (n ∷ ns) bytes (suc i) h below =
    let later : n < get_or ns i 0 = below_from_sorted (n ∷ ns) 0 (suc i) 0 h (omega arith) below in
    let start : size + i * size ≡ suc i * size = omega arith in
    none_of_page size (get_or ns i 0) n 0 (n * size) (take size bytes) _ (omega arith) (omega (arith, length-take size bytes)) (λ (e : n ≡ get_or ns i 0). omega arith)
    ∙ bytes_kept size ns (drop size bytes) i (sorted_tail nat_cmp n ns h) (omega arith)
    ∙ ap (take size) (drop-drop (i * size) size bytes ∙ ap (λ k. drop k bytes) start)

pub kept_bytes : (numbers bytes : List ℕ) → AreKept numbers bytes → (i : ℕ) → i < length numbers → page_bytes (memory_kept numbers bytes) (get_or numbers i 0) ≡ take 4096 (drop (i * 4096) bytes)
kept_bytes numbers bytes h i below =
    ap (bytes_in 4096 (get_or numbers i 0)) (kept_entries numbers bytes h)
    ∙ bytes_kept 4096 numbers bytes i (sorted_from_strictly_increasing numbers h.ascending) below
