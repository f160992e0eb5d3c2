-- That the entries of kept pages are in order, and what the memory of them has at an address.
use Rattle.std.proofs.Common.{◌≡◌, ℕ, suc, zero, ◌+◌, ◌*◌, ◌/◌, ◌%◌, ◌<◌, ◌≤◌, ◌⊎◌, inl, inr, Bool, true, false, T, ◌&&◌, List, [], ◌∷◌, ◌++◌, length, get_or, take, drop, refl, sym, ap, subst, ◌∙◌, arith, Some, None}
use Rattle.std.proofs.lemmas.List.{get_or-take, get_or-drop, length-take, length-drop}
use Rattle.std.proofs.lemmas.Bool.{cases_lt}
use Rattle.std.proofs.lemmas.Map.Keys.{sorted_from_strictly_increasing, sorted_head, sorted_tail, below_from_sorted}
use Rattle.std.proofs.lemmas.Nat.{row_fits}
use Rattle.std.specs.List.{enumerate_from, AllByRecursion}
use Rattle.std.specs.List.Sorted.{IsStrictlySortedBy}
use Rattle.std.specs.Ordering.{nat_cmp, is_lt}
use Rattle.std.specs.Cmp.{nat_cmp_is, ranked}
use Rattle.std.specs.declared.cmp.Ordering.TheVariants.{Less}
use Rattle.std.specs.FinMap.{find, is_sorted, get, get-from_sorted, entries, entries-from_sorted}
use Rattle.std.specs.FinMap.Entries.{below_all}
use Rattle.rv_pages.specs.PageLayout.{entries_kept, memory_kept, AreKept}
use Rattle.rv_pages.proofs.EntrySearch.{find_first_part, find_second_part, find_numbered, find_not_numbered}

both : (a b : Bool) → T a → T b → T (a && b)
both true b p q = q
both false b p q = p

first : (a b : Bool) → T (a && b) → T a
first true b p = tt
first false b p = p

second : (a b : Bool) → T (a && b) → T b
second true b p = p
second false b p = absurd p

lower : (a b : ℕ) → a < b → T (is_lt (nat_cmp a b))
lower a b h = subst (λ r. T (is_lt r)) (nat_cmp_is a b Less h) tt

below_joined : (x : ℕ) (es fs : List (ℕ × ℕ)) → T (below_all nat_cmp x es) → T (below_all nat_cmp x fs) → T (below_all nat_cmp x (es ++ fs))
below_joined x [] fs p q = q
below_joined x (e ∷ es) fs p q = both _ _ (first _ _ p) (below_joined x es fs (second _ _ p) q)

below_numbered : (x a : ℕ) (xs : List ℕ) → x < a → T (below_all nat_cmp x (enumerate_from a xs))
below_numbered x a [] h = tt
below_numbered x a (y ∷ ys) h = both _ _ (lower x a h) (below_numbered x (a + 1) ys (omega arith))

below_kept : (size x : ℕ) (numbers bytes : List ℕ) → AllByRecursion (λ n. x < n * size) numbers → T (below_all nat_cmp x (entries_kept size numbers bytes))
below_kept size x [] bytes h = tt
below_kept size x (n ∷ ns) bytes h = below_joined x (enumerate_from (n * size) (take size bytes)) _ (below_numbered x (n * size) (take size bytes) h.0) (below_kept size x ns (drop size bytes) h.1)

-- numbered elements below all that follow
in_order_numbered : (a : ℕ) (xs : List ℕ) (fs : List (ℕ × ℕ)) → T (is_sorted nat_cmp fs) → ((x : ℕ) → x < a + length xs → T (below_all nat_cmp x fs)) → T (is_sorted nat_cmp (enumerate_from a xs ++ fs))
in_order_numbered a [] fs h below = h
in_order_numbered a (x ∷ xs) fs h below =
    both _ _
    (below_joined a (enumerate_from (a + 1) xs) fs (below_numbered a (a + 1) xs (omega arith)) (below a (omega arith)))
    (in_order_numbered (a + 1) xs fs h (λ y l. below y (omega arith)))

-- an address of a page is below those of later pages
above : (size n x : ℕ) (numbers : List ℕ) → x < n * size + size → AllByRecursion (λ m. nat_cmp n m ≡ Less) numbers → AllByRecursion (λ m. x < m * size) numbers
above size n x [] h less = tt
above size n x (m ∷ ms) h less =
    let l : n < m = ranked n m Less (sym less.0) in
    (omega (arith, row_fits n size m size l (omega arith)), above size n x ms h less.1)

in_order : (size : ℕ) (numbers bytes : List ℕ) → IsStrictlySortedBy nat_cmp numbers → T (is_sorted nat_cmp (entries_kept size numbers bytes))
in_order size [] bytes h = tt
in_order size (n ∷ ns) bytes h =
    in_order_numbered (n * size) (take size bytes) _ (in_order size ns (drop size bytes) (sorted_tail nat_cmp n ns h))
    (λ x l. below_kept size x ns (drop size bytes) (above size n x ns (omega (arith, length-take size bytes)) (sorted_head nat_cmp n ns h)))

-- where the page with a number stands among the entries
found_kept : (size : ℕ) (numbers bytes : List ℕ) (i r q : ℕ) → IsStrictlySortedBy nat_cmp numbers → length bytes ≡ size * length numbers → i < length numbers → r < size → q ≡ get_or numbers i 0 * size + r → find nat_cmp q (entries_kept size numbers bytes) ≡ Some (get_or bytes (i * size + r) 0)
found_kept size [] bytes i r q h whole below inside e = absurd (omega arith)
found_kept size (n ∷ ns) bytes zero r q h whole below inside e =
    let long : size ≤ length bytes = grind arith in
    let within : r < length (take size bytes) = omega (arith, length-take size bytes) in
    find_first_part _ _ q _ (find_numbered (n * size) (take size bytes) r q within e)
    ∙ ap Some (get_or-take size bytes r 0 inside ∙ ap (λ k. get_or bytes k 0) (omega arith))
found_kept size (n ∷ ns) bytes (suc i) r q h whole below inside e =
    let later : n < get_or ns i 0 = below_from_sorted (n ∷ ns) 0 (suc i) 0 h (omega arith) below in
    let past : n * size + length (take size bytes) ≤ q = omega (arith, length-take size bytes, row_fits n size (get_or ns i 0) size later (omega arith)) in
    let rest : length (drop size bytes) ≡ size * length ns = omega (arith, length-drop size bytes) in
    find_second_part _ _ q (find_not_numbered (n * size) (take size bytes) q (inr past))
    ∙ found_kept size ns (drop size bytes) i r q (sorted_tail nat_cmp n ns h) rest (omega arith) inside e
    ∙ ap Some (get_or-drop size bytes (i * size + r) 0 ∙ ap (λ k. get_or bytes k 0) (omega arith))

not_found_kept : (size : ℕ) (numbers bytes : List ℕ) (p r q : ℕ) → r < size → q ≡ p * size + r → ((k : ℕ) → k < length numbers → get_or numbers k 0 ≡ p → ⊥) → find nat_cmp q (entries_kept size numbers bytes) ≡ None
not_found_kept size [] bytes p r q inside e h = refl
not_found_kept size (n ∷ ns) bytes p r q inside e h =
    let apart : n ≡ p → ⊥ = h 0 (omega arith) in
    let missed : (q < n * size) ⊎ (n * size + length (take size bytes) ≤ q) =
    elim (cases_lt n p) [
      | inl l ↦ inr (omega (arith, length-take size bytes, row_fits n size p size l (omega arith)))
      | inr l ↦ let m : p < n = elim (cases_lt p n) [ inl k ↦ k | inr k ↦ absurd (apart (omega arith)) ] in inl (omega (arith, row_fits p size n size m (omega arith)))
    ] in
    find_second_part _ _ q (find_not_numbered (n * size) (take size bytes) q missed)
    ∙ not_found_kept size ns (drop size bytes) p r q inside e (λ k l. h (suc k) (omega arith))

-- the same of the memory that is kept
pub kept_order : (numbers bytes : List ℕ) → AreKept numbers bytes → T (is_sorted nat_cmp (entries_kept 4096 numbers bytes))
kept_order numbers bytes h = in_order 4096 numbers bytes (sorted_from_strictly_increasing numbers h.ascending)

pub kept_entries : (numbers bytes : List ℕ) → AreKept numbers bytes → entries (memory_kept numbers bytes) ≡ entries_kept 4096 numbers bytes
unfolding memory_kept
kept_entries numbers bytes h = entries-from_sorted nat_cmp (entries_kept 4096 numbers bytes) (kept_order numbers bytes h)

pub get_kept : (numbers bytes : List ℕ) → AreKept numbers bytes → (i at : ℕ) → i < length numbers → get_or numbers i 0 ≡ at / 4096 → get (memory_kept numbers bytes) at ≡ Some (get_or bytes (i * 4096 + at % 4096) 0)
unfolding memory_kept
get_kept numbers bytes h i at below is =
    get-from_sorted nat_cmp (entries_kept 4096 numbers bytes) at (kept_order numbers bytes h)
    ∙ found_kept 4096 numbers bytes i (at % 4096) at (sorted_from_strictly_increasing numbers h.ascending) h.whole below (omega arith) (omega arith)

pub get_not_kept : (numbers bytes : List ℕ) → AreKept numbers bytes → (at : ℕ) → ((k : ℕ) → k < length numbers → get_or numbers k 0 ≡ at / 4096 → ⊥) → get (memory_kept numbers bytes) at ≡ None
unfolding memory_kept
get_not_kept numbers bytes h at missing =
    get-from_sorted nat_cmp (entries_kept 4096 numbers bytes) at (kept_order numbers bytes h)
    ∙ not_found_kept 4096 numbers bytes (at / 4096) (at % 4096) at (omega arith) (omega arith) missing
