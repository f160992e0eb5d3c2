-- The page numbers of kept pages.
use Rattle.std.proofs.Common.{◌≡◌, ℕ, ◌+◌, ◌*◌, ◌/◌, ◌%◌, ◌<◌, ◌≤◌, ◌==◌, false, cond, List, [], ◌∷◌, ◌++◌, map, length, take, drop, refl, sym, ap, ◌∙◌, arith, Option, Some, None}
use Rattle.std.proofs.lemmas.List.{length-take, length-drop}
use Rattle.std.proofs.lemmas.Bool.{eq-eqb, ne_eqb}
use Rattle.std.proofs.lemmas.Nat.{mod-mul-add, div-mul-add}
use Rattle.std.specs.List.{enumerate_from, filter_map, cons_option}
use Rattle.rv_pages.specs.Memory.{Memory, page_numbers}
use Rattle.rv_pages.specs.PageLayout.{entries_kept, memory_kept, AreKept}
use Rattle.rv_pages.proofs.EntryOrder.{kept_entries}

-- the number of the page that an address begins, if it begins one
abbrev pub number_at : ℕ → ℕ → Option ℕ
number_at size at = cond (at % size == 0) (Some (at / size)) None

abbrev pub numbers_in : ℕ → List (ℕ × ℕ) → List ℕ
numbers_in size es = filter_map (number_at size) (map (λ e. e.0) es)

inside_page : (size n r a : ℕ) → a ≡ n * size + r → 0 < r → r < size → number_at size a ≡ None
inside_page size n r a e pos inside =
    let is : a % size ≡ r = ap (λ k. k % size) e ∙ mod-mul-add n size r inside in
    let no : (a % size == 0) ≡ false = ne_eqb (a % size) 0 (λ (z : a % size ≡ 0). omega arith) in
    ap (λ b. cond b (Some (a / size)) None) no

page_begins : (size n a : ℕ) → a ≡ n * size → 0 < size → number_at size a ≡ Some n
page_begins size n a e pos =
    let whole : a ≡ n * size + 0 = omega arith in
    let is : a % size ≡ 0 = ap (λ k. k % size) whole ∙ mod-mul-add n size 0 pos in
    ap (λ b. cond b (Some (a / size)) None) (eq-eqb (a % size) 0 is) ∙ ap Some (ap (λ k. k / size) whole ∙ div-mul-add n size 0 pos)

none_inside : (size n r a : ℕ) (xs : List ℕ) (fs : List (ℕ × ℕ)) → a ≡ n * size + r → 0 < r → r + length xs ≤ size → numbers_in size (enumerate_from a xs ++ fs) ≡ numbers_in size fs
none_inside size n r a [] fs e pos fits = refl
none_inside size n r a (x ∷ xs) fs e pos fits =
    ap (λ o. cons_option o (numbers_in size (enumerate_from (a + 1) xs ++ fs))) (inside_page size n r a e pos (omega arith))
    ∙ none_inside size n (r + 1) (a + 1) xs fs (omega arith) (omega arith) (omega arith)

one_page : (size n : ℕ) (xs : List ℕ) (fs : List (ℕ × ℕ)) → length xs ≡ size → 0 < size → numbers_in size (enumerate_from (n * size) xs ++ fs) ≡ n ∷ numbers_in size fs
one_page size n [] fs e pos = absurd (omega arith)
one_page size n (x ∷ xs) fs e pos =
    ap (λ o. cons_option o (numbers_in size (enumerate_from (n * size + 1) xs ++ fs))) (page_begins size n (n * size) refl pos)
    ∙ ap (λ ns. n ∷ ns) (none_inside size n 1 (n * size + 1) xs fs refl (omega arith) (omega arith))

numbers_kept : (size : ℕ) (numbers bytes : List ℕ) → 0 < size → length bytes ≡ size * length numbers → numbers_in size (entries_kept size numbers bytes) ≡ numbers
numbers_kept size [] bytes pos whole = refl
numbers_kept size (n ∷ ns) bytes pos whole =
    let long : size ≤ length bytes = grind arith in
    let rest : length (drop size bytes) ≡ size * length ns = omega (arith, length-drop size bytes) in
    one_page size n (take size bytes) _ (omega (arith, length-take size bytes)) pos ∙ ap (λ ms. n ∷ ms) (numbers_kept size ns (drop size bytes) pos rest)

pub kept_numbers : (numbers bytes : List ℕ) → AreKept numbers bytes → page_numbers (memory_kept numbers bytes) ≡ numbers
kept_numbers numbers bytes h = ap (numbers_in 4096) (kept_entries numbers bytes h) ∙ numbers_kept 4096 numbers bytes (omega arith) h.whole

-- the same of a value that kept pages have
pub seen_numbers : (numbers bytes : List ℕ) (m : Memory) → AreKept numbers bytes → memory_kept numbers bytes ≡ m → page_numbers m ≡ numbers
seen_numbers numbers bytes m h e = ap page_numbers (sym e) ∙ kept_numbers numbers bytes h
