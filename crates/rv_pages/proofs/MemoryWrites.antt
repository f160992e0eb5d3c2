-- Kept pages after bytes are written, as memory with these bytes.
use Rattle.std.proofs.Common.{◌≡◌, ◌≢◌, ℕ, suc, ◌+◌, ◌*◌, ◌/◌, ◌%◌, ◌^◌, ◌<◌, ◌≤◌, inl, inr, Bool, true, false, cond, List, [], ◌∷◌, ◌++◌, length, get_or, set, take, drop, refl, sym, ap, subst, ◌∙◌, arith, rules, Option, Some, IsSome, append_assoc}
use Rattle.std.proofs.lemmas.Bool.{cases_eq}
use Rattle.std.proofs.lemmas.List.{length-set, get_or-set_same, get_or-set_other, take-append-drop, take_more_set, drop-drop, drop-set-lt, places}
use Rattle.std.proofs.lemmas.Nat.{same_from_place}
use Rattle.std.specs.Cmp.{nat_cmp_total}
use Rattle.std.specs.Ordering.{nat_cmp, eq_by_cmp}
use Rattle.std.specs.FinMap.{get, insert, get-insert, same_map, nat_cmp-IsAntisymmetric}
use borrow.Rule.Slice.PartMut.{put_mid}
use Rattle.rv_pages.specs.Memory.{Memory, wrapped, with_bytes}
use Rattle.rv_pages.specs.PageLayout.{memory_kept, AreKept}
use Rattle.rv_pages.proofs.EntrySearch.{tied_same, tied_other}
use Rattle.rv_pages.proofs.EntryOrder.{get_kept, get_not_kept}
use Rattle.rv_pages.proofs.PageWrites.{somewhere}

pub kept_set : (numbers bytes : List ℕ) (place b : ℕ) → AreKept numbers bytes → AreKept numbers (set bytes place b)
kept_set numbers bytes place b h = record { ascending = h.ascending; below = h.below; few = h.few; whole = length-set bytes place b ∙ h.whole }

-- one byte, by the index of its page and its offset there
module _ (numbers bytes : List ℕ) (h : AreKept numbers bytes) (i r b a place : ℕ) (l : i < length numbers) (inside : r < 4096) (at : a ≡ get_or numbers i 0 * 4096 + r) (is : place ≡ i * 4096 + r) where
  byte_here : get (memory_kept numbers (set bytes place b)) a ≡ Some b
  byte_here =
      let kept = kept_set numbers bytes place b h in
      let page : get_or numbers i 0 ≡ a / 4096 = omega arith in
      let same : i * 4096 + a % 4096 ≡ place = omega arith in
      let whole : length bytes ≡ 4096 * length numbers = h.whole in
      get_kept numbers (set bytes place b) kept i a l page ∙ ap (λ k. Some (get_or (set bytes place b) k 0)) same ∙ ap Some (get_or-set_same bytes place b 0 (omega arith))

  byte_elsewhere : (q : ℕ) → (q ≡ a → ⊥) → get (memory_kept numbers (set bytes place b)) q ≡ get (memory_kept numbers bytes) q
  byte_elsewhere q other =
      let kept = kept_set numbers bytes place b h in
      elim (somewhere numbers (q / 4096)) [
        | inl w ↦
            let apart : w.0 * 4096 + q % 4096 ≢ place =
            λ (e : w.0 * 4096 + q % 4096 ≡ place).
            let same = same_from_place w.0 (q % 4096) i r 4096 (omega arith) inside (e ∙ is) in
            let number : get_or numbers w.0 0 ≡ get_or numbers i 0 = ap (λ k. get_or numbers k 0) same.0 in
            other (omega (arith, number, same.1, w.1.1))
            in
            get_kept numbers (set bytes place b) kept w.0 q w.1.0 w.1.1
            ∙ ap Some (get_or-set_other bytes place (w.0 * 4096 + q % 4096) b 0 apart)
            ∙ sym (get_kept numbers bytes h w.0 q w.1.0 w.1.1)
        | inr none ↦ get_not_kept numbers (set bytes place b) kept q none ∙ sym (get_not_kept numbers bytes h q none)
      ]

  pub memory_set : memory_kept numbers (set bytes place b) ≡ insert (memory_kept numbers bytes) a b
  memory_set =
      same_map nat_cmp_total nat_cmp-IsAntisymmetric _ _ (λ q.
      elim (cases_eq q a) [
        | inl same ↦
            ap (get (memory_kept numbers (set bytes place b))) same ∙ byte_here
            ∙ sym (get-insert nat_cmp_total (memory_kept numbers bytes) a b q ∙ ap (λ k. cond (eq_by_cmp nat_cmp k a) (Some b) (get (memory_kept numbers bytes) q)) same ∙ ap (λ t. cond t (Some b) (get (memory_kept numbers bytes) q)) (tied_same a))
        | inr other ↦
            byte_elsewhere q other
            ∙ sym (get-insert nat_cmp_total (memory_kept numbers bytes) a b q ∙ ap (λ t. cond t (Some b) (get (memory_kept numbers bytes) q)) (tied_other q a other))
      ])

-- bytes one after the other
abbrev written_from : List ℕ → ℕ → List ℕ → List ℕ
written_from bytes place [] = bytes
written_from bytes place (x ∷ xs) = written_from (set bytes place x) (place + 1) xs

memory_written : (numbers bytes : List ℕ) → AreKept numbers bytes → (i : ℕ) → i < length numbers → (xs : List ℕ) (r a place : ℕ) → a ≡ get_or numbers i 0 * 4096 + r → place ≡ i * 4096 + r → r + length xs ≤ 4096 → memory_kept numbers (written_from bytes place xs) ≡ with_bytes (memory_kept numbers bytes) a xs
memory_written numbers bytes h i l [] r a place at is fits = refl
memory_written numbers bytes h i l (x ∷ xs) r a place at is fits =
    let small : get_or numbers i 0 < 2 ^ 20 = h.below i 0 l in
    let same : a ≡ a % 2 ^ 32 = omega arith in
    memory_written numbers (set bytes place x) (kept_set numbers bytes place x h) i l xs (r + 1) (a + 1) (place + 1) (omega arith) (omega arith) (omega arith)
    ∙ ap (λ m. with_bytes m (a + 1) xs) (memory_set numbers bytes h i r x a place l (omega arith) at is ∙ ap (λ k. insert (memory_kept numbers bytes) k x) same)

written_is : (xs bytes : List ℕ) (place : ℕ) → place + length xs ≤ length bytes → put_mid place (length xs) bytes xs ≡ written_from bytes place xs
written_is [] bytes place fits = take-append-drop place bytes
written_is (x ∷ xs) bytes place fits =
    let n : ℕ = length xs in
    let past : place + suc n ≡ place + 1 + n = omega arith in
    ap (λ ys. take place bytes ++ (x ∷ (xs ++ ys))) (drop-drop (suc n) place bytes ∙ ap (λ k. drop k bytes) past ∙ sym (drop-set-lt (place + 1 + n) bytes place x (omega arith)) ∙ sym (drop-drop n (place + 1) (set bytes place x)))
    ∙ sym (append_assoc (take place bytes) (x ∷ []) (xs ++ drop n (drop (place + 1) (set bytes place x))))
    ∙ ap (λ ys. ys ++ (xs ++ drop n (drop (place + 1) (set bytes place x)))) (sym (take_more_set bytes place x (omega arith)))
    ∙ written_is xs (set bytes place x) (place + 1) (omega (arith, length-set bytes place x))

-- bytes that lie in one page
pub memory_put : (numbers bytes : List ℕ) → AreKept numbers bytes → (i : ℕ) → i < length numbers → (xs : List ℕ) (r a place : ℕ) → a ≡ get_or numbers i 0 * 4096 + r → place ≡ i * 4096 + r → r + length xs ≤ 4096 → memory_kept numbers (put_mid place (length xs) bytes xs) ≡ with_bytes (memory_kept numbers bytes) a xs
memory_put numbers bytes h i l xs r a place at is fits =
    let whole : length bytes ≡ 4096 * length numbers = h.whole in
    ap (memory_kept numbers) (written_is xs bytes place (omega arith)) ∙ memory_written numbers bytes h i l xs r a place at is fits

pub kept_put : (numbers bytes : List ℕ) → AreKept numbers bytes → (xs : List ℕ) (place : ℕ) → place + length xs ≤ length bytes → AreKept numbers (put_mid place (length xs) bytes xs)
kept_put numbers bytes h xs place fits =
    let long : length (put_mid place (length xs) bytes xs) ≡ length bytes = search (rules, places) in
    record { ascending = h.ascending; below = h.below; few = h.few; whole = long ∙ h.whole }

-- what was mapped is mapped
some_cond : (t : Bool) (b : ℕ) (o : Option ℕ) → IsSome o → IsSome (cond t (Some b) o)
some_cond true b o h = refl
some_cond false b o h = h

pub some_inserted : (m : Memory) (k b q : ℕ) → IsSome (get m q) → IsSome (get (insert m k b) q)
some_inserted m k b q h = subst (λ (o : Option ℕ). IsSome o) (sym (get-insert nat_cmp_total m k b q)) (some_cond (eq_by_cmp nat_cmp q k) b (get m q) h)

pub some_with_bytes : (m : Memory) (a : ℕ) (xs : List ℕ) (q : ℕ) → IsSome (get m q) → IsSome (get (with_bytes m a xs) q)
some_with_bytes m a [] q h = h
some_with_bytes m a (x ∷ xs) q h = some_with_bytes (insert m (wrapped a) x) (a + 1) xs q (some_inserted m (wrapped a) x q h)

-- one more byte at the end
pub with_bytes-push : (m : Memory) (a : ℕ) (xs : List ℕ) (x : ℕ) → with_bytes m a (xs ++ x ∷ []) ≡ insert (with_bytes m a xs) (wrapped (a + length xs)) x
with_bytes-push m a [] x = let here : a ≡ a + 0 = omega arith in ap (λ k. insert m (wrapped k) x) here
with_bytes-push m a (y ∷ ys) x =
    let next : a + 1 + length ys ≡ a + suc (length ys) = omega arith in
    with_bytes-push (insert m (wrapped a) y) (a + 1) ys x ∙ ap (λ k. insert (with_bytes m a (y ∷ ys)) (wrapped k) x) next

-- bytes behind bytes
pub with_bytes-append : (m : Memory) (a : ℕ) (xs ys : List ℕ) → with_bytes (with_bytes m a xs) (a + length xs) ys ≡ with_bytes m a (xs ++ ys)
with_bytes-append m a [] ys = let here : a + 0 ≡ a = omega arith in ap (λ k. with_bytes m k ys) here
with_bytes-append m a (x ∷ xs) ys =
    let next : a + suc (length xs) ≡ a + 1 + length xs = omega arith in
    ap (λ k. with_bytes (with_bytes m a (x ∷ xs)) k ys) next ∙ with_bytes-append (insert m (wrapped a) x) (a + 1) xs ys

-- an address that was taken modulo 2 ^ 32 is the same place
pub with_bytes_alike : (m : Memory) (a b : ℕ) (xs : List ℕ) → wrapped a ≡ wrapped b → with_bytes m a xs ≡ with_bytes m b xs
with_bytes_alike m a b [] e = refl
with_bytes_alike m a b (x ∷ xs) e = with_bytes_alike (insert m (wrapped a) x) (a + 1) (b + 1) xs (omega arith) ∙ ap (λ k. with_bytes (insert m k x) (b + 1) xs) e
