-- What so many bytes from an address on are: of any memory, and of kept pages.
use Rattle.std.proofs.Common.{◌≡◌, ℕ, zero, suc, ◌+◌, ◌-◌, ◌*◌, ◌/◌, ◌%◌, ◌^◌, ◌<◌, ◌≤◌, inl, inr, List, [], ◌∷◌, ◌++◌, length, get_or, refl, sym, ap, subst, ◌∙◌, arith, Option, Some, None, IsSome}
use Rattle.std.proofs.lemmas.Bool.{cases_lt}
use Rattle.std.specs.FinMap.{get}
use Rattle.rv_pages.specs.Memory.{Memory, wrapped, byte_at, bytes_at, followed_by, little_endian, number_at, word_at, IsMapped}
use Rattle.std.specs.Option.{option_map}
use Rattle.rv_pages.specs.PageLayout.{memory_kept, AreKept}
use Rattle.rv_pages.proofs.EntryOrder.{get_kept, get_not_kept}

-- the bytes at places, so many from one on
abbrev pub places_from : List ℕ → ℕ → ℕ → List ℕ
places_from bytes start zero = []
places_from bytes start (suc n) = get_or bytes start 0 ∷ places_from bytes (start + 1) n

-- bytes that lie in the page with an index
pub bytes_kept : (numbers bytes : List ℕ) → AreKept numbers bytes → (i : ℕ) → i < length numbers → (n r a start : ℕ) → a ≡ get_or numbers i 0 * 4096 + r → start ≡ i * 4096 + r → r + n ≤ 4096 → bytes_at (memory_kept numbers bytes) a n ≡ Some (places_from bytes start n)
bytes_kept numbers bytes h i l zero r a start e f fits = refl
bytes_kept numbers bytes h i l (suc n) r a start e f fits =
    let small : get_or numbers i 0 < 2 ^ 20 = h.below i 0 l in
    let page : get_or numbers i 0 ≡ a / 4096 = omega arith in
    let place : i * 4096 + a % 4096 ≡ start = omega arith in
    let same : a % 2 ^ 32 ≡ a = omega arith in
    let byte : byte_at (memory_kept numbers bytes) a ≡ Some (get_or bytes start 0) = ap (get (memory_kept numbers bytes)) same ∙ get_kept numbers bytes h i a l page ∙ ap (λ k. Some (get_or bytes k 0)) place in
    let rest : bytes_at (memory_kept numbers bytes) (a + 1) n ≡ Some (places_from bytes (start + 1) n) = bytes_kept numbers bytes h i l n (r + 1) (a + 1) (start + 1) (omega arith) (omega arith) (omega arith) in
    λ k. followed_by (byte k) (rest k)

-- a byte that isn't mapped
pub byte_not_kept : (numbers bytes : List ℕ) → AreKept numbers bytes → (at : ℕ) → at < 2 ^ 32 → ((k : ℕ) → k < length numbers → get_or numbers k 0 ≡ at / 4096 → ⊥) → byte_at (memory_kept numbers bytes) at ≡ None
byte_not_kept numbers bytes h at fits missing =
    let same : at % 2 ^ 32 ≡ at = omega arith in
    ap (get (memory_kept numbers bytes)) same ∙ get_not_kept numbers bytes h at missing

after_none : (x : Option ℕ) → followed_by x None ≡ None
after_none None = refl
after_none (Some b) = refl

pub bytes_at_missing : (m : Memory) (n k a : ℕ) → k < n → byte_at m (a + k) ≡ None → bytes_at m a n ≡ None
bytes_at_missing m zero k a l e = absurd (omega arith)
bytes_at_missing m (suc n) zero a l e =
    let here : a + 0 ≡ a = omega arith in
    ap (λ o. followed_by o (bytes_at m (a + 1) n)) (ap (byte_at m) (sym here) ∙ e)
bytes_at_missing m (suc n) (suc k) a l e =
    let next : a + 1 + k ≡ a + suc k = omega arith in
    ap (followed_by (byte_at m a)) (bytes_at_missing m n k (a + 1) (omega arith) (ap (byte_at m) next ∙ e)) ∙ after_none (byte_at m a)

-- one more byte at the end
abbrev ended_by : Option (List ℕ) → Option ℕ → Option (List ℕ)
ended_by (Some bs) (Some b) = Some (bs ++ b ∷ [])
ended_by _ _ = None

ended_one : (x : Option ℕ) → followed_by x (Some []) ≡ ended_by (Some []) x
ended_one None = refl
ended_one (Some b) = refl

ended_more : (x : Option ℕ) (ys : Option (List ℕ)) (y : Option ℕ) → followed_by x (ended_by ys y) ≡ ended_by (followed_by x ys) y
ended_more None ys y = refl
ended_more (Some b) None y = refl
ended_more (Some b) (Some bs) None = refl
ended_more (Some b) (Some bs) (Some c) = refl

bytes_at-suc : (m : Memory) (k a : ℕ) → bytes_at m a (suc k) ≡ ended_by (bytes_at m a k) (byte_at m (a + k))
bytes_at-suc m zero a = let here : a ≡ a + 0 = omega arith in ended_one (byte_at m a) ∙ ap (λ b. ended_by (Some []) (byte_at m b)) here
bytes_at-suc m (suc k) a =
    let next : a + 1 + k ≡ a + suc k = omega arith in
    ap (followed_by (byte_at m a)) (bytes_at-suc m k (a + 1))
    ∙ ended_more (byte_at m a) (bytes_at m (a + 1) k) (byte_at m (a + 1 + k))
    ∙ ap (λ b. ended_by (bytes_at m a (suc k)) (byte_at m b)) next

pub bytes_at_more : (m : Memory) (k a b : ℕ) (bs : List ℕ) → bytes_at m a k ≡ Some bs → byte_at m (a + k) ≡ Some b → bytes_at m a (k + 1) ≡ Some (bs ++ b ∷ [])
bytes_at_more m k a b bs e f =
    let one : k + 1 ≡ suc k = omega arith in
    ap (bytes_at m a) one ∙ bytes_at-suc m k a ∙ (λ i. ended_by (e i) (f i))

-- bytes are there where they are mapped
some_followed : (x : Option ℕ) (ys : Option (List ℕ)) → IsSome x → IsSome ys → IsSome (followed_by x ys)
some_followed None ys p q = p
some_followed (Some b) None p q = q
some_followed (Some b) (Some bs) p q = refl

pub mapped_some : (m : Memory) (n a : ℕ) → IsMapped m a n → IsSome (bytes_at m a n)
mapped_some m zero a h = refl
mapped_some m (suc n) a h =
    let here : a + 0 ≡ a = omega arith in
    some_followed (byte_at m a) (bytes_at m (a + 1) n) (subst (λ b. IsSome (byte_at m b)) here (h 0 (omega arith)))
    (mapped_some m n (a + 1) (λ k l. let next : a + suc k ≡ a + 1 + k = omega arith in subst (λ b. IsSome (byte_at m b)) next (h (suc k) (omega arith))))

none_some : (o : Option (List ℕ)) → o ≡ None → IsSome o → ⊥
none_some None e h = cc
none_some (Some bs) e h = cc

pub not_mapped : (m : Memory) (n a : ℕ) → bytes_at m a n ≡ None → IsMapped m a n → ⊥
not_mapped m n a e h = none_some (bytes_at m a n) e (mapped_some m n a h)

some_or_missing : (o : Option ℕ) → (o ≡ None → ⊥) → IsSome o
some_or_missing None h = absurd (h refl)
some_or_missing (Some b) h = refl

pub bytes_mapped : (m : Memory) (n a : ℕ) (bs : List ℕ) → bytes_at m a n ≡ Some bs → IsMapped m a n
bytes_mapped m n a bs e k l = some_or_missing (byte_at m (a + k)) (λ none. let missing = bytes_at_missing m n k a l none in cc)

pub missing_byte : (o : Option ℕ) → o ≡ None → IsSome o → ⊥
missing_byte None e h = cc
missing_byte (Some b) e h = cc

pub some_mapped : (m : Memory) (n a : ℕ) → IsSome (bytes_at m a n) → IsMapped m a n
some_mapped m n a h k l = some_or_missing (byte_at m (a + k)) (λ none. none_some (bytes_at m a n) (bytes_at_missing m n k a l none) h)

-- more bytes behind mapped ones, from an address modulo 2 ^ 32 on
pub mapped_more : (m : Memory) (a n p : ℕ) → IsMapped m a n → IsMapped m ((a + n) % 2 ^ 32) p → IsMapped m a (n + p)
mapped_more m a n p h g k l =
    elim (cases_lt k n) [
      | inl before ↦ h k before
      | inr behind ↦
          let same : wrapped ((a + n) % 2 ^ 32 + (k - n)) ≡ wrapped (a + k) = omega arith in
          subst (λ q. IsSome (get m q)) same (g (k - n) (omega arith))
    ]

-- an address that was taken modulo 2 ^ 32 has the same byte
pub byte_at_wrapped : (m : Memory) (at : ℕ) → byte_at m at ≡ byte_at m (at % 2 ^ 32)
byte_at_wrapped m at = ap (get m) (let e : at % 2 ^ 32 ≡ at % 2 ^ 32 % 2 ^ 32 = omega arith in e)

-- the half and the word that lie in one page
module _ (numbers bytes : List ℕ) (h : AreKept numbers bytes) (i at : ℕ) (l : i < length numbers) (is : get_or numbers i 0 ≡ at / 4096) where
  pub half_kept : at % 4096 ≤ 4094 → let start = i * 4096 + at % 4096 in number_at (memory_kept numbers bytes) at 2 ≡ Some (get_or bytes start 0 + get_or bytes (start + 1) 0 * 2 ^ 8)
  half_kept inside = ap (option_map little_endian) (bytes_kept numbers bytes h i l 2 (at % 4096) at (i * 4096 + at % 4096) (omega arith) refl (omega arith)) ∙ ap Some (omega arith)

  pub word_kept : at % 4096 ≤ 4092 → let start = i * 4096 + at % 4096 in word_at (memory_kept numbers bytes) at ≡ Some (get_or bytes start 0 + get_or bytes (start + 1) 0 * 2 ^ 8 + get_or bytes (start + 2) 0 * 2 ^ 16 + get_or bytes (start + 3) 0 * 2 ^ 24)
  word_kept inside =
      let start : ℕ = i * 4096 + at % 4096 in
      let second : get_or bytes (start + 1 + 1) 0 ≡ get_or bytes (start + 2) 0 = ap (λ k. get_or bytes k 0) (let e : start + 1 + 1 ≡ start + 2 = omega arith in e) in
      let third : get_or bytes (start + 1 + 1 + 1) 0 ≡ get_or bytes (start + 3) 0 = ap (λ k. get_or bytes k 0) (let e : start + 1 + 1 + 1 ≡ start + 3 = omega arith in e) in
      ap (option_map little_endian) (bytes_kept numbers bytes h i l 4 (at % 4096) at start (omega arith) refl (omega arith)) ∙ ap Some (omega (arith, second, third))

-- bytes that lie in one page that is mapped
pub page_mapped : (numbers bytes : List ℕ) → AreKept numbers bytes → (i : ℕ) → i < length numbers → (at n : ℕ) → get_or numbers i 0 ≡ at / 4096 → at % 4096 + n ≤ 4096 → IsMapped (memory_kept numbers bytes) at n
page_mapped numbers bytes h i l at n is fits =
    bytes_mapped (memory_kept numbers bytes) n at _ (bytes_kept numbers bytes h i l n (at % 4096) at (i * 4096 + at % 4096) (omega arith) refl fits)

-- numbers of which the first byte isn't mapped
pub number_not_kept : (numbers bytes : List ℕ) → AreKept numbers bytes → (at n : ℕ) → at < 2 ^ 32 → 0 < n → ((k : ℕ) → k < length numbers → get_or numbers k 0 ≡ at / 4096 → ⊥) → number_at (memory_kept numbers bytes) at n ≡ None
number_not_kept numbers bytes h at n fits some missing =
    let here : at + 0 ≡ at = omega arith in
    ap (option_map little_endian) (bytes_at_missing (memory_kept numbers bytes) n 0 at some (ap (byte_at (memory_kept numbers bytes)) here ∙ byte_not_kept numbers bytes h at fits missing))
