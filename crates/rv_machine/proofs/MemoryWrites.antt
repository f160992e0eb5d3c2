-- Memory after bytes are written: what isn't written is as it was.
use Rattle.std.proofs.Common.{◌≡◌, ℕ, zero, suc, ◌+◌, ◌/◌, ◌^◌, ◌<◌, ◌==◌, ◌||◌, inl, inr, Bool, true, false, cond, List, [], ◌∷◌, length, refl, sym, ap, subst, ◌∙◌, arith, Option, Some, None, IsSome, is_some}
use Rattle.std.proofs.lemmas.Bool.{false≢true, cases_eq, eq-eqb, ne_eqb}
use Rattle.std.specs.Cmp.{nat_cmp_total}
use Rattle.std.specs.List.{list_any}
use Rattle.std.specs.Option.{option_map}
use Rattle.std.specs.FinMap.{get, insert, get-insert}
use Rattle.rv_pages.specs.Memory.{Memory, wrapped, byte_at, bytes_at, number_at, low_bytes, with_bytes, IsMapped}
use Rattle.rv_pages.proofs.EntrySearch.{tied_other}
use Rattle.rv_pages.proofs.MemoryReads.{some_mapped}
use Rattle.rv_machine.specs.StateChanges.{addresses}
use Rattle.rv_machine.specs.StepChanges.{IsOutside, IsInside}

either_true : (x y : Bool) → y ≡ true → x || y ≡ true
either_true true y h = refl
either_true false y h = h

neither : (x y : Bool) → x || y ≡ false → (x ≡ false) × (y ≡ false)
neither true y h = absurd (cc)
neither false y h = (refl, h)

pub length-addresses : (at n : ℕ) → length (addresses at n) ≡ n
length-addresses at zero = refl
length-addresses at (suc n) = ap suc (length-addresses (at + 1) n)

pub length-low_bytes : (n value : ℕ) → length (low_bytes n value) ≡ n
length-low_bytes zero value = refl
length-low_bytes (suc n) value = ap suc (length-low_bytes n (value / 2 ^ 8))

-- the addresses of mapped bytes are mapped, and the other way round
first_of : (m : Memory) (at n : ℕ) → IsMapped m at (suc n) → IsSome (get m (wrapped at))
first_of m at n h = let here : at + 0 ≡ at = omega arith in subst (λ q. IsSome (byte_at m q)) here (h 0 (omega arith))

rest_of : (m : Memory) (at n : ℕ) → IsMapped m at (suc n) → IsMapped m (at + 1) n
rest_of m at n h k l = let next : at + suc k ≡ at + 1 + k = omega arith in subst (λ q. IsSome (byte_at m q)) next (h (suc k) (omega arith))

pub inside_mapped : (m : Memory) (at n : ℕ) → IsMapped m at n → (a : ℕ) → IsInside (addresses at n) a → IsSome (get m a)
inside_mapped m at zero h a inside = absurd (cc)
inside_mapped m at (suc n) h a inside =
    elim (cases_eq (wrapped at) a) [
      | inl same ↦ subst (λ q. IsSome (get m q)) same (first_of m at n h)
      | inr other ↦ inside_mapped m (at + 1) n (rest_of m at n h) a (sym (ap (λ t. t || list_any (λ x. x == a) (addresses (at + 1) n)) (ne_eqb (wrapped at) a other)) ∙ inside)
    ]

among : (n at k : ℕ) → k < n → IsInside (addresses at n) (wrapped (at + k))
among zero at k l = absurd (omega arith)
among (suc n) at zero l =
    let here : wrapped at ≡ wrapped (at + 0) = omega arith in
    ap (λ t. t || list_any (λ x. x == wrapped (at + 0)) (addresses (at + 1) n)) (eq-eqb (wrapped at) (wrapped (at + 0)) here)
among (suc n) at (suc k) l =
    let next : at + 1 + k ≡ at + suc k = omega arith in
    either_true (wrapped at == wrapped (at + suc k)) _ (subst (λ q. IsInside (addresses (at + 1) n) (wrapped q)) next (among n (at + 1) k (omega arith)))

pub mapped_inside : (m : Memory) (at n : ℕ) → ((a : ℕ) → IsInside (addresses at n) a → IsSome (get m a)) → IsMapped m at n
mapped_inside m at n h k l = h (wrapped (at + k)) (among n at k l)

some_bytes : (o : Option (List ℕ)) (f : List ℕ → ℕ) → is_some (option_map f o) ≡ true → IsSome o
some_bytes None f h = h
some_bytes (Some bs) f h = refl

pub number_mapped : (m : Memory) (at n : ℕ) → is_some (number_at m at n) ≡ true → IsMapped m at n
number_mapped m at n h = some_mapped m n at (some_bytes (bytes_at m at n) _ h)

-- a byte that isn't written is as it was
pub elsewhere : (m : Memory) (at : ℕ) (bytes : List ℕ) (a : ℕ) → IsOutside (addresses at (length bytes)) a → get (with_bytes m at bytes) a ≡ get m a
elsewhere m at [] a h = refl
elsewhere m at (b ∷ bs) a h =
    let parts = neither (wrapped at == a) (list_any (λ x. x == a) (addresses (at + 1) (length bs))) h in
    elsewhere (insert m (wrapped at) b) (at + 1) bs a parts.1
    ∙ get-insert nat_cmp_total m (wrapped at) b a
    ∙ ap (λ t. cond t (Some b) (get m a)) (tied_other a (wrapped at) (λ (e : a ≡ wrapped at). false≢true (sym parts.0 ∙ eq-eqb (wrapped at) a (sym e))))
