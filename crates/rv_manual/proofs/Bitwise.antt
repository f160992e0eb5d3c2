-- The operations on single bits.
use Rattle.std.proofs.Common.{◌≡◌, ℕ, zero, suc, ◌+◌, ◌*◌, ◌%◌, ◌^◌, ◌<◌, min, max, bit_and, bit_or, bit_xor, sym, ap, ◌∙◌, arith}
use Rattle.std.proofs.lemmas.Nat.{xor_of_32, or_of_32, mod-pow-add}
use Rattle.std.proofs.lemmas.Nat.Bits.{bit_at_and, bit_at_or, bit_at_xor}
use Rattle.std.specs.Int.{bit_at, sum_through}
use Rattle.std.specs.Int.Bits.{and_lt}
use Rattle.rv_manual.specs.Integers.{bitwise, word_of}
use Rattle.rv_manual.specs.Operations.{xor, or, and}

-- the lowest bits of a number, as a sum
low : (n k : ℕ) → sum_through (λ i. bit_at n i * 2 ^ i) k ≡ n % 2 ^ (k + 1)
low n zero = omega arith
low n (suc k) =
    let same : k + 1 ≡ suc k = omega arith in
    let whole : suc k + 1 ≡ 1 + suc k = omega arith in
    let before : sum_through (λ i. bit_at n i * 2 ^ i) k ≡ n % 2 ^ suc k = low n k ∙ ap (λ j. n % 2 ^ j) same in
    let split = mod-pow-add n 1 (suc k) in
    let there : n % 2 ^ (suc k + 1) ≡ n % 2 ^ (1 + suc k) = ap (λ j. n % 2 ^ j) whole in
    omega (arith, before, split, there)

-- a word whose bits are these
same_sum : (f g : ℕ → ℕ) (k : ℕ) → ((i : ℕ) → f i ≡ g i) → sum_through (λ i. f i * 2 ^ i) k ≡ sum_through (λ i. g i * 2 ^ i) k
same_sum f g zero h = ap (λ n. n * 2 ^ 0) (h 0)
same_sum f g (suc k) h = λ i. same_sum f g k h i + h (suc k) i * 2 ^ suc k

by_bits : (of_bits : ℕ → ℕ → ℕ) (a b n : ℕ) → n < 2 ^ 32 → ((i : ℕ) → bit_at n i ≡ of_bits (bit_at a i) (bit_at b i)) → word_of (bitwise of_bits a b) ≡ n
by_bits of_bits a b n l h =
    ap (λ m. m % 2 ^ 32) (sym (same_sum (bit_at n) (λ i. of_bits (bit_at a i) (bit_at b i)) 31 h) ∙ low n 31)
    ∙ omega arith

pub xor_is : (a b : ℕ) → a < 2 ^ 32 → b < 2 ^ 32 → word_of (xor a b) ≡ bit_xor a b
xor_is a b k l = by_bits (λ p q. (p + q) % 2) a b (bit_xor a b) (xor_of_32 a b k l) (bit_at_xor a b)

pub or_is : (a b : ℕ) → a < 2 ^ 32 → b < 2 ^ 32 → word_of (or a b) ≡ bit_or a b
or_is a b k l = by_bits max a b (bit_or a b) (or_of_32 a b k l) (bit_at_or a b)

pub and_is : (a b : ℕ) → a < 2 ^ 32 → b < 2 ^ 32 → word_of (and a b) ≡ bit_and a b
and_is a b k l = by_bits min a b (bit_and a b) (and_lt 32 a b k l) (bit_at_and a b)
