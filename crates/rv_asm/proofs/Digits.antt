-- Decimal digits are read as their number.
use Rattle.std.proofs.Common.{◌≡◌, ℕ, zero, suc, ◌+◌, ◌*◌, ◌/◌, ◌%◌, ◌^◌, ◌<◌, ◌≤◌, Bool, true, eqb, ltb, ◌&&◌, List, [], ◌∷◌, Option, Some, refl, sym, ap, subst, ◌∙◌, arith, inl, inr}
use Rattle.std.specs.Prelude.{decimal, option_map, slice_index}
use Rattle.std.specs.Char.{is_ascii_digit}
use Rattle.std.specs.List.{AllByRecursion}
use Rattle.std.proofs.lemmas.Bool.{cases_eq, eqb-true, ne_eqb}
use Rattle.std.proofs.lemmas.Bool.Decides.{nat_tests}
use Rattle.std.proofs.lemmas.Fmt.{decimal_digit}
use Rattle.rv_asm.specs.declared.number.Signed.{Signed}
use Rattle.rv_asm.specs.declared.number.Signed.TheVariants.{Plus, Minus}
use Rattle.rv_asm.specs.Tokens.{is_run_byte}
use Rattle.rv_asm.specs.Numbers.{digit, value_behind, decimal_of, hex_of, negative, number_of, register_of}
use Rattle.hex.specs.Hex.{lower_digits, encode_with}
use Rattle.line_texts.specs.Numbers.{hex_word}
use Rattle.line_texts.proofs.Decimal.{begins_well, decimal_is, digits_are}
use Rattle.line_texts.proofs.Steps.{both}

abbrev pub option_plus : Option ℕ → Option Signed
option_plus o = option_map (λ n. Plus n) o

pub digit_test : (c : ℕ) → 48 ≤ c → c < 58 → is_ascii_digit c ≡ true
digit_test c low high = grind (arith, nat_tests)

below : (a b : ℕ) → a < b → ltb a b ≡ true
below a b h = grind (arith, nat_tests)

one_digit : (n v next : ℕ) (c : ℕ) (rest : List ℕ) → digit c ≡ v → v < 16 → n * 16 + v ≡ next → next < 2 ^ 32 → value_behind n (c ∷ rest) ≡ value_behind next rest
unfolding value_behind
one_digit n v next c rest is low same fits =
    let value : n * 16 + digit c ≡ next = ap (λ (x : ℕ). n * 16 + x) is ∙ same in
    rw (value, is, below v 16 low, below next (2 ^ 32) fits) refl

all_read : (n : ℕ) → value_behind n [] ≡ Some n
unfolding value_behind
all_read n = refl

zero_text : (n : ℕ) → n ≡ 0 → decimal n ≡ 48 ∷ []
zero_text n is = ap decimal is ∙ decimal_digit 0 (omega arith)

pub decimal_read : (n : ℕ) → n < 2 ^ 32 → decimal_of (decimal n) ≡ Some n
decimal_read n small = decimal_is 0xFFFFFFFF n (omega arith) (omega arith)

zero_digits : decimal_of (48 ∷ []) ≡ Some 0
zero_digits = ap decimal_of (sym (zero_text 0 refl)) ∙ decimal_read 0 (omega arith)

-- ---- registers

register_is : (cs : List ℕ) (n : ℕ) → decimal_of cs ≡ Some n → n < 32 → register_of (120 ∷ cs) ≡ Some n
unfolding register_of
register_is cs n is low = rw (is, below n 32 low) refl

pub register_read : (n : ℕ) → n < 32 → register_of (120 ∷ decimal n) ≡ Some n
register_read n low = register_is (decimal n) n (decimal_read n (omega arith)) low

-- ---- numbers

plus_one : (c : ℕ) → number_of (c ∷ []) ≡ option_plus (decimal_of (c ∷ []))
unfolding number_of
plus_one c = refl

plus_more : (c d : ℕ) (cs : List ℕ) → 48 < c → c < 58 → number_of (c ∷ d ∷ cs) ≡ option_plus (decimal_of (c ∷ d ∷ cs))
unfolding number_of
plus_more c d cs low high = rw (ne_eqb c 45 (omega arith), ne_eqb c 48 (omega arith)) refl

minus_more : (d : ℕ) (cs : List ℕ) → number_of (45 ∷ d ∷ cs) ≡ negative (decimal_of (d ∷ cs))
unfolding number_of
minus_more d cs = refl

plus_digits : (c : ℕ) (cs : List ℕ) → 48 < c → c < 58 → number_of (c ∷ cs) ≡ option_plus (decimal_of (c ∷ cs))
plus_digits c [] low high = plus_one c
plus_digits c (d ∷ cs) low high = plus_more c d cs low high

abbrev pub some_signed : Signed → Option Signed
some_signed s = Some s

pub plus_read : (n : ℕ) → n < 2 ^ 32 → number_of (decimal n) ≡ Some (Plus n)
plus_read n small = elim (cases_eq n 0) [
  | inl zero_is ↦ ap number_of (zero_text n zero_is) ∙ plus_one 48 ∙ ap option_plus zero_digits ∙ ap (λ (k : ℕ). some_signed (Plus k)) (sym zero_is)
  | inr some ↦
      let b = begins_well n (omega arith) (omega arith) in
      ap number_of b.parts ∙ plus_digits b.first b.others b.low b.high ∙ ap option_plus (ap decimal_of (sym b.parts) ∙ decimal_read n small)
]

pub minus_read : (n : ℕ) → 0 < n → n < 2 ^ 32 → number_of (45 ∷ decimal n) ≡ Some (Minus n)
minus_read n some small =
    let b = begins_well n some (omega arith) in
    ap (λ (ds : List ℕ). number_of (45 ∷ ds)) b.parts ∙ minus_more b.first b.others
    ∙ ap negative (ap decimal_of (sym b.parts) ∙ decimal_read n small)
    ∙ other n some
  where
    other : (n : ℕ) → 0 < n → negative (Some n) ≡ Some (Minus n)
    other n some = rw (ne_eqb n 0 (omega arith)) refl

-- ---- hexadecimal digits

-- what holds of each of the sixteen digits, by a test that computes
abbrev all_pass : (ℕ → Bool) → ℕ → Bool
all_pass test zero = true
all_pass test (suc n) = test n && all_pass test n

passes : (test : ℕ → Bool) (n k : ℕ) → all_pass test n ≡ true → k < n → test k ≡ true
passes test zero k all low = absurd (omega arith)
passes test (suc n) k all low =
    let p = both (test n) (all_pass test n) all in
    elim (cases_eq k n) [
      | inl last ↦ ap test last ∙ p.0
      | inr before ↦ passes test n k p.1 (omega arith)
    ]

abbrev hex_digit : ℕ → ℕ
hex_digit d = slice_index lower_digits d

hex_value : (d : ℕ) → d < 16 → digit (hex_digit d) ≡ d
hex_value d low = eqb-true _ _ (passes (λ k. eqb (digit (hex_digit k)) k) 16 d refl low)

hex_is_run : (d : ℕ) → d < 16 → is_run_byte (hex_digit d) ≡ true
hex_is_run d low = passes (λ k. is_run_byte (hex_digit k)) 16 d refl low

-- the digits of a word, one by one
abbrev eight : ℕ → List ℕ
eight w =
    let a : ℕ = w / 256 ^ 3 % 256 in
    let b : ℕ = w / 256 ^ 2 % 256 in
    let c : ℕ = w / 256 ^ 1 % 256 in
    let d : ℕ = w % 256 in
    hex_digit (a / 16) ∷ hex_digit (a % 16) ∷ hex_digit (b / 16) ∷ hex_digit (b % 16)
    ∷ hex_digit (c / 16) ∷ hex_digit (c % 16) ∷ hex_digit (d / 16) ∷ hex_digit (d % 16) ∷ []

pub hex_digits : (w : ℕ) → hex_word w ≡ eight w
unfolding encode_with
hex_digits w = refl

hex_behind : (n k next : ℕ) (rest : List ℕ) → k < 16 → n * 16 + k ≡ next → next < 2 ^ 32 → value_behind n (hex_digit k ∷ rest) ≡ value_behind next rest
hex_behind n k next rest low same fits = one_digit n k next (hex_digit k) rest (hex_value k low) low same fits

eight_read : (w : ℕ) → w < 2 ^ 32 → value_behind 0 (eight w) ≡ Some w
eight_read w small =
    let a : ℕ = w / 256 ^ 3 % 256 in
    let b : ℕ = w / 256 ^ 2 % 256 in
    let c : ℕ = w / 256 ^ 1 % 256 in
    let d : ℕ = w % 256 in
    let r1 : List ℕ = hex_digit (d % 16) ∷ [] in
    let r2 : List ℕ = hex_digit (d / 16) ∷ r1 in
    let r3 : List ℕ = hex_digit (c % 16) ∷ r2 in
    let r4 : List ℕ = hex_digit (c / 16) ∷ r3 in
    let r5 : List ℕ = hex_digit (b % 16) ∷ r4 in
    let r6 : List ℕ = hex_digit (b / 16) ∷ r5 in
    let r7 : List ℕ = hex_digit (a % 16) ∷ r6 in
    hex_behind 0 (a / 16) (w / 2 ^ 28) r7 (omega arith) (omega arith) (omega arith)
    ∙ hex_behind (w / 2 ^ 28) (a % 16) (w / 2 ^ 24) r6 (omega arith) (omega arith) (omega arith)
    ∙ hex_behind (w / 2 ^ 24) (b / 16) (w / 2 ^ 20) r5 (omega arith) (omega arith) (omega arith)
    ∙ hex_behind (w / 2 ^ 20) (b % 16) (w / 2 ^ 16) r4 (omega arith) (omega arith) (omega arith)
    ∙ hex_behind (w / 2 ^ 16) (c / 16) (w / 2 ^ 12) r3 (omega arith) (omega arith) (omega arith)
    ∙ hex_behind (w / 2 ^ 12) (c % 16) (w / 2 ^ 8) r2 (omega arith) (omega arith) (omega arith)
    ∙ hex_behind (w / 2 ^ 8) (d / 16) (w / 2 ^ 4) r1 (omega arith) (omega arith) (omega arith)
    ∙ hex_behind (w / 2 ^ 4) (d % 16) w [] (omega arith) (omega arith) small
    ∙ all_read w

hex_whole : (w : ℕ) → hex_of (eight w) ≡ value_behind 0 (eight w)
unfolding hex_of
hex_whole w = refl

hex_number : (cs : List ℕ) → number_of (48 ∷ 120 ∷ cs) ≡ option_plus (hex_of cs)
unfolding number_of
hex_number cs = refl

pub hex_read : (w : ℕ) → w < 2 ^ 32 → number_of (48 ∷ 120 ∷ hex_word w) ≡ Some (Plus w)
hex_read w small = hex_number (hex_word w) ∙ ap option_plus (ap hex_of (hex_digits w) ∙ hex_whole w ∙ eight_read w small)

-- ---- bytes of a run

abbrev pub AreRun : List ℕ → Type 0
AreRun bs = AllByRecursion (λ b. is_run_byte b ≡ true) bs

digit_is_run : (b : ℕ) → 48 ≤ b → b < 58 → is_run_byte b ≡ true
digit_is_run b low high = grind (arith, nat_tests)

pub decimal_run : (n : ℕ) → n < 2 ^ 64 → AreRun (decimal n)
decimal_run n small = digits_are is_run_byte digit_is_run n small

pub hex_run : (w : ℕ) → AreRun (hex_word w)
hex_run w = subst AreRun (sym (hex_digits w)) (eight_run w)
  where
    eight_run : (w : ℕ) → AreRun (eight w)
    eight_run w =
        let a : ℕ = w / 256 ^ 3 % 256 in
        let b : ℕ = w / 256 ^ 2 % 256 in
        let c : ℕ = w / 256 ^ 1 % 256 in
        let d : ℕ = w % 256 in
        let high : (n : ℕ) → n < 256 → is_run_byte (hex_digit (n / 16)) ≡ true = λ n low. hex_is_run (n / 16) (omega arith) in
        let low : (n : ℕ) → is_run_byte (hex_digit (n % 16)) ≡ true = λ n. hex_is_run (n % 16) (omega arith) in
        (high a (omega arith), (low a, (high b (omega arith), (low b, (high c (omega arith), (low c, (high d (omega arith), (low d, tt))))))))
