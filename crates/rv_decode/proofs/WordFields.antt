-- The fields of a word of given fields, and the immediates of the formats.
use Rattle.std.proofs.Common.{◌≡◌, ℕ, suc, ◌+◌, ◌-◌, ◌*◌, ◌/◌, ◌%◌, ◌^◌, ◌<◌, ◌≤◌, Bool, cond, inl, inr, ◌⊎◌, refl, ap, ◌∙◌, arith}
use Rattle.std.proofs.lemmas.Bool.Decides.{leb_tells}
use Rattle.rv_decode.specs.Formats.{opcode, rd, funct3, rs1, rs2, funct7, sign_extended, imm_i, imm_s, imm_b, imm_u, imm_j}
use Rattle.rv_decode.specs.Ranges.{IsSigned}
use Rattle.rv_decode.specs.Words.{word_r, word_i, word_s, word_b, word_u, word_j}

-- a word is that of its fields
pub whole : (w : ℕ) → w < 2 ^ 32 → word_r (opcode w) (funct3 w) (funct7 w) (rd w) (rs1 w) (rs2 w) ≡ w
whole w h = omega arith

-- what the fields of a word of fields are
pub opcode_r : (code f3 f7 d a b : ℕ) → code < 2 ^ 7 → opcode (word_r code f3 f7 d a b) ≡ code
opcode_r code f3 f7 d a b h = omega arith

pub rd_r : (code f3 f7 d a b : ℕ) → code < 2 ^ 7 → d < 32 → rd (word_r code f3 f7 d a b) ≡ d
rd_r code f3 f7 d a b h i = omega arith

pub funct3_r : (code f3 f7 d a b : ℕ) → code < 2 ^ 7 → d < 32 → f3 < 8 → funct3 (word_r code f3 f7 d a b) ≡ f3
funct3_r code f3 f7 d a b h i j = omega arith

pub rs1_r : (code f3 f7 d a b : ℕ) → code < 2 ^ 7 → d < 32 → f3 < 8 → a < 32 → rs1 (word_r code f3 f7 d a b) ≡ a
rs1_r code f3 f7 d a b h i j k = omega arith

pub rs2_r : (code f3 f7 d a b : ℕ) → code < 2 ^ 7 → d < 32 → f3 < 8 → a < 32 → b < 32 → rs2 (word_r code f3 f7 d a b) ≡ b
rs2_r code f3 f7 d a b h i j k l = omega arith

pub funct7_r : (code f3 f7 d a b : ℕ) → code < 2 ^ 7 → d < 32 → f3 < 8 → a < 32 → b < 32 → f7 < 2 ^ 7 → funct7 (word_r code f3 f7 d a b) ≡ f7
funct7_r code f3 f7 d a b h i j k l m = omega arith

-- a number without and with a sign
pub sign_cases : (width n : ℕ) → ((n < 2 ^ (width - 1)) × (sign_extended width n ≡ n)) ⊎ ((2 ^ (width - 1) ≤ n) × (sign_extended width n ≡ n + 2 ^ 32 - 2 ^ width))
sign_cases width n =
    let P : Bool → ℕ = λ b. cond b n (n + 2 ^ 32 - 2 ^ width) in
    elim (leb_tells (suc n) (2 ^ (width - 1))) [
      | inl below ↦ inl (omega (arith, below.1), ap P below.0)
      | inr above ↦ inr (omega (arith, above.1), ap P above.0)
    ]

-- the low bits of a number with its sign are the number, and one that has its sign is that of its low bits
low_12 : (n : ℕ) → n < 2 ^ 12 → sign_extended 12 n % 2 ^ 12 ≡ n
low_12 n h = elim (sign_cases 12 n) [ inl p ↦ omega (arith, p.0, p.1) | inr p ↦ omega (arith, p.0, p.1) ]

low_13 : (n : ℕ) → n < 2 ^ 13 → sign_extended 13 n % 2 ^ 13 ≡ n
low_13 n h = elim (sign_cases 13 n) [ inl p ↦ omega (arith, p.0, p.1) | inr p ↦ omega (arith, p.0, p.1) ]

low_21 : (n : ℕ) → n < 2 ^ 21 → sign_extended 21 n % 2 ^ 21 ≡ n
low_21 n h = elim (sign_cases 21 n) [ inl p ↦ omega (arith, p.0, p.1) | inr p ↦ omega (arith, p.0, p.1) ]

extended_12 : (m n : ℕ) → IsSigned 12 m → n ≡ m % 2 ^ 12 → sign_extended 12 n ≡ m
extended_12 m n h e =
    elim (sign_cases 12 n) [
      | inl p ↦ elim h [ inl s ↦ omega (arith, p.0, p.1) | inr s ↦ omega (arith, p.0, p.1, s.0, s.1) ]
      | inr p ↦ elim h [ inl s ↦ omega (arith, p.0, p.1) | inr s ↦ omega (arith, p.0, p.1, s.0, s.1) ]
    ]

extended_13 : (m n : ℕ) → IsSigned 13 m → n ≡ m % 2 ^ 13 → sign_extended 13 n ≡ m
extended_13 m n h e =
    elim (sign_cases 13 n) [
      | inl p ↦ elim h [ inl s ↦ omega (arith, p.0, p.1) | inr s ↦ omega (arith, p.0, p.1, s.0, s.1) ]
      | inr p ↦ elim h [ inl s ↦ omega (arith, p.0, p.1) | inr s ↦ omega (arith, p.0, p.1, s.0, s.1) ]
    ]

pub extended_21 : (m n : ℕ) → IsSigned 21 m → n ≡ m % 2 ^ 21 → sign_extended 21 n ≡ m
extended_21 m n h e =
    elim (sign_cases 21 n) [
      | inl p ↦ elim h [ inl s ↦ omega (arith, p.0, p.1) | inr s ↦ omega (arith, p.0, p.1, s.0, s.1) ]
      | inr p ↦ elim h [ inl s ↦ omega (arith, p.0, p.1) | inr s ↦ omega (arith, p.0, p.1, s.0, s.1) ]
    ]

-- a word is that of its fields and its immediate, by the formats
pub whole_i : (w : ℕ) → w < 2 ^ 32 → word_i (opcode w) (funct3 w) (rd w) (rs1 w) (imm_i w) ≡ w
whole_i w h =
    let low = low_12 (w / 2 ^ 20 % 2 ^ 12) (omega arith) in
    let high : imm_i w / 2 ^ 5 % 2 ^ 7 ≡ funct7 w = omega (arith, low) in
    let end : imm_i w % 2 ^ 5 ≡ rs2 w = omega (arith, low) in
    (λ i. word_r (opcode w) (funct3 w) (high i) (rd w) (rs1 w) (end i)) ∙ whole w h

pub whole_s : (w : ℕ) → w < 2 ^ 32 → word_s (opcode w) (funct3 w) (rs1 w) (rs2 w) (imm_s w) ≡ w
whole_s w h =
    let low = low_12 (funct7 w * 2 ^ 5 + rd w) (omega arith) in
    let high : imm_s w / 2 ^ 5 % 2 ^ 7 ≡ funct7 w = omega (arith, low) in
    let end : imm_s w % 2 ^ 5 ≡ rd w = omega (arith, low) in
    (λ i. word_r (opcode w) (funct3 w) (high i) (end i) (rs1 w) (rs2 w)) ∙ whole w h

-- the bits of an immediate of format B, as numbers
parts_b : (n s a b c d : ℕ) → n ≡ a * 2 ^ 12 + b * 2 ^ 11 + c * 2 ^ 5 + d * 2 ^ 1 → a < 2 → b < 2 → c < 2 ^ 6 → d < 2 ^ 4 → s % 2 ^ 13 ≡ n → (s / 2 ^ 12 % 2 ≡ a) × (s / 2 ^ 11 % 2 ≡ b) × (s / 2 ^ 5 % 2 ^ 6 ≡ c) × (s / 2 % 2 ^ 4 ≡ d)
parts_b n s a b c d e ha hb hc hd low = (omega arith, omega arith, omega arith, omega arith)

pub whole_b : (w : ℕ) → w < 2 ^ 32 → word_b (opcode w) (funct3 w) (rs1 w) (rs2 w) (imm_b w) ≡ w
whole_b w h =
    let a : ℕ = w / 2 ^ 31 % 2 in
    let b : ℕ = w / 2 ^ 7 % 2 in
    let c : ℕ = w / 2 ^ 25 % 2 ^ 6 in
    let d : ℕ = w / 2 ^ 8 % 2 ^ 4 in
    let n : ℕ = a * 2 ^ 12 + b * 2 ^ 11 + c * 2 ^ 5 + d * 2 ^ 1 in
    let low = low_13 n (omega arith) in
    let p = parts_b n (imm_b w) a b c d refl (omega arith) (omega arith) (omega arith) (omega arith) low in
    let high : a * 2 ^ 6 + c ≡ funct7 w = omega arith in
    let end : d * 2 + b ≡ rd w = omega arith in
    (λ i. word_r (opcode w) (funct3 w) (p.0 i * 2 ^ 6 + p.2 i) (p.3 i * 2 + p.1 i) (rs1 w) (rs2 w)) ∙ (λ i. word_r (opcode w) (funct3 w) (high i) (end i) (rs1 w) (rs2 w)) ∙ whole w h

pub whole_u : (w : ℕ) → w < 2 ^ 32 → word_u (opcode w) (rd w) (imm_u w) ≡ w
whole_u w h = omega arith

parts_j : (n s a b c d : ℕ) → n ≡ a * 2 ^ 20 + b * 2 ^ 12 + c * 2 ^ 11 + d * 2 ^ 1 → a < 2 → b < 2 ^ 8 → c < 2 → d < 2 ^ 10 → s % 2 ^ 21 ≡ n → (s / 2 ^ 20 % 2 ≡ a) × (s / 2 ^ 12 % 2 ^ 8 ≡ b) × (s / 2 ^ 11 % 2 ≡ c) × (s / 2 % 2 ^ 10 ≡ d)
parts_j n s a b c d e ha hb hc hd low = (omega arith, omega arith, omega arith, omega arith)

pub whole_j : (w : ℕ) → w < 2 ^ 32 → word_j (opcode w) (rd w) (imm_j w) ≡ w
whole_j w h =
    let a : ℕ = w / 2 ^ 31 % 2 in
    let b : ℕ = w / 2 ^ 12 % 2 ^ 8 in
    let c : ℕ = w / 2 ^ 20 % 2 in
    let d : ℕ = w / 2 ^ 21 % 2 ^ 10 in
    let n : ℕ = a * 2 ^ 20 + b * 2 ^ 12 + c * 2 ^ 11 + d * 2 ^ 1 in
    let low = low_21 n (omega arith) in
    let p = parts_j n (imm_j w) a b c d refl (omega arith) (omega arith) (omega arith) (omega arith) low in
    let all : opcode w + rd w * 2 ^ 7 + b * 2 ^ 12 + c * 2 ^ 20 + d * 2 ^ 21 + a * 2 ^ 31 ≡ w = omega arith in
    (λ i. opcode w + rd w * 2 ^ 7 + p.1 i * 2 ^ 12 + p.2 i * 2 ^ 20 + p.3 i * 2 ^ 21 + p.0 i * 2 ^ 31) ∙ all

-- the immediate of a word of fields, by the formats
pub imm_i_r : (w m : ℕ) → IsSigned 12 m → funct7 w ≡ m / 2 ^ 5 % 2 ^ 7 → rs2 w ≡ m % 2 ^ 5 → imm_i w ≡ m
imm_i_r w m h e f = extended_12 m (w / 2 ^ 20 % 2 ^ 12) h (omega arith)

pub imm_s_r : (w m : ℕ) → IsSigned 12 m → funct7 w ≡ m / 2 ^ 5 % 2 ^ 7 → rd w ≡ m % 2 ^ 5 → imm_s w ≡ m
imm_s_r w m h e f = extended_12 m (funct7 w * 2 ^ 5 + rd w) h (omega arith)

pub imm_b_r : (w m : ℕ) → IsSigned 13 m → m % 2 ≡ 0 → funct7 w ≡ m / 2 ^ 12 % 2 * 2 ^ 6 + m / 2 ^ 5 % 2 ^ 6 → rd w ≡ m / 2 % 2 ^ 4 * 2 + m / 2 ^ 11 % 2 → imm_b w ≡ m
imm_b_r w m h even e f =
    let a : w / 2 ^ 31 % 2 ≡ m / 2 ^ 12 % 2 = omega arith in
    let b : w / 2 ^ 7 % 2 ≡ m / 2 ^ 11 % 2 = omega arith in
    let c : w / 2 ^ 25 % 2 ^ 6 ≡ m / 2 ^ 5 % 2 ^ 6 = omega arith in
    let d : w / 2 ^ 8 % 2 ^ 4 ≡ m / 2 % 2 ^ 4 = omega arith in
    extended_13 m (w / 2 ^ 31 % 2 * 2 ^ 12 + w / 2 ^ 7 % 2 * 2 ^ 11 + w / 2 ^ 25 % 2 ^ 6 * 2 ^ 5 + w / 2 ^ 8 % 2 ^ 4 * 2 ^ 1) h (omega (arith, a, b, c, d))
