-- What a word says, by its opcode: what the rows with this opcode say.
use Rattle.std.proofs.Common.{◌≡◌, ◌≢◌, ℕ, ◌%◌, ◌^◌, ◌==◌, Bool, true, false, ◌&&◌, refl, sym, ap, ◌∙◌, arith, inl, inr, Some, None}
use Rattle.std.proofs.lemmas.Bool.Decides.{eqb_tells}
use Rattle.rv_decode.specs.declared.instruction.Inst.TheVariants.{Lui, Auipc, Jal}
use Rattle.rv_decode.specs.Formats.{opcode, rd, imm_u, imm_j}
use Rattle.rv_decode.specs.Rows.{decoded, first_of, jumps, branches, loads, stores, on_immediates, on_registers, others}

pub both_of : (a b : Bool) → (a && b) ≡ true → (a ≡ true) × (b ≡ true)
both_of true b h = (refl, h)
both_of false b h = absurd (cc)

pub not_equal : (a b : ℕ) → a ≢ b → (a == b) ≡ false
not_equal a b h = elim (eqb_tells a b) [ inl same ↦ absurd (h same.1) | inr other ↦ other.0 ]

-- a word is not one with another opcode
other_word : (w code n : ℕ) → w % 2 ^ 7 ≡ code → code ≢ n % 2 ^ 7 → (w == n) ≡ false
other_word w code n e h = not_equal w n (λ (same : w ≡ n). h (sym e ∙ ap (λ k. k % 2 ^ 7) same))

no_call : (w code : ℕ) → opcode w ≡ code → code ≢ 0b1110011 → (w == 0x00000073) ≡ false
no_call w code e h = other_word w code 0x00000073 e h

no_break : (w code : ℕ) → opcode w ≡ code → code ≢ 0b1110011 → (w == 0x00100073) ≡ false
no_break w code e h = other_word w code 0x00100073 e h

pub decoded_lui : (w : ℕ) → opcode w ≡ 0b0110111 → decoded w ≡ Some (Lui (rd w) (imm_u w))
unfolding decoded
decoded_lui w e = rw e refl

pub decoded_auipc : (w : ℕ) → opcode w ≡ 0b0010111 → decoded w ≡ Some (Auipc (rd w) (imm_u w))
unfolding decoded
decoded_auipc w e = rw e refl

pub decoded_jal : (w : ℕ) → opcode w ≡ 0b1101111 → decoded w ≡ Some (Jal (rd w) (imm_j w))
unfolding decoded
decoded_jal w e = rw e refl

pub decoded_jalr : (w : ℕ) → opcode w ≡ 0b1100111 → decoded w ≡ first_of jumps w
unfolding decoded
decoded_jalr w e = rw (e, no_call w 0b1100111 e (omega arith), no_break w 0b1100111 e (omega arith)) refl

pub decoded_branch : (w : ℕ) → opcode w ≡ 0b1100011 → decoded w ≡ first_of branches w
unfolding decoded
decoded_branch w e = rw (e, no_call w 0b1100011 e (omega arith), no_break w 0b1100011 e (omega arith)) refl

pub decoded_load : (w : ℕ) → opcode w ≡ 0b0000011 → decoded w ≡ first_of loads w
unfolding decoded
decoded_load w e = rw (e, no_call w 0b0000011 e (omega arith), no_break w 0b0000011 e (omega arith)) refl

pub decoded_store : (w : ℕ) → opcode w ≡ 0b0100011 → decoded w ≡ first_of stores w
unfolding decoded
decoded_store w e = rw (e, no_call w 0b0100011 e (omega arith), no_break w 0b0100011 e (omega arith)) refl

pub decoded_on_immediate : (w : ℕ) → opcode w ≡ 0b0010011 → decoded w ≡ first_of on_immediates w
unfolding decoded
decoded_on_immediate w e = rw (e, no_call w 0b0010011 e (omega arith), no_break w 0b0010011 e (omega arith)) refl

pub decoded_on_register : (w : ℕ) → opcode w ≡ 0b0110011 → decoded w ≡ first_of on_registers w
unfolding decoded
decoded_on_register w e = rw (e, no_call w 0b0110011 e (omega arith), no_break w 0b0110011 e (omega arith)) refl

pub decoded_fence : (w : ℕ) → opcode w ≡ 0b0001111 → decoded w ≡ first_of others w
unfolding decoded
decoded_fence w e = rw e refl

pub decoded_system : (w : ℕ) → opcode w ≡ 0b1110011 → decoded w ≡ first_of others w
unfolding decoded
decoded_system w e = rw e refl

-- a word with none of the opcodes is illegal
pub decoded_none : (w code : ℕ) → opcode w ≡ code → code ≢ 0b0110111 → code ≢ 0b0010111 → code ≢ 0b1101111 → code ≢ 0b1100111 → code ≢ 0b1100011 → code ≢ 0b0000011 → code ≢ 0b0100011 → code ≢ 0b0010011 → code ≢ 0b0110011 → code ≢ 0b0001111 → code ≢ 0b1110011 → decoded w ≡ None
unfolding decoded
decoded_none w code e a b c d f g h i j k l =
    rw (e, not_equal code _ a, not_equal code _ b, not_equal code _ c, not_equal code _ d, not_equal code _ f, not_equal code _ g, not_equal code _ h, not_equal code _ i, not_equal code _ j, not_equal code _ k, no_call w code e l, no_break w code e l) refl
