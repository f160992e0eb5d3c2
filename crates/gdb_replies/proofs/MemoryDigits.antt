-- The digits of mapped bytes, one byte after the other.
use Rattle.std.proofs.Common.{◌≡◌, ◌+◌, ◌-◌, ◌%◌, ◌^◌, ◌<◌, ◌≤◌, ◌++◌, ◌∙◌, [], ◌∷◌, ℕ, suc, Some, None, refl, sym, ap, arith}
use Rattle.std.proofs.Math.Nat.{mod-mod}
use Rattle.hex.specs.Hex.{encode_with, encode_lower}
use Rattle.rv_pages.specs.Memory.{Memory, byte_at}
use Rattle.gdb_replies.specs.StateTexts.{mapped_bytes}

-- of an address only what is left modulo 2 ^ 32 matters
byte_at_wrapped : (m : Memory) (at : ℕ) → byte_at m (at % 2 ^ 32) ≡ byte_at m at
byte_at_wrapped m at = rw (mod-mod at (2 ^ 32)) refl

-- some bytes are left
one_left : (k n : ℕ) → k < n → n - k ≡ suc (n - (k + 1))
one_left k n h = omega arith

none_left : (k n : ℕ) → n ≤ k → n - k ≡ 0
none_left k n h = omega arith

pub mapped_none : (m : Memory) (at k n : ℕ) → k < n → byte_at m ((at + k) % 2 ^ 32) ≡ None → encode_lower (mapped_bytes m (at + k) (n - k)) ≡ []
unfolding encode_with
mapped_none m at k n h e =
    let none = sym (byte_at_wrapped m (at + k)) ∙ e in
    rw (one_left k n h, none) refl

pub mapped_some : (m : Memory) (at k n b : ℕ) → k < n → byte_at m ((at + k) % 2 ^ 32) ≡ Some b →
    encode_lower (mapped_bytes m (at + k) (n - k)) ≡ encode_lower (b ∷ []) ++ encode_lower (mapped_bytes m (at + (k + 1)) (n - (k + 1)))
unfolding encode_with
mapped_some m at k n b h e =
    let some = sym (byte_at_wrapped m (at + k)) ∙ e in
    let next : at + k + 1 ≡ at + (k + 1) = omega arith in
    rw (one_left k n h, some) (ap (λ a. encode_lower (b ∷ []) ++ encode_lower (mapped_bytes m a (n - (k + 1)))) next)

pub mapped_end : (m : Memory) (at k n : ℕ) → n ≤ k → encode_lower (mapped_bytes m at (n - k)) ≡ []
unfolding encode_with
mapped_end m at k n h = rw (none_left k n h) refl
