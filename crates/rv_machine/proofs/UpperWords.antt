-- Products and quotients of words: that they fit.
use Rattle.std.proofs.Common.{◌≡◌, ℕ, ◌-◌, ◌^◌, ◌<◌, ◌≤◌, refl, ◌∙◌, arith, ℤ, pos, negsuc, ◌*ℤ◌}
use Rattle.std.specs.Prelude.{unsigned_abs, FitsSigned}
use Rattle.std.specs.Int.{w32, w64, cast_signed, cast_unsigned, int_shr}
use Rattle.std.proofs.lemmas.Int.{to_z-of_z, to_z_pos, fits_signed_mul}
use Rattle.rv_machine.specs.Products.{as_word, upper_part, high_unsigned}

pub as_word_small : (z : ℤ) → as_word z < 2 ^ 32
as_word_small (pos n) = omega arith
as_word_small (negsuc n) = omega arith

pub high_unsigned_small : (a b : ℕ) → high_unsigned a b < 2 ^ 32
high_unsigned_small a b = as_word_small (upper_part (pos a *ℤ pos b))

-- a number of 32 bits in two's complement is that modulo 2 ^ 32
pub as_word_cast : (z : ℤ) → FitsSigned w32 z → cast_unsigned w32 z ≡ as_word z
as_word_cast (pos n) h = omega (arith, h.sfits)
as_word_cast (negsuc n) h = omega (arith, h.sfits)

-- a shift with the sign in rounds down
pub upper_shifted : (z : ℤ) → int_shr z 32 ≡ upper_part z
upper_shifted (pos n) = refl
upper_shifted (negsuc n) = refl

-- the upper part of a number of 64 bits has 32
pub upper_fits : (z : ℤ) → FitsSigned w64 z → FitsSigned w32 (upper_part z)
upper_fits (pos n) h = record { sfits = omega (arith, h.sfits) }
upper_fits (negsuc n) h = record { sfits = omega (arith, h.sfits) }

-- the upper word as the code has it, by casts that lose nothing
pub upper_cast : (z : ℤ) (n : ℕ) → FitsSigned w64 z → n ≡ cast_unsigned w32 (cast_signed w32 (cast_unsigned w32 (cast_signed w64 (cast_unsigned w64 (int_shr (cast_signed w64 (cast_unsigned w64 z)) 32))))) → n ≡ as_word (upper_part z)
upper_cast z n h e =
    let u : ℤ = upper_part z in
    let f : FitsSigned w32 u = upper_fits z h in
    let g : FitsSigned w64 u = record { sfits = omega (arith, f.sfits) } in
    e
    ∙ (λ i. cast_unsigned w32 (cast_signed w32 (cast_unsigned w32 (cast_signed w64 (cast_unsigned w64 (int_shr (to_z-of_z w64 z h i) 32))))))
    ∙ (λ i. cast_unsigned w32 (cast_signed w32 (cast_unsigned w32 (cast_signed w64 (cast_unsigned w64 (upper_shifted z i))))))
    ∙ (λ i. cast_unsigned w32 (cast_signed w32 (cast_unsigned w32 (to_z-of_z w64 u g i))))
    ∙ (λ i. cast_unsigned w32 (to_z-of_z w32 u f i))
    ∙ as_word_cast u f

-- a product as the code has it, by casts that lose nothing
abs_small : (x : ℤ) → FitsSigned w32 x → unsigned_abs x ≤ 2 ^ 31
abs_small (pos n) f = omega (arith, f.sfits)
abs_small (negsuc n) f = omega (arith, f.sfits)

wider : (x : ℤ) → FitsSigned w32 x → FitsSigned w64 x
wider x f = record { sfits = omega (arith, f.sfits) }

widened : (x : ℤ) → FitsSigned w32 x → cast_signed w64 (cast_unsigned w64 (cast_signed w32 (cast_unsigned w32 x))) ≡ x
widened x f = (λ i. cast_signed w64 (cast_unsigned w64 (to_z-of_z w32 x f i))) ∙ to_z-of_z w64 x (wider x f)

pub product_cast : (x y : ℤ) → FitsSigned w32 x → FitsSigned w32 y → cast_signed w64 (cast_unsigned w64 (cast_signed w64 (cast_unsigned w64 (cast_signed w32 (cast_unsigned w32 x))) *ℤ cast_signed w64 (cast_unsigned w64 (cast_signed w32 (cast_unsigned w32 y))))) ≡ x *ℤ y
product_cast x y f g =
    (λ i. cast_signed w64 (cast_unsigned w64 (widened x f i *ℤ widened y g i)))
    ∙ to_z-of_z w64 (x *ℤ y) (fits_signed_mul w64 x y (2 ^ 31) (2 ^ 31) (abs_small x f) (abs_small y g) (omega arith))

pub mixed_product_cast : (x : ℤ) (b : ℕ) → FitsSigned w32 x → b < 2 ^ 32 → cast_signed w64 (cast_unsigned w64 (cast_signed w64 (cast_unsigned w64 (cast_signed w32 (cast_unsigned w32 x))) *ℤ cast_signed w64 b)) ≡ x *ℤ pos b
mixed_product_cast x b f l =
    (λ i. cast_signed w64 (cast_unsigned w64 (widened x f i *ℤ to_z_pos w64 b (omega arith) i)))
    ∙ to_z-of_z w64 (x *ℤ pos b) (fits_signed_mul w64 x (pos b) (2 ^ 31) (2 ^ 32 - 1) (abs_small x f) (omega (arith, l)) (omega arith))
