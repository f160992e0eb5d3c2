-- A binomial number from the one before it.
use Rattle.std.proofs.Common.{◌≡◌, ℕ, zero, suc, ◌+◌, ◌-◌, ◌*◌, ◌/◌, ◌<◌, ◌≤◌, min, ℤ, pos, negsuc, false, refl, sym, ◌∙◌, ap, subst, arith, add-one, add-zero, add-suc, true≢false}
use lib.IntN.{nat_abs}
use lib.Signed.{lt_z}
use Rattle.std.proofs.Math.Nat.{mul-div_cancel}
use Rattle.binomials.specs.Binomials.{beta, beta_of, beta_before, factorial}
use Rattle.binomials.specs.Laws.{BetaIsBinomial}
use Rattle.binomials.specs.ClimbState.{IsClimb}
use Rattle.binomials.proofs.Monotonicity.{beta_zero, beta_one, beta_above, beta_before_law, beta_before_up}

up_next : (x y z c k : ℕ) → x * suc k ≡ z * (c + suc k) → y * suc c ≡ z * (c + suc k) → (x + y) * suc c ≡ x * (c + suc (suc k))
up_next x y z c k a b = omega arith

across_next : (x y z c k : ℕ) → x * suc k ≡ z * (c + suc k) → y * suc c ≡ z * (c + suc k) → (x + y) * suc k ≡ y * (suc c + suc k)
across_next x y z c k a b = omega arith

beta_up : (c k : ℕ) → ((j : ℕ) → beta c (suc j) * suc j ≡ beta c j * (c + suc j)) → beta (suc c) k * suc c ≡ beta c k * (c + suc k)
beta_up c zero across = let e = beta_zero c in omega (arith, ap (λ b. b * (c + suc zero)) e)
beta_up c (suc k) across = up_next (beta c (suc k)) (beta (suc c) k) (beta c k) c k (across k) (beta_up c k across)

pub beta_across : (c k : ℕ) → beta c (suc k) * suc k ≡ beta c k * (c + suc k)
beta_across zero k = omega arith
beta_across (suc c) k = across_next (beta c (suc k)) (beta (suc c) k) (beta c k) c k (beta_across c k) (beta_up c k (beta_across c))

-- the product with the factorials, one step further
one_more : (b n c k f g h : ℕ) → n * suc k ≡ b * (c + suc k) → b * (f * g) ≡ h → n * (f * (suc k * g)) ≡ (c + suc k) * h
one_more b n c k f g h e is = omega (arith, ap (λ m. m * (f * g)) e, ap (λ m. (c + suc k) * m) is)

-- what is behind c + (k + 1), by one factor more
factorial_next : (c k : ℕ) → factorial (c + suc k) ≡ (c + suc k) * factorial (c + k)
factorial_next c k = ap factorial (add-suc c k) ∙ ap (λ n. n * factorial (c + k)) (sym (add-suc c k))

pub beta_binomial : (c k : ℕ) → BetaIsBinomial c k
beta_binomial c zero = omega (arith, ap (λ b. b * (factorial c * 1)) (beta_zero c), ap factorial (add-zero c))
beta_binomial c (suc k) =
    one_more (beta c k) (beta c (suc k)) c k (factorial c) (factorial k) (factorial (c + k)) (beta_across c k) (beta_binomial c k)
    ∙ sym (factorial_next c k)

pub beta_next : (c k b r : ℕ) → b ≡ beta c k → r ≡ suc k → b * (c + r) / r ≡ beta c r
beta_next c k b r e f =
    ap (λ b. b * (c + r) / r) e
    ∙ ap (λ r. beta c k * (c + r) / r) f
    ∙ ap (λ m. m / suc k) (sym (beta_across c k))
    ∙ mul-div_cancel (beta c (suc k)) (omega arith)
    ∙ ap (beta c) (sym f)

pub beta_before_next : (c k b m d r : ℕ) → b ≡ beta c k → m ≡ beta_before d k → d ≡ c + 1 → r ≡ suc k → m + b ≡ beta_before d r
beta_before_next c k b m d r e f g h =
    let law = beta_before_law c k in
    let at : beta_before d r ≡ beta_before (suc c) (suc k) = ap (λ d. beta_before d r) (g ∙ add-one c) ∙ ap (beta_before (suc c)) h in
    let before : beta_before d k ≡ beta_before (suc c) k = ap (λ d. beta_before d k) (g ∙ add-one c) in
    omega (arith, law, at, before)

pub repeats_short : (c k b l : ℕ) → 0 < c → b ≡ beta c k → b < l → k + 1 < l
repeats_short zero k b l some e h = absurd (omega arith)
repeats_short (suc c) k b l some e h = omega (arith, beta_above c k)

-- from a binomial number on that is no less than the cap
pub capped : (c : ℕ) (times : ℤ) (n done cap : ℕ) → lt_z times (pos 0) ≡ false → n ≡ nat_abs times → done ≤ n → cap ≤ beta c done → cap ≡ min (beta_of c times) cap
capped c (pos t) n done cap h e le high = omega (arith, beta_before_up c (suc done) (suc t) (omega (arith, e)))
capped c (negsuc t) n done cap h e le high = absurd (true≢false h)

-- with one slot the numbers are plain
two_of : (k : ℕ) → beta 2 k * 2 ≡ suc k * suc (suc k)
two_of zero = omega arith
two_of (suc k) = omega (arith, two_of k, beta_one (suc k))

-- the numbers up to the last of l steps with one slot
pub beta_before_one : (k : ℕ) → beta_before 1 k ≡ k
beta_before_one zero = refl
beta_before_one (suc k) = beta_one k

pub beta_before_two : (k l : ℕ) → l ≡ suc k → k * l / 2 ≡ beta_before 2 k
beta_before_two zero l e = let z : 0 * l ≡ 0 = omega arith in ap (λ n. n / 2) z
beta_before_two (suc k) l e =
    let whole : suc k * l ≡ beta 2 k * 2 = ap (λ l. suc k * l) e ∙ sym (two_of k) in
    ap (λ n. n / 2) whole ∙ mul-div_cancel (beta 2 k) (omega arith)

-- the climb with one slot
pub one_slot : (l s earlier : ℕ) → s ≡ 1 → 1 ≤ l → earlier ≡ l - 1 - 1 → IsClimb l s (record { repeats = l - 1; reached = l; before = l - 1; earlier = earlier; below = (l - 1) * l / 2 })
one_slot l s earlier e some f =
    let r = l - 1 in
    let below = beta_before_two r l (next l some) in
    subst (λ s. IsClimb l s (record { repeats = r; reached = l; before = r; earlier = earlier; below = r * l / 2 })) (sym e) (record {
      repeated = record { above = omega (arith, beta_before_one r); within = omega (arith, beta_one r) };
      reached = omega (arith, beta_one r);
      before = sym (beta_before_one r);
      earlier = f ∙ sym (beta_before_one (r - 1));
      below = below;
      no_more = omega arith;
      few = omega arith;
    })
  where
    next : (l : ℕ) → 1 ≤ l → l ≡ suc (l - 1)
    next l h = omega arith
