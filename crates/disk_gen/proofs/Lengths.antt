-- The periodic list has four actions for each step.
use Rattle.std.proofs.Common.{◌≡◌, ℕ, zero, suc, ◌+◌, ◌-◌, ◌*◌, ◌≤◌, ◌++◌, Bool, true, false, cond, [], ◌∷◌, length, length-append, refl, ap, inl, inr, arith}
use Rattle.std.proofs.lemmas.Bool.{cases_lt}
use Rattle.plan_types.specs.declared.action.Action.TheVariants.{EndReverse}
use Rattle.level_book.specs.BookCosts.{BookCosts, room}
use Rattle.binomials.specs.Advances.{split}
use Rattle.binomials.specs.Laws.{IsStretch}
use Rattle.revolve_gen.specs.RevolveList.{one_step, fresh, held}
use Rattle.revolve_gen.proofs.RevolveRules.{fresh_one, held_one, fresh_next, held_next, planned, split_of}
use Rattle.disk_gen.specs.Laws.{PeriodicIsCounted}
use Rattle.disk_gen.specs.PeriodicList.{images, ahead, back, last_steps}
use Rattle.disk_gen.proofs.StretchCounts.{images_fit, last_some, last_planned, each_planned}

one_long : (first : Bool) (b : ℕ) → length (one_step first b) ≡ 2 + cond first 1 0
one_long true b = refl
one_long false b = refl

-- a stretch has four actions for each step, but for one or two
record AreLong (level : ℕ → ℕ) (l : ℕ) : Type 0 where
  fresh_long : (first : Bool) (b c p : ℕ) → IsStretch l c → length (fresh l level first b l c p) + 2 ≡ 4 * l + cond first 1 0
  held_long : (b c p : ℕ) → IsStretch l c → length (held l level b l c p) + 1 ≡ 4 * l

are_long : (n : ℕ) (level : ℕ → ℕ) (l : ℕ) → 1 ≤ l → l ≤ n → AreLong level l
are_long zero level l some few = absurd (omega (arith, some, few))
are_long (suc n) level l some few = elim (cases_lt 1 l) [
  | inr le ↦
      let one : l ≡ 1 = omega (arith, le, some) in
      record {
        fresh_long = λ first b c p s. omega (arith, one, ap length (fresh_one l level first b l c p one), one_long first b);
        held_long = λ b c p s. omega (arith, one, ap length (held_one l level b l c p one), one_long false b);
      }
  | inl lt ↦
      let two : 2 ≤ l = omega (arith, lt) in
      record {
        fresh_long = λ first b c p s.
            let j = split l c in
            let is = split_of l c s two in
            let shorter = is.shorter in
            let later = are_long n level (l - j) is.after.some (omega (arith, few, is.before.some)) in
            let sooner = are_long n level j is.before.some (omega (arith, few, shorter)) in
            let x = later.fresh_long first (b + j) (c - 1) (p + 1) is.after in
            let y = sooner.held_long b c p is.before in
            let both = length-append (fresh (l - j) level first (b + j) (l - j) (c - 1) (p + 1)) (held j level b j c p) in
            omega (arith, ap length (fresh_next level first b l c p s two), x, y, both, shorter);
        held_long = λ b c p s.
            let j = split l c in
            let is = split_of l c s two in
            let shorter = is.shorter in
            let later = are_long n level (l - j) is.after.some (omega (arith, few, is.before.some)) in
            let sooner = are_long n level j is.before.some (omega (arith, few, shorter)) in
            let x = later.fresh_long false (b + j) (c - 1) (p + 1) is.after in
            let y = sooner.held_long b c p is.before in
            let both = length-append (fresh (l - j) level false (b + j) (l - j) (c - 1) (p + 1)) (held j level b j c p) in
            omega (arith, ap length (held_next level b l c p s two), x, y, both, shorter);
      }
]

fresh_long : (level : ℕ → ℕ) (first : Bool) (b l c p : ℕ) → IsStretch l c → length (fresh l level first b l c p) + 2 ≡ 4 * l + cond first 1 0
fresh_long level first b l c p s = (are_long l level l s.some (omega arith)).fresh_long first b c p s

ahead_long : (period i n : ℕ) → length (ahead period i n) ≡ n
ahead_long period i zero = refl
ahead_long period i (suc n) = let rest = ahead_long period (suc i) n in omega (arith, rest)

back_long : (period c n : ℕ) → (1 ≤ n → IsStretch period c) → length (back period c n) + n ≡ n * (4 * period)
back_long period c zero stretch = omega arith
back_long period c (suc n) stretch =
    let here = fresh_long (λ _. 0) false (n * period) period c 0 (stretch (omega arith)) in
    let rest = back_long period c n (λ some. stretch (omega arith)) in
    let both = length-append (fresh period (λ _. 0) false (n * period) period c 0) (back period c n) in
    omega (arith, here, rest, both)

pub periodic_counted : (steps period : ℕ) (book : BookCosts) → PeriodicIsCounted steps period book
periodic_counted zero period book some more plan = absurd (omega (arith, some))
periodic_counted (suc m) period book some more plan =
    let steps = suc m in
    let c = room book 0 steps in
    let n = images steps period in
    let last = last_steps steps period in
    let first = ahead_long period 0 n in
    let end = fresh_long (λ _. 0) true (n * period) last c 0 (planned last c (last_planned steps period book more plan) (last_some steps period some more)) in
    let rest = back_long period c n (λ images_some. planned period c (each_planned steps period book more plan images_some) more) in
    let fit = images_fit steps period some more in
    let is : last ≡ steps - n * period = refl in
    let a = length-append (ahead period 0 n) (fresh last (λ _. 0) true (n * period) last c 0 ++ (back period c n ++ EndReverse ∷ [])) in
    let b = length-append (fresh last (λ _. 0) true (n * period) last c 0) (back period c n ++ EndReverse ∷ []) in
    let d = length-append (back period c n) (EndReverse ∷ []) in
    omega (arith, first, end, rest, fit.0, is, a, b, d)
