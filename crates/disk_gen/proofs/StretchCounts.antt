-- How many stretches there are, and how many steps the last has.
use Rattle.std.proofs.Common.{◌≡◌, ℕ, zero, suc, ◌+◌, ◌-◌, ◌*◌, ◌%◌, ◌<◌, ◌≤◌, refl, ap, inl, inr, arith}
use Rattle.std.proofs.lemmas.Bool.{cases_lt}
use Rattle.std.proofs.lemmas.Nat.{div-add-mod', mod_below, div_below, mul-le}
use Rattle.level_book.specs.BookCosts.{BookCosts, room}
use Rattle.revolve_gen.specs.Plans as revolve
use Rattle.disk_gen.specs.PeriodicList.{stretches, images, last_steps}
use Rattle.disk_gen.specs.Plans.{HasPeriodicPlan}
use Rattle.disk_gen.specs.Laws.{StretchesAreLeast}

-- one stretch fewer is too few, and one more is enough
covered : (steps period q r : ℕ) → 1 ≤ steps → q * period + r ≡ steps + (period - 1) → r < period → ((q - 1) * period < steps) × (steps ≤ (q - 1) * period + period)
covered steps period zero r some e less = absurd (omega arith)
covered steps period (suc n) r some e less =
    let one : suc n - 1 ≡ n = omega arith in
    let same = ap (λ k. k * period) one in
    (omega arith, omega arith)

whole : (steps period : ℕ) → stretches steps period * period + (steps + (period - 1)) % period ≡ steps + (period - 1)
whole steps period = div-add-mod' (steps + (period - 1)) period

pub images_fit : (steps period : ℕ) → 1 ≤ steps → 1 ≤ period → (images steps period * period < steps) × (steps ≤ images steps period * period + period)
images_fit steps period some more =
    covered steps period (stretches steps period) ((steps + (period - 1)) % period) some (whole steps period) (mod_below (steps + (period - 1)) period (omega arith))

pub stretches_least : (steps period : ℕ) → StretchesAreLeast steps period
stretches_least steps period some =
    let q = stretches steps period in
    let r = (steps + (period - 1)) % period in
    let e = whole steps period in
    let less = mod_below (steps + (period - 1)) period (omega arith) in
    record {
      enough = omega arith;
      least = λ m h. elim (cases_lt m q) [
        | inl lt ↦ (let more = mul-le (suc m) period q period (omega arith) (omega arith) in absurd (omega arith))
        | inr ge ↦ ge
      ];
    }

-- no step has no stretch
pub no_images : (period : ℕ) → 1 ≤ period → images 0 period ≡ 0
no_images period some =
    let few = div_below (0 + (period - 1)) period 1 (omega arith) (omega arith) in
    omega arith

pub images_within : (steps period : ℕ) → 1 ≤ period → images steps period * period ≤ steps
images_within zero period some =
    let none = ap (λ n. n * period) (no_images period some) in
    omega arith
images_within (suc m) period some = let fit = images_fit (suc m) period (omega arith) some in omega (arith, fit.0)

-- the last stretch is no longer than the period, and has a step where there is one
pub last_short : (steps period : ℕ) → 1 ≤ period → last_steps steps period ≤ period
last_short zero period some =
    let e : last_steps zero period ≡ zero - images zero period * period = refl in
    omega arith
last_short (suc m) period some =
    let fit = images_fit (suc m) period (omega arith) some in
    let e : last_steps (suc m) period ≡ suc m - images (suc m) period * period = refl in
    omega (arith, fit.1)

pub last_some : (steps period : ℕ) → 1 ≤ steps → 1 ≤ period → 1 ≤ last_steps steps period
last_some steps period step some =
    let fit = images_fit steps period step some in
    let e : last_steps steps period ≡ steps - images steps period * period = refl in
    omega (arith, fit.0)

-- where there is a plan, each stretch has one
pub last_planned : (steps period : ℕ) (book : BookCosts) → 1 ≤ period → HasPeriodicPlan steps period book → revolve.HasPlan (last_steps steps period) (room book 0 steps)
last_planned steps period book some plan two =
    let e : last_steps steps period ≡ steps - images steps period * period = refl in
    plan.fast (omega arith) (omega (arith, last_short steps period some))

longer : (n period steps : ℕ) → 1 ≤ n → n * period ≤ steps → period ≤ steps
longer n period steps h below = omega (arith, mul-le 1 period n period h (omega arith))

pub each_planned : (steps period : ℕ) (book : BookCosts) → 1 ≤ period → HasPeriodicPlan steps period book → 1 ≤ images steps period → revolve.HasPlan period (room book 0 steps)
each_planned steps period book some plan more two =
    plan.fast (omega (arith, longer (images steps period) period steps more (images_within steps period some))) two
