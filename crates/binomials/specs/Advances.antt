-- How often steps are advanced, and where a stretch is split. The numbers r and t(l, c) are Griewank and Walther's.
use Rattle.std.specs.Prelude.{ℕ, zero, suc, ◌+◌, ◌-◌, ◌*◌, ◌<◌, ◌≤◌, max, cond, nat_le}
use Rattle.binomials.specs.Binomials.{beta, beta_before}

-- r is the number of repeats of l steps with c slots: β(c, r - 1) < l ≤ β(c, r).
pub record IsRepeats (l c r : ℕ) : Type 0 where
  pub above : beta_before c r < l
  pub within : l ≤ beta c r

-- The first of r, r + 1 and so on with l ≤ β(c, r). At most `more` of them are passed.
abbrev pub first_repeats : ℕ → ℕ → ℕ → ℕ → ℕ
first_repeats l c zero r = r
first_repeats l c (suc more) r = cond (nat_le l (beta c r)) r (first_repeats l c more (suc r))

-- the number of repeats; l of them are always enough
unfoldable pub repeats : ℕ → ℕ → ℕ
repeats l c = first_repeats l c l 0

-- t(l, c) = r · l - β(c + 1, r - 1): the steps advanced without tape to reverse l steps with c slots.
unfoldable pub least_advances : ℕ → ℕ → ℕ
least_advances l c = repeats l c * l - beta_before (c + 1) (repeats l c)

-- How many steps from its start a stretch of two or more steps is split. It is max(1, β(c, r - 2), l - β(c - 1, r)).
unfoldable pub split : ℕ → ℕ → ℕ
split l c = max 1 (max (beta_before c (repeats l c - 1)) (l - beta (c - 1) (repeats l c)))
