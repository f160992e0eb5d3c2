-- What the definitions of the binomial numbers, of repeats, of advanced steps and of splits imply.
use Rattle.std.specs.Prelude.{◌≡◌, ℕ, ◌+◌, ◌-◌, ◌*◌, ◌<◌, ◌≤◌}
use Rattle.binomials.specs.Binomials.{beta, beta_before, factorial}
use Rattle.binomials.specs.Advances.{IsRepeats, repeats, least_advances, split}

-- β(c, k) · c! · k! = (c + k)!
abbrev pub BetaIsBinomial : ℕ → ℕ → Type 0
BetaIsBinomial c k = beta c k * (factorial c * factorial k) ≡ factorial (c + k)

-- a stretch of l steps can be reversed with c slots: it has one step, or more and a slot
pub record IsStretch (l c : ℕ) : Type 0 where
  pub some : 1 ≤ l
  pub slots : c ≡ 0 → l ≡ 1

-- the number of repeats is the one between two binomial numbers, and no other is between them
abbrev pub RepeatsAreBetween : ℕ → ℕ → Type 0
RepeatsAreBetween l c = IsStretch l c → IsRepeats l c (repeats l c) × ((r : ℕ) → IsRepeats l c r → repeats l c ≡ r)

-- For the k between two binomial numbers, t(l, c) is k · l - β(c + 1, k - 1). No k gives more.
abbrev pub AdvancesAreGreatest : ℕ → ℕ → Type 0
AdvancesAreGreatest l c =
    IsStretch l c →
    ((r : ℕ) → IsRepeats l c r → least_advances l c + beta_before (c + 1) r ≡ r * l) × ((k : ℕ) → k * l ≤ least_advances l c + beta_before (c + 1) k)

-- A stretch is split at j into two that can be reversed. The advances are j to the split, the later part's with a slot
-- less, and the earlier part's.
pub record IsSplit (l c j : ℕ) : Type 0 where
  pub before : IsStretch j c
  pub after : IsStretch (l - j) (c - 1)
  pub shorter : j < l
  pub sum : least_advances l c ≡ j + least_advances (l - j) (c - 1) + least_advances j c

-- Over all splits of two steps or more, t(l, c) is the least of these sums. `split` attains it.
abbrev pub SplitIsLeast : ℕ → ℕ → Type 0
SplitIsLeast l c =
    IsStretch l c → 2 ≤ l →
    IsSplit l c (split l c)
    × ((j : ℕ) → 1 ≤ j → j < l → IsStretch (l - j) (c - 1) → least_advances l c ≤ j + least_advances (l - j) (c - 1) + least_advances j c)
