-- The binomial numbers β of Griewank and Walther, "Algorithm 799: Revolve", ACM Transactions on Mathematical Software
-- 26, 2000. They are defined by the recurrence. A law says that β(c, k) is (c + k)! / (c! k!).
use Rattle.std.specs.Prelude.{ℕ, zero, suc, ◌+◌, ◌*◌, ℤ, pos, negsuc}

-- β(c, k): the longest chain that c slots reverse with each step advanced at most k times
abbrev pub beta : ℕ → ℕ → ℕ
beta zero k = 1
beta (suc c) zero = 1
beta (suc c) (suc k) = beta c (suc k) + beta (suc c) k

-- β(c, k) for every whole number k: 0 where it is below 0
abbrev pub beta_of : ℕ → ℤ → ℕ
beta_of c (pos k) = beta c k
beta_of c (negsuc k) = 0

-- β(c, k - 1)
abbrev pub beta_before : ℕ → ℕ → ℕ
beta_before c zero = 0
beta_before c (suc k) = beta c k

-- n!
abbrev pub factorial : ℕ → ℕ
factorial zero = 1
factorial (suc n) = suc n * factorial n
