-- No public clause cites this file. The binomial numbers round the number of repeats, by their names in the code.
use Rattle.std.specs.Prelude.{◌≡◌, ℕ, ◌+◌, ◌-◌, ◌*◌, ◌<◌, ◌≤◌}
use Rattle.binomials.specs.declared.climb.Climb.{Climb}
use Rattle.binomials.specs.Binomials.{beta, beta_before}
use Rattle.binomials.specs.Advances.{IsRepeats}

-- A climb to the repeats r of l steps with c slots has met four numbers. They are β(c, r), β(c, r - 1), β(c, r - 2) and
-- β(c + 1, r - 1).
pub record IsClimb (l c : ℕ) (k : Climb) : Type 0 where
  pub repeated : IsRepeats l c k.repeats
  pub reached : k.reached ≡ beta c k.repeats
  pub before : k.before ≡ beta_before c k.repeats
  pub earlier : k.earlier ≡ beta_before c (k.repeats - 1)
  pub below : k.below ≡ beta_before (c + 1) k.repeats
  pub no_more : k.below ≤ k.repeats * l
  pub few : k.repeats < l
