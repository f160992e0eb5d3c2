use Rattle.image_store.proofs.Common.{◌≡◌, ℕ, ◌<◌, List, length, get_or, ◌-◌}
use Rattle.image_store.proofs.shelf.Shelf.new.Given as goal

-- so far the slots stand from the last one down
pub record CountsDown (items : List ℕ) (room above : ℕ) : Type 0 where
  pub long : length items ≡ above
  pub each : (i : ℕ) → i < above → get_or items i 0 ≡ room - 1 - i

abbrev pub invariant-loop-above : goal.invariant-loop-above
invariant-loop-above l = CountsDown l.free.items l.room l.above
