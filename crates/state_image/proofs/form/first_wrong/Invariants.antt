use Rattle.std.proofs.Common.{◌≡◌, ℕ, ◌<◌, false}
use Rattle.state_image.specs.ImageForm.{is_wrong, page}
use Rattle.state_image.proofs.form.first_wrong.Given as goal

-- so far no page is wrong
abbrev pub invariant-loop-k : goal.invariant-loop-k
invariant-loop-k l = (j : ℕ) → j < l.k → is_wrong l.bytes (page j) ≡ false
