-- The cause of a trap is a small number.
use Rattle.std.proofs.Common.{◌≡◌, ℕ, ◌<◌, ◌==◌, true, List, [], ◌∷◌, arith, inl, inr}
use Rattle.std.proofs.lemmas.Bool.Decides.{eqb_tells}
use Rattle.std.specs.List.{AllByRecursion, list_any}
use Rattle.rv_machine.specs.declared.status.Status.TheVariants.{Trapped}
use Rattle.rv_machine.specs.MachineState.{IsStatus, trap_causes}

-- what is in a list of small numbers is small
among : (xs : List ℕ) (n top : ℕ) → AllByRecursion (λ x. x < top) xs → list_any (λ x. x == n) xs ≡ true → n < top
among [] n top small h = absurd (cc)
among (x ∷ xs) n top small h =
    elim (eqb_tells x n) [
      | inl same ↦ omega (arith, same.1, small.0)
      | inr other ↦ among xs n top small.1 (rw (other.0) at h)
    ]

pub cause_below : (cause : ℕ) → IsStatus (Trapped cause) → cause < 8
cause_below cause h = among trap_causes cause 8 (omega arith, (omega arith, (omega arith, (omega arith, (omega arith, (omega arith, tt)))))) h
