-- What an answer says of faults: that of a call that was done, and that of a call that kept an image.
use Rattle.reverse_runner.proofs.Common.{◌≡◌, ℕ, ◌≢◌, List, Option, Result, Ok, Err, IfErr, IsTrue, Contains, IfErr-at_err, Action, Configuration, levels_named, Images, Holdings, HasReason, IsSafe, IsKeeping, NotReached, calls_keepers}
use Rattle.reverse_runner.specs.declared.fault.RunFault.{RunFault}
use Rattle.reverse_runner.specs.declared.fault.RunFault.TheVariants.{Keeper, Damaged}

-- what was done has no fault
pub no_reason : {A : Type 0} (x : A) (action : Action) (old : Holdings) (told : ℕ → Option Images) → HasReason {A = A} (Ok x) action old told
no_reason x action old told = record {
  named = λ k e. absurd cc;
  damaged = λ k put got e. absurd cc;
  unreached = λ k j e un. absurd cc;
  whole = λ k put got e. absurd cc;
  wants = λ e. absurd cc;
}

pub is_safe : {A : Type 0} (x : A) (journal : List (List ℕ)) (unit : ℕ) (at : Configuration) (old : Holdings) (levels : ℕ) (rooms : ℕ → Option ℕ) → IsSafe {A = A} (Ok x) journal unit at old levels rooms
is_safe x journal unit at old levels rooms = record {
  roomy = λ _ e. absurd cc;
  undamaged = λ first is stands k put got e. absurd cc;
}

-- a call that kept an image, or didn't, damaged none
pub keeping_is_whole : {A : Type 0} (level : ℕ) (r : Result A RunFault) (k : ℕ) (put got : List ℕ) → IfErr r (IsKeeping level) → r ≢ Err (Damaged k put got)
keeping_is_whole level r k put got fault e = IfErr-at_err (IsKeeping level) e fault

-- the reason of a refused action whose last call kept an image
pub keeping_has_reason : {A B : Type 0} (level : ℕ) (r : Result A RunFault) (s : Result B RunFault) (action : Action) (old : Holdings) (told : ℕ → Option Images) → IfErr r (IsKeeping level) → ((fault : RunFault) → s ≡ Err fault → r ≡ Err fault) →
    ((k : ℕ) → s ≡ Err (Keeper k) → Contains (levels_named action) k) → ((k j : ℕ) → NotReached action k j → ⊥) → IsTrue (calls_keepers action) → HasReason s action old told
keeping_has_reason level r s action old told fault same named reached calls = record {
  named = named;
  damaged = λ k put got e. absurd (keeping_is_whole level r k put got fault (same (Damaged k put got) e));
  unreached = λ k j e un. absurd (reached k j un);
  whole = λ k put got e. absurd (keeping_is_whole level r k put got fault (same (Damaged k put got) e));
  wants = λ e. calls;
}

-- what was done says of no keeper that it failed
pub no_keeper : (r : Result Unit RunFault) (x : Unit) (k : ℕ) → r ≡ Ok x → r ≢ Err (Keeper k)
no_keeper r x k is e = absurd cc
