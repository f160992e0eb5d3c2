-- What a visitor that gets what an action hands out keeps.
use Rattle.reverse_runner.proofs.Common.{ℕ, sym, subst, List, [], ◌∷◌, MachineState, GetsAll}

-- what each call keeps, what stays where there is none, and what two calls keep one after the other, all calls keep
pub gets_keeps : {V : Type 0} (got : V → ℕ → MachineState → List (List ℕ) → V → Type 0) (R : V → V → Type 0) →
    ((x : V) (n : ℕ) (s : MachineState) (journal : List (List ℕ)) (y : V) → got x n s journal y → R x y) → ((x : V) → R x x) → ((x y z : V) → R x y → R y z → R x z) →
    (journal : List (List ℕ)) (numbers : List ℕ) (states : List MachineState) (x y : V) → GetsAll got journal numbers states x y → R x y
gets_keeps got R each same next journal [] [] x y h = subst (R x) (sym h) (same x)
gets_keeps got R each same next journal [] (s ∷ states) x y h = absurd h
gets_keeps got R each same next journal (n ∷ numbers) [] x y h = absurd h
gets_keeps got R each same next journal (n ∷ numbers) (s ∷ states) x y h = next x h.0 y (each x n s journal h.0 h.1.0) (gets_keeps got R each same next journal numbers states h.0 y h.1.1)
