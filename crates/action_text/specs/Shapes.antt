-- What is allowed at each place of a line, a row for each kind of action. The names of the actions and their arguments
-- are those of the checkpoint_schedules manual.
use Rattle.std.specs.Prelude.{◌≡◌, ℕ, ◌≤◌, ◌⊎◌, List, [], ◌∷◌, Option, Some, None, Contains, codes, decimal}
use Rattle.plan_types.specs.declared.limits.TheConstants.{MOST_STEPS}
use Rattle.line_texts.specs.Tokens.{Token}

-- What is allowed at one place. In this order it is a fixed text, a number, a truth value, and a level. Then a level or
-- the work state, and last a level, the work state or none.
pub data Want : Type 0 where
  exactly : List ℕ → Want
  number : Want
  truth : Want
  level : Want
  target : Want
  place : Want

abbrev pub opening : Want
opening = exactly (codes "(")

abbrev pub comma : Want
comma = exactly (codes ",")

abbrev pub closing : Want
closing = exactly (codes ")")

abbrev pub shapes : List (List Want)
shapes =
    (exactly (codes "Forward") ∷ opening ∷ number ∷ comma ∷ number ∷ comma ∷ truth ∷ comma ∷ truth ∷ comma ∷ place ∷ closing ∷ [])
    ∷ (exactly (codes "Reverse") ∷ opening ∷ number ∷ comma ∷ number ∷ comma ∷ truth ∷ closing ∷ [])
    ∷ (exactly (codes "Copy") ∷ opening ∷ number ∷ comma ∷ level ∷ comma ∷ target ∷ closing ∷ [])
    ∷ (exactly (codes "Move") ∷ opening ∷ number ∷ comma ∷ level ∷ comma ∷ target ∷ closing ∷ [])
    ∷ (exactly (codes "EndForward") ∷ opening ∷ closing ∷ [])
    ∷ (exactly (codes "EndReverse") ∷ opening ∷ closing ∷ [])
    ∷ []

-- a text that is allowed there; numbers are at most 1,000,000, in decimal digits without a leading zero
abbrev pub TakesToken : List (List ℕ) → Want → List ℕ → Type 0
TakesToken names (exactly wanted) text = text ≡ wanted
TakesToken names number text = (n : ℕ) × (n ≤ MOST_STEPS) × (text ≡ decimal n)
TakesToken names truth text = (text ≡ codes "True") ⊎ (text ≡ codes "False")
TakesToken names level text = Contains names text
TakesToken names target text = Contains names text ⊎ (text ≡ codes "WORK")
TakesToken names place text = Contains names text ⊎ ((text ≡ codes "WORK") ⊎ (text ≡ codes "NONE"))

-- the tokens fit the first places of a row; `next` is the place after them, if any
abbrev pub FitFront : List (List ℕ) → List Token → List Want → Option Want → Type 0
FitFront names [] [] next = next ≡ None
FitFront names [] (w ∷ ws) next = next ≡ Some w
FitFront names (t ∷ ts) [] next = ⊥
FitFront names (t ∷ ts) (w ∷ ws) next = TakesToken names w t.text × FitFront names ts ws next

-- these tokens begin a line, and this may come after them; None, where the line is whole
abbrev pub Expects : List (List ℕ) → List Token → Option Want → Type 0
Expects names tokens next = (shape : List Want) × Contains shapes shape × FitFront names tokens shape next

-- they begin a line
abbrev pub Begin : List (List ℕ) → List Token → Type 0
Begin names tokens = (next : Option Want) × Expects names tokens next
