-- What the tokens of a line mean: an action, or nothing.
use Rattle.std.specs.Prelude.{◌≡◌, ℕ, ◌+◌, ◌≤◌, ◌⊎◌, List, [], ◌∷◌, Some, codes, decimal, slice_get}
use Rattle.plan_types.specs.declared.limits.TheConstants.{MOST_STEPS}
use Rattle.plan_types.specs.declared.action.Keep.TheVariants.{Nothing, Store, Tape}
use Rattle.plan_types.specs.declared.action.Dest.{Dest}
use Rattle.plan_types.specs.declared.action.Dest.TheVariants.{Work, Level}
use Rattle.plan_types.specs.declared.action.Action.{Action}
use Rattle.plan_types.specs.declared.action.Action.TheVariants.{Forward, Reverse, Copy, Move, EndForward, EndReverse}
use Rattle.action_text.specs.Tokens.{tokens}
use Rattle.line_texts.specs.Tokens.{Token}

-- arguments with a comma between two, and the closing bracket
abbrev pub arguments : List (List ℕ) → List (List ℕ)
arguments [] = codes ")" ∷ []
arguments (x ∷ []) = x ∷ codes ")" ∷ []
arguments (x ∷ y ∷ ys) = x ∷ codes "," ∷ arguments (y ∷ ys)

-- a name, and arguments between brackets
abbrev pub call : List ℕ → List (List ℕ) → List (List ℕ)
call name xs = name ∷ codes "(" ∷ arguments xs

-- The texts of a Forward's arguments: two numbers, two truth values, and the place. The truth values say whether it
-- writes the state, and whether the tape.
abbrev pub forward_call : ℕ → ℕ → List ℕ → List ℕ → List ℕ → List (List ℕ)
forward_call from to state tape place = call (codes "Forward") (decimal from ∷ decimal to ∷ state ∷ tape ∷ place ∷ [])

-- the text names where a Copy or a Move goes
abbrev pub NamesDest : List (List ℕ) → Dest → List ℕ → Type 0
NamesDest names Work text = text ≡ codes "WORK"
NamesDest names (Level k) text = slice_get names k ≡ Some text

-- the texts mean this action, over levels with these names; a tape and a Reverse are of one step
abbrev pub Says : List (List ℕ) → List (List ℕ) → Action → Type 0
Says names texts (Forward from to Nothing) =
    (from ≤ MOST_STEPS) × (to ≤ MOST_STEPS)
    × ((texts ≡ forward_call from to (codes "False") (codes "False") (codes "NONE"))
    ⊎ (texts ≡ forward_call from to (codes "False") (codes "False") (codes "WORK")))
Says names texts (Forward from to (Store k)) =
    (from ≤ MOST_STEPS) × (to ≤ MOST_STEPS)
    × (name : List ℕ) × (slice_get names k ≡ Some name) × (texts ≡ forward_call from to (codes "True") (codes "False") name)
Says names texts (Forward from to Tape) =
    (from ≤ MOST_STEPS) × (to ≤ MOST_STEPS)
    × (to ≡ from + 1) × (texts ≡ forward_call from to (codes "False") (codes "True") (codes "WORK"))
Says names texts (Reverse from to) =
    (from ≤ MOST_STEPS) × (to ≤ MOST_STEPS)
    × (from ≡ to + 1) × (texts ≡ call (codes "Reverse") (decimal from ∷ decimal to ∷ codes "True" ∷ []))
Says names texts (Copy n k dest) =
    (n ≤ MOST_STEPS) × (name : List ℕ) × (slice_get names k ≡ Some name)
    × (target : List ℕ) × NamesDest names dest target × (texts ≡ call (codes "Copy") (decimal n ∷ name ∷ target ∷ []))
Says names texts (Move n k dest) =
    (n ≤ MOST_STEPS) × (name : List ℕ) × (slice_get names k ≡ Some name)
    × (target : List ℕ) × NamesDest names dest target × (texts ≡ call (codes "Move") (decimal n ∷ name ∷ target ∷ []))
Says names texts EndForward = texts ≡ call (codes "EndForward") []
Says names texts EndReverse = texts ≡ call (codes "EndReverse") []

-- tokens that mean nothing: there are none, or the first is `#`, which begins a comment
abbrev pub SayNothing : List Token → Type 0
SayNothing [] = Unit {0}
SayNothing (t ∷ ts) = t.text ≡ codes "#"

-- a line that says nothing
abbrev pub IsPassed : List ℕ → Type 0
IsPassed line = SayNothing (tokens 1 line)
