-- The one spelling of an action that is written: one space after each comma and no other blank.
use Rattle.std.specs.Prelude.{◌≡◌, ℕ, ◌+◌, ◌<◌, ◌≤◌, List, [], ◌∷◌, ◌++◌, length, codes, decimal, slice_index_or}
use Rattle.std.specs.List.{flat_map}
use Rattle.plan_types.specs.declared.limits.TheConstants.{MOST_STEPS}
use Rattle.plan_types.specs.declared.action.Keep.{Keep}
use Rattle.plan_types.specs.declared.action.Keep.TheVariants.{Nothing, Store, Tape}
use Rattle.plan_types.specs.declared.action.Dest.{Dest}
use Rattle.plan_types.specs.declared.action.Dest.TheVariants.{Work, Level}
use Rattle.plan_types.specs.declared.action.Action.{Action}
use Rattle.plan_types.specs.declared.action.Action.TheVariants.{Forward, Reverse, Copy, Move, EndForward, EndReverse}

-- two numbers between texts, and one
abbrev pub two_numbers : List ℕ → ℕ → ℕ → List ℕ → List ℕ
two_numbers before n m after = before ++ decimal n ++ codes ", " ++ decimal m ++ after

abbrev pub one_number : List ℕ → ℕ → List ℕ → List ℕ
one_number before n after = before ++ decimal n ++ after

-- the name of level k
abbrev pub name_of : List (List ℕ) → ℕ → List ℕ
name_of names k = slice_index_or names k []

-- the last three arguments of a Forward; there is a place even if nothing is kept
abbrev pub keep_text : List (List ℕ) → Keep → List ℕ
keep_text names Nothing = codes ", False, False, NONE)"
keep_text names (Store k) = codes ", True, False, " ++ name_of names k ++ codes ")"
keep_text names Tape = codes ", False, True, WORK)"

-- where a Copy or a Move goes
abbrev pub dest_text : List (List ℕ) → Dest → List ℕ
dest_text names Work = codes "WORK"
dest_text names (Level k) = name_of names k

abbrev pub copy_text : List (List ℕ) → ℕ → Dest → List ℕ
copy_text names k dest = codes ", " ++ name_of names k ++ codes ", " ++ dest_text names dest ++ codes ")"

-- the canonical spelling of an action
abbrev pub canonical : List (List ℕ) → Action → List ℕ
canonical names (Forward from to keep) = two_numbers (codes "Forward(") from to (keep_text names keep)
canonical names (Reverse from to) = two_numbers (codes "Reverse(") from to (codes ", True)")
canonical names (Copy n k dest) = one_number (codes "Copy(") n (copy_text names k dest)
canonical names (Move n k dest) = one_number (codes "Move(") n (copy_text names k dest)
canonical names EndForward = codes "EndForward()"
canonical names EndReverse = codes "EndReverse()"

-- there is a level with this number
abbrev pub IsLevelOf : List (List ℕ) → ℕ → Type 0
IsLevelOf names k = k < length names

abbrev pub IsDestOf : List (List ℕ) → Dest → Type 0
IsDestOf names Work = Unit {0}
IsDestOf names (Level k) = IsLevelOf names k

-- what is kept has its level, if it names one
abbrev pub IsKeepOf : List (List ℕ) → Keep → Type 0
IsKeepOf names Nothing = Unit {0}
IsKeepOf names (Store k) = IsLevelOf names k
IsKeepOf names Tape = Unit {0}

-- a Forward can keep this: its level exists, and a Tape is of one step
abbrev pub CanKeep : List (List ℕ) → ℕ → ℕ → Keep → Type 0
CanKeep names from to Nothing = Unit {0}
CanKeep names from to (Store k) = IsLevelOf names k
CanKeep names from to Tape = to ≡ from + 1

-- An action has a spelling if its numbers are at most 1,000,000 and its levels exist. A Tape or a Reverse must be of
-- one step.
abbrev pub HasSpelling : List (List ℕ) → Action → Type 0
HasSpelling names (Forward from to keep) = (from ≤ MOST_STEPS) × (to ≤ MOST_STEPS) × CanKeep names from to keep
HasSpelling names (Reverse from to) = (from ≤ MOST_STEPS) × (to ≤ MOST_STEPS) × (from ≡ to + 1)
HasSpelling names (Copy n k dest) = (n ≤ MOST_STEPS) × IsLevelOf names k × IsDestOf names dest
HasSpelling names (Move n k dest) = (n ≤ MOST_STEPS) × IsLevelOf names k × IsDestOf names dest
HasSpelling names EndForward = Unit {0}
HasSpelling names EndReverse = Unit {0}

-- the canonical text of a list: the spelling of each action, and byte 10 after each
abbrev pub text_of : List (List ℕ) → List Action → List ℕ
text_of names list = flat_map (λ a. canonical names a ++ 10 ∷ []) list
