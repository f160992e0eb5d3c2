-- What is asked of a run: the steps that write or change a word, and the last of them. Also how much of a list is
-- performed for an answer. A word is the four bytes from an address on. Steps are those of the machine. A step of the
-- list is a unit of so many of them.
use Rattle.std.specs.Prelude.{◌≢◌, ℕ, ◌+◌, ◌*◌, ◌==◌, ◌<◌, ◌≤◌, ◌&&◌, leb, ltb, Bool, false, cond, List, [], ◌∷◌, slice_index_or, Option, None, Some, Any}
use Rattle.plan_types.specs.declared.action.Action.{Action}
use Rattle.plan_types.specs.declared.action.Action.TheVariants.{Reverse, EndForward}
use Rattle.rv_pages.specs.Memory.{Memory, byte_at}
use Rattle.rv_machine.specs.MachineState.{MachineState}
use Rattle.rv_machine.specs.States.{state_number}
use Rattle.rv_machine.specs.StepTable.{written}

-- the step of state m writes a byte of the word, changed or not; states go by their numbers
abbrev pub WritesIn : (ℕ → MachineState) → List (List ℕ) → ℕ → ℕ → Type 0
WritesIn states journal word m = Any (λ at. (word ≤ at) × (at < word + 4)) (written (states m) journal)

-- the step of state m of a run writes a byte of the word
abbrev pub WritesWord : MachineState → List (List ℕ) → ℕ → ℕ → Type 0
WritesWord first journal word m = WritesIn (state_number first journal) journal word m

-- two bytes are mapped, and differ; an unmapped byte never differs
abbrev pub Differ : Option ℕ → Option ℕ → Type 0
Differ (Some before) (Some after) = before ≢ after
Differ _ _ = ⊥

-- the bytes of the word at an address, where they are mapped
abbrev pub word_bytes : Memory → ℕ → List (Option ℕ)
word_bytes m word = byte_at m word ∷ byte_at m (word + 1) ∷ byte_at m (word + 2) ∷ byte_at m (word + 3) ∷ []

-- one of four bytes differs
abbrev pub SomeDiffer : List (Option ℕ) → List (Option ℕ) → Type 0
SomeDiffer before after = (k : ℕ) × ((k < 4) × Differ (slice_index_or before k None) (slice_index_or after k None))

-- a byte of the word differs between state m and state m + 1
abbrev pub ChangesIn : (ℕ → MachineState) → ℕ → ℕ → Type 0
ChangesIn states word m =
    (k : ℕ) × ((k < 4) × Differ (byte_at (states m).memory (word + k)) (byte_at (states (m + 1)).memory (word + k)))

-- a byte of the word differs between states m and m + 1 of a run
abbrev pub ChangesWord : MachineState → List (List ℕ) → ℕ → ℕ → Type 0
ChangesWord first journal word m = ChangesIn (state_number first journal) word m

-- the last place below a bound at which this holds, or None
abbrev pub IsLast : (ℕ → Type 0) → ℕ → Option ℕ → Type 0
IsLast Holds bound (Some m) = Holds m × (m < bound) × ((n : ℕ) → m < n → n < bound → Holds n → ⊥)
IsLast Holds bound None = (n : ℕ) → n < bound → Holds n → ⊥

-- Whether an action gives state n of a run of so many list steps, each a unit. EndForward gives the last state, and a
-- Reverse those of its unit.
abbrev pub hands_out : ℕ → ℕ → ℕ → Action → Bool
hands_out unit steps n EndForward = unit * steps == n
hands_out unit steps n (Reverse from to) = leb (unit * to) n && ltb n (unit * to + unit)
hands_out unit steps n _ = false

-- the actions of a list up to and including the first that gives state n
abbrev pub front_to : ℕ → ℕ → ℕ → List Action → List Action
front_to unit steps n [] = []
front_to unit steps n (a ∷ rest) = a ∷ cond (hands_out unit steps n a) [] (front_to unit steps n rest)

-- what is performed of a list for an answer: up to that state, or the whole list
abbrev pub up_to : ℕ → ℕ → Option ℕ → List Action → List Action
up_to unit steps (Some n) list = front_to unit steps n list
up_to unit steps None list = list
