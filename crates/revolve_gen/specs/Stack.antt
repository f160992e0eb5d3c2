-- Lists whose images form a stack. A Store puts an image on top, and a Copy or a Move is of the top one. So the image
-- of each of these actions has a place, counted from 0. The traffic of a place is what is written and read there. These
-- definitions are our own.
use Rattle.std.specs.Prelude.{ℕ, ◌+◌, ◌-◌, ◌==◌, max, List, [], ◌∷◌, ◌++◌, count_by}
use Rattle.plan_types.specs.declared.action.Keep.TheVariants.{Store}
use Rattle.plan_types.specs.declared.action.Dest.TheVariants.{Work}
use Rattle.plan_types.specs.declared.action.Action.{Action}
use Rattle.plan_types.specs.declared.action.Action.TheVariants.{Forward, Copy, Move}
use Rattle.revolve_gen.specs.declared.stack.StackStep.{StackStep}
use Rattle.revolve_gen.specs.declared.stack.StackStep.TheVariants.{Push, Read, Pop, Stay}

-- what an action does with the stack
abbrev pub stack_step : Action → StackStep
stack_step (Forward from to (Store k)) = Push
stack_step (Copy n from to) = Read
stack_step (Move n from to) = Pop
stack_step _ = Stay

-- How many images are held after an action, and after a list, from so many before. A Copy or a Move needs a held image,
-- so `held - 1` is one less, here and below.
abbrev pub held_after : ℕ → StackStep → ℕ
held_after held Push = held + 1
held_after held Read = held
held_after held Pop = held - 1
held_after held Stay = held

abbrev pub held_at_end : ℕ → List Action → ℕ
held_at_end held [] = held
held_at_end held (a ∷ rest) = held_at_end (held_after held (stack_step a)) rest

-- the place of its image, and whether it is written or read there
abbrev pub place : ℕ → StackStep → ℕ
place held Push = held
place held _ = held - 1

abbrev pub place_written : ℕ → StackStep → List ℕ
place_written held Push = held ∷ []
place_written held _ = []

abbrev pub place_read : ℕ → StackStep → List ℕ
place_read held Read = (held - 1) ∷ []
place_read held Pop = (held - 1) ∷ []
place_read held _ = []

-- the places that a list writes and those that it reads, in order, from so many held images
abbrev pub written : ℕ → List Action → List ℕ
written held [] = []
written held (a ∷ rest) = place_written held (stack_step a) ++ written (held_after held (stack_step a)) rest

abbrev pub read : ℕ → List Action → List ℕ
read held [] = []
read held (a ∷ rest) = place_read held (stack_step a) ++ read (held_after held (stack_step a)) rest

-- how often a place is named
abbrev pub times : ℕ → List ℕ → ℕ
times p places = count_by (λ q. q == p) places

-- the least number above all places that are named
abbrev pub enough : List ℕ → ℕ
enough [] = 0
enough (p ∷ places) = max (p + 1) (enough places)

-- how many places a list uses: all up to the highest that it writes or reads
abbrev pub places_used : List Action → ℕ
places_used list = enough (written 0 list ++ read 0 list)

-- the action with its image on level k; what is read goes to Work
abbrev pub on_level : ℕ → Action → Action
on_level k (Forward from to (Store j)) = Forward from to (Store k)
on_level k (Copy n from to) = Copy n k Work
on_level k (Move n from to) = Move n k Work
on_level k a = a

-- the list with each image on the level of its place
abbrev pub placed : (ℕ → ℕ) → ℕ → List Action → List Action
placed level held [] = []
placed level held (a ∷ rest) = on_level (level (place held (stack_step a))) a ∷ placed level (held_after held (stack_step a)) rest
