-- The nested class: lists whose images form a stack and are read only at its top. As in H-Revolve, images on slower
-- levels are below those on faster ones. Source: Herrmann and Pallez, "H-Revolve: a framework for adjoint computation
-- on synchronous hierarchical platforms", ACM Transactions on Mathematical Software 46, 2020. The exact class is our
-- own.
use Rattle.std.specs.Prelude.{◌≡◌, ℕ, ◌<◌, ◌≤◌, List, [], ◌∷◌}
use Rattle.plan_types.specs.declared.action.Keep.TheVariants.{Nothing, Store, Tape}
use Rattle.plan_types.specs.declared.action.Dest.TheVariants.{Work, Level}
use Rattle.plan_types.specs.declared.action.Action.{Action}
use Rattle.plan_types.specs.declared.action.Action.TheVariants.{Forward, Reverse, Copy, Move, EndForward, EndReverse}
use Rattle.level_book.specs.declared.book.Slots.{Slots}
use Rattle.level_book.specs.Valid.{Valid}

-- a held image: its state, and its level
pub record Image : Type 0 where
  pub position : ℕ
  pub level : ℕ

-- The held images are listed from the newest to the oldest. A Store of state n on level k puts its image on top. Its
-- state is later than the newest, and its level is no slower.
abbrev pub GoesOnTop : List Image → ℕ → ℕ → Type 0
GoesOnTop [] n k = Unit {0}
GoesOnTop (newest ∷ older) n k = (newest.position < n) × (k ≤ newest.level)

-- the newest image is that of state n on level k
abbrev pub IsNewest : List Image → ℕ → ℕ → Type 0
IsNewest [] n k = ⊥
IsNewest (newest ∷ older) n k = (newest.position ≡ n) × (newest.level ≡ k)

-- all images but the newest
abbrev pub older_than_newest : List Image → List Image
older_than_newest [] = []
older_than_newest (newest ∷ older) = older

-- the next action is a Forward from state n that tapes it, or stores it on a faster level than k
abbrev pub KeepsFaster : ℕ → ℕ → List Action → Type 0
KeepsFaster n k (Forward from to Tape ∷ rest) = from ≡ n
KeepsFaster n k (Forward from to (Store j) ∷ rest) = (from ≡ n) × (j < k)
KeepsFaster n k _ = ⊥

-- The actions are nested, with these images held and so many steps left to be reversed. A Copy or a Move goes to Work
-- and names the newest image. After a Move of a state that is still needed, a Forward tapes or stores it. It stores it
-- on a faster level.
abbrev pub IsNestedFrom : ℕ → List Image → List Action → Type 0
IsNestedFrom left images [] = Unit {0}
IsNestedFrom left images (Forward from to Nothing ∷ rest) = IsNestedFrom left images rest
IsNestedFrom left images (Forward from to Tape ∷ rest) = IsNestedFrom left images rest
IsNestedFrom left images (Forward from to (Store k) ∷ rest) =
    GoesOnTop images from k × IsNestedFrom left (record { position = from; level = k } ∷ images) rest
IsNestedFrom left images (Reverse from to ∷ rest) = IsNestedFrom to images rest
IsNestedFrom left images (Copy n k Work ∷ rest) = IsNewest images n k × IsNestedFrom left images rest
IsNestedFrom left images (Move n k Work ∷ rest) =
    IsNewest images n k × (n < left → KeepsFaster n k rest) × IsNestedFrom left (older_than_newest images) rest
IsNestedFrom left images (Copy n k (Level j) ∷ rest) = ⊥
IsNestedFrom left images (Move n k (Level j) ∷ rest) = ⊥
IsNestedFrom left images (EndForward ∷ rest) = IsNestedFrom left images rest
IsNestedFrom left images (EndReverse ∷ rest) = IsNestedFrom left images rest

-- the nested class
abbrev pub Nested : ℕ → List Slots → List Action → Type 0
Nested steps slots list = Valid steps slots list × IsNestedFrom steps [] list
