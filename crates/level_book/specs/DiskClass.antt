-- The disk class: nested lists over two levels, the slow one unlimited. They write the slow level on the way forward
-- only. This kind of schedule is from Aupy, Herrmann, Hovland and Robert, "Optimal multistage algorithm for adjoint
-- computation", SIAM Journal on Scientific Computing 38, 2016. The exact class is our own.
use Rattle.std.specs.Prelude.{◌≡◌, ◌≢◌, ℕ, List, [], ◌∷◌, length, slice_get, Some}
use Rattle.plan_types.specs.declared.action.Keep.TheVariants.{Store}
use Rattle.plan_types.specs.declared.action.Action.{Action}
use Rattle.plan_types.specs.declared.action.Action.TheVariants.{Forward, EndForward}
use Rattle.level_book.specs.declared.book.Slots.{Slots}
use Rattle.level_book.specs.declared.book.Slots.TheVariants.{Unlimited}
use Rattle.level_book.specs.NestedClass.{Nested}

-- no action stores on level k
abbrev pub NeverStores : ℕ → List Action → Type 0
NeverStores k [] = Unit {0}
NeverStores k (Forward from to (Store j) ∷ rest) = (j ≢ k) × NeverStores k rest
NeverStores k (a ∷ rest) = NeverStores k rest

-- Only Forwards come before EndForward, and no Store on level 1 comes after it.
abbrev pub ForwardsFirst : List Action → Type 0
ForwardsFirst [] = Unit {0}
ForwardsFirst (Forward from to keep ∷ rest) = ForwardsFirst rest
ForwardsFirst (EndForward ∷ rest) = NeverStores 1 rest
ForwardsFirst (a ∷ rest) = ⊥

-- the disk class
pub record Disk (steps : ℕ) (slots : List Slots) (list : List Action) : Type 0 where
  pub two : length slots ≡ 2
  pub unlimited : slice_get slots 1 ≡ Some Unlimited
  pub nested : Nested steps slots list
  pub forwards : ForwardsFirst list
