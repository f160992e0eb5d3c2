-- What a refused action may have left on the levels. It may have put an image, and perhaps released one too. Its gets
-- change nothing.
use Rattle.std.specs.Prelude.{◌≡◌, ◌⊎◌, ℕ, true, false, Option, Some}
use Rattle.std.specs.FinSet as set
use Rattle.std.specs.FinMap as finmap
use Rattle.level_book.specs.CostFold.{is_write}
use Rattle.keepers.specs.Claims.{Images}
use Rattle.plan_types.specs.declared.action.Dest.TheVariants.{Level}
use Rattle.plan_types.specs.declared.action.Action.{Action}
use Rattle.plan_types.specs.declared.action.Action.TheVariants.{Copy, Move}
use Rattle.rv_machine.specs.MachineState.{MachineState}
use Rattle.image_store.specs.declared.shelf.Kept.{Kept}
use Rattle.image_store.specs.Shelves.{level_of, kept_at}
use Rattle.image_store.specs.Calls.{IsNotKept, IsNotFreed}
use Rattle.reverse_runner.specs.ActionEffects.{Levels}
use Rattle.reverse_runner.specs.KeeperContents.{HoldsJust}
use Rattle.reverse_runner.specs.KeepersSeen.{is_release}
use Rattle.reverse_runner.specs.HoldingsOfRun.{Numbers}
use Rattle.reverse_runner.specs.SessionOfRun.{pair_read}

-- an action puts no image on a level, and releases none there
abbrev pub Spares : Action → ℕ → Type 0
Spares action k = (is_write k action ≡ false) × (is_release k action ≡ false)

-- Level j, which an action didn't reach if the keeper of level k failed. An image is got, then put, and a Move releases
-- it last. So a Copy put none if its get failed, and a Move released none if its put failed.
abbrev pub NotReached : Action → (k j : ℕ) → Type 0
NotReached (Copy n from (Level to)) k j = (k ≡ from) × (j ≡ to)
NotReached (Move n from (Level to)) k j = (k ≡ to) × (j ≡ from)
NotReached _ k j = ⊥

-- what the keepers may claim after a refused action, by the levels before it
pub record MayLeave (action : Action) (old : Levels) (told : ℕ → Option Images) : Type 0 where
  -- if it puts no image on a level and releases none there, the claim of that keeper is unchanged
  pub spared : (k : ℕ) → Spares action k → told k ≡ old.told k
  -- on a level to which it puts an image, one slot without a pair may hold anything
  pub put_to : (k : ℕ) → is_write k action ≡ true → IsNotKept (level_of old.store k) (old.told k) (told k)
  -- on a level where it releases an image, the slot of that pair is unchanged, or empty
  pub released : (k n : ℕ) (kept : Kept) → is_release k action ≡ true → pair_read action ≡ Some (n, k) → kept_at old.store k n ≡ Some kept →
      IsNotFreed kept (old.told k) (told k)

-- a keeper holds just the images of some states of a run, and one more slot may hold anything
pub record HoldsBesides (states : ℕ → MachineState) (numbers : Numbers) (images : Images) : Type 0 where
  pub spare : ℕ
  pub rest : HoldsJust states numbers (finmap.remove images spare)

-- it holds just these images, or all of them but that of state n
abbrev pub HoldsAllBut : (ℕ → MachineState) → Numbers → ℕ → Images → Type 0
HoldsAllBut states numbers n images = HoldsJust states numbers images ⊎ HoldsJust states (set.remove numbers n) images
