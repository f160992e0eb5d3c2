-- What the levels hold when a call begins.
use Rattle.std.proofs.Common.{◌≡◌, ℕ, zero, suc, ◌+◌, ◌<◌, List, [], ◌∷◌, length, Option, None, Some, ap, ◌∙◌, arith, refl}
use Rattle.std.specs.Option.{option_map}
use Rattle.std.specs.FinMap as finmap
use Rattle.keepers.specs.Claims.{Files}
use Rattle.keepers.specs.AnyKeeper.{AnyKeeper, told_of}
use Rattle.keepers.specs.SlotFiles.{level_images}
use Rattle.keepers.proofs.SlotImages.{level_empty}
use Rattle.reverse_runner.specs.KeepersSeen.{by_number}
use Rattle.reversal_program.specs.LevelStart.{AllBegin, HaveNoFiles, HasNoFiles, held_at_first}

holds_none : {D : Type 0} (told : D → Option Files) (level : ℕ) (folder : Option (List ℕ)) (disk : D) → HasNoFiles told level folder disk → held_at_first told level folder disk ≡ Some finmap.empty
holds_none told level None disk none = refl
holds_none told level (Some folder) disk none = ap (option_map (level_images folder level 1000000)) none.1 ∙ ap Some (level_empty folder level 1000000 none.0 none.2)

pub begin_empty : {D : Type 0} (told : D → Option Files) (level : ℕ) (folders : List (Option (List ℕ))) (disks : List D) (before : List (AnyKeeper D)) →
    AllBegin told level folders disks before → HaveNoFiles told level folders disks → (k : ℕ) → k < length before → by_number None (told_of told) before k ≡ Some finmap.empty
begin_empty told level folders disks [] begin none k h = absurd (omega (arith, h))
begin_empty told level [] [] (x ∷ ks) begin none k h = absurd begin
begin_empty told level [] (d ∷ disks) (x ∷ ks) begin none k h = absurd begin
begin_empty told level (f ∷ folders) [] (x ∷ ks) begin none k h = absurd begin
begin_empty told level (f ∷ folders) (d ∷ disks) (x ∷ ks) begin none zero h = begin.0.holds ∙ holds_none told level f d none.0
begin_empty told level (f ∷ folders) (d ∷ disks) (x ∷ ks) begin none (suc k) h = begin_empty told (level + 1) folders disks ks begin.1 none.1 k (omega (arith, h))
