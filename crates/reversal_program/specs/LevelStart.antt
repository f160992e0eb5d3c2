-- Which keeper a level has when a call begins, and what it holds.
use Rattle.std.specs.Prelude.{◌≡◌, ℕ, ◌+◌, ◌<◌, List, [], ◌∷◌, Option, None, Some}
use Rattle.std.specs.Option.{option_map}
use Rattle.std.specs.FinMap as finmap
use Rattle.plan_types.specs.declared.limits.TheConstants.{MOST_SLOTS}
use Rattle.keepers.specs.Claims.{Images, Files}
use Rattle.keepers.specs.AnyKeeper.{AnyKeeper, told_of, slots_of, puts_of, gets_of, frees_of, faults_of}
use Rattle.keepers.specs.SlotFiles.{folder_of, level_of, disk_of, slot_path, level_images}
use Rattle.keepers.specs.declared.either_keeper.EitherKeeper.TheVariants.{First, Second}

-- A level without a folder has a keeper in memory that never fails. Otherwise its keeper has the folder's files that
-- are named by the level's number. They are on the level's own disk.
abbrev pub IsKeeperOf : {D : Type 0} → ℕ → Option (List ℕ) → D → AnyKeeper D → Type 0
IsKeeperOf level None disk (First k) = k.failing ≡ []
IsKeeperOf level (Some folder) disk (Second k) = (folder_of k ≡ folder) × (level_of k ≡ level) × (disk_of k ≡ disk)
IsKeeperOf level folder disk k = ⊥

-- what a level claims at first: nothing in memory, or the images in its folder's files
abbrev pub held_at_first : {D : Type 0} → (D → Option Files) → ℕ → Option (List ℕ) → D → Option Images
held_at_first told level None disk = Some finmap.empty
held_at_first told level (Some folder) disk = option_map (level_images folder level MOST_SLOTS) (told disk)

-- the keeper of a level that hasn't been called
pub record KeeperBegins {D : Type 0} (told : D → Option Files) (level : ℕ) (folder : Option (List ℕ)) (disk : D) (k : AnyKeeper D) : Type 0 where
  pub kind : IsKeeperOf level folder disk k
  pub holds : told_of told k ≡ held_at_first told level folder disk
  pub slots : slots_of k ≡ MOST_SLOTS
  pub puts : puts_of k ≡ 0
  pub gets : gets_of k ≡ 0
  pub frees : frees_of k ≡ 0
  pub faults : faults_of k ≡ 0

-- the levels from this one on, each with its place and its disk
abbrev pub AllBegin : {D : Type 0} → (D → Option Files) → ℕ → List (Option (List ℕ)) → List D → List (AnyKeeper D) → Type 0
AllBegin told level [] [] [] = Unit {0}
AllBegin told level (folder ∷ folders) (disk ∷ disks) (k ∷ ks) = KeeperBegins told level folder disk k × AllBegin told (level + 1) folders disks ks
AllBegin told level folders disks ks = ⊥

-- If a level has a folder, its disk claims its files, but none is an image of the level.
abbrev pub HasNoFiles : {D : Type 0} → (D → Option Files) → ℕ → Option (List ℕ) → D → Type 0
HasNoFiles told level None disk = Unit {0}
HasNoFiles told level (Some folder) disk =
    (files : Files) × (told disk ≡ Some files) × ((slot : ℕ) → slot < MOST_SLOTS → finmap.get files (slot_path folder level slot) ≡ None)

-- this holds of the levels from this one on
abbrev pub HaveNoFiles : {D : Type 0} → (D → Option Files) → ℕ → List (Option (List ℕ)) → List D → Type 0
HaveNoFiles told level [] [] = Unit {0}
HaveNoFiles told level (folder ∷ folders) (disk ∷ disks) = HasNoFiles told level folder disk × HaveNoFiles told (level + 1) folders disks
HaveNoFiles told level folders disks = ⊥
