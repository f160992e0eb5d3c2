-- What a keeper in memory or over files claims and counts: that of the part in use.
use Rattle.std.specs.Prelude.{ℕ, Option, Some, None}
use Rattle.keepers.specs.EitherKeeper.{of_part}
use Rattle.keepers.specs.KeeperState.{KeeperState}
use Rattle.keepers.specs.SlotFiles.{folder_of, level_of, images_told}
use Rattle.keepers.specs.Claims.{Images, Files, Location}
use Rattle.keepers.specs.declared.either_keeper.EitherKeeper.{EitherKeeper}
use Rattle.keepers.specs.declared.file_keeper.FileKeeper.{FileKeeper}

-- a keeper in memory or over files
abbrev pub AnyKeeper : Type 0 → Type 0
AnyKeeper D = EitherKeeper KeeperState (FileKeeper D)

module _ {D : Type 0} where
  -- by what the disk claims of its files
  abbrev pub told_of : (D → Option Files) → AnyKeeper D → Option Images
  told_of told = of_part (λ k. Some k.images) (images_told told)

  abbrev pub slots_of : AnyKeeper D → ℕ
  slots_of = of_part (λ k. k.slots) (λ k. k.slots)

  abbrev pub puts_of : AnyKeeper D → ℕ
  puts_of = of_part (λ k. k.puts) (λ k. k.counts.puts)

  abbrev pub gets_of : AnyKeeper D → ℕ
  gets_of = of_part (λ k. k.gets) (λ k. k.counts.gets)

  abbrev pub frees_of : AnyKeeper D → ℕ
  frees_of = of_part (λ k. k.frees) (λ k. k.counts.frees)

  abbrev pub faults_of : AnyKeeper D → ℕ
  faults_of = of_part (λ k. k.faults) (λ k. k.counts.faults)

  -- only a keeper in memory may have a room
  abbrev pub room_of : AnyKeeper D → Option ℕ
  room_of = of_part (λ k. k.room) (λ _. None)

  -- only a keeper over files has its images in files
  abbrev pub place_of : AnyKeeper D → Location
  place_of = of_part (λ _. None) (λ k. Some (folder_of k, level_of k))
