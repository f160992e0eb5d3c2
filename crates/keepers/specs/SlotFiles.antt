-- The files that hold a file keeper's images, and what a call does to the files of a disk.
use Rattle.std.specs.Prelude.{◌≡◌, ◌≢◌, ◌⊎◌, ℕ, zero, suc, List, [], ◌∷◌, ◌++◌, take, codes, decimal, Option, None, Some, Err, OnOk, OnErr}
use Rattle.std.specs.Option.{option_map}
use Rattle.std.specs.FinMap as finmap
use Rattle.keepers.specs.Counts.{raised}
use Rattle.keepers.specs.DiskFaults.{NamesNoFolder}
use Rattle.keepers.specs.CallEffects.{Answer}
use Rattle.keepers.specs.Claims.{Images, Files, Tells, WhereTold, SameButNamed, bytes_in}
use Rattle.keepers.specs.declared.file_keeper.FileKeeper.{FileKeeper}
use Rattle.keepers.specs.declared.keeper.KeepFault.TheVariants.{Failed}

-- the folder of a keeper over files, the number of its level, and the disk that it owns
abbrev pub folder_of : {D : Type 0} → FileKeeper D → List ℕ
folder_of k = k.folder.items

abbrev pub level_of : {D : Type 0} → FileKeeper D → ℕ
level_of k = k.level

abbrev pub disk_of : {D : Type 0} → FileKeeper D → D
disk_of k = k.disk

-- the path of the file of a slot: `FOLDER/levelLEVEL-slotSLOT.img`, with both numbers in decimal digits
abbrev pub slot_path : List ℕ → ℕ → ℕ → List ℕ
slot_path folder level slot = folder ++ codes "/level" ++ decimal level ++ codes "-slot" ++ decimal slot ++ codes ".img"

-- the path of the file of a keeper's slot
abbrev pub path_of : {D : Type 0} → FileKeeper D → ℕ → List ℕ
path_of k slot = slot_path (folder_of k) (level_of k) slot

-- an image before others, if there is one
abbrev pub with_image : ℕ → Option (List ℕ) → List (ℕ × List ℕ) → List (ℕ × List ℕ)
with_image slot None images = images
with_image slot (Some image) images = (slot, image) ∷ images

-- the images in the files of a level's first so many slots; without a file there is none
unfoldable pub images_in_files : List ℕ → ℕ → ℕ → Files → List (ℕ × List ℕ)
images_in_files folder level zero files = []
images_in_files folder level (suc slot) files = with_image slot (finmap.get files (slot_path folder level slot)) (images_in_files folder level slot files)

-- the images by their slots: one for each of these slots that has a file
abbrev pub level_images : List ℕ → ℕ → ℕ → Files → Images
level_images folder level slots files = finmap.from_entries (images_in_files folder level slots files)

-- what a file keeper claims: the images in its slots' files, if its disk claims its files
abbrev pub images_told : {D : Type 0} → (D → Option Files) → FileKeeper D → Option Images
images_told told k = option_map (level_images (folder_of k) (level_of k) k.slots) (told k.disk)

-- A call on a slot may fail: the disk may fail there, or the keeper has no folder.
abbrev pub MayFail : {D : Type 0} → (D → List ℕ → Type 0) → FileKeeper D → ℕ → Type 0
MayFail may_fail k slot = may_fail k.disk (path_of k slot) ⊎ NamesNoFolder (folder_of k)

-- What a file keeper's calls do to it and to the disk's files, if the disk claims them.

-- a put: the whole image is in the file of this slot, and no other file changed
pub record IsFilePut {D : Type 0} (told : D → Option Files) (may_fail : D → List ℕ → Type 0) (slot : ℕ) (image : List ℕ) (answer : Answer) (old new : FileKeeper D) : Type 0 where
  pub written : OnOk answer (Tells (told old.disk) (told new.disk) (λ a b. b ≡ finmap.insert a (path_of old slot) image))
  pub others : OnErr answer (Tells (told old.disk) (told new.disk) (SameButNamed (path_of old slot)))
  pub rest : new ≡ record old { disk = new.disk; counts = record old.counts { puts = raised old.counts.puts 1; faults = new.counts.faults } }
  pub quiet : answer ≢ Err Failed → new.counts.faults ≡ old.counts.faults
  pub counted : answer ≡ Err Failed → new.counts.faults ≡ raised old.counts.faults 1
  pub cause : answer ≡ Err Failed → MayFail may_fail old slot

-- a get, which gives these bytes: the first of this slot's file; no file changed
pub record IsFileGet {D : Type 0} (told : D → Option Files) (may_fail : D → List ℕ → Type 0) (slot len : ℕ) (bytes : List ℕ) (answer : Answer) (old new : FileKeeper D) : Type 0 where
  pub ok : OnOk answer (WhereTold (told old.disk) (λ files. bytes ≡ take len (bytes_in files (path_of old slot))))
  pub rest : new ≡ record old { counts = record old.counts { gets = raised old.counts.gets 1; faults = new.counts.faults } }
  pub quiet : answer ≢ Err Failed → new.counts.faults ≡ old.counts.faults
  pub counted : answer ≡ Err Failed → new.counts.faults ≡ raised old.counts.faults 1
  pub cause : answer ≡ Err Failed → MayFail may_fail old slot

-- a free: the file of this slot is gone, and no other file changed
pub record IsFileFree {D : Type 0} (told : D → Option Files) (may_fail : D → List ℕ → Type 0) (slot : ℕ) (answer : Answer) (old new : FileKeeper D) : Type 0 where
  pub removed : OnOk answer (Tells (told old.disk) (told new.disk) (λ a b. b ≡ finmap.remove a (path_of old slot)))
  pub left : OnErr answer (Tells (told old.disk) (told new.disk) (λ a b. (b ≡ a) ⊎ (b ≡ finmap.remove a (path_of old slot))))
  pub rest : new ≡ record old { disk = new.disk; counts = record old.counts { frees = raised old.counts.frees 1; faults = new.counts.faults } }
  pub quiet : answer ≢ Err Failed → new.counts.faults ≡ old.counts.faults
  pub counted : answer ≡ Err Failed → new.counts.faults ≡ raised old.counts.faults 1
  pub cause : answer ≡ Err Failed → MayFail may_fail old slot
