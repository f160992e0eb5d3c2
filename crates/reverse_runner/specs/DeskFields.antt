-- What a desk holds, and what holds of it.
use Rattle.std.specs.Prelude.{◌≡◌, ℕ, ◌<◌, ◌≤◌, ◌^◌, List, length, Option}
use Rattle.std.specs.Vec.{vec_len, vec_capacity}
use Rattle.sha2.specs.Sha256.{sha256}
use Rattle.keepers.specs.Claims.{Images}
use Rattle.rv_pages.specs.Memory.{page_numbers}
use Rattle.state_image.specs.Image.{image}
use Rattle.state_image.specs.ImageForm.{memory_room}
use Rattle.reverse_runner.specs.ActionEffects.{Levels}
use Rattle.reverse_runner.specs.Rooms.{image_room}
use Rattle.reverse_runner.specs.declared.desk.Desk.{Desk}

-- its levels over what the keepers claim
abbrev pub levels_in : Desk → (ℕ → Option Images) → Levels
levels_in w told = record { store = w.store; told = told }

-- the buffer was reserved for the image of each state with its pages
pub record Fits (w : Desk) : Type 0 where
  pub few : length (page_numbers w.work.memory) ≤ 4096
  pub buffer : memory_room w.work.memory ≤ vec_capacity w.buffer

-- The buffer has the image of the state in work, and this is its digest.
pub record IsEncoded (old new : Desk) (hash : List ℕ) : Type 0 where
  pub digest : hash ≡ sha256 new.buffer.items
  pub image : new.buffer.items ≡ image old.work
  pub short : vec_len new.buffer < 2 ^ 32
  pub few : vec_len new.buffer ≤ image_room old.work
  pub same : (new.work ≡ old.work) × (new.store ≡ old.store)
  pub fits : Fits new
