-- The keepers of a session by the numbers of their levels: what they claim, and how often they were called.
use Rattle.std.specs.Prelude.{◌≡◌, ℕ, ◌==◌, ◌<◌, ◌≤◌, Bool, false, cond, List, length, map, slice_get, slice_index_or, Option, None}
use Rattle.std.specs.Option.{option_map_or}
use Rattle.keepers.specs.Counts.{raised}
use Rattle.keepers.specs.Claims.{Images}
use Rattle.keepers.specs.declared.storage.Storage.{Ghosts}
use Rattle.plan_types.specs.declared.action.Action.{Action}
use Rattle.plan_types.specs.declared.action.Action.TheVariants.{Move}
use Rattle.level_book.specs.declared.book.Slots.{Slots}
use Rattle.level_book.specs.declared.book.Slots.TheVariants.{Count}
use Rattle.level_book.specs.BookCosts.{least}
use Rattle.level_book.specs.CostFold.{is_write, is_read}

-- a fact about the keeper with this number; a default past the last one
abbrev pub by_number : {K A : Type 0} → A → (K → A) → List K → ℕ → A
by_number nothing seen keepers k = option_map_or seen (slice_get keepers k) nothing

-- what the keepers claim
abbrev pub told_by : {K : Type 0} → Ghosts K → List K → ℕ → Option Images
told_by seen keepers = by_number None seen.told keepers

-- their numbers of slots
abbrev pub slot_counts : {K : Type 0} → Ghosts K → List K → List ℕ
slot_counts seen keepers = map seen.slot_count keepers

-- Each level of a book has a keeper. It has as many slots as a run of so many steps can use there. The keepers are
-- given by their numbers of slots.
abbrev pub HaveRoom : ℕ → List Slots → List ℕ → Type 0
HaveRoom steps slots counts =
    (k : ℕ) → k < length slots → (k < length counts) × (least (slice_index_or slots k (Count 0)) steps ≤ slice_index_or counts k 0)

-- numbers of calls, by the numbers of the levels
pub record Calls : Type 0 where
  pub puts : ℕ → ℕ
  pub gets : ℕ → ℕ
  pub frees : ℕ → ℕ

-- how often the keepers were called
abbrev pub calls_to : {K : Type 0} → Ghosts K → List K → Calls
calls_to seen keepers = record { puts = by_number 0 seen.put_count keepers; gets = by_number 0 seen.get_count keepers; frees = by_number 0 seen.free_count keepers }

-- whether an action empties a slot of level k
abbrev pub is_release : ℕ → Action → Bool
is_release k (Move n from to) = from == k
is_release k _ = false

abbrev pub one_if : Bool → ℕ
one_if b = cond b 1 0

-- An action puts an image on each level that it writes, and gets one of each that it reads. A Move also empties a slot
-- of its level.
abbrev pub calls_of : Action → Calls
calls_of a = record { puts = λ k. one_if (is_write k a); gets = λ k. one_if (is_read k a); frees = λ k. one_if (is_release k a) }

-- each number rose by so much, or by at most so much
abbrev pub RiseBy : (ℕ → ℕ) → (ℕ → ℕ) → (ℕ → ℕ) → Type 0
RiseBy more old new = (k : ℕ) → new k ≡ raised (old k) (more k)

abbrev pub RiseByAtMost : (ℕ → ℕ) → (ℕ → ℕ) → (ℕ → ℕ) → Type 0
RiseByAtMost more old new = (k : ℕ) → (old k ≤ new k) × (new k ≤ raised (old k) (more k))

-- these calls were made, and no others
pub record Called (made old new : Calls) : Type 0 where
  pub put_calls : RiseBy made.puts old.puts new.puts
  pub get_calls : RiseBy made.gets old.gets new.gets
  pub free_calls : RiseBy made.frees old.frees new.frees

-- some of these calls were made, and no others
pub record CalledAtMost (made old new : Calls) : Type 0 where
  pub put_calls : RiseByAtMost made.puts old.puts new.puts
  pub get_calls : RiseByAtMost made.gets old.gets new.gets
  pub free_calls : RiseByAtMost made.frees old.frees new.frees

-- at least these calls were made, and at most those
abbrev pub RiseBetween : (ℕ → ℕ) → (ℕ → ℕ) → (ℕ → ℕ) → (ℕ → ℕ) → Type 0
RiseBetween low high old new = (k : ℕ) → (raised (old k) (low k) ≤ new k) × (new k ≤ raised (old k) (high k))

pub record CalledBetween (low high old new : Calls) : Type 0 where
  pub put_calls : RiseBetween low.puts high.puts old.puts new.puts
  pub get_calls : RiseBetween low.gets high.gets old.gets new.gets
  pub free_calls : RiseBetween low.frees high.frees old.frees new.frees
