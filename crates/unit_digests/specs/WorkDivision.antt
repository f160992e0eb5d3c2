-- No public clause cites this file. How states are assigned to workers, and what a worker returns.
use Rattle.std.specs.Prelude.{◌≡◌, ℕ, ◌+◌, ◌*◌, ◌/◌, ◌^◌, ◌<◌, ◌≤◌, List, length, map, slice_get, Some}
use Rattle.std.specs.Vec.{vec_capacity}
use Rattle.std.specs.List.{AllByRecursion}
use Rattle.rv_pages.specs.Memory.{page_numbers}
use Rattle.rv_machine.specs.MachineState.{MachineState}
use Rattle.sha2.specs.Sha256.{sha256}
use Rattle.state_image.specs.Image.{image}
use Rattle.unit_undo.specs.declared.undo.TheConstants.{MOST_ENTRIES}
use Rattle.unit_undo.specs.Entry.{Entry}
use Rattle.unit_digests.specs.declared.sharing.Taken.{Taken}
use Rattle.unit_digests.specs.declared.sharing.Deal.{Deal}
use Rattle.unit_digests.specs.declared.sharing.Digester.{Digester}
use Rattle.unit_digests.specs.declared.digesters.Digesters.TheInside.{Inside}
use Rattle.unit_digests.specs.Digests.{HasPages}

-- State n is assigned to this worker. Its distance from the last state is the worker's number plus a multiple of the
-- number of workers.
abbrev pub IsDealt : Deal → ℕ → ℕ → Type 0
IsDealt deal worker n = (deal.least ≤ n) × ((turn : ℕ) × (n + 1 + worker + turn * deal.workers ≡ deal.end))

-- a digest that a worker took is that of the state with its number
abbrev pub IsTaken : List MachineState → Taken → Type 0
IsTaken states t = (s : MachineState) → slice_get states t.number ≡ Some s → t.digest ≡ sha256 (image s)

-- this holds of all that a worker took last
abbrev pub HasTaken : List MachineState → Digester → Type 0
HasTaken states d = AllByRecursion (IsTaken states) d.taken.items

-- a worker took the digest of the state with this number
abbrev pub HasNumber : List Taken → ℕ → Type 0
HasNumber taken n = (k : ℕ) × (t : Taken) × (slice_get taken k ≡ Some t) × (t.number ≡ n)

-- a worker took the digests of exactly the states that are assigned to it
pub record HasShare (states : List MachineState) (deal : Deal) (worker : ℕ) (d : Digester) : Type 0 where
  pub right : HasTaken states d
  pub dealt : AllByRecursion (λ t. IsDealt deal worker t.number) d.taken.items
  pub whole : (n : ℕ) → IsDealt deal worker n → HasNumber d.taken.items n

-- the pages that a worker's state maps
abbrev pub mapped : Digester → List ℕ
mapped d = page_numbers d.state.memory

-- the most digests of any unit that one of so many workers takes
abbrev pub part_of : ℕ → ℕ
part_of workers = MOST_ENTRIES / workers + 1

-- a worker has room for so many digests
abbrev pub HasRoom : ℕ → Digester → Type 0
HasRoom room d = room ≤ vec_capacity d.taken

-- The states of an undo list are assigned, to at least so many workers. Their states map the pages of the state after
-- it, and they have room for their parts.
pub record IsDealtOut (entries : List Entry) (after : MachineState) (deal : Deal) (count : ℕ) (digesters : List Digester) : Type 0 where
  pub within : deal.end ≤ length entries
  pub short : deal.end ≤ MOST_ENTRIES
  pub some : 1 ≤ deal.workers
  pub few : count ≤ deal.workers
  pub pages : AllByRecursion (HasPages after) (map mapped digesters)
  pub room : AllByRecursion (HasRoom (part_of deal.workers)) digesters

-- the pages that the states of all workers map
abbrev pub pages_mapped : Inside → List (List ℕ)
pages_mapped i = map mapped i.all.items

-- the workers are few, and each of them has room for its part of the digests of any unit
pub record IsTeam (i : Inside) : Type 0 where
  pub few : length i.all.items < 2 ^ 32
  pub room : AllByRecursion (HasRoom (part_of (length i.all.items))) i.all.items
