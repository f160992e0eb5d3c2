-- Which list is read from disk tables.
use Rattle.std.specs.Prelude.{◌≡◌, ◌≢◌, ℕ, zero, suc, ◌+◌, ◌-◌, ◌*◌, ◌<◌, ◌≤◌, false, List, [], ◌∷◌, ◌++◌}
use Rattle.plan_types.specs.declared.action.Keep.TheVariants.{Nothing, Store}
use Rattle.plan_types.specs.declared.action.Dest.TheVariants.{Work}
use Rattle.plan_types.specs.declared.action.Action.{Action}
use Rattle.plan_types.specs.declared.action.Action.TheVariants.{Forward, Copy, Move, EndForward, EndReverse}
use Rattle.level_book.specs.BookCosts.{BookCosts, room}
use Rattle.level_book.specs.UnderTable.{Tables, Entry, sum_of, write_cost, read_cost, number}
use Rattle.level_book.specs.DiskUnderTable.{DiskTables}
use Rattle.hrevolve_gen.specs.HRevolveList.{Part, actions, Reads}

-- How a stretch is reversed whose first state is held on level 1. Either the state is read for the last time, and level
-- 0 alone is used. Or it is read, and the stretch is split after so many steps. The later steps then use level 0 alone.
pub data HeldPart : Type 0 where
  finally : Part → HeldPart
  again : ℕ → Part → HeldPart → HeldPart

-- How a stretch is reversed whose first state is in work. Either level 0 alone is used. Or the state is stored on level
-- 1, and the stretch is split after so many steps.
pub data DiskPart : Type 0 where
  alone : Part → DiskPart
  parted : ℕ → DiskPart → HeldPart → DiskPart

-- the actions that reverse the stretch from state b on
abbrev pub held_actions : ℕ → ℕ → HeldPart → List Action
held_actions steps b (finally p) = Move b 1 Work ∷ actions steps false 0 b p
held_actions steps b (again i p q) = Copy b 1 Work ∷ Forward b (b + i) Nothing ∷ (actions steps false 0 (b + i) p ++ held_actions steps b q)

abbrev pub disk_actions : ℕ → ℕ → DiskPart → List Action
disk_actions steps b (alone p) = actions steps false 0 b p
disk_actions steps b (parted j p q) = Forward b (b + j) (Store 1) ∷ (disk_actions steps (b + j) p ++ held_actions steps b q)

-- the tables of level 0 alone
abbrev pub fast_tables : DiskTables → Tables
fast_tables t = record { fresh = λ _. t.fresh; held = λ _. t.held }

-- an entry is no earlier split's
abbrev pub IsLeast : ℕ → Entry → (ℕ → Entry) → Type 0
IsLeast j own after = (i : ℕ) → 1 ≤ i → i < j → own ≢ after i

-- the cost of a split after so many steps, fewer than l
abbrev pub held_split : BookCosts → ℕ → DiskTables → ℕ → ℕ → Entry
held_split book c t l i = sum_of (read_cost book 1 + i * book.forward) (t.fresh (l - i) c) (t.disk_held i)

abbrev pub disk_split : BookCosts → DiskTables → ℕ → ℕ → Entry
disk_split book t l j = sum_of (write_cost book 1 + j * book.forward) (t.disk_fresh (l - j)) (t.disk_held j)

-- The part is read from the tables, for a stretch of l steps. Level 0 alone comes first, and then the least number of
-- steps.
abbrev pub ReadsHeld : ℕ → BookCosts → DiskTables → ℕ → HeldPart → Type 0
ReadsHeld steps book t l (finally p) =
    (t.disk_held l ≡ sum_of (read_cost book 1) (number 0) (t.fresh l (room book 0 steps))) × Reads steps book (fast_tables t) false 0 l (room book 0 steps) p
ReadsHeld steps book t l (again i p q) = (1 ≤ i) × (i < l) × (t.disk_held l ≡ held_split book (room book 0 steps) t l i)
    × Reads steps book (fast_tables t) false 0 (l - i) (room book 0 steps) p × ReadsHeld steps book t i q
    × (t.disk_held l ≢ sum_of (read_cost book 1) (number 0) (t.fresh l (room book 0 steps)))
    × IsLeast i (t.disk_held l) (held_split book (room book 0 steps) t l)

abbrev pub ReadsDisk : ℕ → BookCosts → DiskTables → ℕ → DiskPart → Type 0
ReadsDisk steps book t l (alone p) = (t.disk_fresh l ≡ t.fresh l (room book 0 steps)) × Reads steps book (fast_tables t) false 0 l (room book 0 steps) p
ReadsDisk steps book t l (parted j p q) = (1 ≤ j) × (j < l) × (t.disk_fresh l ≡ disk_split book t l j)
    × ReadsDisk steps book t (l - j) p × ReadsHeld steps book t j q
    × (t.disk_fresh l ≢ t.fresh l (room book 0 steps)) × IsLeast j (t.disk_fresh l) (disk_split book t l)

-- The list is read from the tables, from the entry for all steps down.
abbrev pub IsDiskWritten : ℕ → BookCosts → DiskTables → List Action → Type 0
IsDiskWritten zero book t list = list ≡ EndForward ∷ EndReverse ∷ []
IsDiskWritten (suc n) book t list = (p : DiskPart) × ReadsDisk (suc n) book t (suc n) p × (list ≡ disk_actions (suc n) 0 p ++ EndReverse ∷ [])
