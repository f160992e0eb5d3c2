-- Which list is read from the tables.
use Rattle.std.specs.Prelude.{◌≡◌, ◌≢◌, ◌==◌, ℕ, zero, suc, ◌+◌, ◌-◌, ◌*◌, ◌<◌, ◌≤◌, cond, Bool, true, false, List, [], ◌∷◌, ◌++◌, length}
use Rattle.plan_types.specs.declared.action.Keep.TheVariants.{Nothing, Store, Tape}
use Rattle.plan_types.specs.declared.action.Dest.TheVariants.{Work}
use Rattle.plan_types.specs.declared.action.Action.{Action}
use Rattle.plan_types.specs.declared.action.Action.TheVariants.{Forward, Reverse, Copy, Move, EndForward, EndReverse}
use Rattle.level_book.specs.BookCosts.{BookCosts, room}
use Rattle.level_book.specs.UnderTable.{Tables, sum_of, write_cost, read_cost, Entry, number}

-- How a stretch is reversed. It has one step, or its level isn't used, or its first state is kept. A kept stretch is
-- split after so many steps, into the later part and the earlier part.
pub data Part : Type 0 where
  one : Part
  faster : Part → Part
  split : ℕ → Part → Part → Part

-- the actions that reverse the stretch from b at level k, which is in work, or held there
abbrev pub actions : ℕ → Bool → ℕ → ℕ → Part → List Action
actions steps false k b one = cond (b + 1 == steps) (Forward b (b + 1) Tape ∷ EndForward ∷ Reverse (b + 1) b ∷ [])
    (Forward b (b + 1) Tape ∷ Reverse (b + 1) b ∷ [])
actions steps true k b one = Move b k Work ∷ Forward b (b + 1) Tape ∷ Reverse (b + 1) b ∷ []
actions steps false zero b (faster p) = []
actions steps true zero b (faster p) = []
actions steps false (suc k) b (faster p) = actions steps false k b p
actions steps true (suc k) b (faster p) = Move b (suc k) Work ∷ actions steps false k b p
actions steps false k b (split j p q) = Forward b (b + j) (Store k) ∷ (actions steps false k (b + j) p ++ actions steps true k b q)
actions steps true k b (split j p q) = Copy b k Work ∷ Forward b (b + j) Nothing ∷ (actions steps false k (b + j) p ++ actions steps true k b q)

-- The entry is neither that of the level before with all its slots, nor that of an earlier split. So the level before
-- comes first, and then the least number of steps.
pub record IsFirst (k j : ℕ) (own : Entry) (without : ℕ → Entry) (after : ℕ → Entry) : Type 0 where
  pub used : (i : ℕ) → suc i ≡ k → own ≢ without i
  pub least : (i : ℕ) → 1 ≤ i → i < j → own ≢ after i

-- The part is read from the tables, for l steps and m free slots of level k. A split is after fewer than l steps. So l
-- - j is what is left, and l - i for earlier splits.
abbrev pub Reads : ℕ → BookCosts → Tables → Bool → ℕ → ℕ → ℕ → Part → Type 0
Reads steps book t false k l m one = (l ≡ 1) × (t.fresh k l m ≡ number (book.forward + book.reverse))
Reads steps book t true k l m one = (l ≡ 1) × (t.held k l m ≡ number (read_cost book k + book.forward + book.reverse))
Reads steps book t held zero l m (faster p) = ⊥
Reads steps book t false (suc k) l m (faster p) = (2 ≤ l) × (t.fresh (suc k) l m ≡ t.fresh k l (room book k steps))
    × Reads steps book t false k l (room book k steps) p
Reads steps book t true (suc k) l m (faster p) = (2 ≤ l)
    × (t.held (suc k) l m ≡ sum_of (read_cost book (suc k)) (number 0) (t.fresh k l (room book k steps))) × Reads steps book t false k l (room book k steps) p
Reads steps book t false k l zero (split j p q) = ⊥
Reads steps book t false k l (suc m) (split j p q) = (1 ≤ j) × (j < l)
    × (t.fresh k l (suc m) ≡ sum_of (write_cost book k + j * book.forward) (t.fresh k (l - j) m) (t.held k j m))
    × Reads steps book t false k (l - j) m p × Reads steps book t true k j m q
    × IsFirst k j (t.fresh k l (suc m)) (λ i. t.fresh i l (room book i steps))
    (λ i. sum_of (write_cost book k + i * book.forward) (t.fresh k (l - i) m) (t.held k i m))
Reads steps book t true k l m (split j p q) = (1 ≤ j) × (j < l)
    × (t.held k l m ≡ sum_of (read_cost book k + j * book.forward) (t.fresh k (l - j) m) (t.held k j m))
    × Reads steps book t false k (l - j) m p × Reads steps book t true k j m q
    × IsFirst k j (t.held k l m) (λ i. sum_of (read_cost book k) (number 0) (t.fresh i l (room book i steps)))
    (λ i. sum_of (read_cost book k + i * book.forward) (t.fresh k (l - i) m) (t.held k i m))

-- the list for at least one step and a book whose slowest level is `last`
abbrev pub whole : ℕ → ℕ → Part → List Action
whole steps last p = actions steps false last 0 p ++ EndReverse ∷ []

-- The list is read from the tables, from the top entry down. A book has a level, so the number of its last one is their
-- count less 1.
abbrev pub IsWritten : ℕ → BookCosts → Tables → List Action → Type 0
IsWritten zero book t list = list ≡ EndForward ∷ EndReverse ∷ []
IsWritten (suc n) book t list =
    (p : Part) × Reads (suc n) book t false (length book.levels - 1) (suc n) (room book (length book.levels - 1) (suc n)) p
    × (list ≡ whole (suc n) (length book.levels - 1) p)
