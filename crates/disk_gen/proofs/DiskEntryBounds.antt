-- The numbers among the entries of the greatest disk tables are low.
use Rattle.std.proofs.Common.{◌≡◌, ℕ, zero, suc, ◌+◌, ◌-◌, ◌*◌, ◌<◌, ◌≤◌, ◌^◌, List, [], ◌∷◌, length, subst, arith}
use Rattle.std.proofs.Math.Nat.{mul-le-mul, mul-le-mul_right}
use Rattle.level_book.specs.declared.book.Level.{Level}
use Rattle.level_book.specs.BookCosts.{BookCosts, room, IsWithinLimits}
use Rattle.level_book.specs.UnderTable.{Entry, number, IsAtMost, sum_of, write_cost, read_cost}
use Rattle.level_book.specs.DiskUnderTable.{DiskTables, IsDiskUnderTable, IsGreatestDisk}
use Rattle.cost_tables.specs.TableRows.{fastest}
use Rattle.cost_tables.specs.Levels.{IsModest}
use Rattle.cost_tables.proofs.Recurrences.{AreLow, greatest_low, modest_within}
use Rattle.cost_tables.proofs.Splits.{at_most_trans, sum_at_most}
use Rattle.disk_gen.specs.DiskPlans.{HasDiskPlan}
use Rattle.disk_gen.specs.DiskRevolveList.{fast_tables}
use Rattle.disk_gen.proofs.DiskGreatestTable.{fast_greatest}

module _ (steps f r : ℕ) (t : DiskTables) where
  abbrev of : List Level → BookCosts
  of levels = record { forward = f; reverse = r; levels = levels }

  low_of : (levels : List Level) → length levels ≡ 2 → IsGreatestDisk steps (of levels) t → steps ≤ 8192 → IsWithinLimits (of levels) → AreLow steps (fastest (of levels)) (fast_tables t)
  low_of [] two is few limits = absurd (omega arith)
  low_of (x ∷ []) two is few limits = absurd (omega arith)
  low_of (x ∷ y ∷ rest) two is few limits =
      greatest_low steps (record { forward = f; reverse = r; levels = x ∷ [] }) (fast_tables t) few (record { forward = limits.forward; reverse = limits.reverse; levels = (limits.levels.0, tt) }) (fast_greatest steps f r x (y ∷ rest) t is)

pub fast_low : (steps : ℕ) (book : BookCosts) (t : DiskTables) → HasDiskPlan book → IsGreatestDisk steps book t → steps ≤ 8192 → IsWithinLimits book → AreLow steps (fastest book) (fast_tables t)
fast_low steps book t plan is few limits = low_of steps book.forward book.reverse t book.levels plan.two is few limits

-- what a step of a stretch adds at most where it is read from level 1 and taken alone
abbrev per_step : ℕ → BookCosts → ℕ
per_step steps book = read_cost book 1 + steps * book.forward + (book.forward + book.reverse)

held_at_most : (steps : ℕ) (book : BookCosts) (t : DiskTables) → IsDiskUnderTable steps book t → (l : ℕ) → suc l ≤ steps → IsAtMost (t.disk_held (suc l)) (number (suc l * per_step steps book))
held_at_most steps book t under zero le =
    let one = under.one_fresh (room book 0 steps) (omega arith) (omega arith) in
    at_most_trans (t.disk_held 1) (sum_of (read_cost book 1) (number 0) (t.fresh 1 (room book 0 steps))) (number (1 * per_step steps book)) (under.moved_disk 1 (omega arith) le)
    (sum_at_most (number 0) (t.fresh 1 (room book 0 steps)) (read_cost book 1) 0 (book.forward + book.reverse) (1 * per_step steps book) (omega arith) one (omega arith))
held_at_most steps book t under (suc l) le =
    let one = under.one_fresh (room book 0 steps) (omega arith) (omega arith) in
    let before = held_at_most steps book t under l (omega arith) in
    let short : suc l ≤ steps = omega arith in
    let few : suc l * book.forward ≤ steps * book.forward = mul-le-mul_right book.forward short in
    let p = per_step steps book in
    let n = suc l in
    let more : n + 1 ≡ suc n = omega arith in
    subst (λ (x : ℕ). IsAtMost (t.disk_held x) (number (x * p))) more
    (at_most_trans (t.disk_held (n + 1)) (sum_of (read_cost book 1 + n * book.forward) (t.fresh 1 (room book 0 steps)) (t.disk_held n)) (number ((n + 1) * p))
    (under.copied_disk n 1 (omega arith) (omega arith) (omega arith))
    (sum_at_most (t.fresh 1 (room book 0 steps)) (t.disk_held n) (read_cost book 1 + n * book.forward) (book.forward + book.reverse) (n * p) ((n + 1) * p) one before (omega (arith, few))))

pub record AreDiskLow (steps : ℕ) (t : DiskTables) : Type 0 where
  pub fresh : (l v : ℕ) → 1 ≤ l → l ≤ steps → t.disk_fresh l ≡ number v → v < 2 ^ 61
  pub held : (l v : ℕ) → 1 ≤ l → l ≤ steps → t.disk_held l ≡ number v → v < 2 ^ 61

number_at_most : (e : Entry) (v n : ℕ) → e ≡ number v → IsAtMost e (number n) → v ≤ n
number_at_most e v n is le = subst (λ (x : Entry). IsAtMost x (number n)) is le

few_each : (steps : ℕ) (book : BookCosts) → IsModest steps book → (l : ℕ) → l ≤ steps → l * per_step steps book ≤ 2 ^ 60
few_each steps book modest l le =
    let read = modest.cheap_read 1 in
    let forward = modest.cheap_forward in
    let cheap : book.forward ≤ 2 ^ 32 = omega (arith, forward) in
    let stepping : steps * book.forward ≤ 8192 * 2 ^ 32 = mul-le-mul modest.few cheap in
    let reverse = modest.cheap_reverse in
    let each : per_step steps book ≤ 8192 * 2 ^ 32 + 3 * 2 ^ 32 = omega (arith, stepping, read, forward, reverse) in
    let few = modest.few in
    let short : l ≤ 8192 = omega (arith, le, few) in
    let all : l * per_step steps book ≤ 8192 * (8192 * 2 ^ 32 + 3 * 2 ^ 32) = mul-le-mul short each in
    omega (arith, all)

pub disk_low : (steps : ℕ) (book : BookCosts) (t : DiskTables) → IsDiskUnderTable steps book t → steps ≤ 8192 → IsWithinLimits book → AreDiskLow steps t
disk_low steps book t under few limits =
    let modest = modest_within steps book few limits in
    let at : (l : ℕ) → 1 ≤ l → l ≤ steps → IsAtMost (t.disk_held l) (number (l * per_step steps book)) = λ l one le.
    let e : suc (l - 1) ≡ l = omega arith in
    subst (λ (n : ℕ). IsAtMost (t.disk_held n) (number (n * per_step steps book))) e (held_at_most steps book t under (l - 1) (omega arith)) in
    record {
      fresh = λ l v one le is.
          let write = modest.cheap_write 1 in
          let each = few_each steps book modest l le in
          let stored = at_most_trans (t.disk_fresh l) (sum_of (write_cost book 1) (number 0) (t.disk_held l)) (number (write_cost book 1 + l * per_step steps book)) (under.stored_disk l one le)
          (sum_at_most (number 0) (t.disk_held l) (write_cost book 1) 0 (l * per_step steps book) (write_cost book 1 + l * per_step steps book) (omega arith) (at l one le) (omega arith)) in
          let below = number_at_most (t.disk_fresh l) v _ is stored in
          omega (arith, below, write, each);
      held = λ l v one le is.
          let each = few_each steps book modest l le in
          let below = number_at_most (t.disk_held l) v _ is (at l one le) in
          omega (arith, below, each);
    }
