-- Disk tables of which each entry is Never, and entries of level 0 that are low.
use Rattle.std.proofs.Common.{◌≡◌, ℕ, ◌-◌, ◌<◌, ◌≤◌, ◌^◌, List, [], ◌∷◌, map, length, get_or, sym, ap, ◌∙◌, arith, All}
use Rattle.std.proofs.lemmas.List.{get_or-map}
use Rattle.level_book.specs.declared.book.Level.{Level}
use Rattle.level_book.specs.BookCosts.{BookCosts, room, IsWithinLimits}
use Rattle.level_book.specs.UnderTable.{number, never, Tables, IsGreatest}
use Rattle.cost_tables.specs.declared.cost.Cost.{Cost}
use Rattle.cost_tables.specs.declared.cost.Cost.TheVariants.{Never}
use Rattle.cost_tables.specs.TableRows.{fastest, tables_in, value_of}
use Rattle.cost_tables.specs.TableUpdates.{AreAllNever}
use Rattle.cost_tables.proofs.FastestLevel.{same_room}
use Rattle.cost_tables.proofs.Recurrences.{in_memory, low_entry}
use Rattle.disk_gen.specs.declared.disk_tables.DiskTables.TheInside.{Inside}
use Rattle.disk_gen.specs.DiskRows.{AreAllNeverDisk, disk_tables_in}
use Rattle.disk_gen.specs.DiskInvariant.{view_of}

module _ (steps f r : ℕ) (t : Tables) where
  abbrev of : List Level → BookCosts
  of levels = record { forward = f; reverse = r; levels = levels }

  low_of : (levels : List Level) → 0 < length levels → steps ≤ 8192 → IsWithinLimits (of levels) → IsGreatest steps (fastest (of levels)) t → (l m v : ℕ) → 1 ≤ l → l ≤ steps → m ≤ room (of levels) 0 steps → t.fresh 0 l m ≡ number v → v < 2 ^ 61
  low_of [] some few limits is l m v one le free e = absurd (omega arith)
  low_of (x ∷ rest) some few limits is l m v one le free e =
      let memory = in_memory steps (of (x ∷ [])) t few (record { forward = limits.forward; reverse = limits.reverse; levels = (limits.levels.0, tt) }) is in
      low_entry (memory.0 0 (l - 1) m) v (sym (memory.1 0 l m (omega arith) one le free) ∙ e)

-- an entry of the greatest table of level 0 is low
pub fastest_low : (steps : ℕ) (book : BookCosts) (t : Tables) → 0 < length book.levels → steps ≤ 8192 → IsWithinLimits book → IsGreatest steps (fastest book) t → (l m v : ℕ) → 1 ≤ l → l ≤ steps → m ≤ room book 0 steps → t.fresh 0 l m ≡ number v → v < 2 ^ 61
fastest_low steps book t some few limits is = low_of steps book.forward book.reverse t book.levels some few limits is

-- an entry of a list of Nevers
never_read : (costs : List Cost) (k : ℕ) → k < length costs → All (λ cost. cost ≡ Never) costs → get_or (map value_of costs) k (number 0) ≡ never
never_read costs k lt all = get_or-map value_of costs k Never (number 0) lt ∙ ap value_of (all k Never lt)

pub all_never : (steps : ℕ) (book : BookCosts) (t : Inside) → 0 < length (fastest book).levels → AreAllNever steps (fastest book) (tables_in t.fast) →
    length t.disk_fresh.items ≡ steps → length t.disk_held.items ≡ steps → All (λ cost. cost ≡ Never) t.disk_fresh.items → All (λ cost. cost ≡ Never) t.disk_held.items → AreAllNeverDisk steps book (disk_tables_in (view_of t))
all_never steps book t known fast fresh_count held_count fresh held = record {
  fresh = λ l m one le free. fast.fresh 0 l m known one le (omega (arith, same_room book steps));
  held = λ l m one le free. fast.held 0 l m known one le (omega (arith, same_room book steps));
  disk_fresh = λ l one le. never_read t.disk_fresh.items (l - 1) (omega arith) fresh;
  disk_held = λ l one le. never_read t.disk_held.items (l - 1) (omega arith) held;
}
