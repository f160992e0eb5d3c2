-- Tables that a list can be read from, and what is read of a stretch.
use Rattle.std.specs.Prelude.{◌≡◌, ℕ, ◌+◌, ◌-◌, ◌*◌, ◌<◌, ◌≤◌, Bool, List, ◌++◌, length, slice_index_or}
use Rattle.plan_types.specs.declared.action.Action.{Action}
use Rattle.level_book.specs.BookCosts.{BookCosts, room}
use Rattle.level_book.specs.UnderTable.{Entry, Tables, sum_of}
use Rattle.cost_tables.specs.TableRows.{TableRows, AreFor, tables_in}
use Rattle.cost_tables.specs.ExactTables.{IsExact, IsExactTo}
use Rattle.hrevolve_gen.specs.HRevolveList.{Part, actions, Reads}

pub record CanRead (book : BookCosts) (t : TableRows) : Type 0 where
  pub sizes : AreFor t.steps book t
  pub exact : IsExact t.steps book (tables_in t)
  pub few : t.steps ≤ 2048

-- A list can be read from tables of a book's first levels, as many as they have.
pub record IsReadable (book : BookCosts) (t : TableRows) : Type 0 where
  pub known : length t.rooms ≤ length book.levels
  pub rooms_are : (k : ℕ) → k < length t.rooms → slice_index_or t.rooms k 0 ≡ room book k t.steps
  pub exact : IsExactTo (length t.rooms) t.steps book (tables_in t)
  pub few : t.steps ≤ 8192

-- the cost of a split after j steps, fewer than l; the first state's image costs n
abbrev pub split_cost : Tables → ℕ → ℕ → ℕ → ℕ → ℕ → ℕ → Entry
split_cost t n forward k l m j = sum_of (n + j * forward) (t.fresh k (l - j) m) (t.held k j m)

-- the list is the old one, and the actions of a part that is read
abbrev pub IsMore : BookCosts → TableRows → Bool → ℕ → ℕ → ℕ → ℕ → List Action → List Action → Type 0
IsMore book t held k b l m old new = (p : Part) × Reads t.steps book (tables_in t) held k l m p × (new ≡ old ++ actions t.steps held k b p)
