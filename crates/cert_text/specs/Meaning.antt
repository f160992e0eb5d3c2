-- Which text means which certificate.
use Rattle.std.specs.Prelude.{◌≡◌, ℕ, ◌^◌, ◌<◌, ◌≤◌, List, map, length, slice_index_or}
use Rattle.plan_types.specs.declared.limits.TheConstants.{MOST_STEPS}
use Rattle.level_book.specs.BookCosts.{BookCosts}
use Rattle.level_book.specs.UnderTable.{Entry}
use Rattle.cost_tables.specs.TableRows.{TableRows, tables_in, AreFor, TablesFit, FastestTablesFit, fastest}
use Rattle.cost_tables.specs.Shapes.{AreShaped, IsShort}
use Rattle.disk_gen.specs.DiskRows.{DiskRows, disk_tables_in}
use Rattle.cert_text.specs.declared.certificate.Certificate.{Certificate}
use Rattle.cert_text.specs.declared.certificate.Certificate.TheVariants.{Revolve, Places, Nested, Disk}
use Rattle.cert_text.specs.MarkedLines.{certificate_lines}
use Rattle.cert_text.specs.Words.{texts_of}
use Rattle.cert_text.specs.WordLines.{word_lines}

-- an entry has a word: it is Never or a number of 64 bits
abbrev pub HasWord : Entry → Type 0
HasWord entry = IsShort entry

-- each entry of level k has one
pub record HaveWords (t : TableRows) (k : ℕ) : Type 0 where
  pub fresh : (m l : ℕ) → m ≤ slice_index_or t.rooms k 0 → 1 ≤ l → l ≤ t.steps → HasWord ((tables_in t).fresh k l m)
  pub held : (m l : ℕ) → m < slice_index_or t.rooms k 0 → 1 ≤ l → l ≤ t.steps → HasWord ((tables_in t).held k l m)

-- these are tables for so many steps and a book, with whole rows, and each entry has a word
pub record HaveTables (steps : ℕ) (book : BookCosts) (t : TableRows) : Type 0 where
  pub sized : AreFor steps book t
  pub shaped : AreShaped t
  pub words : (k : ℕ) → k < length t.rooms → HaveWords t k

-- such tables that can be built
pub record HaveText (steps : ℕ) (book : BookCosts) (t : TableRows) : Type 0 where
  pub fit : TablesFit steps book
  pub tables : HaveTables steps book t

-- Which disk tables have a text. Those of level 0 are as if the book had no other. Over both levels there is an entry
-- for each number of steps.
pub record HaveDiskText (steps : ℕ) (book : BookCosts) (t : DiskRows) : Type 0 where
  pub fit : FastestTablesFit steps book
  pub fast : HaveTables steps (fastest book) t.fast
  pub fresh_long : length t.disk_fresh ≡ steps
  pub held_long : length t.disk_held ≡ steps
  pub fresh : (l : ℕ) → 1 ≤ l → l ≤ steps → HasWord ((disk_tables_in t).disk_fresh l)
  pub held : (l : ℕ) → 1 ≤ l → l ≤ steps → HasWord ((disk_tables_in t).disk_held l)

-- Which certificates have a text for so many steps and a book. Their numbers are below 2^64, and a k is at most
-- 1,000,000.
abbrev pub HasText : ℕ → BookCosts → Certificate → Type 0
HasText steps book (Revolve k value) = (k ≤ MOST_STEPS) × (value < 2 ^ 64)
HasText steps book (Places threshold) = threshold < 2 ^ 64
HasText steps book (Nested t) = HaveText steps book t
HasText steps book (Disk t) = HaveDiskText steps book t

-- the words of the bytes' certificate lines are those of this certificate; `decimal` has no leading zero
pub record IsCertificateText (steps : ℕ) (book : BookCosts) (bytes : List ℕ) (certificate : Certificate) : Type 0 where
  pub has_text : HasText steps book certificate
  pub says : map texts_of (certificate_lines bytes) ≡ word_lines certificate
