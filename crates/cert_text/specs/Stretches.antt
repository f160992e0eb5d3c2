-- No public clause cites this file. The entries of tables, by the first state of their stretches.
use Rattle.std.specs.Prelude.{ℕ, ◌+◌, List, slice_index_or, codes}
use Rattle.level_book.specs.UnderTable.{Entry}
use Rattle.cost_tables.specs.TableRows.{TableRows, tables_in}
use Rattle.disk_gen.specs.DiskRows.{DiskRows, disk_tables_in}
use Rattle.cert_text.specs.declared.stretches.Stretches.{Stretches}
use Rattle.cert_text.specs.declared.stretches.Stretches.TheVariants.{Fresh, Held}

-- the words that begin their lines: those of a level, and those over both levels
abbrev pub letter_of : Stretches → List ℕ
letter_of Fresh = codes "F"
letter_of Held = codes "H"

abbrev pub column_of : Stretches → List ℕ
column_of Fresh = codes "Fd"
column_of Held = codes "Hd"

-- how many lines level k has
abbrev pub rows_of : Stretches → TableRows → ℕ → ℕ
rows_of Fresh t k = slice_index_or t.rooms k 0 + 1
rows_of Held t k = slice_index_or t.rooms k 0

-- the entries of level k, and those over both levels
abbrev pub entries_of : Stretches → TableRows → ℕ → ℕ → ℕ → Entry
entries_of Fresh t k m l = (tables_in t).fresh k l m
entries_of Held t k m l = (tables_in t).held k l m

abbrev pub disk_entries_of : Stretches → DiskRows → ℕ → Entry
disk_entries_of Fresh t l = (disk_tables_in t).disk_fresh l
disk_entries_of Held t l = (disk_tables_in t).disk_held l

-- all entries of the other stretches
abbrev pub other_rows : Stretches → TableRows → List (List (List Entry))
other_rows Fresh t = t.held
other_rows Held t = t.fresh
