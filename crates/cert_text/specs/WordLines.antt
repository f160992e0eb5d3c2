-- The words of a certificate, line by line: the meaning of its text. Neither blanks between them nor other lines
-- matter.
use Rattle.std.specs.Prelude.{ℕ, ◌+◌, List, [], ◌∷◌, ◌++◌, map, length, slice_index_or, codes, decimal}
use Rattle.std.specs.List.{range_with_len, flat_map}
use Rattle.level_book.specs.UnderTable.{Entry, number, never}
use Rattle.cost_tables.specs.TableRows.{TableRows, tables_in}
use Rattle.disk_gen.specs.DiskRows.{DiskRows, disk_tables_in}
use Rattle.cert_text.specs.declared.certificate.Certificate.{Certificate}
use Rattle.cert_text.specs.declared.certificate.Certificate.TheVariants.{Revolve, Places, Nested, Disk}

-- the word of an entry
abbrev pub entry_word : Entry → List ℕ
entry_word (number n) = decimal n
entry_word never = codes "-"

-- a line of entries: its head, and one for each number of steps from 1 on
abbrev pub row_line : List (List ℕ) → ℕ → (ℕ → Entry) → List (List ℕ)
row_line head steps entries = head ++ map (λ l. entry_word (entries l)) (range_with_len 1 steps)

-- so many of them, of level k: one for each number of free slots from 0 on
unfoldable pub row_lines : List ℕ → ℕ → ℕ → ℕ → (ℕ → ℕ → Entry) → List (List (List ℕ))
row_lines letter k steps count entries = map (λ m. row_line (letter ∷ decimal k ∷ decimal m ∷ []) steps (entries m)) (range_with_len 0 count)

-- the entries of level k
unfoldable pub level_lines : TableRows → ℕ → List (List (List ℕ))
level_lines t k =
    row_lines (codes "F") k t.steps (slice_index_or t.rooms k 0 + 1) (λ m l. (tables_in t).fresh k l m)
    ++ row_lines (codes "H") k t.steps (slice_index_or t.rooms k 0) (λ m l. (tables_in t).held k l m)

-- the last lines of disk tables: the entries over both levels, and the end
abbrev pub column_lines : DiskRows → List (List (List ℕ))
column_lines t =
    row_line (codes "Fd" ∷ []) t.fast.steps (disk_tables_in t).disk_fresh
    ∷ row_line (codes "Hd" ∷ []) t.fast.steps (disk_tables_in t).disk_held
    ∷ (codes "end" ∷ []) ∷ []

abbrev pub word_lines : Certificate → List (List (List ℕ))
word_lines (Revolve k value) = (codes "revolve" ∷ decimal k ∷ decimal value ∷ []) ∷ []
word_lines (Places threshold) = (codes "places" ∷ decimal threshold ∷ []) ∷ []
word_lines (Nested t) = (codes "nested" ∷ []) ∷ (flat_map (level_lines t) (range_with_len 0 (length t.rooms)) ++ (codes "end" ∷ []) ∷ [])
word_lines (Disk t) = (codes "disk" ∷ []) ∷ (flat_map (level_lines t.fast) (range_with_len 0 (length t.fast.rooms)) ++ column_lines t)
