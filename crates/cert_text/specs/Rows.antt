-- No public clause cites this file. Tables that are read line by line.
use Rattle.std.specs.Prelude.{◌≡◌, ℕ, ◌+◌, ◌<◌, ◌≤◌, List, [], ◌∷◌, ◌++◌, length, map, slice_index_or, codes}
use Rattle.std.specs.List.{range_with_len, flat_map}
use Rattle.cost_tables.specs.declared.cost.Cost.{Cost}
use Rattle.cost_tables.specs.declared.cost.Cost.TheVariants.{Never}
use Rattle.cost_tables.specs.TableRows.{TableRows, value_of}
use Rattle.cert_text.specs.Words.{texts_of}
use Rattle.cert_text.specs.WordLines.{entry_word, level_lines}
use Rattle.cert_text.specs.Meaning.{HasWord, HaveWords}
use Rattle.cert_text.specs.Grammar.{Want, rows_wants, column_wants}
use Rattle.cert_text.specs.ReaderState.{Unread, Passes}
use Rattle.cert_text.specs.declared.stretches.Stretches.{Stretches}
use Rattle.cert_text.specs.Stretches.{entries_of, other_rows}

-- the word of a cost
abbrev pub cost_word : Cost → List ℕ
cost_word cost = entry_word (value_of cost)

-- lines were read that fit these wants and mean this
pub record Reads (wants : List (List Want)) (said : List (List (List ℕ))) (old new : Unread) : Type 0 where
  pub passes : Passes wants old new
  pub says : map texts_of old.lines ≡ said ++ map texts_of new.lines

-- what is wanted of level k of these tables
unfoldable pub wants_for : TableRows → ℕ → List (List Want)
wants_for t k = rows_wants (codes "F") k t.steps (slice_index_or t.rooms k 0 + 1) ++ rows_wants (codes "H") k t.steps (slice_index_or t.rooms k 0)

-- The rows of the other stretches, the steps and the rooms are kept. So are the entries of these stretches but some.
pub record Keeps (stretches : Stretches) (here : ℕ → ℕ → ℕ → Type 0) (old new : TableRows) : Type 0 where
  pub steps : new.steps ≡ old.steps
  pub rooms : new.rooms ≡ old.rooms
  pub apart : other_rows stretches new ≡ other_rows stretches old
  pub others : (i j n : ℕ) → 1 ≤ j → (here i j n → ⊥) → entries_of stretches new i n j ≡ entries_of stretches old i n j

-- what is wanted of disk tables, those of their fastest level being these
abbrev pub disk_wants : TableRows → List (List Want)
disk_wants t = flat_map (wants_for t) (range_with_len 0 (length t.rooms)) ++ column_wants t.steps

-- All lines of disk tables were read. They mean these tables of the fastest level, and these rows over both levels. The
-- steps and the rooms are kept.
pub record ReadsDisk (read : Unread) (old new : TableRows) (fresh held : List Cost) : Type 0 where
  pub says : map texts_of read.lines ≡ flat_map (level_lines new) (range_with_len 0 (length old.rooms))
      ++ (codes "Fd" ∷ map cost_word fresh) ∷ (codes "Hd" ∷ map cost_word held) ∷ (codes "end" ∷ []) ∷ []
  pub levels : (k : ℕ) → k < length old.rooms → HaveWords new k
  pub fresh_words : (i : ℕ) → i < old.steps → HasWord (value_of (slice_index_or fresh i Never))
  pub held_words : (i : ℕ) → i < old.steps → HasWord (value_of (slice_index_or held i Never))
  pub steps : new.steps ≡ old.steps
  pub rooms : new.rooms ≡ old.rooms
