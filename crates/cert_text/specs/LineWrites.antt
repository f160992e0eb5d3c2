-- No public clause cites this file. Words of a line, grouped into writes.
use Rattle.std.specs.Prelude.{◌≡◌, ℕ, List, ◌++◌, codes}
use Rattle.std.specs.List.{flat_map}
use Rattle.keepers.specs.LineWrites.{Seen, AddsLines, StopsIn}
use Rattle.cert_text.specs.Canonical.{pieces_from}

-- The words were added to the next write, which had room for so many. The writes that filled up were made. Now the next
-- write has `after`, and room for `left` words more.
pub record Puts (words : List (List ℕ)) (room : ℕ) (text : List ℕ) (left : ℕ) (after : List ℕ) (old new : Seen) : Type 0 where
  pub done : List (List ℕ)
  pub parts : (later : List (List ℕ)) → pieces_from room text (words ++ later) ≡ done ++ pieces_from left after later
  pub added : AddsLines done old new

-- a write that the words filled failed, whatever words were to come after them
pub record StopsAt (words : List (List ℕ)) (room : ℕ) (text : List ℕ) (old new : Seen) : Type 0 where
  pub stops : (later : List (List ℕ)) → StopsIn (pieces_from room text (words ++ later)) old new

-- the writes of lines
abbrev pub writes : List (List (List ℕ)) → List (List ℕ)
writes lines = flat_map (pieces_from 16 (codes "#!")) lines
