-- No public clause cites this file. The model of a cursor: the tokens that are left of its line, and the lines after
-- it.
use Rattle.std.specs.Prelude.{ℕ, ◌+◌, ◌-◌, ◌==◌, List, [], ◌∷◌, length, if◌then◌else◌}
use Rattle.action_text.specs.Tokens.{tokens}
use Rattle.line_texts.specs.Tokens.{Token}
use Rattle.line_texts.specs.Lines.{lines}

pub record Rest : Type 0 where
  pub tokens : List Token
  -- the column after the line's last byte
  pub end : ℕ
  pub later : List (List ℕ)

-- the bytes of the first line, and the lines after it
unfoldable pub first_line : List ℕ → List ℕ
first_line [] = []
first_line (b ∷ bs) = if b == 10 then [] else b ∷ first_line bs

unfoldable pub later_lines : List ℕ → List (List ℕ)
later_lines [] = []
later_lines (b ∷ bs) = if b == 10 then lines bs else later_lines bs

-- the model of bytes that begin in a column
abbrev pub seen_from : ℕ → List ℕ → Rest
seen_from column bytes = record {
  tokens = tokens column (first_line bytes);
  end = column + length (first_line bytes);
  later = later_lines bytes;
}

-- the bytes left, and how many were left at the beginning of their line, which is no less
unfoldable pub seen : ℕ → List ℕ → Rest
seen start bytes = seen_from (start - length bytes + 1) bytes
