-- The lines of a text.
use Rattle.std.specs.Prelude.{ℕ, ◌==◌, List, [], ◌∷◌, if◌then◌else◌}

-- a byte is added to the front of the first line
abbrev pub longer_line : ℕ → List (List ℕ) → List (List ℕ)
longer_line b [] = (b ∷ []) ∷ []
longer_line b (line ∷ rest) = (b ∷ line) ∷ rest

-- the lines of bytes: each is ended by byte 10, the last by the end
unfoldable pub lines : List ℕ → List (List ℕ)
lines [] = [] ∷ []
lines (b ∷ bs) = if b == 10 then [] ∷ lines bs else longer_line b (lines bs)
