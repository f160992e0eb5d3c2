-- The tokens of a line. Blanks are space, tab and carriage return. A token is a longest run of bytes of one kind, or one
-- other byte that isn't a blank. Its column is that of its first byte, counted from 1.
use Rattle.std.specs.Prelude.{ℕ, ◌+◌, ◌==◌, Bool, false, not, ◌&&◌, ◌||◌, List, [], ◌∷◌, if◌then◌else◌}

abbrev pub is_blank : ℕ → Bool
is_blank b = b == 32 || b == 9 || b == 13

-- its bytes, and its column in its line
pub record Token : Type 0 where
  pub column : ℕ
  pub text : List ℕ

-- the first byte is one of a run
abbrev pub starts_run : (ℕ → Bool) → List ℕ → Bool
starts_run in_run [] = false
starts_run in_run (b ∷ bs) = in_run b

-- a byte in this column is added to the front of the first token; without one, it becomes a token
abbrev pub longer : ℕ → ℕ → List Token → List Token
longer column b [] = record { column = column; text = b ∷ [] } ∷ []
longer column b (t ∷ ts) = record { column = column; text = b ∷ t.text } ∷ ts

-- the tokens of bytes that begin in this column, where these bytes make runs
unfoldable pub tokens : (ℕ → Bool) → ℕ → List ℕ → List Token
tokens in_run column [] = []
tokens in_run column (b ∷ bs) =
    if is_blank b then tokens in_run (column + 1) bs
    else (if in_run b && starts_run in_run bs then longer column b (tokens in_run (column + 1) bs)
    else record { column = column; text = b ∷ [] } ∷ tokens in_run (column + 1) bs)

-- words are longest runs of bytes that aren't blanks
abbrev pub in_word : ℕ → Bool
in_word b = not (is_blank b)

abbrev pub words : ℕ → List ℕ → List Token
words column bytes = tokens in_word column bytes
