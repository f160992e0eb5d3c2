-- The words of a line of a script, and comments.
use Rattle.std.specs.Prelude.{ℕ, ◌==◌, Bool, false, List, [], ◌∷◌, map}
use Rattle.line_texts.specs.Tokens.{words}

-- the texts of a line's words
abbrev pub texts : List ℕ → List (List ℕ)
texts line = map (λ w. w.text) (words 1 line)

-- `#` is the first byte of a text
abbrev pub begins_comment : List ℕ → Bool
begins_comment [] = false
begins_comment (b ∷ bs) = b == 35
