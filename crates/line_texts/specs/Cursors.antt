-- What a cursor sees at its place, and which bytes are tokens by themselves.
use Rattle.std.specs.Prelude.{◌≡◌, ℕ, Bool, false, List, [], ◌∷◌}
use Rattle.line_texts.specs.Tokens.{Token, is_blank}

-- a token by its parts
abbrev pub token_of : ℕ → List ℕ → Token
token_of column text = record { column = column; text = text }

-- the text and the column of the first token
abbrev pub text_in : List Token → List ℕ
text_in [] = []
text_in (t ∷ ts) = t.text

abbrev pub column_in : ℕ → List Token → ℕ
column_in end [] = end
column_in end (t ∷ ts) = t.column

-- a byte that is a token by itself
pub record IsMark (in_run : ℕ → Bool) (byte : ℕ) : Type 0 where
  pub no_blank : is_blank byte ≡ false
  pub no_run : in_run byte ≡ false
